use native.Mathlib.Omega.{arith}
use mathlib.Core.Path.{sym, ◌∙◌, ap}
use mathlib.Core.Option.{Option, some, bind}
use Prim.Native.Nat.{ℕ}
use Rattle.tables.specs.Records.{enum_number, whole_number, float}
use Rattle.deck.specs.Deck.{texts}
use Rattle.deck.specs.Answers.{text_is, num_is, part_at}
use Rattle.deck.proofs.Laws.Texts.{letter-e, letter-s, letter-u, letter-f}
use Rattle.deck.proofs.Laws.Letters.{letter-unknown}
use Rattle.deck.proofs.fields.text_field.Goals as goal

pub returns-in-115 : goal.returns-in-115
returns-in-115 c = record { is = c.string_text.ensures.is ∙ rw c.in-115.is (letter-s c.args.deck.now c.args.start c.args.end); fits = c.string_text.ensures.fits }

pub returns-in_err-number-in-101 : goal.returns-in_err-number-in-101
unfolding text_is num_is bind
returns-in_err-number-in-101 c =
    record {
      is = rw (c.from_residual.ensures, c.in-101.is) (ap (λ (o : Option ℕ). bind o (λ v. some (enum_number v))) (ap num_is (sym c.in_err-number-in-101.was) ∙ c.number.ensures) ∙ letter-e c.args.deck.now c.args.start c.args.end);
      fits = rw c.from_residual.ensures tt;
    }

pub returns-in_ok-number-in-101 : goal.returns-in_ok-number-in-101
unfolding text_is num_is bind
returns-in_ok-number-in-101 c =
    record {
      is = rw c.in-101.is (ap (λ (o : Option ℕ). bind o (λ v. some (enum_number v))) (ap num_is (sym c.in_ok-number-in-101.was) ∙ c.number.ensures) ∙ letter-e c.args.deck.now c.args.start c.args.end);
      fits = tt;
    }

pub returns-in_err-number-in-117 : goal.returns-in_err-number-in-117
unfolding text_is num_is bind
returns-in_err-number-in-117 c =
    record {
      is = rw (c.from_residual-in_err-number-in-117.ensures, c.in-117.is) (ap (λ (o : Option ℕ). bind o (λ v. some (whole_number v))) (ap num_is (sym c.in_err-number-in-117.was) ∙ c.number-in-117.ensures) ∙ letter-u c.args.deck.now c.args.start c.args.end);
      fits = rw c.from_residual-in_err-number-in-117.ensures tt;
    }

pub returns-in_ok-number-in-117 : goal.returns-in_ok-number-in-117
unfolding text_is num_is bind
returns-in_ok-number-in-117 c =
    record {
      is = rw c.in-117.is (ap (λ (o : Option ℕ). bind o (λ v. some (whole_number v))) (ap num_is (sym c.in_ok-number-in-117.was) ∙ c.number-in-117.ensures) ∙ letter-u c.args.deck.now c.args.start c.args.end);
      fits = tt;
    }

pub returns-in_err-number-in-102 : goal.returns-in_err-number-in-102
unfolding text_is num_is bind
returns-in_err-number-in-102 c =
    record {
      is = rw (c.from_residual-in_err-number-in-102.ensures, c.in-102.is) (ap (λ (o : Option ℕ). bind o (λ v. some (float v))) (ap num_is (sym c.in_err-number-in-102.was) ∙ c.number-in-102.ensures) ∙ letter-f c.args.deck.now c.args.start c.args.end);
      fits = rw c.from_residual-in_err-number-in-102.ensures tt;
    }

pub returns-in_ok-number-in-102 : goal.returns-in_ok-number-in-102
unfolding text_is num_is bind
returns-in_ok-number-in-102 c =
    record {
      is = rw c.in-102.is (ap (λ (o : Option ℕ). bind o (λ v. some (float v))) (ap num_is (sym c.in_ok-number-in-102.was) ∙ c.number-in-102.ensures) ∙ letter-f c.args.deck.now c.args.start c.args.end);
      fits = tt;
    }

pub returns-in_default : goal.returns-in_default
unfolding text_is
returns-in_default c =
    record {
      is = sym (letter-unknown texts c.args.letter (part_at c.args.deck.now c.args.start c.args.end) ((λ e. omega arith), ((λ e. omega arith), ((λ e. omega arith), ((λ e. omega arith), tt)))));
      fits = tt;
    }
