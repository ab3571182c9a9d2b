use mathlib.Core.List.{List}
use mathlib.Core.Path.{sym, ◌∙◌, ap}
use Prim.Native.Nat.{ℕ}
use Rattle.deck.specs.Deck.{number, field}
use Rattle.deck.specs.Answers.{fields_of, whole}
use Rattle.deck.proofs.Laws.Numbers.{number-bytes}
use Rattle.deck.proofs.lines.number_at.Goals as goal

pub returns : goal.returns
returns c =
    c.number.ensures
    ∙ ap (λ (bs : List ℕ). number c.args.radix c.args.most (whole bs)) c.bytes_of.ensures
    ∙ sym (number-bytes c.args.radix c.args.most (field (fields_of c.args.deck.now c.args.f) c.args.i))
