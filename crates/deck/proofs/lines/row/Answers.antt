use native.Mathlib.Omega.{arith}
use mathlib.Core.Path.{sym}
use Rattle.tables.specs.Lists.{first_of}
use Rattle.deck.specs.Deck.{by_letter, kinds}
use Rattle.deck.specs.Answers.{fields_of, line_is}
use Rattle.deck.proofs.Laws.Letters.{letter-unknown}
use Rattle.deck.proofs.lines.row.Goals as goal

pub returns-in-84 : goal.returns-in-84
unfolding by_letter first_of
returns-in-84 c = rw c.in-84.is c.line_t.ensures

pub returns-in-71 : goal.returns-in-71
unfolding by_letter first_of
returns-in-71 c = rw c.in-71.is c.line_g.ensures

pub returns-in-83 : goal.returns-in-83
unfolding by_letter first_of
returns-in-83 c = rw c.in-83.is c.line_s.ensures

pub returns-in-70 : goal.returns-in-70
unfolding by_letter first_of
returns-in-70 c = rw c.in-70.is c.line_f.ensures

pub returns-in-77 : goal.returns-in-77
unfolding by_letter first_of
returns-in-77 c = rw c.in-77.is (c.line_m.ensures c.args.deck.now c.requires.0)

pub returns-in-66 : goal.returns-in-66
unfolding by_letter first_of
returns-in-66 c = rw c.in-66.is c.line_b.ensures

pub returns-in-69 : goal.returns-in-69
unfolding by_letter first_of
returns-in-69 c = rw c.in-69.is c.line_e.ensures

pub returns-in-67 : goal.returns-in-67
unfolding by_letter first_of
returns-in-67 c = rw c.in-67.is c.line_c.ensures

pub returns-in_default : goal.returns-in_default
unfolding line_is
returns-in_default c =
    record {
      is = sym (letter-unknown kinds c.args.kind (fields_of c.args.deck.now c.args.f) ((λ e. omega arith), ((λ e. omega arith), ((λ e. omega arith), ((λ e. omega arith), ((λ e. omega arith), ((λ e. omega arith), ((λ e. omega arith), ((λ e. omega arith), tt)))))))));
      fits = tt;
    }
