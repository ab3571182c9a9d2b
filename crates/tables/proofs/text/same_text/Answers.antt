use mathlib.Core.Path.{sym}
use Rattle.tables.specs.Texts.{same_values}
use Rattle.tables.proofs.Laws.Texts.{not-number, not-str, not-whole, not-float}
use Rattle.tables.proofs.text.same_text.Goals as goal

pub returns-in-Number-Number : goal.returns-in-Number-Number
unfolding same_values
returns-in-Number-Number c = rw (c.in-Number-Number.is-0, c.in-Number-Number.is-1)

pub returns-in-Str-Str : goal.returns-in-Str-Str
unfolding same_values
returns-in-Str-Str c = rw (c.in-Str-Str.is-0, c.in-Str-Str.is-1) c.same_string.ensures

pub returns-in-Whole-Whole : goal.returns-in-Whole-Whole
unfolding same_values
returns-in-Whole-Whole c = rw (c.in-Whole-Whole.is-0, c.in-Whole-Whole.is-1)

pub returns-in-Float-Float : goal.returns-in-Float-Float
unfolding same_values
returns-in-Float-Float c = rw (c.in-Float-Float.is-0, c.in-Float-Float.is-1) c.same_float.ensures

pub returns-in_default : goal.returns-in_default
returns-in_default c = rw c.in_default.is-0 (sym (not-number c.args.deck.now _ c.args.b c.in_default.not-Number-1))

pub returns-in_default-2 : goal.returns-in_default-2
returns-in_default-2 c = rw c.in_default.is-0 (sym (not-str c.args.deck.now _ c.args.b c.in_default.not-Str-1))

pub returns-in_default-3 : goal.returns-in_default-3
returns-in_default-3 c = rw c.in_default.is-0 (sym (not-whole c.args.deck.now _ c.args.b c.in_default.not-Whole-1))

pub returns-in_default-4 : goal.returns-in_default-4
returns-in_default-4 c = rw c.in_default.is-0 (sym (not-float c.args.deck.now _ c.args.b c.in_default.not-Float-1))
