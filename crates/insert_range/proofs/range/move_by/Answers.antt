use Rattle.std.proofs.Common.{arith, inl, inr}
use Rattle.insert_range.proofs.Laws.Range.{sequence-less, sequence-equal, sequence-greater, choice-less, choice-equal, choice-greater, move-any}
use Rattle.insert_range.proofs.range.move_by.Goals as goal

pub returns-in-Less : goal.returns-in-Less
returns-in-Less c =
    sequence-less c.args.mode c.args.mult c.args.first c.args.index c.in-0.is c.in-Less.is

pub returns-in-Equal : goal.returns-in-Equal
returns-in-Equal c =
    sequence-equal c.args.mode c.args.mult c.args.first c.args.index c.in-0.is c.in-Equal.is c.equal_path.result c.equal_path.ensures

pub returns-in-Greater : goal.returns-in-Greater
returns-in-Greater c =
    sequence-greater c.args.mode c.args.mult c.args.first c.args.index c.in-0.is c.in-Greater.is

pub returns-in-Less-order : goal.returns-in-Less-order
returns-in-Less-order c =
    elim c.in-Less-order.is [
      | inl e ↦ choice-less c.args.mode c.args.mult c.args.first c.args.index c.in-1.is e
      | inr e ↦ choice-greater c.args.mode c.args.mult c.args.first c.args.index c.in-1.is e
    ]

pub returns-in-Equal-order : goal.returns-in-Equal-order
returns-in-Equal-order c =
    choice-equal c.args.mode c.args.mult c.args.first c.args.index c.in-1.is c.in-Equal-order.is c.equal_path-in-Equal-order.result c.equal_path-in-Equal-order.ensures

pub returns-in_default : goal.returns-in_default
returns-in_default c =
    move-any c.args.mode _ _ c.args.first c.args.index (λ e. omega arith) (λ e. omega arith)
