use mathlib.Core.Path.{sym, ap, ◌∙◌}
use Rattle.std.specs.Ordering.{is_eq}
use Rattle.tables.specs.Paths.{parts_of}
use Rattle.tables.proofs.Laws.Paths.{same-order}
use Rattle.tables.proofs.path.Path.same.Goals as goal

pub returns : goal.returns
returns c =
    c.is_eq.ensures ∙ ap is_eq c.order.ensures ∙ sym (same-order (parts_of c.args.self) (parts_of c.args.q))
