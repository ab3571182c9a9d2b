use Rattle.std.specs.Prelude.{Err}
use mathlib.Core.Path.{◌≡◌}
use Prim.Native.Nat.{◌<◌}
use borrow.Author.Rules.{rules}
use Rattle.deck.specs.Load.{kind_m}
use Rattle.load.specs.Lines.{kind_number}
use Rattle.load.proofs.Laws.Steps.{line_refused, late_refused}
use Rattle.load.proofs.Laws.Trees.{m-late, m-twice, m-line}
use Rattle.load.proofs.tree_lines.load_m.Goals as goal

pub returns-in_err-q : goal.returns-in_err-q
returns-in_err-q c =
    let same : c.from_residual.result ≡ Err c.in_err-q.field-0.0 = search rules in
    λ schema elements model g. rw same (late_refused g c.in_err-q.ensures.refused.1 (m-late _ c.in_err-q.ensures.refused.0))

pub returns-then-eq : goal.returns-then-eq
returns-then-eq c =
    let same : kind_number c.args.p.latest ≡ kind_m = search rules in
    λ schema elements model g. line_refused g (m-twice _ same)

pub returns : goal.returns
returns c =
    let before : kind_number c.args.p.latest < kind_m = search rules in
    λ schema elements model g. m-line _ schema elements model g _ (rw c.in_ok-q.ensures.taken.1 at c.open_tree.ensures) before
