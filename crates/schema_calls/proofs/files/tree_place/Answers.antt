use mathlib.Core.Path.{refl, sym, ◌∙◌}
use Rattle.tables.specs.ElementsTable.{elements_of, no_tree}
use Rattle.schema_calls.specs.Calls.{tree_matches}
use Rattle.tables.proofs.Laws.Scans.{first_more}
use Rattle.schema_calls.proofs.Laws.Scans.{finds-at, finds-none}
use borrow.Author.Rules.{rules}
use Rattle.schema_calls.proofs.files.tree_place.Goals as goal

pub loop-i-init : goal.loop-i-init
loop-i-init c = refl

pub returns-then-eq : goal.returns-then-eq
returns-then-eq c =
    finds-at (tree_matches c.args.f.0) no_tree (elements_of c.args.elements.now).trees c.loop-i.i (search rules)
    (rw c.tree_file.ensures at (sym c.eq.ensures ∙ c.if-eq.true)) c.loop-i.invariant

pub loop-i-preserved : goal.loop-i-preserved
loop-i-preserved c =
    first_more (tree_matches c.args.f.0) (elements_of c.args.elements.now).trees c.loop-i.i no_tree (search rules)
    (rw c.tree_file.ensures at (sym c.eq.ensures ∙ c.if-eq.false)) ∙ c.loop-i.invariant

pub returns : goal.returns
returns c =
    finds-none (tree_matches c.args.f.0) no_tree (elements_of c.args.elements.now).trees c.loop-i.i (search rules) c.loop-i.invariant
