use mathlib.Core.Path.{ap, ◌∙◌}
use native.Mathlib.Omega.{arith}
use lib.ListN.{length}
use Rattle.tables.specs.SchemaTable.{key_in, schema_of}
use Rattle.tables.proofs.Laws.Index.{length-index}
use Rattle.table_test.proofs.Laws.IndexTest.{filled_none, filled_more}
use Rattle.table_test.proofs.index_test.fill_index.Goals as goal

pub loop-i-init : goal.loop-i-init
loop-i-init c = filled_none _ _ c.requires.cells_value

pub link-requires-clause-index_size_in_bounds : goal.link-requires-clause-index_size_in_bounds
link-requires-clause-index_size_in_bounds c =
    let n = ap length c.loop-i.invariant ∙ length-index (key_in (schema_of c.args.t.now) c.args.x) c.loop-i.i in
    omega (arith, n)

pub loop-i-preserved : goal.loop-i-preserved
loop-i-preserved c =
    filled_more (key_in (schema_of c.args.t.now) c.args.x) c.loop-i.i _ c.loop-i.cells _ c.loop-i.invariant c.key_in-b.ensures.value c.link.ensures
