use native.Mathlib.Omega.{arith}
use lib.ListN.{length-take, length-drop}
use Rattle.pairing.proofs.Laws.Children.{copied_cells}
use Rattle.pairing.proofs.Laws.Laying.{rows_few_lem, laid}
use Rattle.pairing.proofs.children.copy_sides.Goals as goal

pub slice_bounds-copy_rows-count : goal.slice_bounds-copy_rows-count
slice_bounds-copy_rows-count c =
    let few = rows_few_lem c.args.model.now c.requires.good_model c.args.a.0 c.copy_rows-rows.new.work c.copy_rows-rows.result c.copy_rows-rows.ensures in
    omega (arith, few, c.list_length.ensures, c.copy_rows-rows.auto.work, c.requires.b_in_bounds)

pub slice_bounds-copy_rows-start : goal.slice_bounds-copy_rows-start
slice_bounds-copy_rows-start c =
    let few = rows_few_lem c.args.model.now c.requires.good_model c.args.a.0 c.copy_rows-rows.new.work c.copy_rows-rows.result c.copy_rows-rows.ensures in
    omega (arith, few, c.list_length.ensures, c.copy_rows-rows.auto.work, c.requires.b_in_bounds)

pub returns : goal.returns
returns c =
    let few = rows_few_lem c.args.model.now c.requires.good_model c.args.a.0 c.copy_rows-rows.new.work c.copy_rows-rows.result c.copy_rows-rows.ensures in
    laid c.args.model.now c.requires.good_model c.args.a.0 c.args.b.0 c.requires.a_bound c.requires.b_bound c.copy_rows-rows.new.work c.copy_rows-n.new.work c.copy_rows-rows.result c.list_length.result c.copy_rows-n.result c.copy_rows-rows.ensures c.list_length.ensures (copied_cells _ _ _ c.copy_rows-n.ensures) c.copy_rows-n.auto.work (omega (arith, c.copy_rows-rows.auto.work, c.requires.b_in_bounds))

pub copy_rows-n-requires-clause-e_in_bounds : goal.copy_rows-n-requires-clause-e_in_bounds
copy_rows-n-requires-clause-e_in_bounds c =
    let few = rows_few_lem c.args.model.now c.requires.good_model c.args.a.0 c.copy_rows-rows.new.work c.copy_rows-rows.result c.copy_rows-rows.ensures in
    simp (length-take, length-drop) (omega (arith, few, c.list_length.ensures, c.copy_rows-rows.auto.work, c.requires.b_in_bounds))
