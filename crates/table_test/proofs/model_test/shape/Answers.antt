use borrow.Author.Tests.{eq-eqb, ne_eqb, le-leb, lt-leb}
use lib.ListN.{length, get_or}
use Rattle.tables.specs.Limits.{element_limit}
use Rattle.tables.specs.ModelTable.{starts_at, model_size}
use Rattle.table_test.specs.ModelTest.{model_shape}
use Rattle.table_test.proofs.model_test.shape.Goals as goal

pub returns-then-t-ne-MODEL_SIZE : goal.returns-then-t-ne-MODEL_SIZE
unfolding model_shape
returns-then-t-ne-MODEL_SIZE c =
    let xs = c.args.t.now in
    rw (model_shape, ne_eqb (length xs) model_size c.if-t-ne-MODEL_SIZE.true)

pub returns-then-n : goal.returns-then-n
unfolding model_shape
returns-then-n c =
    let xs = c.args.t.now in
    rw (model_shape, eq-eqb (length xs) model_size c.if-t-ne-MODEL_SIZE.false, lt-leb (get_or xs 0 0) element_limit c.if-n.true)

pub returns-then-t-ne0 : goal.returns-then-t-ne0
unfolding model_shape
returns-then-t-ne0 c =
    let xs = c.args.t.now in
    rw (model_shape, eq-eqb (length xs) model_size c.if-t-ne-MODEL_SIZE.false, le-leb (get_or xs 0 0) element_limit c.if-n.false, ne_eqb (get_or xs starts_at 0) 0 c.if-t-ne0.true)

pub returns : goal.returns
unfolding model_shape
returns c =
    let xs = c.args.t.now in
    rw (model_shape, eq-eqb (length xs) model_size c.if-t-ne-MODEL_SIZE.false, le-leb (get_or xs 0 0) element_limit c.if-n.false, eq-eqb (get_or xs starts_at 0) 0 c.if-t-ne0.false)
    c.rises.ensures
