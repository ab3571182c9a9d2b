use Rattle.state_test.proofs.Laws.Answers.{passed, failed}
use Rattle.state_test.proofs.Laws.States.{passed-tables}
use Rattle.printing.proofs.Laws.Tables.{readable-passed}
use Rattle.zapelaritz_c.proofs.Laws.PrintedTexts.{no_room, print-bad, print-good, print-appended}
use Rattle.zapelaritz_c.proofs.print.listing_numbers.Goals as goal

pub returns-then-not-lent_tables_pass : goal.returns-then-not-lent_tables_pass
returns-then-not-lent_tables_pass c =
    print-bad _ _ _ _ _ _ c.args.from c.args.out.now (failed c.lent_tables_pass.ensures c.if-not-lent_tables_pass.true) c.refused.ensures

pub returns-then-out-eq0 : goal.returns-then-out-eq0
returns-then-out-eq0 c =
    print-good _ _ _ _ _ _ c.args.from c.args.out.now (passed c.lent_tables_pass.ensures c.if-not-lent_tables_pass.false) c.accepted.ensures
    (no_room _ c.args.from c.args.out.now c.if-out-eq0.true)

pub append_model-requires : goal.append_model-requires
append_model-requires c = readable-passed _ _ _ _ _ (passed c.lent_tables_pass.ensures c.if-not-lent_tables_pass.false)

pub append_trees-requires : goal.append_trees-requires
append_trees-requires c = readable-passed _ _ _ _ _ (passed c.lent_tables_pass.ensures c.if-not-lent_tables_pass.false)

pub append_log-requires : goal.append_log-requires
append_log-requires c = (passed-tables _ _ _ _ _ (passed c.lent_tables_pass.ensures c.if-not-lent_tables_pass.false)).log_tested.good

pub returns-in-Model : goal.returns-in-Model
returns-in-Model c =
    rw c.in-Model.is
    (print-appended _ _ _ _ _ _ c.args.from c.args.out.now (passed c.lent_tables_pass.ensures c.if-not-lent_tables_pass.false) (c.append_model.ensures c.args.schema.now) c.counted.ensures)

pub returns-in-Trees : goal.returns-in-Trees
returns-in-Trees c =
    rw c.in-Trees.is
    (print-appended _ _ _ _ _ _ c.args.from c.args.out.now (passed c.lent_tables_pass.ensures c.if-not-lent_tables_pass.false) (c.append_trees.ensures c.args.schema.now) c.counted-in-Trees.ensures)

pub returns-in-Log : goal.returns-in-Log
returns-in-Log c =
    rw c.in-Log.is
    (print-appended _ _ _ _ _ _ c.args.from c.args.out.now (passed c.lent_tables_pass.ensures c.if-not-lent_tables_pass.false) c.append_log.ensures c.counted-in-Log.ensures)
