-- The rows of what demand 3 is told by hold, each by computation. Assumes nothing.
use mathlib.Core.Path.{refl}
use Rattle.tables.specs.Bytes.{bytes}
use Rattle.table_test.specs.SchemaTest.{is_schema_table}
use Rattle.table_test.specs.TablesTest.{tables_pass}
use Rattle.state_test.specs.StateTest.{lent_tables_pass}
use Rattle.merge_rules.specs.TableCalls.{merge_call, rollback_call, range_call}
use Rattle.merge_rules.specs.TableWithdrawal.{answer_as, call_on, history_on, is_bad_tables, any_bad_tables}
use Rattle.merge_rules.specs.Unfolding.{merge_rules}
use Rattle.merge_rules.specs.Withdrawal.{state_after, history, rollback_below, goes_below}
use Rattle.merge_rules.specs.WithdrawalRows.{goes_below_since, WithdrawalRows}

pub withdrawal-rows : WithdrawalRows
unfolding merge_rules bytes is_schema_table tables_pass lent_tables_pass merge_call rollback_call range_call answer_as call_on history_on is_bad_tables any_bad_tables state_after history rollback_below goes_below goes_below_since
withdrawal-rows = (refl, refl, refl, refl, refl, refl, refl, refl)
