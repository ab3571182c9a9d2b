-- The rows of lists of calls hold of the rules, each by computation. Assumes nothing.
use mathlib.Core.Path.{refl}
use Rattle.merge_rules.specs.CallLists.{call_list_rules}
use Rattle.merge_rules.specs.CallRows.{CallRowsPrint}
use Rattle.merge_rules.specs.Program.{program_rules}
use Rattle.merge_rules.specs.Unfolding.{merge_rules}

pub call_rows : CallRowsPrint
unfolding merge_rules program_rules call_list_rules
call_rows = (refl, (refl, (refl, (refl, (refl, (refl, (refl, (refl, (refl, (refl, tt))))))))))
