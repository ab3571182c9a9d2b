use Rattle.tables.specs.ModelTable.{model_of}
use Rattle.tables.specs.Records.{list_of}
use Rattle.merge_log.proofs.Laws.Places.{NoneFrom}
use Rattle.merge_log.proofs.log.last_place_of.Given as goal

-- no place from here on has the element
abbrev pub invariant-loop-last : goal.invariant-loop-last
invariant-loop-last l = NoneFrom l.e.0 (list_of (model_of l.model) l.p.0) l.last
