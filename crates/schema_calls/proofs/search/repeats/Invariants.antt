use Rattle.tables.specs.Index.{place_number}
use Rattle.tables.specs.SchemaTable.{schema_of, key_in}
use Rattle.schema_calls.specs.Search.{alike_at}
use Rattle.std.specs.Prelude.{None}
use Rattle.schema_calls.proofs.Laws.Search.{Walk}
use Rattle.schema_calls.proofs.search.repeats.Given as goal

abbrev pub invariant-loop-next : goal.invariant-loop-next
invariant-loop-next l = Walk (key_in (schema_of l.schema) l.x) (alike_at (schema_of l.schema) l.x l.i) (key_in (schema_of l.schema) l.x l.i) l.i (place_number l.next) None

abbrev pub decreases-loop-next : goal.decreases-loop-next
decreases-loop-next l = place_number l.next
