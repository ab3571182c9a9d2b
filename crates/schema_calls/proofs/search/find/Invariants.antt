use Rattle.tables.specs.Index.{place_number}
use Rattle.tables.specs.SchemaTable.{schema_of, places_in, key_in}
use Rattle.schema_calls.specs.Search.{bucket_for, matches_at}
use Rattle.schema_calls.proofs.Laws.Search.{test_above, Walk}
use Rattle.schema_calls.proofs.search.find.Given as goal

abbrev pub invariant-loop-next : goal.invariant-loop-next
invariant-loop-next l =
    Walk (key_in (schema_of l.schema) l.x) (test_above l.above (matches_at (schema_of l.schema) l.sought)) (bucket_for l.sought) (places_in (schema_of l.schema) l.x) (place_number l.next) l.found

abbrev pub decreases-loop-next : goal.decreases-loop-next
decreases-loop-next l = place_number l.next
