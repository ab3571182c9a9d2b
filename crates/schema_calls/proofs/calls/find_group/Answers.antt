use Rattle.tables.specs.Paths.{parts_of}
use Rattle.tables.specs.SchemaTable.{schema_of, no_group}
use Rattle.deck.specs.Schema.{group_at}
use Rattle.schema_calls.specs.Calls.{group_matches, groups_above}
use Rattle.schema_calls.proofs.Laws.Search.{finds-first}
use borrow.Author.Rules.{rules}
use Rattle.schema_calls.proofs.calls.find_group.Goals as goal

pub returns : goal.returns
unfolding group_at groups_above
returns c =
    finds-first (group_matches c.args.t.0 (parts_of c.args.p)) no_group (schema_of c.args.schema.now).groups c.args.above (search rules) c.find.ensures
