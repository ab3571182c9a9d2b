use Rattle.tables.specs.SchemaTable.{schema_of, no_sub_element}
use Rattle.deck.specs.Schema.{find_sub_element}
use Rattle.schema_calls.specs.Calls.{row_matches}
use Rattle.schema_calls.proofs.Laws.Search.{finds-whole}
use Rattle.schema_calls.proofs.calls.find_sub_element.Goals as goal

pub returns : goal.returns
unfolding find_sub_element
returns c =
    finds-whole (row_matches c.args.t.0 c.args.n.0 c.args.mask) no_sub_element (schema_of c.args.schema.now).sub_elements c.row_count-count.result
    c.row_count-count.ensures c.find.ensures
