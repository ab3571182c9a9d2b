use lib.ListN.{get_or}
use Rattle.tables.specs.SchemaTable.{schema_of, no_sub_element}
use Rattle.schema_calls.proofs.Laws.Rules.{equal-named, equal-path}
use borrow.Author.Rules.{rules}
use Rattle.schema_calls.proofs.rules.row_repeats.Goals as goal

pub returns-then-repeats : goal.returns-then-repeats
returns-then-repeats c =
    let sc = schema_of c.args.schema.now in
    equal-named sc (get_or sc.sub_elements c.args.i no_sub_element) c.args.i (search rules) c.repeats.ensures c.if-repeats.true

pub returns-else-repeats : goal.returns-else-repeats
returns-else-repeats c =
    let sc = schema_of c.args.schema.now in
    equal-path sc (get_or sc.sub_elements c.args.i no_sub_element) c.args.i (search rules) c.repeats.ensures c.if-repeats.false c.repeats-else-repeats.ensures
