use Rattle.tables.specs.Paths.{parts_of}
use Rattle.tables.specs.SchemaTable.{schema_of}
use Rattle.schema_calls.proofs.Laws.Rules.{declared-below, path-undeclared, path-characters, path-beginnings}
use borrow.Author.Rules.{rules}
use Rattle.schema_calls.proofs.rules.path_valid.Goals as goal

pub returns-then-not-type_declared : goal.returns-then-not-type_declared
returns-then-not-type_declared c =
    path-undeclared (schema_of c.args.schema.now) c.args.above c.args.t.0 (parts_of c.args.p) c.type_declared.ensures (c.if-not-type_declared.true)

pub type_mode-requires : goal.type_mode-requires
type_mode-requires c = record { good_schema = search rules; t_in_bounds = declared-below (schema_of c.args.schema.now) c.args.above c.args.t.0 (parts_of c.args.p) c.type_declared.ensures (c.if-not-type_declared.false) }

pub returns-then-type_mode-eq-CHARACTERS : goal.returns-then-type_mode-eq-CHARACTERS
returns-then-type_mode-eq-CHARACTERS c =
    path-characters (schema_of c.args.schema.now) c.args.above c.args.t.0 (parts_of c.args.p) c.type_declared.ensures (c.if-not-type_declared.false) c.type_mode.ensures c.if-type_mode-eq-CHARACTERS.true

pub returns : goal.returns
returns c =
    path-beginnings (schema_of c.args.schema.now) c.args.above c.args.t.0 (parts_of c.args.p) c.type_declared.ensures (c.if-not-type_declared.false) c.type_mode.ensures c.if-type_mode-eq-CHARACTERS.false c.beginnings_declared.ensures
