use mathlib.Core.Path.{sym, ◌∙◌}
use Rattle.tables.specs.SchemaTable.{schema_of, no_file}
use Rattle.schema_calls.specs.Calls.{file_matches}
use Rattle.tables.proofs.Laws.Scans.{first_more}
use Rattle.schema_calls.proofs.Laws.Scans.{finds-at, finds-none}
use borrow.Author.Rules.{rules}
use Rattle.schema_calls.proofs.files.find_file.Goals as goal

pub returns-then-eq : goal.returns-then-eq
returns-then-eq c =
    finds-at (file_matches c.args.f.0) no_file (schema_of c.args.schema.now).files c.loop-i.i (search rules)
    (rw c.file_number.ensures at (sym c.eq.ensures ∙ c.if-eq.true)) c.loop-i.invariant

pub loop-i-preserved : goal.loop-i-preserved
loop-i-preserved c =
    first_more (file_matches c.args.f.0) (schema_of c.args.schema.now).files c.loop-i.i no_file (search rules)
    (rw c.file_number.ensures at (sym c.eq.ensures ∙ c.if-eq.false)) ∙ c.loop-i.invariant

pub returns : goal.returns
returns c =
    finds-none (file_matches c.args.f.0) no_file (schema_of c.args.schema.now).files c.loop-i.i (search rules) c.loop-i.invariant
