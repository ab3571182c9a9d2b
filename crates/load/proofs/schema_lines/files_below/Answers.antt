use mathlib.Core.Path.{sym, ◌∙◌}
use Prim.Native.Nat.{ℕ}
use borrow.Author.Tests.{lt-ltb, le-ltb}
use borrow.Author.Rules.{rules}
use mathlib.Core.Bool.{Bool}
use lib.Dec.{ltb}
use Rattle.tables.specs.Records.{File}
use Rattle.tables.specs.SchemaTable.{schema_of, no_file}
use Rattle.tables.proofs.Laws.Scans.{all_more, all-stop, all_end}
use Rattle.load.proofs.schema_lines.files_below.Goals as goal

abbrev below : ℕ → File → Bool
below f d = ltb d.file f

pub returns-then-f-g : goal.returns-then-f-g
returns-then-f-g c =
    sym (all-stop (below c.args.f.0) (schema_of c.args.schema.now).files c.loop-i.i no_file (search rules)
    (le-ltb _ _ (rw c.file_number-g.ensures at c.if-f-g.true))) ∙ c.loop-i.invariant

pub loop-i-preserved : goal.loop-i-preserved
loop-i-preserved c =
    all_more (below c.args.f.0) (schema_of c.args.schema.now).files c.loop-i.i no_file (search rules)
    (lt-ltb _ _ (rw c.file_number-g.ensures at c.if-f-g.false)) ∙ c.loop-i.invariant

pub returns : goal.returns
returns c =
    sym (all_end (below c.args.f.0) (schema_of c.args.schema.now).files c.loop-i.i (search rules)) ∙ c.loop-i.invariant
