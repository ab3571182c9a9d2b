use mathlib.Core.Path.{sym}
use borrow.Author.Rules.{rules}
use Rattle.tables.specs.FileSets.{holds}
use Rattle.tables.specs.Limits.{file_limit}
use Rattle.tables.specs.SetCells.{set_is}
use Rattle.tables.proofs.Laws.FileSets.{absent-past}
use Rattle.tables.proofs.file_set.FileSet.holds.Goals as goal

pub returns-then-v-lt-FILE_LIMIT : goal.returns-then-v-lt-FILE_LIMIT
unfolding holds set_is
returns-then-v-lt-FILE_LIMIT c = search rules

pub returns-else-v-lt-FILE_LIMIT : goal.returns-else-v-lt-FILE_LIMIT
unfolding set_is
returns-else-v-lt-FILE_LIMIT c = sym (absent-past file_limit c.args.self.0 c.args.f.0 (search rules) c.if-v-lt-FILE_LIMIT.false)
