use borrow.Author.Rules.{rules}
use Rattle.tables.specs.SetCells.{set_is}
use Rattle.tables.proofs.Laws.FileSets.{or-with_file, one_shifted}
use Rattle.tables.proofs.file_set.FileSet.with.Goals as goal

pub returns : goal.returns
unfolding set_is
returns c = rw (one_shifted c.args.f.0 (search rules)) (or-with_file c.args.self.0 c.args.f.0)
