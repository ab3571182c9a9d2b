-- How the program and the tables hold a file set. Assumes nothing.
use Rattle.std.specs.Prelude.{List, [], ◌∷◌, ℕ, get_or}
use Rattle.tables.specs.declared.file_set.FileSet as program
use Rattle.tables.specs.Records.{FileSet}

-- the set that the program's value is
unfoldable pub set_is : program.FileSet → FileSet
set_is s = s.0

-- cells of a set
abbrev pub set_width : ℕ
set_width = 1

unfoldable pub set_cells : FileSet → List ℕ
set_cells s = s ∷ []

unfoldable pub cells_set : List ℕ → FileSet
cells_set xs = get_or xs 0 0
