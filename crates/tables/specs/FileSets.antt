-- Document 01, "File sets". Assumes nothing.
use Rattle.std.specs.Prelude.{Bool, true, false, ◌+◌, ◌-◌, ◌/◌, ◌%◌, ◌^◌, eqb}
use Rattle.std.proofs.Math.Option.{Option, none}
use Rattle.std.specs.Int.Bits.{bit_and}
use Rattle.tables.specs.Lists.{first_of}
use Rattle.tables.specs.Records.{FileNumber, FileSet, Model, Tree, Fixed, root, set_of}

-- Set 0 means no set stored.
abbrev pub no_set : FileSet
no_set = 0

-- A file set is asked, joined and reduced, each giving the new set.
unfoldable pub holds : FileSet → FileNumber → Bool
holds s f = eqb (s / 2 ^ f % 2) 1

unfoldable pub with_file : FileSet → FileNumber → FileSet
with_file s f = elim (holds s f) [ true ↦ s | false ↦ s + 2 ^ f ]

unfoldable pub without_file : FileSet → FileNumber → FileSet
without_file s f = elim (holds s f) [ true ↦ s - 2 ^ f | false ↦ s ]

-- every file of the first set is in the second
unfoldable pub part_of : FileSet → FileSet → Bool
part_of s t = eqb (bit_and s t) s

-- Loaded files are the root's set;
abbrev pub loaded_files : Model → FileSet
loaded_files m = set_of m root

-- a tree waits while its file is outside it.
unfoldable pub waiting_tree : Fixed → Model → FileNumber → Option Tree
waiting_tree x m f =
    elim (holds (loaded_files m) f) [
      | true ↦ none
      | false ↦ first_of (λ (t : Tree). eqb t.file f) x.elements.trees
    ]
