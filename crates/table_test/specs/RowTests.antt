-- The tests of one row of a table, given its cells: each number is within its range. Assumes nothing.
use Rattle.std.specs.Prelude.{Bool, true, not, ◌&&◌, ◌||◌, List, [], ◌∷◌, ℕ, suc, ◌+◌, ◌/◌, ◌%◌, eqb, leb, ltb, get_or, drop}
use Rattle.tables.specs.Limits.{type_limit, file_limit, version_limit, depth_limit, name_limit, enum_limit, string_limit, part_limit, mask_limit}
use Rattle.tables.specs.Lists.{all_of}
use Rattle.tables.specs.LogTable.{old_set_at}
use Rattle.table_test.specs.ModelTest.{is_zero}

-- this test and each of these pass
abbrev pub also_every : Bool → List Bool → Bool
also_every a [] = a
also_every a (b ∷ bs) = also_every (a && b) bs

-- each of these tests passes
abbrev pub every : List Bool → Bool
every [] = true
every (b ∷ bs) = also_every b bs

-- ---- schema

-- at least one part, each + 1 in its cell, and none behind a 0
abbrev pub path_tests : ℕ → ℕ → ℕ → ℕ → List Bool
path_tests a b c d =
    ltb 0 a
    ∷ leb a (suc part_limit)
    ∷ leb b (suc part_limit)
    ∷ leb c (suc part_limit)
    ∷ leb d (suc part_limit)
    ∷ (not (eqb b 0) || eqb c 0)
    ∷ (not (eqb c 0) || eqb d 0)
    ∷ []

unfoldable pub path_passes : ℕ → ℕ → ℕ → ℕ → Bool
path_passes a b c d = every (path_tests a b c d)

-- mode, named, split
abbrev pub type_tests : List ℕ → List Bool
type_tests row = leb (get_or row 0 0) 4 ∷ leb (get_or row 1 0) 1 ∷ ltb (get_or row 2 0) mask_limit ∷ []

-- type, a path of at most three parts, a mode other than characters
abbrev pub group_tests : List ℕ → List Bool
group_tests row =
    ltb (get_or row 0 0) type_limit
    ∷ path_passes (get_or row 1 0) (get_or row 2 0) (get_or row 3 0) (get_or row 4 0)
    ∷ eqb (get_or row 4 0) 0
    ∷ leb (get_or row 5 0) 3
    ∷ []

-- type, path, name, child type, mult, mask
abbrev pub sub_element_tests : List ℕ → List Bool
sub_element_tests row =
    ltb (get_or row 0 0) type_limit
    ∷ path_passes (get_or row 1 0) (get_or row 2 0) (get_or row 3 0) (get_or row 4 0)
    ∷ leb (get_or row 5 0) name_limit
    ∷ ltb (get_or row 6 0) type_limit
    ∷ leb (get_or row 7 0) 2
    ∷ ltb 0 (get_or row 8 0)
    ∷ ltb (get_or row 8 0) mask_limit
    ∷ []

-- file, version
abbrev pub file_tests : List ℕ → List Bool
file_tests row = ltb (get_or row 0 0) file_limit ∷ ltb (get_or row 1 0) version_limit ∷ []

-- ---- elements

-- name, one of so many types, depth
abbrev pub element_tests : ℕ → List ℕ → List Bool
element_tests types row = leb (get_or row 0 0) name_limit ∷ ltb (get_or row 1 0) types ∷ leb (get_or row 2 0) depth_limit ∷ []

-- a known kind; if an enum number, in its range; if a string, its place * string_limit + its length, within the deck of this size
abbrev pub text_tests : ℕ → List ℕ → List Bool
text_tests size row =
    leb (get_or row 0 0) 3
    ∷ (not (eqb (get_or row 0 0) 0) || leb (get_or row 1 0) enum_limit)
    ∷ (not (eqb (get_or row 0 0) 1) || leb (get_or row 1 0 / string_limit + get_or row 1 0 % string_limit) size)
    ∷ []

-- file, root among so many elements
abbrev pub tree_tests : ℕ → List ℕ → List Bool
tree_tests n row = ltb (get_or row 0 0) file_limit ∷ ltb (get_or row 1 0) n ∷ []

-- ---- log

-- a known kind, one of n elements; an import has a new parent, an extension a file, a restriction neither; an import has its old parent + 1 or
-- 0 for none, others 0; an extension has no old set
abbrev pub entry_tests : ℕ → List ℕ → List Bool
entry_tests n row =
    leb (get_or row 0 0) 2
    ∷ ltb (get_or row 1 0) n
    ∷ (not (eqb (get_or row 0 0) 0) || ltb (get_or row 2 0) n)
    ∷ (not (eqb (get_or row 0 0) 1) || eqb (get_or row 2 0) 0)
    ∷ (not (eqb (get_or row 0 0) 2) || ltb (get_or row 2 0) file_limit)
    ∷ (not (eqb (get_or row 0 0) 0) || leb (get_or row 3 0) n)
    ∷ (eqb (get_or row 0 0) 0 || eqb (get_or row 3 0) 0)
    ∷ (not (eqb (get_or row 0 0) 2) || all_of is_zero (drop old_set_at row))
    ∷ []
