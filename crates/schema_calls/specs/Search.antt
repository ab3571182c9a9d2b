-- What the search through an index answers: the first place, in deck order, of what is sought. Assumes nothing.
use Rattle.std.specs.Prelude.{Bool, true, false, ℕ, zero, suc, get_or}
use Rattle.tables.specs.Index.{bucket, path_bucket}
use Rattle.tables.specs.Paths.{parts_of}
use Rattle.tables.specs.Records.{Schema}
use Rattle.tables.specs.SchemaTable.{no_group, no_sub_element}
use Rattle.tables.specs.declared.index.Index.{Index}
use Rattle.tables.specs.declared.index.Index.TheVariants.{Groups, Names, Paths}
use Rattle.schema_calls.specs.Calls.{row_matches, name_matches, path_matches, group_matches}
use Rattle.std.specs.Prelude as program_option
use Rattle.std.specs.Prelude.{Some, None, is_some}
use Rattle.schema_calls.specs.declared.search.Sought.{Sought}
use Rattle.schema_calls.specs.declared.search.Sought.TheVariants.{Row, Name, Path, Group}

-- ---- what is sought

abbrev pub index_for : Sought → Index
index_for (Row t n m) = Names
index_for (Name t n) = Names
index_for (Path t p) = Paths
index_for (Group t p) = Groups

abbrev pub bucket_for : Sought → ℕ
bucket_for (Row t n m) = bucket t.0 n.0
bucket_for (Name t n) = bucket t.0 n.0
bucket_for (Path t p) = path_bucket t.0 (parts_of p)
bucket_for (Group t p) = path_bucket t.0 (parts_of p)

-- the row or group at place i is what is sought
abbrev pub matches_at : Schema → Sought → ℕ → Bool
matches_at sc (Row t n m) i = row_matches t.0 n.0 m (get_or sc.sub_elements i no_sub_element)
matches_at sc (Name t n) i = name_matches t.0 n.0 (get_or sc.sub_elements i no_sub_element)
matches_at sc (Path t p) i = path_matches t.0 (parts_of p) (get_or sc.sub_elements i no_sub_element)
matches_at sc (Group t p) i = group_matches t.0 (parts_of p) (get_or sc.groups i no_group)

-- the row or group at place k has the type and, by the index, the name or the path of the one at place i
abbrev pub alike_at : Schema → Index → ℕ → ℕ → Bool
alike_at sc Groups i k = let g = get_or sc.groups i no_group in group_matches g.type g.path (get_or sc.groups k no_group)
alike_at sc Names i k = let r = get_or sc.sub_elements i no_sub_element in name_matches r.type r.name (get_or sc.sub_elements k no_sub_element)
alike_at sc Paths i k = let r = get_or sc.sub_elements i no_sub_element in path_matches r.type r.path (get_or sc.sub_elements k no_sub_element)

-- ---- places that pass a test

-- the first of two answers that found something
unfoldable pub first_found : program_option.Option ℕ → program_option.Option ℕ → program_option.Option ℕ
first_found (Some i) r = Some i
first_found None r = r

abbrev pub found_at : Bool → ℕ → program_option.Option ℕ
found_at b i = elim b [ true ↦ Some i | false ↦ None ]

-- the first place below n that passes
unfoldable pub first_below : (ℕ → Bool) → ℕ → program_option.Option ℕ
first_below test zero = None
first_below test (suc n) = first_found (first_below test n) (found_at (test n) n)

-- some place below n passes
abbrev pub any_below : (ℕ → Bool) → ℕ → Bool
any_below test n = is_some (first_below test n)
