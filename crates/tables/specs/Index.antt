-- An index of rows: 512 heads, one for each bucket, and 512 links, one for each row. A head is the latest row of its bucket, a link the latest
-- above its row of the same bucket; both as place + 1, 0 for none. Assumes nothing.
use Rattle.std.specs.Prelude.{true, false, List, [], ◌∷◌, ℕ, zero, suc, ◌+◌, ◌*◌, ◌%◌, eqb, get_or, set, replicate, Option, Some, None}
use Rattle.tables.specs.Records.{SchemaPath}

abbrev pub buckets : ℕ
buckets = 512

-- heads and links
abbrev pub index_size : ℕ
index_size = buckets + 512

-- ---- buckets

-- the bucket of two numbers; an odd factor that spreads small ones
unfoldable pub bucket : ℕ → ℕ → ℕ
bucket a b = (a % buckets * 331 + b % buckets) % buckets

-- the bucket of a number and a path
unfoldable pub path_bucket : ℕ → SchemaPath → ℕ
path_bucket k [] = k % buckets
path_bucket k (a ∷ p) = path_bucket (bucket k (suc a)) p

-- ---- rows of one bucket, the row at place i being of bucket key i

-- one more than the last place below n of this bucket, 0 where there is none
unfoldable pub latest : (ℕ → ℕ) → ℕ → ℕ → ℕ
latest key b zero = 0
latest key b (suc n) = elim (eqb (key n) b) [ true ↦ suc n | false ↦ latest key b n ]

-- a place as heads and links have it, none as 0
abbrev pub place_number : Option ℕ → ℕ
place_number None = 0
place_number (Some i) = suc i

-- row n of bucket b put into the index at this place: its link is the head so far, and the head is row n
abbrev pub linked_at : ℕ → List ℕ → ℕ → ℕ → List ℕ
linked_at at xs n b = set (set xs (at + (buckets + n)) (get_or xs (at + b) 0)) (at + b) (n + 1)

abbrev pub linked : List ℕ → ℕ → ℕ → List ℕ
linked xs n b = set (set xs (buckets + n) (get_or xs b 0)) b (n + 1)

unfoldable pub empty_index : List ℕ
empty_index = replicate index_size 0

-- the cells of an index of n rows
unfoldable pub index_cells : (ℕ → ℕ) → ℕ → List ℕ
index_cells key zero = empty_index
index_cells key (suc n) = linked (index_cells key n) n (key n)
