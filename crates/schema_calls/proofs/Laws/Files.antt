-- Laws of the files of a schema, one more or one less of them. Assumes nothing.
use mathlib.Core.List.{List, ◌∷◌}
use mathlib.Core.Option.{none, some}
use mathlib.Core.Path.{◌≡◌, ap, ◌∙◌}
use Prim.Native.Nat.{ℕ, suc, ◌+◌, ◌-◌, ◌≤◌, ◌<◌}
use native.Mathlib.Omega.{arith}
use lib.ListN.{length, get_or, drop}
use lib.Seq.{drop-cons, drop-length}
use Rattle.tables.specs.FileSets.{no_set, with_file}
use Rattle.tables.specs.Lists.{first_of}
use Rattle.tables.specs.Records.{File, Schema}
use Rattle.tables.specs.SchemaTable.{no_file}
use Rattle.deck.specs.Schema.{files_of, version_of, least_from}
use Rattle.schema_calls.specs.Calls.{file_matches, least_with}
use Rattle.tables.proofs.Laws.Scans.{drop-next, drop-end}

-- no file is behind the last
pub files-none : (l : List File) (n : ℕ) → n ≡ length l → no_set ≡ files_of (drop n l)
unfolding files_of
files-none l n e = rw (e, drop-length l)

-- one more file
pub files-more : (l : List File) (i s f r : ℕ) → 0 < i → i ≤ length l → s ≡ files_of (drop i l) → f ≡ (get_or l (i - 1) no_file).file → r ≡ with_file s f
    → r ≡ files_of (drop (i - 1) l)
unfolding files_of
files-more l i s f r h k e g w =
    let z : suc (i - 1) ≡ i = omega arith in
    let k : drop (i - 1) l ≡ get_or l (i - 1) no_file ∷ drop i l = drop-cons l (i - 1) no_file (omega arith) ∙ ap (λ (n : ℕ). get_or l (i - 1) no_file ∷ drop n l) z in
    w ∙ rw (e, g, k)

-- every file
pub files-all : (l : List File) (i s : ℕ) → i ≤ 0 → s ≡ files_of (drop i l) → s ≡ files_of l
files-all l i s h e = let z : i ≡ 0 = omega arith in e ∙ ap (λ (n : ℕ). files_of (drop n l)) z

-- ---- versions

module _ (sc : Schema) (f : ℕ) where
  pub version-at : {d : File} → first_of (file_matches f) sc.files ≡ some d → d.version ≡ version_of sc f
  unfolding version_of
  version-at e = rw (version_of, e)

  pub version-none : first_of (file_matches f) sc.files ≡ none → 0 ≡ version_of sc f
  unfolding version_of
  version-none e = rw (version_of, e)

-- what is left of the files gives the whole
module _ (l : List File) (i s v : ℕ) where
  pub least_more : i < length l → {f w u : ℕ} → f ≡ (get_or l i no_file).file → w ≡ (get_or l i no_file).version → u ≡ least_with s f v w
      → least_from s u (drop (i + 1) l) ≡ least_from s v (drop i l)
  unfolding least_from
  least_more h a b e = rw (drop-next l i no_file h, e, a, b)

  pub least-end : length l ≤ i → least_from s v (drop i l) ≡ v
  unfolding least_from
  least-end h = rw (drop-end l i h)
