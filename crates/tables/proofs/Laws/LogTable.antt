-- Laws of the log's table: reading it back, its count and its entries, an entry pushed, the newest taken off. Assumes nothing.
use mathlib.Core.Path.{◌≡◌, refl, sym, ap, ◌∙◌}
use mathlib.Core.List.{List, [], ◌∷◌, ◌++◌, reverse, reverse-cons, reverse-reverse}
use mathlib.Core.Option.{Option}
use Prim.Native.Nat.{ℕ, suc, ◌+◌, ◌*◌, ◌-◌, ◌≤◌, ◌<◌}
use native.Mathlib.Omega.{arith}
use native.Mathlib.Nat.{not-suc-le-zero, lt_of_not-le}
use native.Mathlib.Numerals.{add-one}
use native.Mathlib.Decide.{dec_lt}
use lib.ListN.{length, get_or, set, take, drop, replicate, length-reverse, length-drop, get_or-append}
use lib.Seq.{drop-cons, get_or_at}
use Rattle.tables.specs.Cells.{cells, puts}
use Rattle.tables.specs.FileSets.{no_set}
use Rattle.tables.specs.SetCells.{set_width, set_cells, cells_set}
use Rattle.tables.specs.Limits.{log_limit}
use Rattle.tables.specs.ModelTable.{cell_parent}
use Rattle.tables.specs.Records.{FileSet, Element, Entry, import, restriction, extension, Log}
use Rattle.tables.specs.LogTable.{log_size, entries_at, old_set_at, entry_width, EntryFits, entry_cells, entry_from, entry_of, encode_log, log_of, SizedLog, GoodLog, HoldsLog, no_entry, entry_at}
use Rattle.tables.proofs.Laws.Cells.{length-cells, last-back, each_all, read-last, part-last, append-last, clear-last}
use Rattle.tables.proofs.Laws.ModelTable.{cell_parent-back}
use Rattle.tables.proofs.Laws.SetCells.{set_back, wide-set, no-set-cells}

-- ---- entries

pub wide-entry : (e : Entry) → length (entry_cells e) ≡ entry_width
unfolding entry_cells
wide-entry (import e p o s) = ap (λ (n : ℕ). suc (suc (suc (suc n)))) (wide-set s)
wide-entry (restriction e s) = ap (λ (n : ℕ). suc (suc (suc (suc n)))) (wide-set s)
wide-entry (extension e f) = ap (λ (n : ℕ). suc (suc (suc (suc n)))) (wide-set no_set)

pub entry-back : (e : Entry) → entry_of (entry_cells e) ≡ e
unfolding entry_cells entry_of entry_from
entry-back (import e p o s) = λ i. import e p (cell_parent-back o i) (set_back s i)
entry-back (restriction e s) = ap (restriction e) (set_back s)
entry-back (extension e f) = refl

-- the entry whose cells are these, by its kind
module _ (x : Entry) (k e p : ℕ) (hk : k ≡ get_or (entry_cells x) 0 0) (he : e ≡ get_or (entry_cells x) 1 0) (hp : p ≡ get_or (entry_cells x) 2 0) where
  from_parts : entry_from k e p (get_or (entry_cells x) 3 0) (cells_set (drop old_set_at (entry_cells x))) ≡ x
  unfolding entry_of
  from_parts = rw (hk, he, hp) (entry-back x)

  pub import-is : (o : ℕ) (s : FileSet) (q : Option Element) → o ≡ get_or (entry_cells x) 3 0 → s ≡ cells_set (drop old_set_at (entry_cells x)) → q ≡ cell_parent o
      → k ≡ 0 → import e p q s ≡ x
  unfolding entry_from
  import-is o s q ho hs hq z = rw (hq, hs, ho) (rw z at from_parts)

  pub restriction-is : (s : FileSet) → s ≡ cells_set (drop old_set_at (entry_cells x)) → k ≡ 1 → restriction e s ≡ x
  unfolding entry_from
  restriction-is s hs z = rw hs (rw z at from_parts)

  pub extension-is : (k ≡ 0 → ⊥) → (k ≡ 1 → ⊥) → extension e p ≡ x
  unfolding entry_from
  extension-is m n =
      let z : k ≡ suc (suc (k - 2)) = omega arith in
      rw z at from_parts

-- ---- the table

pub log-size : (l : Log) → SizedLog l → length (encode_log l) ≡ log_size
unfolding encode_log
log-size l s = ap suc (length-cells entry_width entry_cells wide-entry log_limit (reverse l) (simp length-reverse s.fits))

pub log_back : (l : Log) → log_of (encode_log l) ≡ l
unfolding encode_log log_of
log_back l =
    rw (
      ← length-reverse l,
      last-back entry_width entry_cells wide-entry entry_of log_limit (reverse l) (each_all (λ (e : Entry). entry_of (entry_cells e) ≡ e) (reverse l) entry-back),
    )
    (reverse-reverse l)

-- a table that is a log's encoding holds that log
pub hold-log : (l : Log) (xs : List ℕ) → xs ≡ encode_log l → SizedLog l → HoldsLog xs l
hold-log l xs e s =
    let b : log_of xs ≡ l = ap log_of e ∙ log_back l in
    record {
      good = record { size = ap length e ∙ log-size l s; raw = e ∙ ap encode_log (sym b); sized = rw b s };
      is = b;
    }

-- ---- reads

pub get_d_reverse : {A : Type 0} (l : List A) (i : ℕ) (d : A) → i < length l → get_or (reverse l) i d ≡ get_or l (length l - suc i) d
get_d_reverse [] i d h = absurd (not-suc-le-zero h)
get_d_reverse {A} (x ∷ l) i d h = rw (reverse-cons x l) (go (dec_lt i (length l)) (get_d_reverse l i d))
  where
    go : Dec (i < length l) → (i < length l → get_or (reverse l) i d ≡ get_or l (length l - suc i) d)
        → get_or (reverse l ++ (x ∷ [])) i d ≡ get_or (x ∷ l) (suc (length l) - suc i) d
    go (yes k) r =
        let e : suc (length l) - suc i ≡ suc (length l - suc i) = omega arith in
        rw e (get_or-append (reverse l) (x ∷ []) d i (simp length-reverse k) ∙ r k)
    go (no n) r =
        let e : suc (length l) - suc i ≡ 0 = omega (arith, lt_of_not-le n) in
        let f : length (reverse l) ≡ i = simp length-reverse (omega (arith, lt_of_not-le n)) in
        rw e (get_or_at (reverse l) x [] d i f)

module _ (xs : List ℕ) (g : GoodLog xs) where
  pub log-count : get_or xs 0 0 ≡ length (log_of xs)
  unfolding encode_log
  log-count = ap (λ (l : List ℕ). get_or l 0 0) g.raw

  pub entry-cell : (i j : ℕ) → i < length (log_of xs) → j < entry_width
      → get_or xs (entries_at + (i * entry_width + j)) 0 ≡ get_or (entry_cells (entry_at (log_of xs) i)) j 0
  unfolding encode_log
  entry-cell i j h k =
      let f : i < length (reverse (log_of xs)) = simp length-reverse h in
      let s : length (reverse (log_of xs)) ≤ log_limit = simp length-reverse g.sized.fits in
      ap (λ (l : List ℕ). get_or l (entries_at + (i * entry_width + j)) 0) g.raw
      ∙ read-last entry_width entry_cells wide-entry (length (log_of xs) ∷ []) entries_at log_limit (reverse (log_of xs)) i j no_entry refl s f k
      ∙ ap (λ (e : Entry). get_or (entry_cells e) j 0) (get_d_reverse (log_of xs) i no_entry h)

  -- the set in the last cells of entry i
  pub entry_set : (i : ℕ) → i < length (log_of xs)
      → take set_width (drop (entries_at + (i * entry_width + old_set_at)) xs) ≡ drop old_set_at (entry_cells (entry_at (log_of xs) i))
  unfolding encode_log
  entry_set i h =
      let f : i < length (reverse (log_of xs)) = simp length-reverse h in
      ap (λ (l : List ℕ). take set_width (drop (entries_at + (i * entry_width + old_set_at)) l)) g.raw
      ∙ part-last entry_width entry_cells wide-entry (length (log_of xs) ∷ []) entries_at log_limit (reverse (log_of xs)) i old_set_at set_width no_entry refl f refl
      ∙ ap (λ (e : Entry). drop old_set_at (entry_cells e)) (get_d_reverse (log_of xs) i no_entry h)

-- ---- stores

pub push-cells : (e : Entry) (l : Log) → length l < log_limit
    → set (puts (encode_log l) (entries_at + length l * entry_width) (entry_cells e)) 0 (length l + 1) ≡ encode_log (e ∷ l)
unfolding encode_log
push-cells e l h =
    let f : puts (encode_log l) (entries_at + length l * entry_width) (entry_cells e) ≡ length l ∷ cells entry_width log_limit entry_cells (reverse (e ∷ l)) =
    rw (reverse-cons e l, ← length-reverse l)
    (append-last entry_width entry_cells wide-entry (length (reverse l) ∷ []) entries_at log_limit (reverse l) e refl (simp length-reverse h))
    in
    rw (f, add-one (length l))

-- zeros over the newest entry
pub pop-cells : (e : Entry) (l : Log) → length l < log_limit
    → set (puts (encode_log (e ∷ l)) (entries_at + length l * entry_width) (0 ∷ 0 ∷ 0 ∷ 0 ∷ set_cells no_set)) 0 (length l) ≡ encode_log l
unfolding encode_log
pop-cells e l h =
    let f : puts (suc (length l) ∷ cells entry_width log_limit entry_cells (reverse l ++ (e ∷ []))) (entries_at + length (reverse l) * entry_width) (replicate entry_width 0)
    ≡ suc (length l) ∷ cells entry_width log_limit entry_cells (reverse l) =
    clear-last entry_width entry_cells wide-entry (suc (length l) ∷ []) entries_at log_limit (reverse l) e refl (simp length-reverse h)
    in
    rw (reverse-cons, no-set-cells) (ap (λ (xs : List ℕ). set xs 0 (length l)) (rw length-reverse at f))

module _ (xs : List ℕ) (g : GoodLog xs) where
  -- n is the count, vs the entry's cells, and ys the table with them behind the last entry
  pub pushed : (e : Entry) → EntryFits e → length (log_of xs) < log_limit → (n : ℕ) (vs ys : List ℕ)
      → n ≡ length (log_of xs) → entry_cells e ≡ vs → ys ≡ puts xs (entries_at + n * entry_width) vs → HoldsLog (set ys 0 (n + 1)) (e ∷ log_of xs)
  pushed e p h n vs ys c v y =
      hold-log (e ∷ log_of xs) (set ys 0 (n + 1))
      (rw (y, c, ← v)
      (ap (λ (zs : List ℕ). set (puts zs (entries_at + length (log_of xs) * entry_width) (entry_cells e)) 0 (length (log_of xs) + 1)) g.raw
      ∙ push-cells e (log_of xs) h))
      (record { fits = h; parts = (p, g.sized.parts) })

  -- n is the count, vs an entry of zeros, and ys the table with them over the newest entry
  pub popped : 0 < length (log_of xs) → (n : ℕ) (vs ys : List ℕ) → n ≡ length (log_of xs) → vs ≡ 0 ∷ 0 ∷ 0 ∷ 0 ∷ set_cells no_set
      → ys ≡ puts xs (entries_at + (n - 1) * entry_width) vs → HoldsLog (set ys 0 (n - 1)) (drop 1 (log_of xs))
  popped h n vs ys e v y =
      let t : Log = drop 1 (log_of xs) in
      let c : log_of xs ≡ get_or (log_of xs) 0 no_entry ∷ t = drop-cons (log_of xs) 0 no_entry h in
      let m : n - 1 ≡ length t = simp (e, length-drop) in
      let k : length t < log_limit = simp length-drop (omega (arith, g.sized.fits)) in
      hold-log t (set ys 0 (n - 1))
      (rw (y, m, v)
      (ap (λ (zs : List ℕ). set (puts zs (entries_at + length t * entry_width) (0 ∷ 0 ∷ 0 ∷ 0 ∷ set_cells no_set)) 0 (length t)) (g.raw ∙ ap encode_log c)
      ∙ pop-cells (get_or (log_of xs) 0 no_entry) t k))
      (record { fits = omega arith; parts = (rw c at g.sized.parts).1 })
