-- Laws of the files of sets, log entries and trees. Assumes nothing.
use mathlib.Core.Bool.{Bool, true, false, not, false≢true}
use mathlib.Core.List.{List, [], ◌∷◌}
use mathlib.Core.Path.{◌≡◌, refl, sym, ap, ◌∙◌}
use Prim.Native.Nat.{ℕ, zero, suc, ◌+◌, ◌-◌, ◌≤◌, ◌<◌}
use native.Mathlib.Omega.{arith}
use borrow.Author.Tests.{eqb-true, eqb-false}
use lib.Dec.{eqb}
use lib.ListN.{length, get_or, drop, get_or-eq_default}
use Rattle.tables.specs.FileSets.{holds, with_file, no_set, part_of, loaded_files}
use Rattle.tables.specs.Lists.{any_of, all_of, keep}
use Rattle.tables.specs.Records.{FileNumber, FileSet, File, Schema, Tree, Entry, Log, Model, Fixed, State}
use Rattle.tables.specs.ElementsTable.{no_tree}
use Rattle.tables.specs.LogTable.{entry_at, no_entry}
use Rattle.tables.proofs.Laws.FileSets.{holds-with_file, holds-with_file-other, holds-no_set}
use Rattle.deck.specs.Schema.{declares_file, files_of, declared_files}
use Rattle.state_test.specs.StateTest.{root_set_stored, set_declared, tree_declared, waits, tree_files_distinct, files_declared}
use Rattle.tables.proofs.Laws.Scans.{drop-next, drop-end, all_more, all-stop, all_end}
use Rattle.state_test.proofs.Laws.Answers.{passed, failed}

-- a model without elements has no set of its root
pub no-root-set : (m : Model) → length m.sets ≤ 0 → false ≡ root_set_stored m
unfolding root_set_stored
no-root-set m h = rw (get_or-eq_default m.sets 0 {n = 0} h)

-- and one whose root's set is stored has elements
pub root-set-there : (m : Model) → root_set_stored m ≡ true → 0 < length m.sets
root-set-there m h = by_count (length m.sets) refl
  where
    by_count : (n : ℕ) → length m.sets ≡ n → 0 < length m.sets
    by_count (suc n) e = omega (arith, e)
    by_count zero e = absurd (false≢true (no-root-set m (omega arith) ∙ h))

pub root_set_there : (m : Model) → length m.sets ≡ length m.parents → root_set_stored m ≡ true → 0 < length m.parents
root_set_there m same h = omega (arith, same, root-set-there m h)

-- ---- tests by a set

-- one test or the other passes
abbrev either : Bool → Bool → Bool
either a b = elim a [ true ↦ true | false ↦ b ]

-- a set with one file more holds that file and those of the set; t: whether the files are the same
with_file-holds : (s : FileSet) (f g : FileNumber) (t : Bool) → (t ≡ true → g ≡ f) → (t ≡ false → g ≡ f → ⊥)
    → holds (with_file s f) g ≡ either t (holds s g)
with_file-holds s f g true same other = ap (holds (with_file s f)) (same refl) ∙ holds-with_file s f
with_file-holds s f g false same other = holds-with_file-other s f g (other refl)

files-hold : (fs : List File) (f : FileNumber) → any_of (λ (d : File). eqb d.file f) fs ≡ holds (files_of fs) f
unfolding any_of files_of
files-hold [] f = sym (holds-no_set f)
files-hold (d ∷ fs) f =
    ap (either (eqb d.file f)) (files-hold fs f)
    ∙ sym (with_file-holds (files_of fs) d.file f (eqb d.file f) (λ e. sym (eqb-true d.file f e)) (λ e q. eqb-false d.file f e (sym q)))

-- a file is declared where the set of the declared files holds it
pub declares-holds : (sc : Schema) (f : FileNumber) → declares_file sc f ≡ holds (declared_files sc) f
unfolding declares_file declared_files
declares-holds sc f = files-hold sc.files f

-- d the declared files
module _ (sc : Schema) {d : FileSet} (is : d ≡ declared_files sc) {r : Bool} where
  -- the answer for a set
  pub set_tested : {s t : FileSet} → r ≡ part_of s d → s ≡ t → r ≡ set_declared sc t
  unfolding set_declared
  set_tested e k = e ∙ (λ j. part_of (k j) (is j))

  -- and for a tree's file
  pub tree-tested : (t : Tree) {f : FileNumber} → r ≡ holds d f → f ≡ t.file → r ≡ tree_declared sc t
  unfolding tree_declared
  tree-tested t e k = e ∙ (λ j. holds (is j) (k j)) ∙ sym (declares-holds sc t.file)

-- ---- the log: the newest entry first, and entry i the i-th oldest

module _ (t : Entry → Bool) (l : Log) (i : ℕ) (some : 0 < i) (fits : i ≤ length l) {r : Bool} (is : r ≡ t (entry_at l (i - 1))) where
  entry-is : r ≡ t (get_or l (length l - i) no_entry)
  entry-is =
      let z : length l - suc (i - 1) ≡ length l - i = omega arith in
      is ∙ ap (λ (k : ℕ). t (get_or l k no_entry)) z

  pub entry-stop : r ≡ false → all_of t (drop (length l - i) l) ≡ all_of t l → false ≡ all_of t l
  entry-stop n inv = sym (all-stop t l (length l - i) no_entry (omega arith) (failed entry-is n)) ∙ inv

  pub entry_more : r ≡ true → all_of t (drop (length l - i) l) ≡ all_of t l → all_of t (drop (length l - (i - 1)) l) ≡ all_of t l
  entry_more n inv =
      let z : length l - (i - 1) ≡ length l - i + 1 = omega arith in
      rw z (all_more t l (length l - i) no_entry (omega arith) (passed entry-is n) ∙ inv)

pub entries-start : (t : Entry → Bool) (l : Log) (n : ℕ) → n ≡ length l → all_of t (drop (length l - n) l) ≡ all_of t l
entries-start t l n e = let z : length l - n ≡ 0 = omega arith in ap (λ (k : ℕ). all_of t (drop k l)) z

pub entries-end : (t : Entry → Bool) (l : Log) (i : ℕ) → i ≤ 0 → all_of t (drop (length l - i) l) ≡ all_of t l → true ≡ all_of t l
entries-end t l i h inv = sym (all_end t l (length l - i) (omega arith)) ∙ inv

-- ---- two waiting trees of one file, by the set of the files so far

-- no tree's file is in the set, nor among those of the trees before it
unfoldable pub distinct_from : FileSet → List Tree → Bool
distinct_from s [] = true
distinct_from s (t ∷ ts) = elim (holds s t.file) [ true ↦ false | false ↦ distinct_from (with_file s t.file) ts ]

-- some entry passes one of two tests
any-either : {A : Type 0} (t u v : A → Bool) → ((a : A) → v a ≡ either (t a) (u a)) → (l : List A) → any_of v l ≡ either (any_of t l) (any_of u l)
unfolding any_of
any-either t u v h [] = refl
any-either t u v h (a ∷ l) = by (t a) (u a) (any_of t l) (any_of u l) (h a) (any-either t u v h l)
  where
    by : (a b c d : Bool) {p q : Bool} → p ≡ either a b → q ≡ either c d → either p q ≡ either (either a c) (either b d)
    by true b c d e f = rw e
    by false true true d e f = rw e
    by false true false d e f = rw e
    by false false c d e f = rw e f

-- the first test fails, and the second passes
abbrev unless : Bool → Bool → Bool
unless a b = elim a [ true ↦ false | false ↦ b ]

-- the trees' files are distinct, and none is in the set
distinct_from_lem : (s : FileSet) (ts : List Tree) → distinct_from s ts ≡ unless (any_of (λ (t : Tree). holds s t.file) ts) (tree_files_distinct ts)
unfolding distinct_from tree_files_distinct any_of
distinct_from_lem s [] = refl
distinct_from_lem s (t ∷ ts) =
    let same : Tree → Bool = λ u. eqb u.file t.file in
    let held : Tree → Bool = λ u. holds s u.file in
    let more : Tree → Bool = λ u. holds (with_file s t.file) u.file in
    let any : any_of more ts ≡ either (any_of same ts) (any_of held ts) =
    any-either same held more (λ u. with_file-holds s t.file u.file (same u) (eqb-true u.file t.file) (eqb-false u.file t.file)) ts in
    by (held t) (any_of same ts) (any_of held ts) (tree_files_distinct ts) (distinct_from_lem (with_file s t.file) ts ∙ ap (λ (b : Bool). unless b (tree_files_distinct ts)) any)
  where
    by : (a c d u : Bool) {v : Bool} → v ≡ unless (either c d) u → unless a v ≡ unless (either a d) (unless c u)
    by true c d u e = refl
    by false true true u e = e
    by false true false u e = e
    by false false d u e = e

pub distinct-start : (ts : List Tree) {s : FileSet} → s ≡ no_set → distinct_from s ts ≡ tree_files_distinct ts
unfolding any_of
distinct-start ts e = rw e (rw (none ts) at (distinct_from_lem no_set ts))
  where
    none : (l : List Tree) → any_of (λ (t : Tree). holds no_set t.file) l ≡ false
    none [] = refl
    none (t ∷ l) = rw (any_of, holds-no_set t.file) (none l)

-- whether a tree waits, by its file and the loaded files
pub waits-known : (m : Model) (t : Tree) {loaded : FileSet} {f : FileNumber} {b : Bool} → loaded ≡ loaded_files m → f ≡ t.file → holds loaded f ≡ b
    → waits m t ≡ not b
unfolding waits
waits-known m t a is e = rw (← a, ← is, e)

module _ (m : Model) (l : List Tree) (i : ℕ) (s : FileSet) (inv : distinct_from s (keep (waits m) (drop i l)) ≡ tree_files_distinct (keep (waits m) l)) where
  -- f the file of tree i, waiting or not
  module _ (h : i < length l) {loaded : FileSet} (a : loaded ≡ loaded_files m) {f : FileNumber} (is : f ≡ (get_or l i no_tree).file) where
    -- a tree of a loaded file is passed over
    pub distinct-loaded : holds loaded f ≡ true → distinct_from s (keep (waits m) (drop (i + 1) l)) ≡ tree_files_distinct (keep (waits m) l)
    unfolding keep
    distinct-loaded e =
        let k : keep (waits m) (drop i l) ≡ keep (waits m) (drop (i + 1) l) = rw (drop-next l i no_tree h, keep, waits-known m (get_or l i no_tree) a is e) in
        ap (distinct_from s) (sym k) ∙ inv

    -- one that waits: r the answer whether the set holds its file
    module _ (e : holds loaded f ≡ false) {r : Bool} (answer : r ≡ holds s f) where
      kept : keep (waits m) (drop i l) ≡ get_or l i no_tree ∷ keep (waits m) (drop (i + 1) l)
      unfolding keep
      kept = rw (drop-next l i no_tree h, keep, waits-known m (get_or l i no_tree) a is e)

      tested : {b : Bool} → r ≡ b → holds s (get_or l i no_tree).file ≡ b
      tested k = ap (holds s) (sym is) ∙ sym answer ∙ k

      pub distinct-stop : r ≡ true → false ≡ tree_files_distinct (keep (waits m) l)
      unfolding distinct_from
      distinct-stop t =
          let k : distinct_from s (keep (waits m) (drop i l)) ≡ false = rw (kept, distinct_from, tested t) in
          sym k ∙ inv

      pub distinct_more : r ≡ false → {t : FileSet} → t ≡ with_file s f → distinct_from t (keep (waits m) (drop (i + 1) l)) ≡ tree_files_distinct (keep (waits m) l)
      unfolding distinct_from
      distinct_more t q =
          let k : distinct_from s (keep (waits m) (drop i l)) ≡ distinct_from (with_file s (get_or l i no_tree).file) (keep (waits m) (drop (i + 1) l)) =
          rw (kept, distinct_from, tested t)
          in
          rw (q, is) (sym k ∙ inv)

  pub distinct-end : length l ≤ i → true ≡ tree_files_distinct (keep (waits m) l)
  unfolding distinct_from keep
  distinct-end h = let k : distinct_from s (keep (waits m) (drop i l)) ≡ true = rw (drop-end l i h) in sym k ∙ inv

-- ---- the whole

module _ (x : Fixed) (s : State) where
  pub no-root-set-fails : root_set_stored s.model ≡ false → false ≡ files_declared x s
  unfolding files_declared
  no-root-set-fails a = rw (files_declared, a)
