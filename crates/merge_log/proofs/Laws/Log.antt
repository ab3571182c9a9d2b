-- Restrictions, extensions and marks on the lent tables. Assumes nothing.
use mathlib.Core.Bool.{true, false}
use mathlib.Core.List.{List, ◌∷◌}
use mathlib.Core.Path.{◌≡◌, refl, sym, ap, ◌∙◌}
use Prim.Native.Nat.{ℕ, zero, suc, ◌-◌, ◌≤◌, ◌<◌}
use native.Mathlib.Omega.{arith}
use borrow.Author.Tests.{lt-ltb, le-ltb}
use lib.ListN.{length}
use lib.Seq.{drop-cons}
use Rattle.tables.specs.FileSets.{holds, with_file}
use Rattle.tables.specs.Limits.{log_limit}
use Rattle.tables.specs.LogTable.{log_of, HoldsLog, no_entry, entry_at}
use Rattle.tables.specs.ModelTable.{count_of, model_of, HoldsModel}
use Rattle.tables.specs.Records.{Element, FileNumber, FileSet, Model, Entry, restriction, extension, Log, State, set_of, put_set}
use Rattle.table_test.specs.LogTest.{EntryIn}
use Rattle.state_test.specs.StateTest.{state_in}
use Rattle.merge_rules.specs.Log.{change, restrict, extend, is_root_extension, ends_merge, is_mark}
use Rattle.merge_rules.specs.Refusals.{done, refused, log_full}
use Rattle.table_test.specs.Fits.{KeepsState}
use Rattle.table_test.proofs.Laws.Fits.{fits-set, fits-push}

-- ---- 9, or the change

change-full : (a : Entry) (m : Model) (s : State) → log_limit ≤ length s.log → refused log_full ≡ change a m s
unfolding change
change-full a m s h = sym (rw (change, le-ltb _ _ h))

change-done : (a : Entry) (m : Model) (s : State) → length s.log < log_limit → done (record { model = m; log = a ∷ s.log }) ≡ change a m s
unfolding change
change-done a m s h = sym (rw (change, lt-ltb _ _ h))

module _ (m l : List ℕ) where
  pub restrict-full : (e : Element) (files : FileSet) → log_limit ≤ length (log_of l) → refused log_full ≡ restrict e files (state_in m l)
  unfolding restrict
  restrict-full e files h = change-full _ _ (state_in m l) h

  pub extend-held : (e : Element) (f : FileNumber) → true ≡ holds (set_of (model_of m) e) f → done (state_in m l) ≡ extend e f (state_in m l)
  unfolding extend
  extend-held e f h = sym (rw (extend, sym h))

  pub extend-full : (e : Element) (f : FileNumber) → false ≡ holds (set_of (model_of m) e) f → log_limit ≤ length (log_of l)
      → refused log_full ≡ extend e f (state_in m l)
  unfolding extend
  extend-full e f a h =
      let s = set_of (model_of m) e in
      change-full (extension e f) (put_set (model_of m) e (with_file s f)) (state_in m l) h ∙ sym (rw (extend, sym a))

  module _ (m' l' : List ℕ) (room : length (log_of l) < log_limit) where
    pub restrict-done : (e : Element) (files old : FileSet) → old ≡ set_of (model_of m) e → HoldsLog l' (restriction e old ∷ log_of l)
        → HoldsModel m' (put_set (model_of m) e files) → done (state_in m' l') ≡ restrict e files (state_in m l)
    unfolding restrict
    restrict-done e files old o hl hm = rw (hm.is, hl.is, o) (change-done _ _ (state_in m l) room)

    pub extend-done : (e : Element) (f : FileNumber) (s : FileSet) → false ≡ holds (set_of (model_of m) e) f → HoldsLog l' (extension e f ∷ log_of l)
        → s ≡ with_file (set_of (model_of m) e) f → HoldsModel m' (put_set (model_of m) e s) → done (state_in m' l') ≡ extend e f (state_in m l)
    unfolding extend
    extend-done e f s a hl o hm = rw (hm.is, hl.is, o) (change-done _ _ (state_in m l) room ∙ sym (rw (extend, sym a)))

  -- a set and an entry more
  pub keeps-change : (m' l' : List ℕ) (e : Element) (s : FileSet) (a : Entry) → ((n : ℕ) → count_of (model_of m) ≡ n → EntryIn n a)
      → HoldsLog l' (a ∷ log_of l) → HoldsModel m' (put_set (model_of m) e s) → KeepsState m l m' l'
  keeps-change m' l' e s a within hl hm n texts f =
      record { model_fits = fits-set f.model_fits e s hm; log_fits = fits-push f.log_fits a (within n f.model_fits.same) hl }

-- ---- marks

pub mark-none : (l : Log) → true ≡ is_mark 0 l
unfolding is_mark
mark-none l = refl

pub mark-above : (mark : ℕ) (l : Log) → (mark ≡ 0 → ⊥) → length l < mark → false ≡ is_mark mark l
unfolding is_mark
mark-above zero l some h = absurd (some refl)
mark-above (suc n) l some h = sym (rw (is_mark, le-ltb n (length l) (omega arith)))

pub mark-at : (mark : ℕ) (l : Log) (a : Entry) → (mark ≡ 0 → ⊥) → mark ≤ length l → a ≡ entry_at l (mark - 1) → is_root_extension a ≡ is_mark mark l
unfolding is_mark ends_merge
mark-at zero l a some h e = absurd (some refl)
mark-at (suc n) l a some h e =
    let z : suc n - 1 ≡ n = omega arith in
    sym (rw (is_mark, lt-ltb n (length l) (omega arith), drop-cons l (length l - suc n) no_entry (omega arith)) (ap is_root_extension (sym (rw z at e))))
