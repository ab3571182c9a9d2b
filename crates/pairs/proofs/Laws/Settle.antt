-- What becomes of a pair's level on the lent tables: the extension, or the fallback. Assumes nothing.
use mathlib.Core.Bool.{Bool, true, false}
use mathlib.Core.Option.{some, none}
use mathlib.Core.Path.{◌≡◌, refl, sym, ap, ◌∙◌}
use Prim.Native.Nat.{ℕ, ◌+◌}
use native.Mathlib.Numerals.{add-one}
use lib.Dec.{eqb}
use Rattle.tables.specs.FileSets.{no_set}
use Rattle.tables.specs.Records.{Element, FileNumber, FileSet, Version, Model, Log, State, Fixed, name_of, type_of, set_of, list_of}
use Rattle.tables.specs.declared.numbers.Element as numbers
use Rattle.std.specs.Prelude as program_option
use Rattle.deck.specs.Schema.{splittable_in}
use Rattle.merge_rules.specs.Import.{clamp, import_at}
use Rattle.merge_rules.specs.Level.{files_of_pair, extend_pair, keyed, place_behind, import_instead, fall_back, settle_conflict, settle}
use Rattle.merge_rules.specs.Log.{restrict, extend, first_place_of, rollback_merge}
use Rattle.merge_rules.specs.Pairing.{identifiable, definition_child, Pair}
use Rattle.merge_rules.specs.Range.{places, calc_element_insert_range}
use Rattle.merge_rules.specs.Refusals.{done, conflict, refused, unmergeable}
use Rattle.std.specs.Prelude.{Some, None, is_some}
use Rattle.pairing.specs.Keys.{Child, FindsChild}
use Rattle.pairing.proofs.Laws.Keys.{child-at, child-missing}
use Rattle.merge_log.specs.Answers.{outcome_is}
use Rattle.merge_log.specs.Places.{FirstPlace, place_is}
use Rattle.insert_range.specs.Range.{range_is}
use Rattle.std.specs.Prelude.{Result, Ok, Err}
use Rattle.insert_range.specs.declared.range.Bounds.{Bounds}
use Rattle.insert_range.specs.declared.range.Unplaced.{Unplaced}
use Rattle.insert_range.specs.declared.range.Unplaced.TheVariants.{NoRow, Conflicting}
use Rattle.merge_log.specs.declared.refusals.Refusal as program
use Rattle.merge_log.specs.declared.refusals.Halt.{Halt}
use Rattle.merge_log.specs.declared.refusals.Halt.TheVariants.{Conflict, Refused}
use Rattle.imports.proofs.Laws.Imports.{then-done, then-stop}

-- ---- A's set

module _ (m : Model) (a : Element) {own : FileSet} {b : Bool} (is : own ≡ set_of m a) (empty : b ≡ eqb own no_set) where
  pub set-empty : eqb (set_of m a) no_set ≡ b
  set-empty = rw (← is) (sym empty)

  pub files-level : (files : FileSet) → b ≡ true → files ≡ files_of_pair files m a
  unfolding files_of_pair
  files-level files k = sym (rw (files_of_pair, set-empty, k))

  pub files-own : (files : FileSet) → b ≡ false → own ≡ files_of_pair files m a
  unfolding files_of_pair
  files-own files k = is ∙ sym (rw (files_of_pair, set-empty, k))

  pub extend-none : (l : Log) (f : FileNumber) → b ≡ true → done (record { model = m; log = l }) ≡ extend_pair f a (record { model = m; log = l })
  unfolding extend_pair
  extend-none l f k = sym (rw (extend_pair, set-empty, k))

  pub extend-own : (l : Log) (f : FileNumber) → b ≡ false
      → extend a f (record { model = m; log = l }) ≡ extend_pair f a (record { model = m; log = l })
  unfolding extend_pair
  extend-own l f k = sym (rw (extend_pair, set-empty, k))

-- ---- A's key

module _ (x : Fixed) (m : Model) (a : Element) {i : Bool} (named : i ≡ identifiable x m a) where
  pub keyed-named : i ≡ true → true ≡ keyed x m a
  unfolding keyed
  keyed-named k = sym (rw (keyed, ← named, k))

  pub keyed-unnamed : i ≡ false → {n : ℕ} (r : Child) → FindsChild n r (definition_child x m a) → is_some r ≡ keyed x m a
  unfolding keyed
  keyed-unnamed k (Some c) f = sym (rw (keyed, ← named, k, child-at f refl))
  keyed-unnamed k None f = sym (rw (keyed, ← named, k, child-missing f refl))

-- ---- the place behind A

module _ (m : Model) (p a : Element) (r : program_option.Option ℕ) (f : FirstPlace a (list_of m p) r) where
  pub behind-place : (i : ℕ) → r ≡ Some i → i + 1 ≡ place_behind m p a
  unfolding place_behind
  behind-place i k =
      let e : first_place_of a (list_of m p) ≡ some i = sym f.is ∙ ap place_is k in
      rw (add-one i) (sym (rw (place_behind, e)))

  pub behind-none : r ≡ None → 1 ≡ place_behind m p a
  unfolding place_behind
  behind-none k =
      let e : first_place_of a (list_of m p) ≡ none = sym f.is ∙ ap place_is k in
      sym (rw (place_behind, e))

-- ---- B instead

module _ (x : Fixed) (f : FileNumber) (v : Version) (p : Element) (q : Pair) (e : Element) (s : State) where
  pub instead-at : (b : Bounds) (wanted at : ℕ) (r : Result Bounds Unplaced) → range_is r ≡ calc_element_insert_range x s.model p (name_of x q.b) v → r ≡ Ok b
      → wanted ≡ place_behind s.model p q.a → at ≡ clamp wanted b.first b.last → import_at f p q.b at s ≡ import_instead x f v p q e s
  unfolding import_instead
  instead-at b wanted at r is k w a =
      let c : calc_element_insert_range x s.model p (name_of x q.b) v ≡ places b.first b.last = sym is ∙ ap range_is k in
      rw (a, w) (sym (rw (import_instead, c)))

  pub instead-conflict : (r : Result Bounds Unplaced) → range_is r ≡ calc_element_insert_range x s.model p (name_of x q.b) v
      → ((b : Bounds) → r ≡ Ok b → ⊥) → conflict e s ≡ import_instead x f v p q e s
  unfolding import_instead
  instead-conflict (Ok b) is n = absurd (n b refl)
  instead-conflict (Err NoRow) is n = sym (rw (import_instead, ← is))
  instead-conflict (Err Conflicting) is n = sym (rw (import_instead, ← is))

  -- back at the mark, A gets the files, and the answer decides
  module _ (files : FileSet) (mark : ℕ) (back after : State) (o : Result (Unit {0}) Halt) (rolled : back ≡ rollback_merge mark s)
      (is : outcome_is o after ≡ restrict q.a files back) where
    pub fallen-on : o ≡ Ok tt → import_instead x f v p q e after ≡ fall_back x f v p q files mark e s
    unfolding fall_back
    fallen-on d = sym (then-done after (import_instead x f v p q e) o (rw rolled at is) d)

    pub fallen-stop : (o ≡ Ok tt → ⊥) → outcome_is o after ≡ fall_back x f v p q files mark e s
    unfolding fall_back
    fallen-stop t = then-stop after (import_instead x f v p q e) o (rw rolled at is) t

-- ---- a conflict from below

module _ (x : Fixed) (f : FileNumber) (v : Version) (p : Element) (q : Pair) (files : FileSet) (mark : ℕ) (e : Element) (s : State)
    {k : Bool} (key : k ≡ keyed x s.model q.a) where
  pub conflict-keyed : k ≡ true → refused (unmergeable e) ≡ settle_conflict x f v p q files mark e s
  unfolding settle_conflict
  conflict-keyed h = sym (rw (settle_conflict, ← key, h))

  module _ (free : k ≡ false) {t : ℕ} (et : t ≡ type_of x p) {b : Bool} (eb : b ≡ splittable_in x.schema t v) where
    split-is : splittable_in x.schema (type_of x p) v ≡ b
    split-is = rw (← et) (sym eb)

    pub conflict-up : b ≡ false → conflict e s ≡ settle_conflict x f v p q files mark e s
    unfolding settle_conflict
    conflict-up h = sym (rw (settle_conflict, ← key, free, split-is, h))

    pub conflict-falls : b ≡ true → fall_back x f v p q files mark e s ≡ settle_conflict x f v p q files mark e s
    unfolding settle_conflict
    conflict-falls h = sym (rw (settle_conflict, ← key, free, split-is, h))

-- ---- the level's answer

module _ (x : Fixed) (f : FileNumber) (v : Version) (p : Element) (q : Pair) (files : FileSet) (mark : ℕ) (s : State) (below : Result (Unit {0}) Halt) where
  pub settle-done : below ≡ Ok tt → extend_pair f q.a s ≡ settle x f v p q files mark (outcome_is below s)
  unfolding settle
  settle-done k = rw k

  pub settle-conflict : (e : numbers.Element) → below ≡ Err (Conflict e)
      → settle_conflict x f v p q files mark e.0 s ≡ settle x f v p q files mark (outcome_is below s)
  unfolding settle
  settle-conflict e k = rw k

  pub settle-refused : (r : program.Refusal) → below ≡ Err (Refused r) → outcome_is below s ≡ settle x f v p q files mark (outcome_is below s)
  unfolding settle
  settle-refused r k = rw k
