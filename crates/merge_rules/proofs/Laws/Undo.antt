-- What undoing a change and rolling back a path of changes give. Assumes nothing.
use mathlib.Core.List.Memᴰ
use mathlib.Core.List.{List, [], ◌∷◌, ◌++◌}
use mathlib.Core.Option.{Option, none, some}
use mathlib.Core.Path.{◌≡◌, refl, sym, ◌∙◌, ap}
use Prim.Native.Nat.{ℕ, zero, suc, ◌≤◌}
use native.Mathlib.Omega.{arith}
use borrow.Author.Tests.{eq-eqb, ne_eqb, le-leb, lt-leb}
use lib.ListN.{length}
use lib.Seq.{set-get_or}
use Rattle.tables.specs.FileSets.{with_file, without_file}
use Rattle.tables.specs.Lists.{insert_at, remove_at}
use Rattle.tables.specs.Records.{Element, Item, child, text, Model, Entry, Log, State, parent_of, set_of, list_of, put_parent, put_set, put_list, insert_item, remove_item}
use Rattle.tables.proofs.Laws.FileSets.{without_file-with_file}
use Rattle.tables.proofs.Laws.Model.{put_set-back}
use Rattle.merge_rules.specs.Import.{adopt}
use Rattle.merge_rules.specs.Log.{first_place_of, take_out, undo, undo_to, rollback_merge}
use Rattle.merge_rules.specs.Sound.{In}
use Rattle.merge_rules.proofs.Laws.Lists.{set-undone}
use Rattle.merge_rules.proofs.Laws.Steps.{Change, restricts, extends, imports, Steps, stay, step}

-- ---- a fresh element's place

-- the list without the element's first place, if any
without : Element → List Item → List Item
without e l = elim (first_place_of e l) [ none ↦ l | some i ↦ remove_at l i ]

without-first : (e : Element) (l : List Item) → without e (child e ∷ l) ≡ l
unfolding without first_place_of remove_at
without-first e l = rw (eq-eqb e e refl, first_place_of, without)

-- an item that is not the element stays
without-later : (e : Element) (i : Item) (l : List Item) → first_place_of e (i ∷ l) ≡ elim (first_place_of e l) [ none ↦ none | some n ↦ some (suc n) ]
    → without e (i ∷ l) ≡ i ∷ without e l
unfolding without remove_at
without-later e i l h = rw (h, without) (go (first_place_of e l))
  where
    go : (o : Option ℕ)
        → ◌≡◌ {A = List Item}
        (elim (elim o as (λ _. Option ℕ) [ none ↦ none | some n ↦ some (suc n) ]) [ none ↦ i ∷ l | some n ↦ remove_at (i ∷ l) n ])
        (i ∷ elim o [ none ↦ l | some n ↦ remove_at l n ])
    go none = refl
    go (some n) = refl

-- a fresh element put in and taken out gives the list back
without-inserted : (e : Element) (l : List Item) (at : ℕ) → (In (child e) l → ⊥) → without e (insert_at l at (child e)) ≡ l
unfolding insert_at first_place_of
without-inserted e l zero fresh = without-first e l
without-inserted e [] (suc at) fresh = without-first e []
without-inserted e (child c ∷ l) (suc at) fresh =
    without-later e (child c) (insert_at l at (child e)) (rw (ne_eqb c e (λ q. fresh (Memᴰ.head (ap child (sym q)))), first_place_of))
    ∙ ap (λ r. child c ∷ r) (without-inserted e l at (λ h. fresh (Memᴰ.tail h)))
without-inserted e (text t ∷ l) (suc at) fresh =
    without-later e (text t) (insert_at l at (child e)) refl ∙ ap (λ r. text t ∷ r) (without-inserted e l at (λ h. fresh (Memᴰ.tail h)))

take_out-list : (e p : Element) (m : Model) → take_out e p m ≡ put_list m p (without e (list_of m p))
unfolding take_out without put_list remove_item
take_out-list e p m = go (first_place_of e (list_of m p))
  where
    go : (o : Option ℕ)
        → ◌≡◌ {A = Model} (elim o [ none ↦ m | some i ↦ remove_item m p i ])
        (put_list m p (elim o [ none ↦ list_of m p | some i ↦ remove_at (list_of m p) i ]))
    go none = simp set-get_or
    go (some i) = refl

-- ---- one change

-- undoing a change gives back the model before it
pub undo-change : {m n : Model} {e : Entry} → Change m e n → undo e n ≡ m
unfolding undo adopt insert_item put_list put_set put_parent
undo-change {m} (restricts e files) = put_set-back m e files
undo-change {m} (extends e f absent) =
    λ i.
    record {
      parents = m.parents;
      sets = set-undone m.sets e 0 _ (λ s. without_file s f) (without_file-with_file (set_of m e) f absent) i;
      lists = m.lists;
    }
undo-change {m} (imports f p e at fresh) =
    rw (take_out-list e p (adopt f p e at m))
    (λ i.
    record {
      parents = set-undone m.parents e none (some p) (λ _. parent_of m e) refl i;
      sets = set-undone m.sets e 0 (with_file (set_of m e) f) (λ _. set_of m e) refl i;
      lists = set-undone m.lists p [] _ (without e) (without-inserted e (list_of m p) at fresh) i;
    })

-- ---- paths of changes

-- paths join
pub steps-append : {s t u : State} → Steps s t → Steps t u → Steps s u
steps-append p stay = p
steps-append p (step q c) = step (steps-append p q) c

-- the log behind a path of changes ends in the log before it
pub steps-log : {s t : State} → Steps s t → (l : Log) × (t.log ≡ l ++ s.log)
steps-log stay = ([], refl)
steps-log (step {e = e} p c) = let (l, h) = steps-log p in (e ∷ l, ap (λ r. e ∷ r) h)

-- no path makes the log shorter
pub steps-longer : {s t : State} → Steps s t → length s.log ≤ length t.log
steps-longer stay = omega arith
steps-longer (step p c) = omega (arith, steps-longer p)

-- ---- rollback

undo_to-past : (mark : ℕ) (e : Entry) (l : Log) (m : Model) → mark ≤ length l → undo_to mark (e ∷ l) m ≡ undo_to mark l (undo e m)
unfolding undo_to
undo_to-past mark e l m h = rw (le-leb mark (length l) h, undo_to)

undo_to-length : (l : Log) (m : Model) → undo_to (length l) l m ≡ record { model = m; log = l }
unfolding undo_to
undo_to-length [] m = refl
undo_to-length (e ∷ l) m = rw (lt-leb (suc (length l)) (length l) (omega arith), undo_to)

-- a rollback to a mark that a path of changes starts at or above takes the path back first
rollback-through : {s t : State} → Steps s t → (mark : ℕ) → mark ≤ length s.log → rollback_merge mark t ≡ rollback_merge mark s
unfolding rollback_merge
rollback-through stay mark h = refl
rollback-through (step {t} {e} {m} p c) mark h =
    rw (undo_to-past mark e t.log m (omega (arith, steps-longer p)), undo-change c) (rollback-through p mark h)

-- a rollback to the length of the log that a path of changes starts at gives back that state
pub rollback-steps : {s t : State} → Steps s t → rollback_merge (length s.log) t ≡ s
unfolding rollback_merge
rollback-steps {s} p = rollback-through p (length s.log) (omega arith) ∙ undo_to-length s.log s.model
