-- What a change keeps, and what the outcome of one may be. Assumes nothing.
use mathlib.Core.Bool.{true, false}
use mathlib.Core.List.{List, ◌∷◌}
use mathlib.Core.Logic.{⊎_elim}
use mathlib.Core.Option.{some}
use mathlib.Core.Path.{◌≡◌, sym, subst, ◌∙◌}
use Prim.Native.Nat.{ℕ, ◌<◌}
use native.Mathlib.Omega.{arith}
use borrow.Author.Tests.{ltb-true}
use lib.Dec.{ltb}
use lib.ListN.{length, get_or, set, length-set}
use Rattle.tables.specs.FileSets.{holds, with_file, part_of}
use Rattle.tables.specs.Limits.{item_limit, log_limit}
use Rattle.tables.specs.Records.{Element, FileNumber, FileSet, Schema, Item, child, Model, Entry, import, restriction, extension, State, Fixed, parent_of, set_of, list_of, put_parent, put_set, put_list, insert_item, content_items}
use Rattle.tables.proofs.Laws.FileSets.{part_of-with_file}
use Rattle.tables.proofs.Laws.Cases.{bool_case}
use Rattle.deck.specs.Schema.{declared_files, declares_file}
use Rattle.state_test.proofs.Laws.Files.{declares-holds}
use Rattle.merge_rules.specs.Import.{adopt, import_at}
use Rattle.merge_rules.specs.Log.{change, restrict, extend}
use Rattle.merge_rules.specs.Pairing.{children}
use Rattle.merge_rules.specs.Refusals.{content_full, done, refused}
use Rattle.merge_rules.specs.Sound.{In, count, Once, ChildValid, ItemInRange, EntryValid, Kept}
use Rattle.merge_rules.proofs.Laws.Cases.{IfDone, is_done, is_refused, done-bind}
use Rattle.merge_rules.proofs.Laws.Lists.{each-cons, get_d_set, child-same, once-insert}
use Rattle.merge_rules.proofs.Laws.Models.{insert-list, insert-items, adopt-in, adopt-parent-cases}

-- ---- outcomes

module _ {D C : State → Type 0} (s : State) where
  change-ok : (e : Entry) (m : Model) → (length s.log < log_limit → D (record { model = m; log = e ∷ s.log })) → IfDone D C (change e m s)
  unfolding change
  change-ok e m h = bool_case (IfDone D C) (ltb (length s.log) log_limit) (λ k. is_done (h (ltb-true _ _ k))) (λ _. is_refused)

  -- a restriction is done where its entry has room
  pub restrict-ok : (e : Element) (files : FileSet)
      → (length s.log < log_limit → D (record { model = put_set s.model e files; log = restriction e (set_of s.model e) ∷ s.log }))
      → IfDone D C (restrict e files s)
  unfolding restrict
  restrict-ok e files h = change-ok _ _ h

  -- an extension is done where the file is there, or where its entry has room
  pub extend-ok : (e : Element) (f : FileNumber) → (holds (set_of s.model e) f ≡ true → D s)
      → (holds (set_of s.model e) f ≡ false → length s.log < log_limit
      → D (record { model = put_set s.model e (with_file (set_of s.model e) f); log = extension e f ∷ s.log }))
      → IfDone D C (extend e f s)
  unfolding extend
  extend-ok e f h k =
      bool_case (IfDone D C) (holds (set_of s.model e) f) (λ held. is_done (h held)) (λ absent. change-ok _ _ (k absent))

-- an import is done where its entry and its item have room
pub import-ok : {D C : State → Type 0} (s : State) (f : FileNumber) (p e : Element) (at : ℕ)
    → (length s.log < log_limit → content_items s.model < item_limit
    → D (record { model = adopt f p e at s.model; log = import e p (parent_of s.model e) (set_of s.model e) ∷ s.log }))
    → IfDone D C (import_at f p e at s)
unfolding import_at
import-ok {D} {C} s f p e at h =
    done-bind {D = λ (t : State). IfDone D C (elim (ltb (content_items s.model) item_limit) [ true ↦ done t | false ↦ refused content_full ])}
    (change-ok s _ _ (λ k. bool_case (IfDone D C) (ltb (content_items s.model) item_limit) (λ i. is_done (h k (ltb-true _ _ i))) (λ _. is_refused)))
    (λ t i. i)

-- ---- declared files

-- a declared file more leaves a set of declared files one
declared-with_file : (sc : Schema) (s : FileSet) (f : FileNumber) → part_of s (declared_files sc) ≡ true → declares_file sc f ≡ true
    → part_of (with_file s f) (declared_files sc) ≡ true
declared-with_file sc s f part known = part_of-with_file s (declared_files sc) f part (sym (declares-holds sc f) ∙ known)

-- ---- a set put

module _ {x : Fixed} {s : State} (k : Kept x s) where
  set-part : (e : Element) (v : FileSet) → part_of v (declared_files x.schema) ≡ true
      → (q : Element) → part_of (get_or (set s.model.sets e v) q 0) (declared_files x.schema) ≡ true
  set-part e v part q =
      get_d_set (λ (u : FileSet). part_of u (declared_files x.schema) ≡ true) s.model.sets e v 0 q (λ _. part) (k.declared q)

  kept_put : (e : Element) (v : FileSet) (entry : Entry) → part_of v (declared_files x.schema) ≡ true
      → length s.log < log_limit → EntryValid x entry → Kept x (record { model = put_set s.model e v; log = entry ∷ s.log })
  unfolding put_set content_items
  kept_put e v entry part few fit =
      record {
        parents = k.parents;
        sets = length-set s.model.sets e v ∙ k.sets;
        lists = k.lists;
        items = k.items;
        fits = k.fits;
        once = k.once;
        deep = k.deep;
        parent_range = k.parent_range;
        declared = set-part e v part;
        few_items = k.few_items;
        few_entries = few;
        entries = each-cons (EntryValid x) fit k.entries;
      }

  -- a restriction keeps it
  pub kept-restrict : (e : Element) (v : FileSet) → e < count x → part_of v (declared_files x.schema) ≡ true → length s.log < log_limit
      → Kept x (record { model = put_set s.model e v; log = restriction e (set_of s.model e) ∷ s.log })
  kept-restrict e v range part few = kept_put e v _ part few (range, k.declared e)

  -- an extension keeps it
  pub kept-extend : (e : Element) (f : FileNumber) → e < count x → declares_file x.schema f ≡ true → length s.log < log_limit
      → Kept x (record { model = put_set s.model e (with_file (set_of s.model e) f); log = extension e f ∷ s.log })
  kept-extend e f range known few =
      kept_put e _ _ (declared-with_file x.schema (set_of s.model e) f (k.declared e) known) few (range, known)

-- ---- an element imported

module _ {x : Fixed} {s : State} (k : Kept x s) (f : FileNumber) (p e : Element) (at : ℕ) (range_p : p < count x) (range_e : e < count x)
    (fit : ChildValid x p e) (fresh : In (child e) (list_of s.model p) → ⊥) where
  -- each list stays without repetition
  adopt-once : (q : Element) → Once (children (list_of (adopt f p e at s.model) q))
  unfolding adopt put_parent put_set
  adopt-once q =
      insert-list s.model p at (child e) (λ (l : List Item). Once (children l)) q
      (λ same. rw same (once-insert e (list_of s.model p) at fresh (k.once p))) (k.once q)

  -- an import keeps it
  pub kept-import : declares_file x.schema f ≡ true → length s.log < log_limit → content_items s.model < item_limit
      → Kept x (record { model = adopt f p e at s.model; log = import e p (parent_of s.model e) (set_of s.model e) ∷ s.log })
  unfolding adopt insert_item put_list put_parent put_set content_items
  kept-import known few room =
      record {
        parents = length-set s.model.parents e (some p) ∙ k.parents;
        sets = length-set s.model.sets e _ ∙ k.sets;
        lists = length-set s.model.lists p _ ∙ k.lists;
        items = λ q i h. ⊎_elim (λ n. subst (ItemInRange x) (sym n.1) range_e) (k.items q i) (adopt-in f p e at s.model q i h);
        fits = λ q c h. ⊎_elim (λ n. rw (n.0, child-same n.1) fit) (k.fits q c) (adopt-in f p e at s.model q (child c) h);
        once = adopt-once;
        deep = λ c q h. ⊎_elim (λ n. rw (n.0, n.1) fit.depth) (k.deep c q) (adopt-parent-cases f p e at s.model c q h);
        parent_range = λ c q h. ⊎_elim (λ n. rw n.1 range_p) (k.parent_range c q) (adopt-parent-cases f p e at s.model c q h);
        declared = set-part k e _ (declared-with_file x.schema (set_of s.model e) f (k.declared e) known);
        few_items = omega (arith, insert-items s.model p at (child e) (omega (arith, k.lists)));
        few_entries = few;
        entries = each-cons (EntryValid x) (range_e, range_p, k.parent_range e, k.declared e) k.entries;
      }
