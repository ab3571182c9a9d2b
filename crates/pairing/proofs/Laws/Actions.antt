-- Laws of the action of two cursor children, way by way. Assumes nothing.
use mathlib.Core.Bool.{Bool, true, false}
use mathlib.Core.List.{List, []}
use mathlib.Core.Logic.{◌⊎◌, inl, inr}
use mathlib.Core.Option.{Option, none, some}
use mathlib.Core.Path.{◌≡◌, refl, sym, ap, ◌∙◌}
use Prim.Native.Nat.{ℕ, Ordering}
use borrow.Author.Tests.{eq-eqb, ne_eqb}
use lib.Dec.{eqb}
use lib.ListN.{get_or}
use Rattle.tables.specs.Paths.{path_order, order_of}
use Rattle.tables.specs.Records.{enum_number, SchemaPath, SubElement, Model, Fixed, name_of, text_of, list_of}
use Rattle.tables.specs.SchemaTable.{no_sub_element}
use Rattle.tables.specs.Texts.{same_values, value_of}
use Rattle.tables.specs.declared.numbers.Element as numbers
use Rattle.std.specs.declared.cmp.Ordering as program_order
use Rattle.std.specs.declared.cmp.Ordering.TheVariants.{Less, Equal, Greater}
use Rattle.tables.specs.declared.text.Text as code_text
use Rattle.tables.proofs.Laws.Texts.{same-values}
use Rattle.deck.specs.Schema.{row_of_name}
use Rattle.std.specs.Prelude as program_option
use Rattle.schema_calls.specs.Calls.{Finds}
use Rattle.schema_calls.proofs.Laws.Scans.{found-at, found-missing}
use Rattle.merge_rules.specs.Pairing.{sole_text, element_text, identifiable, item_name, definition, same_key, same_texts, Action, a_only, b_only, sibling, calc_identifiables_merge, calc_element_merge, path_of, action_by_path, action_of}
use Rattle.std.specs.Prelude.{Some, None}
use Rattle.pairing.specs.declared.action.Action as program
use Rattle.pairing.specs.declared.action.Action.TheVariants.{MergeEqual, MergeUnequal, AOnly, BOnly, UnmergeableParent}
use Rattle.pairing.specs.Actions.{Acts, Sought, Decision, Decides}
use Rattle.pairing.specs.declared.keys.KeyKind.{KeyKind}
use Rattle.pairing.specs.declared.keys.KeyKind.TheVariants.{ItemName, Definition}
use Rattle.pairing.specs.Keys.{Key, key_is, Keys, is_name, key_by, Child, FindsChild}
use Rattle.pairing.proofs.Laws.Keys.{child-at, child-within, child-missing}

-- ---- names differ

-- the path of a row, or none
unfoldable pub path_in : Option SubElement → SchemaPath
path_in none = []
path_in (some r) = r.path

path-by-row : (x : Fixed) (t n : ℕ) → path_of x t n ≡ path_in (row_of_name x.schema t n)
unfolding path_of row_of_name path_in
path-by-row x t n = refl

module _ (x : Fixed) (t n : ℕ) {r : program_option.Option ℕ} (f : Finds no_sub_element x.schema.sub_elements r (row_of_name x.schema t n)) where
  pub path-found : {i : ℕ} → r ≡ Some i → {p : SchemaPath} → p ≡ (get_or x.schema.sub_elements i no_sub_element).path → p ≡ path_of x t n
  unfolding path_in
  path-found k e = e ∙ sym (path-by-row x t n ∙ ap path_in (found-at f k))

  pub path-missing : r ≡ None → [] ≡ path_of x t n
  unfolding path_in
  path-missing k = sym (path-by-row x t n ∙ ap path_in (found-missing f k))

unfoldable pub by_order : program_order.Ordering → Action
by_order Less = a_only
by_order Equal = b_only
by_order Greater = b_only

by-order : (o : Ordering) → elim o [ Ordering.lt ↦ a_only | Ordering.eq ↦ b_only | Ordering.gt ↦ b_only ] ≡ by_order (order_of o)
unfolding by_order order_of
by-order Ordering.lt = refl
by-order Ordering.eq = refl
by-order Ordering.gt = refl

module _ (n : ℕ) (x : Fixed) (t a b : ℕ) {na nb : ℕ} (ea : na ≡ name_of x a) (eb : nb ≡ name_of x b) {p q : SchemaPath} (ep : p ≡ path_of x t na) (eq : q ≡ path_of x t nb)
    {o : program_order.Ordering} (eo : o ≡ order_of (path_order p q)) where
  ordered : action_by_path x t a b ≡ by_order o
  unfolding action_by_path
  ordered =
      by-order (path_order (path_of x t (name_of x a)) (path_of x t (name_of x b)))
      ∙ ap by_order (sym (eo ∙ (λ i. order_of (path_order ((ep ∙ ap (path_of x t) ea) i) ((eq ∙ ap (path_of x t) eb) i)))))

  pub path-less : o ≡ Less → Acts n AOnly (action_by_path x t a b)
  unfolding by_order
  path-less k = record { is = sym (ordered ∙ ap by_order k); within = tt }

  pub path-not-less : (o ≡ Equal) ⊎ (o ≡ Greater) → Acts n BOnly (action_by_path x t a b)
  unfolding by_order
  path-not-less (inl k) = record { is = sym (ordered ∙ ap by_order k); within = tt }
  path-not-less (inr k) = record { is = sym (ordered ∙ ap by_order k); within = tt }

-- ---- the texts

module _ (x : Fixed) (m : Model) (a b : ℕ) {r s : program_option.Option ℕ} (f : Finds (enum_number 0) x.elements.texts r (sole_text x (list_of m a))) (g : Finds (enum_number 0) x.elements.texts s (sole_text x (list_of m b))) where
  pub texts-both : {t u : ℕ} → r ≡ Some t → s ≡ Some u → {v w : code_text.Text} → v ≡ value_of (text_of x t) → w ≡ value_of (text_of x u) → {o : Bool} → o ≡ same_values x.deck v w
      → o ≡ same_texts x (element_text x m a) (element_text x m b)
  unfolding element_text same_texts
  texts-both {t} {u} h k ev ew e =
      e ∙ (λ i. same_values x.deck (ev i) (ew i)) ∙ sym (same-values x.deck (text_of x t) (text_of x u)) ∙ sym (λ i. same_texts x (found-at f h i) (found-at g k i))

  pub texts-first : {t : ℕ} → r ≡ Some t → s ≡ None → false ≡ same_texts x (element_text x m a) (element_text x m b)
  unfolding element_text same_texts
  texts-first h k = sym (λ i. same_texts x (found-at f h i) (found-missing g k i))

  pub texts-second : {u : ℕ} → r ≡ None → s ≡ Some u → false ≡ same_texts x (element_text x m a) (element_text x m b)
  unfolding element_text same_texts
  texts-second h k = sym (λ i. same_texts x (found-missing f h i) (found-at g k i))

  pub texts-none : r ≡ None → s ≡ None → true ≡ same_texts x (element_text x m a) (element_text x m b)
  unfolding element_text same_texts
  texts-none h k = sym (λ i. same_texts x (found-missing f h i) (found-missing g k i))

-- ---- the search

module _ (n : ℕ) (x : Fixed) (m : Model) (splittable : Bool) (bs : List ℕ) (a b : ℕ) (d : same_key (item_name x m a) (item_name x m b) ≡ false) {r : Child} (f : FindsChild n r (sibling x (item_name x m) bs a)) where
  pub named-sibling : {c : numbers.Element} → r ≡ Some c → Acts n (MergeUnequal c) (calc_identifiables_merge x m splittable bs a b)
  unfolding calc_identifiables_merge
  named-sibling g = record { is = rw (calc_identifiables_merge, d, child-at f g); within = child-within f g }

  pub named-split : r ≡ None → splittable ≡ true → Acts n AOnly (calc_identifiables_merge x m splittable bs a b)
  unfolding calc_identifiables_merge
  named-split g s = record { is = rw (calc_identifiables_merge, d, child-missing f g, s); within = tt }

  pub named-unmergeable : r ≡ None → splittable ≡ false → Acts n UnmergeableParent (calc_identifiables_merge x m splittable bs a b)
  unfolding calc_identifiables_merge
  named-unmergeable g s = record { is = rw (calc_identifiables_merge, d, child-missing f g, s); within = tt }

module _ (n : ℕ) (x : Fixed) (m : Model) (bs : List ℕ) (a b : ℕ) (d : same_key (definition x m a) (definition x m b) ≡ false) {r : Child} (f : FindsChild n r (sibling x (definition x m) bs a)) where
  pub defined-sibling : {c : numbers.Element} → r ≡ Some c → Acts n (MergeUnequal c) (calc_element_merge x m bs a b)
  unfolding calc_element_merge
  defined-sibling g = record { is = rw (calc_element_merge, d, child-at f g); within = child-within f g }

  pub defined-none : r ≡ None → Acts n AOnly (calc_element_merge x m bs a b)
  unfolding calc_element_merge
  defined-none g = record { is = rw (calc_element_merge, d, child-missing f g); within = tt }

keys-other : (x : Fixed) (m : Model) (a b : ℕ) → Sought x m a b → {i : Bool} → i ≡ identifiable x m a → same_key (key_by i x m a) (key_by i x m b) ≡ false
keys-other x m a b d ei = rw ei d.key

module _ {n : ℕ} (x : Fixed) (m : Model) (t : ℕ) (splittable : Bool) (bs : List ℕ) (a b : ℕ) (d : Sought x m a b) {i : Bool} (ei : i ≡ identifiable x m a) {r : program.Action} where
  pub search-named : i ≡ true → (same_key (item_name x m a) (item_name x m b) ≡ false → Acts n r (calc_identifiables_merge x m splittable bs a b)) → Acts n r (action_of x m t splittable bs a b)
  unfolding action_of
  search-named k s =
      let o = s (rw k at (keys-other x m a b d ei)) in
      record { is = o.is ∙ rw (action_of, eq-eqb (name_of x a) (name_of x b) d.name, sym ei ∙ k); within = o.within }

  pub search-defined : i ≡ false → (same_key (definition x m a) (definition x m b) ≡ false → Acts n r (calc_element_merge x m bs a b)) → Acts n r (action_of x m t splittable bs a b)
  unfolding action_of
  search-defined k s =
      let o = s (rw k at (keys-other x m a b d ei)) in
      record { is = o.is ∙ rw (action_of, eq-eqb (name_of x a) (name_of x b) d.name, sym ei ∙ k); within = o.within }

-- ---- what the cursor children decide

pub is-name : (k : KeyKind) → k ≡ ItemName → is_name k ≡ true
is-name k h = ap is_name h

pub not-name : (k : KeyKind) → (k ≡ ItemName → ⊥) → is_name k ≡ false
not-name ItemName h = absurd (h refl)
not-name Definition h = refl

keys-same : {deck : List ℕ} {j k : Key} {o p : Option (List ℕ)} → Keys deck j o → Keys deck k p → {r : Bool} → r ≡ same_key (key_is deck j) (key_is deck k) → same_key o p ≡ r
keys-same f g e = sym (e ∙ (λ i. same_key (f.is i) (g.is i)))

names-by : (x : Fixed) (a b : ℕ) {na nb : ℕ} → na ≡ name_of x a → nb ≡ name_of x b → eqb (name_of x a) (name_of x b) ≡ eqb na nb
names-by x a b ea eb = sym (λ i. eqb (ea i) (eb i))

module _ (n : ℕ) (x : Fixed) (m : Model) (t a b : ℕ) {na nb : ℕ} (ea : na ≡ name_of x a) (eb : nb ≡ name_of x b) where
  pub decide-path : (na ≡ nb → ⊥) → {r : program.Action} → Acts n r (action_by_path x t a b) → Decides n x m t a b (Some r)
  unfolding action_of
  decide-path h s =
      record { is = λ splittable bs. record { is = s.is ∙ rw (action_of, names-by x a b ea eb ∙ ne_eqb na nb h); within = s.within } }

  module _ (h : na ≡ nb) {i : Bool} (ei : i ≡ identifiable x m a) {j k : Key} (fa : Keys x.deck j (key_by i x m a)) (fb : Keys x.deck k (key_by i x m b))
      {o : Bool} (e : o ≡ same_key (key_is x.deck j) (key_is x.deck k)) where
    pub decide-search : o ≡ false → Decides n x m t a b None
    decide-search g = record { is = record { name = sym ea ∙ h ∙ eb; key = rw (← ei) (keys-same fa fb e ∙ g) } }

    module _ (g : o ≡ true) where
      pub decide-named : i ≡ true → Decides n x m t a b (Some MergeEqual)
      unfolding action_of calc_identifiables_merge
      decide-named l =
          let same = rw l at (keys-same fa fb e ∙ g) in
          record { is = λ splittable bs. record { is = rw (action_of, names-by x a b ea eb ∙ eq-eqb na nb h, sym ei ∙ l, calc_identifiables_merge, same); within = tt } }

      module _ (l : i ≡ false) {r : Bool} (er : r ≡ same_texts x (element_text x m a) (element_text x m b)) where
        pub decide-texts : r ≡ true → Decides n x m t a b (Some MergeEqual)
        unfolding action_of calc_element_merge
        decide-texts p =
            let same = rw l at (keys-same fa fb e ∙ g) in
            record { is = λ splittable bs. record { is = rw (action_of, names-by x a b ea eb ∙ eq-eqb na nb h, sym ei ∙ l, calc_element_merge, same, sym er ∙ p); within = tt } }

        pub decide-first : r ≡ false → Decides n x m t a b (Some AOnly)
        unfolding action_of calc_element_merge
        decide-first p =
            let same = rw l at (keys-same fa fb e ∙ g) in
            record { is = λ splittable bs. record { is = rw (action_of, names-by x a b ea eb ∙ eq-eqb na nb h, sym ei ∙ l, calc_element_merge, same, sym er ∙ p); within = tt } }

-- one step decides, or both
module _ {n : ℕ} {x : Fixed} {m : Model} {t a b : ℕ} {d : Decision} (decides : Decides n x m t a b d) where
  pub decided : {r : program.Action} → d ≡ Some r → (splittable : Bool) (bs : List ℕ) → Acts n r (action_of x m t splittable bs a b)
  decided e = (rw e at decides).is

  pub sought : d ≡ None → Sought x m a b
  sought e = (rw e at decides).is
