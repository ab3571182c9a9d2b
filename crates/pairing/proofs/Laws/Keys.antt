-- Laws of keys: a list's sole text, an element's identifier and DEFINITION-REF child, and their strings. Assumes nothing.
use mathlib.Core.Bool.{Bool, true, false}
use mathlib.Core.List.{List, [], ◌∷◌}
use mathlib.Core.Option.{Option, none, some}
use mathlib.Core.Path.{◌≡◌, refl, sym, ap, subst, ◌∙◌}
use Prim.Native.Nat.{ℕ, ◌+◌, ◌<◌, ◌≤◌}
use native.Mathlib.Numerals.{add-one}
use native.Mathlib.Omega.{arith}
use borrow.Author.Tests.{eq-eqb, ne_eqb}
use lib.Dec.{eqb}
use lib.ListN.{length, get_or, drop, drop_of_length-le}
use lib.Seq.{drop-cons}
use Rattle.tables.specs.Lists.{first_of}
use Rattle.tables.specs.Records.{Element, Text, enum_number, string, whole_number, float, Item, child, text, Model, Fixed, type_row, name_of, type_of, text_of, list_of}
use Rattle.tables.specs.ElementsTable.{elements_of}
use Rattle.tables.specs.ModelTable.{item_is, flat, start_of, count_of, model_of, ItemBelow}
use Rattle.tables.specs.SchemaTable.{schema_of}
use Rattle.tables.specs.Texts.{value_of, bytes_at, place_of, place_in, text_in}
use Rattle.tables.specs.declared.model.Item as program
use Rattle.tables.specs.declared.model.Item.TheVariants.{Child as ChildItem, Text as TextItem}
use Rattle.tables.specs.declared.numbers.Element as numbers
use Rattle.tables.specs.declared.text.Place as code
use Rattle.tables.specs.declared.text.Text as code_text
use Rattle.tables.specs.declared.text.Text.TheVariants.{Number, Str, Whole}
use Rattle.tables.proofs.Laws.Cells.{each-get_d}
use Rattle.tables.proofs.Laws.Lists.{get_d-flat}
use Rattle.tables.proofs.Laws.ModelTable.{item-below, listed_below, start-room, total-flat}
use Rattle.table_test.specs.ElementsTest.{TextIn}
use Rattle.table_test.specs.Passing.{ItemTextIn}
use Rattle.deck.specs.Schema.{short_name, definition_ref}
use Rattle.std.specs.Prelude as program_option
use Rattle.schema_calls.specs.Calls.{Finds, found_in}
use Rattle.schema_calls.proofs.Laws.Scans.{found-at, found-missing}
use Rattle.merge_rules.specs.Pairing.{children, children_of, string_of, sole_text, element_text, sole_string, leading_short_name, identifier, identifiable, item_name, definition_child, definition}
use Rattle.std.specs.Prelude.{Some, None, is_some}
use Rattle.table_test.specs.Fits.{GoodFixed, ModelFits}
use Rattle.pairing.specs.Keys.{Key, Keys, Child, child_is, ChildIn, FindsChild}
use Rattle.table_test.proofs.Laws.Tested.{type-in}

-- ---- numbers in range

pub element-type-in : {deck schema es : List ℕ} → GoodFixed deck schema es → (e : ℕ) → e < length (elements_of es).names → {t : ℕ}
    → t ≡ get_or (elements_of es).types e 0 → t < length (schema_of schema).types
element-type-in {schema = schema} {es = es} g e h k = rw k (type-in es (length (schema_of schema).types) e g.elements_good g.types_in h)

-- item i of the list of e
module _ {n texts : ℕ} {model : List ℕ} (f : ModelFits n texts model) (e i : ℕ) (h : i < length (list_of (model_of model) e)) {a : program.Item} (is : item_is a ≡ get_or (list_of (model_of model) e) i (child 0)) where
  pub child-in : {c : numbers.Element} → a ≡ ChildItem c → c.0 < n
  child-in {c} k =
      let z : c.0 < count_of (model_of model) = subst (ItemBelow (count_of (model_of model))) (sym is ∙ ap item_is k) (item-below model f.good e i h) in
      omega (arith, f.same)

  pub text_in_lem : {t : ℕ} → a ≡ TextItem t → t < texts
  text_in_lem k =
      let m = model_of model in
      let r = start-room model f.good e (listed_below model f.good e i h) in
      let w : start_of m.lists e + i < length (flat m.lists) = rw (total-flat m f.good.sized) (omega arith) in
      subst (ItemTextIn texts) (get_d-flat m.lists e i (child 0) h ∙ sym is ∙ ap item_is k)
      (each-get_d (ItemTextIn texts) (flat m.lists) (start_of m.lists e + i) (child 0) f.items w)

-- ---- texts

module _ {es : List ℕ} (t : ℕ) (h : t < length (elements_of es).texts) where
  pub stored-fits : {deck schema : List ℕ} → GoodFixed deck schema es → TextIn (length deck) (get_or (elements_of es).texts t (enum_number 0))
  stored-fits {deck = deck} g = each-get_d (TextIn (length deck)) (elements_of es).texts t (enum_number 0) g.texts h

value_in : (deck : List ℕ) (t : Text) → TextIn (length deck) t → text_in deck (value_of t)
unfolding value_of
value_in deck (enum_number n) h = tt
value_in deck (string p) h = h
value_in deck (whole_number n) h = tt
value_in deck (float b) h = tt

pub stored-in : {deck schema es : List ℕ} → GoodFixed deck schema es → (t : ℕ) → t < length (elements_of es).texts → {v : code_text.Text} → v ≡ value_of (get_or (elements_of es).texts t (enum_number 0)) → text_in deck v
stored-in {deck = deck} {es = es} g t h e = subst (text_in deck) (sym e) (value_in deck (get_or (elements_of es).texts t (enum_number 0)) (stored-fits t h g))

pub string-is : (x : Fixed) (t : Text) → TextIn (length x.deck) t → {v : code_text.Text} → v ≡ value_of t → {p : code.Place} → v ≡ Str p → Keys x.deck (Some p) (string_of x t)
unfolding value_of string_of
string-is x (enum_number n) h e {p} k =
    let y : Number n ≡ Str p = sym e ∙ k in
    let z : ◌≡◌ {A = ℕ} 0 1 = cc in
    absurd (omega arith)
string-is x (string q) h {v} e {p} k =
    let y : Str p ≡ Str (record { start = q.start; size = q.size }) = sym k ∙ e in
    let z : p ≡ record { start = q.start; size = q.size } = cc in
    record { is = ap (λ (w : code.Place). some (bytes_at x.deck (place_of w))) z; within = subst (place_in x.deck) (sym z) h }
string-is x (whole_number n) h e {p} k =
    let y : Whole n ≡ Str p = sym e ∙ k in
    let z : ◌≡◌ {A = ℕ} 0 1 = cc in
    absurd (omega arith)
string-is x (float b) h e {p} k =
    let y = sym e ∙ k in
    let z : ◌≡◌ {A = ℕ} 0 1 = cc in
    absurd (omega arith)

pub not-string : (x : Fixed) (t : Text) {v : code_text.Text} → v ≡ value_of t → ((p : code.Place) → v ≡ Str p → ⊥) → Keys x.deck None (string_of x t)
unfolding value_of string_of
not-string x (enum_number n) e k = record { is = refl; within = tt }
not-string x (string p) e k = absurd (k (record { start = p.start; size = p.size }) e)
not-string x (whole_number n) e k = record { is = refl; within = tt }
not-string x (float b) e k = record { is = refl; within = tt }

-- ---- a list's sole text

not-one : (x : Fixed) (l : List Item) → (length l ≡ 1 → ⊥) → sole_text x l ≡ none
unfolding sole_text
not-one x [] k = refl
not-one x (child e ∷ l) k = refl
not-one x (text t ∷ []) k = absurd (k refl)
not-one x (text t ∷ a ∷ l) k = refl

sole-item : (l : List Item) → length l ≡ 1 → l ≡ get_or l 0 (child 0) ∷ []
sole-item [] h = absurd (omega arith)
sole-item (a ∷ []) h = refl
sole-item (a ∷ b ∷ l) h = absurd (omega arith)

module _ (x : Fixed) (l : List Item) {n : ℕ} (en : n ≡ length l) where
  pub sole-not : (n ≡ 1 → ⊥) → Finds (enum_number 0) x.elements.texts None (sole_text x l)
  unfolding found_in
  sole-not k = record { is = sym (not-one x l (λ z. k (en ∙ z))); within = tt }

  module _ (one : n ≡ 1) {a : program.Item} (ea : item_is a ≡ get_or l 0 (child 0)) where
    sole-as : {b : program.Item} → a ≡ b → sole_text x (item_is b ∷ []) ≡ sole_text x l
    sole-as k = sym (ap (sole_text x) (sole-item l (sym en ∙ one) ∙ ap (λ (z : Item). z ∷ []) (sym ea ∙ ap item_is k)))

    pub sole-child : {c : numbers.Element} → a ≡ ChildItem c → Finds (enum_number 0) x.elements.texts None (sole_text x l)
    unfolding found_in sole_text
    sole-child k = record { is = sole-as k; within = tt }

    pub sole-is : {t : ℕ} → a ≡ TextItem t → t < length x.elements.texts → Finds (enum_number 0) x.elements.texts (Some t) (sole_text x l)
    unfolding found_in sole_text
    sole-is k h = record { is = sole-as k; within = h }

module _ (x : Fixed) (m : Model) (e : ℕ) {r : program_option.Option ℕ} (f : Finds (enum_number 0) x.elements.texts r (sole_text x (list_of m e))) where
  pub string-missing : r ≡ None → Keys x.deck None (sole_string x m e)
  unfolding sole_string element_text
  string-missing k = record { is = rw (sole_string, element_text, found-missing f k); within = tt }

  pub string-found : {t : ℕ} → r ≡ Some t → {k : Key} → Keys x.deck k (string_of x (text_of x t)) → Keys x.deck k (sole_string x m e)
  unfolding sole_string element_text
  string-found k s = record { is = s.is ∙ rw (sole_string, element_text, found-at f k); within = s.within }

-- ---- what an answer tells

module _ {n : ℕ} {r : Child} {o : Option ℕ} (f : FindsChild n r o) where
  pub child-at : {c : numbers.Element} → r ≡ Some c → o ≡ some c.0
  child-at k = sym f.is ∙ ap child_is k

  pub child-within : {c : numbers.Element} → r ≡ Some c → c.0 < n
  child-within k = subst (ChildIn n) k f.within

  pub child-missing : r ≡ None → o ≡ none
  child-missing k = sym f.is ∙ ap child_is k

-- ---- the identifier

leading-none : (x : Fixed) (l : List Item) → length l ≡ 0 → leading_short_name x l ≡ none
unfolding leading_short_name
leading-none x [] h = refl
leading-none x (a ∷ l) h = absurd (omega arith)

leading-first : (x : Fixed) (l : List Item) → (length l ≡ 0 → ⊥) → leading_short_name x l ≡ leading_short_name x (get_or l 0 (child 0) ∷ [])
unfolding leading_short_name
leading-first x [] h = absurd (h refl)
leading-first x (child e ∷ l) h = refl
leading-first x (text t ∷ l) h = refl

module _ (n : ℕ) (x : Fixed) (m : Model) (e : ℕ) {t : ℕ} (et : t ≡ type_of x e) {b : Bool} (eb : b ≡ (type_row x.schema t).named) where
  named-is : (type_row x.schema (type_of x e)).named ≡ b
  named-is = sym (eb ∙ ap (λ (u : ℕ). (type_row x.schema u).named) et)

  pub identifier-unnamed : b ≡ false → FindsChild n None (identifier x m e)
  unfolding identifier
  identifier-unnamed k = record { is = rw (identifier, named-is ∙ k); within = tt }

  module _ (named : b ≡ true) {size : ℕ} (es : size ≡ length (list_of m e)) where
    named-identifier : identifier x m e ≡ leading_short_name x (list_of m e)
    unfolding identifier
    named-identifier = rw (identifier, named-is ∙ named)

    pub identifier-empty : size ≡ 0 → FindsChild n None (identifier x m e)
    identifier-empty k = record { is = sym (named-identifier ∙ leading-none x (list_of m e) (sym es ∙ k)); within = tt }

    module _ (some_item : size ≡ 0 → ⊥) {a : program.Item} (ea : item_is a ≡ get_or (list_of m e) 0 (child 0)) where
      identifier-as : {c : program.Item} → a ≡ c → identifier x m e ≡ leading_short_name x (item_is c ∷ [])
      identifier-as k =
          named-identifier ∙ leading-first x (list_of m e) (λ z. some_item (es ∙ z)) ∙ ap (λ (i : Item). leading_short_name x (i ∷ [])) (sym ea ∙ ap item_is k)

      pub identifier-text : {i : ℕ} → a ≡ TextItem i → FindsChild n None (identifier x m e)
      unfolding leading_short_name
      identifier-text k = record { is = sym (identifier-as k); within = tt }

      module _ {c : numbers.Element} (k : a ≡ ChildItem c) {name : ℕ} (en : name ≡ name_of x c.0) where
        pub identifier-other : (name ≡ short_name → ⊥) → FindsChild n None (identifier x m e)
        unfolding leading_short_name
        identifier-other h = record { is = sym (identifier-as k ∙ rw (leading_short_name, ← en, ne_eqb name 1 h)); within = tt }

        pub identifier-is : name ≡ short_name → c.0 < n → FindsChild n (Some c) (identifier x m e)
        unfolding leading_short_name
        identifier-is h l = record { is = sym (identifier-as k ∙ rw (leading_short_name, ← en, eq-eqb name 1 h)); within = l }

pub identifiable-is : (x : Fixed) (m : Model) (e : ℕ) {n : ℕ} (r : Child) → FindsChild n r (identifier x m e) → is_some r ≡ identifiable x m e
unfolding identifiable
identifiable-is x m e (Some c) f = rw (identifiable, child-at f refl)
identifiable-is x m e None f = rw (identifiable, child-missing f refl)

module _ (x : Fixed) (m : Model) (e : ℕ) {n : ℕ} {r : Child} (f : FindsChild n r (identifier x m e)) where
  pub name-missing : r ≡ None → Keys x.deck None (item_name x m e)
  unfolding item_name
  name-missing k = record { is = rw (item_name, child-missing f k); within = tt }

  pub name-found : {c : numbers.Element} → r ≡ Some c → {q : Key} → Keys x.deck q (sole_string x m c.0) → Keys x.deck q (item_name x m e)
  unfolding item_name
  name-found k s = record { is = s.is ∙ rw (item_name, child-at f k); within = s.within }

module _ (x : Fixed) (m : Model) (e : ℕ) {n : ℕ} {r : Child} (f : FindsChild n r (definition_child x m e)) where
  pub definition-missing : r ≡ None → Keys x.deck None (definition x m e)
  unfolding definition
  definition-missing k = record { is = rw (definition, child-missing f k); within = tt }

  pub definition-found : {c : numbers.Element} → r ≡ Some c → {q : Key} → Keys x.deck q (sole_string x m c.0) → Keys x.deck q (definition x m e)
  unfolding definition
  definition-found k s = record { is = s.is ∙ rw (definition, child-at f k); within = s.within }

-- ---- the first DEFINITION-REF child: what is left to read gives what the whole gives

pub first-yes : (t : ℕ → Bool) (a : ℕ) (l : List ℕ) → t a ≡ true → first_of t (a ∷ l) ≡ some a
unfolding first_of
first-yes t a l h = rw (first_of, h)

pub first-no : (t : ℕ → Bool) (a : ℕ) (l : List ℕ) → t a ≡ false → first_of t (a ∷ l) ≡ first_of t l
unfolding first_of
first-no t a l h = rw (first_of, h)

abbrev pub is_definition : Fixed → Element → Bool
is_definition x c = eqb (name_of x c) definition_ref

module _ (x : Fixed) (m : Model) (e : ℕ) where
  pub definition-start : first_of (is_definition x) (children (drop 0 (list_of m e))) ≡ definition_child x m e
  unfolding definition_child children_of
  definition-start = refl

  module _ (n i : ℕ) (left : first_of (is_definition x) (children (drop i (list_of m e))) ≡ definition_child x m e) where
    pub definition-end : length (list_of m e) ≤ i → FindsChild n None (definition_child x m e)
    unfolding children first_of
    definition-end h =
        record { is = sym (ap (λ (l : List Item). first_of (is_definition x) (children l)) (drop_of_length-le (list_of m e) {i = i} h)) ∙ left; within = tt }

    module _ (h : i < length (list_of m e)) {a : program.Item} (ea : item_is a ≡ get_or (list_of m e) i (child 0)) where
      here : {c : program.Item} → a ≡ c → first_of (is_definition x) (children (item_is c ∷ drop (i + 1) (list_of m e))) ≡ definition_child x m e
      here k =
          sym (ap (λ (l : List Item). first_of (is_definition x) (children l))
          (drop-cons (list_of m e) i (child 0) h ∙ (λ j. (sym ea ∙ ap item_is k) j ∷ drop (sym (add-one i) j) (list_of m e))))
          ∙ left

      pub definition-text : {t : ℕ} → a ≡ TextItem t → first_of (is_definition x) (children (drop (i + 1) (list_of m e))) ≡ definition_child x m e
      unfolding children
      definition-text k = here k

      module _ {c : numbers.Element} (k : a ≡ ChildItem c) {name : ℕ} (en : name ≡ name_of x c.0) where
        pub definition-other : (name ≡ definition_ref → ⊥) → first_of (is_definition x) (children (drop (i + 1) (list_of m e))) ≡ definition_child x m e
        unfolding children
        definition-other z =
            sym (first-no (is_definition x) c.0 (children (drop (i + 1) (list_of m e))) (rw (← en) (ne_eqb name 2 z))) ∙ here k

        pub definition-is : name ≡ definition_ref → c.0 < n → FindsChild n (Some c) (definition_child x m e)
        unfolding children
        definition-is z l =
            record {
              is = sym (first-yes (is_definition x) c.0 (children (drop (i + 1) (list_of m e))) (rw (← en) (eq-eqb name 2 z))) ∙ here k;
              within = l;
            }
