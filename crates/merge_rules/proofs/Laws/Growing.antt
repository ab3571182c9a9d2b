-- What is printed of the elements so far stays with one more element, item, text or tree. Assumes nothing.
use mathlib.Core.List.{List, [], ◌∷◌, ◌++◌, append-nil}
use mathlib.Core.Option.{none}
use mathlib.Core.Path.{◌≡◌, refl, ap, ◌∙◌}
use Prim.Native.Nat.{ℕ, suc, ◌+◌, ◌≤◌, ◌<◌}
use native.Mathlib.Nat.{le_refl}
use native.Mathlib.Omega.{arith}
use lib.ListN.{length, get_or, set, length-append, get_or-append, get_or-eq_default}
use lib.Seq.{get_or_at, get_or-set_same, get_or-set_other}
use Rattle.tables.specs.Bytes.{bytes}
use Rattle.tables.specs.Lists.{insert_at}
use Rattle.tables.specs.Records.{Element, Text, enum_number, string, whole_number, float, Tree, Item, Model, Fixed, text_of, set_of, list_of, add_to_model, insert_item, put_list}
use Rattle.tables.proofs.Laws.Lists.{insert_at-behind}
use Rattle.deck.specs.Load.{append}
use Rattle.merge_rules.specs.Program.{decimal_of, hexadecimal_of, line_of, kind_of_text, value_of_text, text_line, element_line, item_lines, element_lines}
use Rattle.merge_rules.specs.Sound.{count}
use Rattle.merge_rules.proofs.Laws.Lists.{get_d-snoc-default}
use Rattle.merge_rules.proofs.Laws.Loading.{NewElement, with_element, depth-added, with_texts_and_trees, with_texts}
use Rattle.merge_rules.proofs.Laws.Rightmost.{Grown}

-- of what is fixed, a text's line takes only the deck
pub text-line-same : (x x' : Fixed) → x'.deck ≡ x.deck → (d : ℕ) (t : Text) → text_line x' d t ≡ text_line x d t
unfolding text_line value_of_text
text-line-same x x' same d t = ap (λ (v : List ℕ). line_of (bytes "C" ∷ decimal_of d ∷ kind_of_text t ∷ v ∷ [])) (value t)
  where
    value : (u : Text) → value_of_text x' u ≡ value_of_text x u
    value (enum_number n) = refl
    value (string p) = rw same
    value (whole_number n) = refl
    value (float n) = refl

-- an item at the end
insert-end : {A : Type 0} (l : List A) (a : A) → insert_at l (length l) a ≡ l ++ (a ∷ [])
unfolding insert_at
insert-end l a = let z : length l + 0 ≡ length l = omega arith in rw (append-nil, z) at (insert_at-behind l [] 0 a)

module _ (x : Fixed) (m : Model) (p : Element) where
  -- an item more
  pub grown-item : (i : Item) → Grown x m x (append m p i) p
  unfolding append insert_item put_list element_line
  grown-item i =
      record {
        more = le_refl (count x);
        line = λ e h. refl;
        depth = λ e h. refl;
        parent = λ e h. refl;
        list = λ e h n. get_or-set_other m.lists p e _ [] n;
        text = λ d t h. refl;
      }

  -- its place
  pub item-put : (i : Item) → p < length m.lists → list_of (append m p i) p ≡ list_of m p ++ (i ∷ [])
  unfolding append insert_item put_list
  item-put i h = get_or-set_same m.lists p _ [] h ∙ insert-end (list_of m p) i

  -- other texts behind those so far, and other trees
  grown-behind : (texts : List Text) (trees : List Tree) → ((t : ℕ) → t < length x.elements.texts → get_or texts t (enum_number 0) ≡ text_of x t)
      → Grown x m (with_texts_and_trees x texts trees) m p
  unfolding element_line
  grown-behind texts trees same =
      record {
        more = le_refl (count x);
        line = λ e h. refl;
        depth = λ e h. refl;
        parent = λ e h. refl;
        list = λ e h n. refl;
        text = λ d t h. text-line-same x (with_texts_and_trees x texts trees) refl d (get_or texts t (enum_number 0)) ∙ ap (text_line x d) (same t h);
      }

  -- a text more
  pub grown-text : (t : Text) → Grown x m (with_texts x (x.elements.texts ++ (t ∷ []))) m p
  grown-text t = grown-behind _ _ (λ k h. get_or-append x.elements.texts (t ∷ []) (enum_number 0) k h)

  -- other trees
  pub grown-trees : (trees : List Tree) → Grown x m (with_texts_and_trees x x.elements.texts trees) m p
  grown-trees trees = grown-behind _ _ (λ t h. refl)

  module _ (new : NewElement) (trees : List Tree) (depths : length x.elements.depths ≡ count x) (parents : length m.parents ≡ count x)
      (sets : length m.sets ≡ count x) where
    abbrev x' : Fixed
    x' = with_element x new trees

    abbrev m' : Model
    m' = add_to_model m new.parent new.set

    kept_set : (e : Element) → e < count x → set_of m' e ≡ set_of m e
    unfolding add_to_model
    kept_set e h = get_or-append m.sets (new.set ∷ []) 0 e (omega arith)

    -- an element more
    pub grown-element : Grown x m x' m' p
    unfolding add_to_model element_line
    grown-element =
        record {
          more = rw length-append (omega arith);
          line = λ e h. rw (depth-added x new trees depths e h, get_or-append x.elements.names (new.name ∷ []) 0 e h, kept_set e h);
          depth = depth-added x new trees depths;
          parent = λ e h. get_or-append m.parents (new.parent ∷ []) none e (omega arith);
          list = λ e h n. get_d-snoc-default m.lists [] e;
          text = λ d t h. text-line-same x x' refl d (text_of x t);
        }

    -- its line is all that is printed of it
    pub new_line : (n : ℕ) → length m.lists ≤ count x
        → element_lines (suc n) x' m' (count x)
        ≡ line_of (bytes "E" ∷ decimal_of new.depth ∷ decimal_of new.name ∷ hexadecimal_of new.set ∷ [])
    unfolding add_to_model element_lines element_line item_lines
    new_line n few =
        rw (
          get_or_at x.elements.depths new.depth [] 0 (count x) depths,
          get_or_at x.elements.names new.name [] 0 (count x) refl,
          get_or_at m.sets new.set [] 0 (count x) sets,
          get_d-snoc-default m.lists [] (count x),
          get_or-eq_default m.lists [] few,
        )
        (append-nil _)

-- one change behind another
pub grown-twice : {x x₁ x₂ : Fixed} {m m₁ m₂ : Model} {p : Element} → length x.elements.texts ≤ length x₁.elements.texts
    → Grown x m x₁ m₁ p → Grown x₁ m₁ x₂ m₂ p → Grown x m x₂ m₂ p
grown-twice texts g h =
    record {
      more = omega (arith, g.more, h.more);
      line = λ e k. h.line e (omega (arith, g.more)) ∙ g.line e k;
      depth = λ e k. h.depth e (omega (arith, g.more)) ∙ g.depth e k;
      parent = λ e k. h.parent e (omega (arith, g.more)) ∙ g.parent e k;
      list = λ e k n. h.list e (omega (arith, g.more)) n ∙ g.list e k n;
      text = λ d t k. h.text d t (omega arith) ∙ g.text d t k;
    }
