-- Laws of the lines of an element, of its items, and of the trees. Assumes nothing.
use mathlib.Core.Bool.{true, false}
use mathlib.Core.List.{List, [], ◌∷◌, ◌++◌, append-nil}
use mathlib.Core.Path.{◌≡◌, refl, sym, ap, subst}
use Prim.Native.Nat.{ℕ, suc, ◌+◌, ◌-◌, ◌≤◌, ◌<◌}
use native.Mathlib.Omega.{arith}
use lib.ListN.{length, get_or, drop}
use Rattle.tables.specs.Bytes.{bytes}
use Rattle.tables.specs.FileSets.{holds, loaded_files}
use Rattle.tables.specs.Lists.{keep}
use Rattle.tables.specs.Records.{Tree, Item, child, text, Model, Fixed, depth_of, text_of, list_of}
use Rattle.tables.specs.ElementsTable.{elements_of, no_tree}
use Rattle.tables.specs.ModelTable.{count_of, model_of, item_is, ItemBelow}
use Rattle.tables.specs.declared.numbers.Element as numbers
use Rattle.tables.specs.declared.model.Item as program
use Rattle.tables.specs.declared.model.Item.TheVariants.{Child, Text}
use Rattle.state_test.specs.StateTest.{waits}
use Rattle.state_test.proofs.Laws.Files.{waits-known}
use Rattle.merge_rules.specs.Program.{digits_before, decimal_of, line_of, text_line, element_line, item_lines, element_lines, model_lines}
use Rattle.tables.proofs.Laws.ModelTable.{item-below}
use Rattle.printing.specs.Buffers.{Buffer, Appends}
use Rattle.merge_rules.specs.DeckLines.{tree_lines, waiting_lines, trees_lines}
use Rattle.printing.specs.TreeLines.{Readable, ItemIn}
use Rattle.printing.proofs.Laws.Buffers.{reads, nothing, Leaves, list-turn, list-end}
use Rattle.tables.specs.Limits.{depth_limit}

-- ---- an element

module _ (left : ℕ) (x : Fixed) (m : Model) (e : ℕ) where
  pub elements-none : (b : Buffer) → left ≡ 0 → Appends b (element_lines left x m e) b
  unfolding element_lines
  elements-none b h = rw h (nothing b)

  pub elements-more : (left ≡ 0 → ⊥)
      → element_line x m e ++ item_lines (element_lines (left - 1) x m) x (suc (depth_of x e)) (list_of m e) ≡ element_lines left x m e
  unfolding element_lines
  elements-more n = let z : suc (left - 1) ≡ left = omega arith in ap (λ (k : ℕ). element_lines k x m e) z

-- ---- one item

module _ (lower : ℕ → List ℕ) (x : Fixed) (d : ℕ) where
  pub child-lines : (a : program.Item) (e : numbers.Element) → a ≡ Child e → lower e.0 ≡ item_lines lower x d (item_is a ∷ [])
  unfolding item_lines
  child-lines a e h = rw h (sym (append-nil (lower e.0)))

  pub text-lines : (a : program.Item) (t : ℕ) → a ≡ Text t → text_line x d (text_of x t) ≡ item_lines lower x d (item_is a ∷ [])
  unfolding item_lines
  text-lines a t h = rw h (sym (append-nil (text_line x d (text_of x t))))

  -- an item, and those behind it
  item-first : (a : Item) (l : List Item) → item_lines lower x d (a ∷ l) ≡ item_lines lower x d (a ∷ []) ++ item_lines lower x d l
  unfolding item_lines
  item-first (child e) l = ap (λ (q : List ℕ). q ++ item_lines lower x d l) (sym (append-nil (lower e)))
  item-first (text t) l = ap (λ (q : List ℕ). q ++ item_lines lower x d l) (sym (append-nil (text_line x d (text_of x t))))

  module _ (l : List Item) (i : ℕ) {start now : Buffer} {t : List ℕ} where
    pub items-turn : {b : Buffer} {a : Item} {c : ℕ} → i < length l → a ≡ get_or l i (child 0) → c ≡ d → Leaves start t now (item_lines lower x d (drop i l))
        → Appends now (item_lines lower x c (a ∷ [])) b → Leaves start t b (item_lines lower x d (drop (i + 1) l))
    items-turn h g e v p =
        list-turn (item_lines lower x d) l i (child 0) h (item-first (get_or l i (child 0)) (drop (i + 1) l)) v
        (reads (λ j. item_lines lower x (e j) (g j ∷ [])) p)

    pub items-end : length l ≤ i → Leaves start t now (item_lines lower x d (drop i l)) → Appends start t now
    unfolding item_lines
    items-end h v = list-end (item_lines lower x d) l i h refl v

-- ---- the ranges

module _ {deck es m : List ℕ} (h : Readable deck es m) where
  pub listed_in : (e i : ℕ) (a : Item) → i < length (list_of (model_of m) e) → a ≡ get_or (list_of (model_of m) e) i (child 0) → ItemIn es m a
  listed_in e i (child c) l g = subst (ItemBelow (count_of (model_of m))) (sym g) (item-below m h.model_good e i l)
  listed_in e i (text t) l g = h.texts e i t l (sym g)

  module _ (a : program.Item) where
    pub child-in : (e : numbers.Element) → a ≡ Child e → ItemIn es m (item_is a) → e.0 < count_of (model_of m)
    child-in e g k = rw g at k

    pub text_in_lem : (t : ℕ) → a ≡ Text t → ItemIn es m (item_is a) → t < length (elements_of es).texts
    text_in_lem t g k = rw g at k

-- ---- the model, and the waiting trees

module _ (x : Fixed) (m : Model) where
  pub model-parts : element_lines (suc depth_limit) x m 0 ≡ model_lines x m
  unfolding model_lines
  model-parts = refl

  pub tree-parts : (t : Tree) {f e : ℕ} → f ≡ t.file → e ≡ t.root
      → (66 ∷ 44 ∷ []) ++ (digits_before (suc f) 10 f [] ++ (10 ∷ [])) ++ element_lines (suc depth_limit) x m e ≡ tree_lines x m t
  unfolding tree_lines line_of decimal_of bytes
  tree-parts t {f} {e} hf he = λ i. (66 ∷ 44 ∷ []) ++ (digits_before (suc (hf i)) 10 (hf i) [] ++ (10 ∷ [])) ++ element_lines (suc depth_limit) x m (he i)

  pub trees-parts : (77 ∷ 10 ∷ []) ++ (model_lines x m ++ waiting_lines x m (keep (waits m) x.elements.trees)) ≡ trees_lines x m
  unfolding trees_lines line_of bytes
  trees-parts = refl

  -- the lines of those trees of a list that wait
  abbrev pub kept_lines : List Tree → List ℕ
  kept_lines l = waiting_lines x m (keep (waits m) l)

  module _ (l : List Tree) (t : ℕ) {start now : Buffer} {w : List ℕ} {loaded file : ℕ} (h : t < length l) (v : Leaves start w now (kept_lines (drop t l)))
      (a : loaded ≡ loaded_files m) (f : file ≡ (get_or l t no_tree).file) where
    -- a tree that is merged is not printed
    pub merged-turn : holds loaded file ≡ true → Leaves start w now (kept_lines (drop (t + 1) l))
    unfolding keep
    merged-turn e = list-turn kept_lines l t no_tree h (rw (keep, waits-known m (get_or l t no_tree) a f e)) v (nothing now)

    pub waiting-turn : {b : Buffer} → holds loaded file ≡ false → Appends now (tree_lines x m (get_or l t no_tree)) b → Leaves start w b (kept_lines (drop (t + 1) l))
    unfolding keep waiting_lines
    waiting-turn e p = list-turn kept_lines l t no_tree h (rw (keep, waits-known m (get_or l t no_tree) a f e)) v p

  pub waiting-end : (l : List Tree) (t : ℕ) {start now : Buffer} {w : List ℕ} → length l ≤ t → Leaves start w now (kept_lines (drop t l)) → Appends start w now
  unfolding keep waiting_lines
  waiting-end l t h v = list-end kept_lines l t h refl v
