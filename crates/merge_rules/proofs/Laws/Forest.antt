-- The trees printed one behind the other, each under its heading; an item put below the last open element prints behind all. Assumes nothing.
use mathlib.Core.Bool.{true}
use mathlib.Core.List.Memᴰ
use mathlib.Core.List.{List, [], ◌∷◌, ◌++◌, map, map-append, append-nil, append_assoc}
use mathlib.Core.Option.{Option, none, some}
use mathlib.Core.Path.{◌≡◌, refl, sym, ap, ◌∙◌}
use Prim.Native.Nat.{ℕ, suc, ◌+◌, ◌<◌}
use native.Mathlib.Omega.{arith}
use lib.ListN.{length, length-append}
use Rattle.tables.specs.Bytes.{bytes}
use Rattle.tables.specs.Limits.{depth_limit}
use Rattle.tables.specs.Records.{Element, Tree, Item, child, Model, Fixed, root, depth_of, list_of}
use Rattle.state_test.specs.StateTest.{waits}
use Rattle.merge_rules.specs.DeckLines.{tree_lines, waiting_lines, trees_lines}
use Rattle.merge_rules.specs.Program.{decimal_of, line_of, item_lines, element_lines, model_lines}
use Rattle.merge_rules.specs.Sound.{In, count}
use Rattle.merge_rules.proofs.Laws.Lists.{keep_all}
use Rattle.merge_rules.proofs.Laws.Loading.{Built}
use Rattle.merge_rules.proofs.Laws.Rightmost.{Grown, ItemsInRange, lines-kept, Open, first, first-in, first-deep, open-range, open-same, NotOpen, not-open-lines, fuel, put-lines}

-- a tree: the line that opens it, and its root
pub record Head : Type 0 where
  pub line : List ℕ
  pub root : Element

abbrev pub head_m : Head
head_m = record { line = line_of (bytes "M" ∷ []); root = root }

abbrev pub head_b : Tree → Head
head_b t = record { line = line_of (bytes "B" ∷ decimal_of t.file ∷ []); root = t.root }

-- the model and the waiting trees
abbrev pub heads : List Tree → List Head
heads ts = head_m ∷ map head_b ts

unfoldable pub forest : Fixed → Model → List Head → List ℕ
forest x m [] = []
forest x m (h ∷ hs) = (h.line ++ element_lines (suc depth_limit) x m h.root) ++ forest x m hs

-- a tree more is printed behind
pub forest-snoc : (x : Fixed) (m : Model) (hs : List Head) (h : Head)
    → forest x m (hs ++ (h ∷ [])) ≡ forest x m hs ++ (h.line ++ element_lines (suc depth_limit) x m h.root)
unfolding forest
forest-snoc x m [] h = append-nil _
forest-snoc x m (g ∷ hs) h = rw (forest-snoc x m hs h) (sym (append_assoc (g.line ++ element_lines (suc depth_limit) x m g.root) (forest x m hs) _))

-- trees that print alike
pub forest-kept : (x x' : Fixed) (m m' : Model) (hs : List Head)
    → ((h : Head) → In h hs → element_lines (suc depth_limit) x' m' h.root ≡ element_lines (suc depth_limit) x m h.root)
    → forest x' m' hs ≡ forest x m hs
unfolding forest
forest-kept x x' m m' [] k = refl
forest-kept x x' m m' (h ∷ hs) k =
    rw (k h (Memᴰ.head refl), forest-kept x x' m m' hs (λ g i. k g (Memᴰ.tail i)))

waiting-forest : (x : Fixed) (m : Model) (ts : List Tree) → waiting_lines x m ts ≡ forest x m (map head_b ts)
unfolding waiting_lines tree_lines forest
waiting-forest x m [] = refl
waiting-forest x m (t ∷ ts) = rw (waiting-forest x m ts)

-- what is printed of a state where all trees wait
pub trees-forest : (x : Fixed) (m : Model) → ((t : Tree) → In t x.elements.trees → waits m t ≡ true)
    → trees_lines x m ≡ forest x m (heads x.elements.trees)
unfolding trees_lines model_lines forest
trees-forest x m all =
    rw (keep_all (waits m) x.elements.trees all, waiting-forest x m x.elements.trees)
    (sym (append_assoc (line_of (bytes "M" ∷ [])) (element_lines (suc depth_limit) x m root) (forest x m (map head_b x.elements.trees))))

-- a tree more
pub heads-snoc : (ts : List Tree) (t : Tree) → heads (ts ++ (t ∷ [])) ≡ heads ts ++ (head_b t ∷ [])
heads-snoc ts t = ap (λ (hs : List Head). head_m ∷ hs) (map-append head_b ts (t ∷ []))

-- roots of depth 0 below a number
abbrev pub Earlier : Fixed → List Head → ℕ → Type 0
Earlier x hs most = (h : Head) → In h hs → (h.root < most) × (depth_of x h.root ≡ 0)

-- ---- a change that puts no item into a list

-- trees of elements so far print as before
pub forest-same : {x : Fixed} {m : Model} {x' : Fixed} {m' : Model} → Grown x m x' m' (count x) → ItemsInRange x m → (hs : List Head) → Earlier x hs (count x)
    → forest x' m' hs ≡ forest x m hs
forest-same {x} {m} {x'} {m'} g fit hs below =
    forest-kept x x' m m' hs (λ h i.
    lines-kept g fit (λ (e : Element). e < count x) (λ e c _ k. fit e (child c) k) (λ e k. (k, λ q. omega arith)) (suc depth_limit) h.root (below h i).0)

-- ---- an item more

fuel-is : (as' : List Element) (k : ℕ) → fuel as' k ≡ suc (length as' + k)
fuel-is [] k = omega arith
fuel-is (a ∷ as') k = omega (arith, fuel-is as' k)

open-last : (x : Fixed) (m : Model) (p : Element) (as' : List Element) (d : ℕ) (o : Option Element) → Open x m d o (as' ++ (p ∷ [])) → depth_of x p ≡ d + length as'
open-last x m p [] d o h = omega (arith, h.1)
open-last x m p (a ∷ as') d o h = omega (arith, open-last x m p as' (suc d) (some a) h.4)

module _ {x : Fixed} {m : Model} {x' : Fixed} {m' : Model} {p : Element} {above : List Element} (g : Grown x m x' m' p) (b : Built x m above)
    (as' : List Element) (o : Open x m 0 none (as' ++ (p ∷ []))) (i : Item) (put : list_of m' p ≡ list_of m p ++ (i ∷ [])) where
  abbrev w : List Element
  w = as' ++ (p ∷ [])

  abbrev a : Element
  a = first as' p

  -- the item's lines are behind all others
  pub forest-put : (hs : List Head) (line : List ℕ) (k : ℕ) → length as' + k ≡ depth_limit → Earlier x hs (first as' p)
      → forest x' m' (hs ++ (record { line = line; root = first as' p } ∷ []))
      ≡ forest x m (hs ++ (record { line = line; root = first as' p } ∷ [])) ++ item_lines (element_lines k x' m') x' (suc (length as')) (i ∷ [])
  forest-put hs line k levels below =
      let at : In p w = Memᴰ.append_right as' (Memᴰ.head refl) in
      let last : depth_of x p ≡ length as' = omega (arith, open-last x m p as' 0 none o) in
      let deep : suc (depth_of x p) ≡ length w = rw length-append (omega arith) in
      let levels' : fuel as' k ≡ suc depth_limit = omega (arith, fuel-is as' k) in
      let outside : (h : Head) → In h hs → NotOpen g b w o h.root =
      λ h j. (
        omega (arith, (below h j).0, open-range x m 0 none w o a (first-in p as')),
        λ k.
            let e : h.root ≡ a = open-same x m 0 none w o h.root a k (first-in p as') ((below h j).1 ∙ sym (first-deep x m p as' 0 none o)) in
            omega (arith, (below h j).0),
      ) in
      let kept : forest x' m' hs ≡ forest x m hs =
      forest-kept x x' m m' hs (λ h j. not-open-lines g b w o at (suc depth_limit) h.root (outside h j)) in
      let more : element_lines (suc depth_limit) x' m' a ≡ element_lines (suc depth_limit) x m a ++ item_lines (element_lines k x' m') x' (suc (length as')) (i ∷ []) =
      rw (← levels', ← last) (put-lines g b w o i put deep as' 0 none k o (λ c j. j)) in
      forest-snoc x' m' hs (record { line = line; root = a })
      ∙ rw (kept, more)
      (simp append_assoc)
      ∙ ap (λ (r : List ℕ). r ++ item_lines (element_lines k x' m') x' (suc (length as')) (i ∷ [])) (sym (forest-snoc x m hs (record { line = line; root = a })))
