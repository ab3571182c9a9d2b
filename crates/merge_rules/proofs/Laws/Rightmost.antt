-- An item put in the list of the last of the open elements, each the last item of the one before it, prints at the end. Assumes nothing.
use mathlib.Core.List.Memᴰ
use mathlib.Core.List.{List, [], ◌∷◌, ◌++◌, append-nil, append_assoc}
use mathlib.Core.Logic.{◌⊎◌, inl, inr, ⊎_elim}
use mathlib.Core.Option.{Option, none, some, none-ne-some, some-injective}
use mathlib.Core.Path.{◌≡◌, refl, sym, ap, subst, ◌∙◌}
use Prim.Native.Nat.{ℕ, zero, suc, ◌+◌, ◌≤◌, ◌<◌}
use native.Mathlib.Omega.{arith}
use lib.ListN.{length, take}
use Rattle.tables.specs.Records.{Element, Item, child, text, Model, Fixed, depth_of, text_of, parent_of, list_of}
use Rattle.merge_rules.specs.Pairing.{children}
use Rattle.merge_rules.specs.Program.{text_line, element_line, item_lines, element_lines}
use Rattle.merge_rules.specs.Sound.{In, count, Once, ItemInRange}
use Rattle.merge_rules.proofs.Laws.Lists.{once-head, once-tail, child-same, in-children}
use Rattle.merge_rules.proofs.Laws.Loading.{Built}

-- ---- what a line more leaves as it is

-- all that is printed of the elements so far, but for the list of p
pub record Grown (x : Fixed) (m : Model) (x' : Fixed) (m' : Model) (p : Element) : Type 0 where
  pub more : count x ≤ count x'
  pub line : (e : Element) → e < count x → element_line x' m' e ≡ element_line x m e
  pub depth : (e : Element) → e < count x → depth_of x' e ≡ depth_of x e
  pub parent : (e : Element) → e < count x → parent_of m' e ≡ parent_of m e
  pub list : (e : Element) → e < count x → (e ≡ p → ⊥) → list_of m' e ≡ list_of m e
  pub text : (d t : ℕ) → t < length x.elements.texts → text_line x' d (text_of x' t) ≡ text_line x d (text_of x t)

-- every item is an element or a text that there is
abbrev pub ItemsInRange : Fixed → Model → Type 0
ItemsInRange x m = (p : Element) (i : Item) → In i (list_of m p) → ItemInRange x i

-- the items of two lists, one behind the other
items-append : (lower : Element → List ℕ) (x : Fixed) (d : ℕ) (l k : List Item) → item_lines lower x d (l ++ k) ≡ item_lines lower x d l ++ item_lines lower x d k
unfolding item_lines
items-append lower x d [] k = refl
items-append lower x d (child e ∷ l) k = rw (items-append lower x d l k) (sym (append_assoc (lower e) (item_lines lower x d l) (item_lines lower x d k)))
items-append lower x d (text t ∷ l) k =
    rw (items-append lower x d l k) (sym (append_assoc (text_line x d (text_of x t)) (item_lines lower x d l) (item_lines lower x d k)))

module _ {x : Fixed} {m : Model} {x' : Fixed} {m' : Model} {p : Element} (g : Grown x m x' m' p) where
  items-same : (lower' lower : Element → List ℕ) (d : ℕ) (l : List Item) → ((i : Item) → In i l → ItemInRange x i)
      → ((e : Element) → In (child e) l → lower' e ≡ lower e) → item_lines lower' x' d l ≡ item_lines lower x d l
  unfolding item_lines
  items-same lower' lower d [] fit h = refl
  items-same lower' lower d (child e ∷ l) fit h =
      rw (h e (Memᴰ.head refl), items-same lower' lower d l (λ i k. fit i (Memᴰ.tail k)) (λ c k. h c (Memᴰ.tail k)))
  items-same lower' lower d (text t ∷ l) fit h =
      rw (
        g.text d t (fit (text t) (Memᴰ.head refl)),
        items-same lower' lower d l (λ i k. fit i (Memᴰ.tail k)) (λ c k. h c (Memᴰ.tail k)),
      )

  -- elements that p is not among, nor any below them
  module _ (fit : ItemsInRange x m) (P : Element → Type 0) (closed : (e c : Element) → P e → In (child c) (list_of m e) → P c)
      (outside : (e : Element) → P e → (e < count x) × (e ≡ p → ⊥)) where
    pub lines-kept : (n : ℕ) (e : Element) → P e → element_lines n x' m' e ≡ element_lines n x m e
    unfolding element_lines
    lines-kept zero e h = refl
    lines-kept (suc n) e h =
        let a : (e < count x) × (e ≡ p → ⊥) = outside e h in
        rw (g.line e a.0, g.depth e a.0, g.list e a.0 a.1)
        (ap (λ (r : List ℕ). element_line x m e ++ r)
        (items-same (element_lines n x' m') (element_lines n x m) (suc (depth_of x e)) (list_of m e) (fit e) (λ c k. lines-kept n c (closed e c h k))))

-- ---- open elements

-- the item is the last one
pub record Last (l : List Item) (i : Item) : Type 0 where
  pub front : List Item
  pub is : l ≡ front ++ (i ∷ [])

-- the next open element, if any, is the last item
abbrev pub Link : Model → Element → List Element → Type 0
Link m a [] = Unit
Link m a (b ∷ bs) = Last (list_of m a) (child b)

-- elements from this depth on, the first below o and each other one the last item of the one before it
abbrev pub Open : Fixed → Model → ℕ → Option Element → List Element → Type 0
Open x m d o [] = Unit
Open x m d o (a ∷ as') = (a < count x) × (depth_of x a ≡ d) × (parent_of m a ≡ o) × Link m a as' × Open x m (suc d) (some a) as'

-- the first one, where p is behind all
abbrev pub first : List Element → Element → Element
first [] p = p
first (a ∷ as') p = a

-- it is one of them
pub first-in : (p : Element) (as' : List Element) → In (first as' p) (as' ++ (p ∷ []))
first-in p [] = Memᴰ.head refl
first-in p (a ∷ as') = Memᴰ.head refl

-- and at their first depth
pub first-deep : (x : Fixed) (m : Model) (p : Element) (as' : List Element) (d : ℕ) (o : Option Element) → Open x m d o (as' ++ (p ∷ [])) → depth_of x (first as' p) ≡ d
first-deep x m p [] d o h = h.1
first-deep x m p (a ∷ as') d o h = h.1

module _ (m : Model) (a : Element) where
  link-first : (p : Element) (as' : List Element) → Link m a (as' ++ (p ∷ [])) → Last (list_of m a) (child (first as' p))
  link-first p [] h = h
  link-first p (b ∷ bs) h = h

  link-any : (p : Element) (as' tail : List Element) → Last (list_of m a) (child (first as' p)) → Link m a (as' ++ (p ∷ tail))
  link-any p [] tail h = h
  link-any p (b ∷ bs) tail h = h

  link-take : (n : ℕ) (as' : List Element) → Link m a as' → Link m a (take n as')
  link-take zero as' h = tt
  link-take (suc n) [] h = tt
  link-take (suc n) (b ∷ bs) h = h

module _ (x : Fixed) (m : Model) where
  -- the first so many of them
  pub open-take : (n d : ℕ) (o : Option Element) (as' : List Element) → Open x m d o as' → Open x m d o (take n as')
  open-take zero d o as' h = tt
  open-take (suc n) d o [] h = tt
  open-take (suc n) d o (a ∷ as') h = (h.0, h.1, h.2, link-take m a n as' h.3, open-take n (suc d) (some a) as' h.4)

  -- each is one of the elements
  pub open-range : (d : ℕ) (o : Option Element) (as' : List Element) → Open x m d o as' → (c : Element) → In c as' → c < count x
  open-range d o [] h c i = absurd (Memᴰ.not-nil i)
  open-range d o (a ∷ as') h c i =
      ⊎_elim (λ (e : c ≡ a). rw e h.0) (λ k. open-range (suc d) (some a) as' h.4 c k) (Memᴰ.cases_cons i)

  -- and at its depth
  pub open-deep : (d : ℕ) (o : Option Element) (as' : List Element) → Open x m d o as' → (c : Element) → In c as'
      → (d ≤ depth_of x c) × (depth_of x c < d + length as')
  open-deep d o [] h c i = absurd (Memᴰ.not-nil i)
  open-deep d o (a ∷ as') h c i =
      ⊎_elim (λ (e : c ≡ a). rw e (omega (arith, h.1), omega (arith, h.1)))
      (λ k. let r : (suc d ≤ depth_of x c) × (depth_of x c < suc d + length as') = open-deep (suc d) (some a) as' h.4 c k in (omega arith, omega arith))
      (Memᴰ.cases_cons i)

  -- one a depth
  pub open-same : (d : ℕ) (o : Option Element) (as' : List Element) → Open x m d o as' → (b c : Element) → In b as' → In c as' → depth_of x b ≡ depth_of x c
      → b ≡ c
  open-same d o [] h b c i j e = absurd (Memᴰ.not-nil i)
  open-same d o (a ∷ as') h b c i j e =
      ⊎_elim
      (λ (u : b ≡ a).
      ⊎_elim (λ (v : c ≡ a). u ∙ sym v)
      (λ k. let z : depth_of x b ≡ d = ap (depth_of x) u ∙ h.1 in absurd (omega (arith, (open-deep (suc d) (some a) as' h.4 c k).0)))
      (Memᴰ.cases_cons j))
      (λ k.
      ⊎_elim
      (λ (v : c ≡ a). let z : depth_of x c ≡ d = ap (depth_of x) v ∙ h.1 in absurd (omega (arith, (open-deep (suc d) (some a) as' h.4 b k).0)))
      (λ l. open-same (suc d) (some a) as' h.4 b c k l e) (Memᴰ.cases_cons j)) (Memᴰ.cases_cons i)

  -- the parent of each is the one before it
  open-parent : (d : ℕ) (o : Option Element) (as' : List Element) → Open x m d o as' → (c : Element) → In c as'
      → (parent_of m c ≡ o) ⊎ ((q : Element) × In q as' × (parent_of m c ≡ some q))
  open-parent d o [] h c i = absurd (Memᴰ.not-nil i)
  open-parent d o (a ∷ as') h c i =
      ⊎_elim (λ (e : c ≡ a). inl (ap (parent_of m) e ∙ h.2))
      (λ k.
      ⊎_elim (λ r. inr (a, Memᴰ.head refl, r)) (λ r. inr (r.0, Memᴰ.tail r.1, r.2)) (open-parent (suc d) (some a) as' h.4 c k))
      (Memᴰ.cases_cons i)

-- the last item is no other one
last-once : {b : Element} (l : List Item) → Once (children (l ++ (child b ∷ []))) → In (child b) l → ⊥
unfolding children
last-once [] o i = Memᴰ.not-nil i
last-once {b} (child c ∷ l) o i =
    ⊎_elim
    (λ e.
    once-head o (in-children (l ++ (child b ∷ [])) (subst (λ (q : Element). In (child q) (l ++ (child b ∷ []))) (child-same e) (Memᴰ.append_right l (Memᴰ.head refl)))))
    (last-once l (once-tail o)) (Memᴰ.cases_cons i)
last-once {b} (text t ∷ l) o i =
    ⊎_elim (λ q. let z : ◌≡◌ {A = ℕ} 0 1 = cc in absurd (omega arith)) (last-once l o) (Memᴰ.cases_cons i)

-- ---- an item more

-- levels to print from the first open element on, with k below p
abbrev pub fuel : List Element → ℕ → ℕ
fuel [] k = suc k
fuel (a ∷ as') k = suc (fuel as' k)

joins : {u' u : List ℕ} (lower' lower : Element → List ℕ) (x' x : Fixed) (d : ℕ) (e : Element) (v : List ℕ) → u' ≡ u → lower' e ≡ lower e ++ v
    → u' ++ item_lines lower' x' d (child e ∷ []) ≡ (u ++ item_lines lower x d (child e ∷ [])) ++ v
unfolding item_lines
joins lower' lower x' x d e v s t = rw (s, t) (simp (append-nil, append_assoc))

module _ {x : Fixed} {m : Model} {x' : Fixed} {m' : Model} {p : Element} {above : List Element} (g : Grown x m x' m' p) (b : Built x m above)
    (w : List Element) (o : Open x m 0 none w) where
  -- an element that is not open
  abbrev pub NotOpen : Element → Type 0
  NotOpen c = (c < count x) × (In c w → ⊥)

  not-open-child : (e c : Element) → NotOpen e → In (child c) (list_of m e) → NotOpen c
  not-open-child e c a h =
      let own : parent_of m c ≡ some e = b.owns e c h in (
        b.kept.items e (child c) h,
        λ i.
            ⊎_elim (λ (k : parent_of m c ≡ none). none-ne-some e (sym k ∙ own))
            (λ k. a.1 (subst (λ (q : Element). In q w) (some-injective k.0 e (sym k.2 ∙ own)) k.1)) (open-parent x m 0 none w o c i),
      )

  -- what is printed of it stays
  pub not-open-lines : In p w → (n : ℕ) (e : Element) → NotOpen e → element_lines n x' m' e ≡ element_lines n x m e
  not-open-lines i = lines-kept g b.kept.items NotOpen not-open-child (λ e a. (a.0, λ q. a.1 (rw q i)))

  module _ (i : Item) (put : list_of m' p ≡ list_of m p ++ (i ∷ [])) (deep : suc (depth_of x p) ≡ length w) where
    -- the item's lines
    abbrev pub new_lines : ℕ → List ℕ
    new_lines k = item_lines (element_lines k x' m') x' (suc (depth_of x p)) (i ∷ [])

    -- the children of p are not open
    own-not-open : In p w → (c : Element) → In (child c) (list_of m p) → NotOpen c
    own-not-open j c h =
        (b.kept.items p (child c) h, λ k. omega (arith, (open-deep x m 0 none w o c k).1, (b.kept.fits p c h).depth, deep))

    -- nor do those before the next open element
    front-not-open : (a n : Element) (front : List Item) → In n w → depth_of x n ≡ suc (depth_of x a) → list_of m a ≡ front ++ (child n ∷ []) → (c : Element)
        → In (child c) front → NotOpen c
    front-not-open a n front j e is c h =
        let within : In (child c) (list_of m a) = rw is (Memᴰ.append_left (child n ∷ []) h) in (
          b.kept.items a (child c) within,
          λ k.
              let q : c ≡ n = open-same x m 0 none w o c n k j ((b.kept.fits a c within).depth ∙ sym e) in
              last-once front (subst (λ (l : List Item). Once (children l)) is (b.kept.once a)) (subst (λ (z : Element). In (child z) front) q h),
        )

    front_fits : (a : Element) (front : List Item) (n : Item) → list_of m a ≡ front ++ (n ∷ []) → (j : Item) → In j front → ItemInRange x j
    front_fits a front n is j h = b.kept.items a j (rw is (Memᴰ.append_left (n ∷ []) h))

    -- what is printed from the first open element on has the item's lines at its end
    pub put-lines : (as' : List Element) (d : ℕ) (q : Option Element) (k : ℕ) → Open x m d q (as' ++ (p ∷ [])) → ((c : Element) → In c (as' ++ (p ∷ [])) → In c w)
        → element_lines (fuel as' k) x' m' (first as' p) ≡ element_lines (fuel as' k) x m (first as' p) ++ new_lines k
    unfolding element_lines
    put-lines [] d q k h within =
        let at : In p w = within p (Memᴰ.head refl) in
        let deeper : ℕ = suc (depth_of x p) in
        let kept : item_lines (element_lines k x' m') x' deeper (list_of m p) ≡ item_lines (element_lines k x m) x deeper (list_of m p) =
        items-same g (element_lines k x' m') (element_lines k x m) deeper (list_of m p) (b.kept.items p) (λ c j. not-open-lines at k c (own-not-open at c j)) in
        rw (g.line p h.0, g.depth p h.0, put)
        (ap (λ (r : List ℕ). element_line x m p ++ r)
        (items-append (element_lines k x' m') x' deeper (list_of m p) (i ∷ []) ∙ ap (λ (r : List ℕ). r ++ new_lines k) kept)
        ∙ sym (append_assoc (element_line x m p) (item_lines (element_lines k x m) x deeper (list_of m p)) (new_lines k)))
    put-lines (a ∷ as') d q k h within =
        let n : Element = first as' p in
        let last : Last (list_of m a) (child n) = link-first m a p as' h.3 in
        let at : In p w = within p (Memᴰ.tail (Memᴰ.append_right as' (Memᴰ.head refl))) in
        let next : In n w = within n (Memᴰ.tail (first-in p as')) in
        let deeper : ℕ = suc (depth_of x a) in
        let other : a ≡ p → ⊥ =
        λ e. omega (arith, ap (depth_of x) e, h.1, (open-deep x m (suc d) (some a) (as' ++ (p ∷ [])) h.4 p (Memᴰ.append_right as' (Memᴰ.head refl))).0) in
        let lower' : Element → List ℕ = element_lines (fuel as' k) x' m' in
        let lower : Element → List ℕ = element_lines (fuel as' k) x m in
        let kept : item_lines lower' x' deeper last.front ≡ item_lines lower x deeper last.front =
        items-same g lower' lower deeper last.front (front_fits a last.front (child n) last.is)
        (λ c j. not-open-lines at (fuel as' k) c (front-not-open a n last.front next (first-deep x m p as' (suc d) (some a) h.4 ∙ ap suc (sym h.1)) last.is c j)) in
        rw (g.line a h.0, g.depth a h.0, g.list a h.0 other, last.is)
        (ap (λ (r : List ℕ). element_line x m a ++ r)
        (items-append lower' x' deeper last.front (child n ∷ [])
        ∙ joins lower' lower x' x deeper n (new_lines k) kept (put-lines as' (suc d) (some a) k h.4 (λ c j. within c (Memᴰ.tail j)))
        ∙ ap (λ (r : List ℕ). r ++ new_lines k) (sym (items-append lower x deeper last.front (child n ∷ []))))
        ∙ sym (append_assoc (element_line x m a) (item_lines lower x deeper (last.front ++ (child n ∷ []))) (new_lines k)))

  -- with the item the same elements are open, and behind p those that are last there
  pub open_step : (as' tail : List Element) (d : ℕ) (q : Option Element) → Open x m d q (as' ++ (p ∷ [])) → Link m' p tail
      → Open x' m' (suc (depth_of x p)) (some p) tail → Open x' m' d q (as' ++ (p ∷ tail))
  open_step [] tail d q h l t = (
    omega (arith, h.0, g.more),
    g.depth p h.0 ∙ h.1,
    g.parent p h.0 ∙ h.2,
    l,
    subst (λ (n : ℕ). Open x' m' (suc n) (some p) tail) h.1 t,
  )
  open_step (a ∷ as') tail d q h l t =
      let last : Last (list_of m a) (child (first as' p)) = link-first m a p as' h.3 in
      let other : a ≡ p → ⊥ =
      λ e. omega (arith, ap (depth_of x) e, h.1, (open-deep x m (suc d) (some a) (as' ++ (p ∷ [])) h.4 p (Memᴰ.append_right as' (Memᴰ.head refl))).0) in (
        omega (arith, h.0, g.more),
        g.depth a h.0 ∙ h.1,
        g.parent a h.0 ∙ h.2,
        link-any m' a p as' tail (record { front = last.front; is = g.list a h.0 other ∙ last.is }),
        open_step as' tail (suc d) (some a) h.4 l t,
      )
