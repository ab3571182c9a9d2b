-- Laws of lists that the library lacks. Assumes nothing.
use mathlib.Core.Bool.{Bool, true, false, true≢false}
use mathlib.Core.List.Memᴰ
use mathlib.Core.List.{List, [], ◌∷◌, ◌++◌, map}
use mathlib.Core.Logic.{◌⊎◌, inl, inr, ⊎_elim}
use mathlib.Core.Option.{Option, none, some, none-ne-some, some-injective}
use mathlib.Core.Path.{◌≡◌, refl, sym, ap, subst, ◌∙◌}
use Prim.Native.Nat.{ℕ, zero, suc, ◌+◌, ◌≤◌, ◌<◌}
use native.Mathlib.Nat.{le_of_suc-le-suc, not-suc-le-zero}
use native.Mathlib.Omega.{arith}
use borrow.Author.Tests.{eq-eqb}
use lib.Dec.{eqb}
use lib.ListN.{length, get_or, get_elem?, take, set, get_or-eq_default}
use Rattle.tables.specs.Cells.{Each}
use Rattle.tables.specs.Lists.{any_of, all_of, first_of, insert_at, keep, sum}
use Rattle.tables.specs.ModelTable.{flat}
use Rattle.tables.specs.Records.{Element, Item, child, text}
use Rattle.tables.proofs.Laws.Cells.{each_append}
use Rattle.tables.proofs.Laws.Lists.{length-insert_at}
use Rattle.tables.proofs.Laws.Cases.{bool_case}
use Rattle.tables.proofs.Laws.Scans.{each-passes, any_none}
use Rattle.merge_rules.specs.Pairing.{children}
use Rattle.merge_rules.specs.Sound.{In, Once, once-nil, once-cons}

-- ---- what holds of each entry

-- anything, where there is none
pub each_nil : {A : Type 0} (P : A → Type 0) (a : A) → In a [] → P a
each_nil P a i = absurd (Memᴰ.not-nil i)

-- an entry of the list with one more is an old entry or the new one
pub in-snoc : {A : Type 0} {a b : A} (l : List A) → In a (l ++ (b ∷ [])) → In a l ⊎ (a ≡ b)
in-snoc l h = ⊎_elim inl (λ k. inr (Memᴰ.eq_of_singleton k)) (Memᴰ.append_cases l h)

module _ {A : Type 0} (P : A → Type 0) {x : A} where
  -- and of one more in front
  pub each-cons : {l : List A} → P x → ((a : A) → In a l → P a) → (a : A) → In a (x ∷ l) → P a
  each-cons new old a i = ⊎_elim (λ e. subst P (sym e) new) (old a) (Memᴰ.cases_cons i)

  -- and of one more at the end
  pub each_snoc : (l : List A) → P x → ((a : A) → In a l → P a) → (a : A) → In a (l ++ (x ∷ [])) → P a
  each_snoc l new old a i = ⊎_elim (old a) (λ e. subst P (sym e) new) (in-snoc l i)

-- what holds of what each entry is sent to holds of the entries of the list of these
pub map-in : {A B : Type 0} (P : B → Type 0) (f : A → B) (l : List A) → ((a : A) → In a l → P (f a)) → (b : B) → In b (map f l) → P b
map-in P f [] h = each_nil _
map-in P f (x ∷ l) h = each-cons P (h x (Memᴰ.head refl)) (map-in P f l (λ a i. h a (Memᴰ.tail i)))

-- ---- what holds of each entry, as the tables have it

module _ {A : Type 0} (P : A → Type 0) where
  -- what holds of each entry of a list holds of one
  pub each_in : (l : List A) → Each P l → (a : A) → In a l → P a
  each_in [] h = each_nil _
  each_in (x ∷ l) h = each-cons P h.0 (each_in l h.1)

  -- what holds of any entry holds of each
  pub in-each : (l : List A) → ((a : A) → In a l → P a) → Each P l
  in-each [] h = tt
  in-each (x ∷ l) h = (h x (Memᴰ.head refl), in-each l (λ a i. h a (Memᴰ.tail i)))

  -- what holds at each place holds of each entry
  pub at_each : (l : List A) (d : A) → ((i : ℕ) → P (get_or l i d)) → Each P l
  at_each [] d h = tt
  at_each (x ∷ l) d h = (h 0, at_each l d (λ i. h (suc i)))

  -- what holds of the entries of each list holds of all of them together
  pub flat-each : (ls : List (List A)) → ((p : ℕ) (a : A) → In a (get_or ls p []) → P a) → Each P (flat ls)
  unfolding flat
  flat-each [] h = tt
  flat-each (l ∷ ls) h = each_append P l (flat ls) (in-each l (h 0)) (flat-each ls (λ p. h (suc p)))

-- ---- entries of another list

-- every entry of the first is in the second
abbrev pub Within : {A : Type 0} → List A → List A → Type 0
Within {A} l k = (a : A) → In a l → In a k

module _ {A : Type 0} where
  -- an entry more of the first
  pub within-cons : {x : A} {l k : List A} → In x k → Within l k → Within (x ∷ l) k
  within-cons {k = k} h w = each-cons (λ (a : A). In a k) h w

  -- an entry more of the second
  pub within_more : {x : A} {l k : List A} → Within l k → Within l (x ∷ k)
  within_more w a i = Memᴰ.tail (w a i)

  -- an entry more of both
  pub within_both : {x : A} {l k : List A} → Within l k → Within (x ∷ l) (x ∷ k)
  within_both w = within-cons (Memᴰ.head refl) (within_more w)

  -- the first entry
  pub within-head : {x : A} {l k : List A} → Within (x ∷ l) k → In x k
  within-head {x} w = w x (Memᴰ.head refl)

  -- the other entries
  pub within-tail : {x : A} {l k : List A} → Within (x ∷ l) k → Within l k
  within-tail w a i = w a (Memᴰ.tail i)

  -- two lists joined
  pub within-append : {l r k : List A} → Within l k → Within r k → Within (l ++ r) k
  within-append {l} w v a i = ⊎_elim (w a) (v a) (Memᴰ.append_cases l i)

-- ---- tests

module _ {A : Type 0} (t : A → Bool) where
  -- not any entry passes: not the first, nor any other
  pub any_of-cons : (a : A) (l : List A) → any_of t (a ∷ l) ≡ false → (t a ≡ false) × (any_of t l ≡ false)
  unfolding any_of
  any_of-cons a l =
      bool_case (λ (b : Bool). b ≡ false → (t a ≡ false) × (any_of t l ≡ false)) (t a) (λ _ h. absurd (true≢false h)) (λ k h. (k, h))

  -- no entry passes where not any does
  pub any_of-false : (l : List A) → any_of t l ≡ false → (a : A) → In a l → t a ≡ false
  any_of-false [] h = each_nil _
  any_of-false (x ∷ l) h = let (k, r) = any_of-cons x l h in each-cons (λ (a : A). t a ≡ false) k (any_of-false l r)

  -- not any entry passes where none does
  pub any_of-none : (l : List A) → ((a : A) → In a l → t a ≡ false) → any_of t l ≡ false
  unfolding any_of
  any_of-none [] h = refl
  any_of-none (x ∷ l) h = rw (h x (Memᴰ.head refl), any_of) (any_of-none l (λ a i. h a (Memᴰ.tail i)))

  -- not any entry passes where none can
  pub any_of-never : ((a : A) → t a ≡ false) → (l : List A) → any_of t l ≡ false
  any_of-never h l = any_of-none l (λ a _. h a)

  -- every entry passes where each does
  pub all_of-each : (l : List A) → ((a : A) → In a l → t a ≡ true) → all_of t l ≡ true
  all_of-each l h = each-passes t l (in-each (λ (a : A). t a ≡ true) l h)

  -- the first entry that passes does pass and is in the list
  pub first_of-some : (l : List A) {a : A} → first_of t l ≡ some a → (t a ≡ true) × In a l
  unfolding first_of
  first_of-some [] {a} = λ h. absurd (none-ne-some a h)
  first_of-some (x ∷ l) {a} =
      bool_case (λ (o : Option A). o ≡ some a → (t a ≡ true) × In a (x ∷ l)) (t x)
      (λ k h. let e : x ≡ a = some-injective x a h in (ap t (sym e) ∙ k, Memᴰ.head (sym e)))
      (λ _ h. let (k, i) = first_of-some l h in (k, Memᴰ.tail i))

  -- no entry passes where there is no first
  pub first_of-none : (l : List A) → first_of t l ≡ none → (a : A) → In a l → t a ≡ false
  first_of-none l h = any_of-false l (sym (any_none t l h))

  -- not any of the entries that are kept passes where not any entry does
  pub any_of-keep : (u : A → Bool) (l : List A) → any_of t l ≡ false → any_of t (keep u l) ≡ false
  unfolding any_of keep
  any_of-keep u [] h = refl
  any_of-keep u (x ∷ l) h =
      let (k, r) = any_of-cons x l h in
      bool_case (λ (s : List A). any_of t s ≡ false) (u x) (λ _. rw (k, any_of) (any_of-keep u l r)) (λ _. any_of-keep u l r)

  -- all are kept where each passes
  pub keep_all : (l : List A) → ((a : A) → In a l → t a ≡ true) → keep t l ≡ l
  unfolding keep
  keep_all [] h = refl
  keep_all (x ∷ l) h = rw (h x (Memᴰ.head refl), keep) (ap (λ (r : List A). x ∷ r) (keep_all l (λ a i. h a (Memᴰ.tail i))))

-- ---- one entry more at the end

module _ {A : Type 0} where
  -- an entry of the list with one more is an old entry, the new one or none
  pub get_d-snoc : (P : A → Type 0) (l : List A) (a d : A) (i : ℕ) → (i < length l → P (get_or l i d)) → (i ≡ length l → P a) → (length l < i → P d)
      → P (get_or (l ++ (a ∷ [])) i d)
  get_d-snoc P [] a d zero old new past = new refl
  get_d-snoc P [] a d (suc i) old new past = past (omega arith)
  get_d-snoc P (x ∷ l) a d zero old new past = old (omega arith)
  get_d-snoc P (x ∷ l) a d (suc i) old new past = get_d-snoc P l a d i (λ h. old (omega arith)) (λ h. new (omega arith)) (λ h. past (omega arith))

  -- what is read past the end may as well be there
  pub get_d-snoc-default : (l : List A) (d : A) (i : ℕ) → get_or (l ++ (d ∷ [])) i d ≡ get_or l i d
  get_d-snoc-default l d i = get_d-snoc (λ (a : A). a ≡ get_or l i d) l d d i (λ _. refl) (λ h. past (omega arith)) (λ h. past (omega arith))
    where
      past : length l ≤ i → d ≡ get_or l i d
      past h = sym (get_or-eq_default l d h)

  -- an entry of a front with one more is an old entry or the new one
  pub get_elem?-front : (l : List A) (n i : ℕ) (a b : A) → n ≤ length l → get_elem? (take n l ++ (b ∷ [])) i ≡ some a
      → (get_elem? l i ≡ some a) ⊎ ((i ≡ n) × (a ≡ b))
  get_elem?-front l zero zero a b h e = inr (refl, sym (some-injective b a e))
  get_elem?-front l zero (suc i) a b h e = absurd (none-ne-some a e)
  get_elem?-front [] (suc n) i a b h e = absurd (not-suc-le-zero h)
  get_elem?-front (x ∷ l) (suc n) zero a b h e = inl e
  get_elem?-front (x ∷ l) (suc n) (suc i) a b h e =
      ⊎_elim inl (λ k. inr (ap suc k.0, k.1)) (get_elem?-front l n i a b (le_of_suc-le-suc h) e)

  -- ---- an entry changed

  -- an entry behind a store is the stored one or the old one
  pub get_d_set : (P : A → Type 0) (l : List A) (j : ℕ) (a d : A) (i : ℕ) → (i ≡ j → P a) → P (get_or l i d) → P (get_or (set l j a) i d)
  get_d_set P [] j a d i new old = old
  get_d_set P (x ∷ l) zero a d zero new old = new refl
  get_d_set P (x ∷ l) zero a d (suc i) new old = old
  get_d_set P (x ∷ l) (suc j) a d zero new old = old
  get_d_set P (x ∷ l) (suc j) a d (suc i) new old = get_d_set P l j a d i (λ e. new (ap suc e)) old

  -- an entry changed and changed back
  pub set-undone : (l : List A) (i : ℕ) (d v : A) (f : A → A) → f v ≡ get_or l i d → set (set l i v) i (f (get_or (set l i v) i d)) ≡ l
  set-undone [] zero d v f h = refl
  set-undone [] (suc i) d v f h = refl
  set-undone (x ∷ l) zero d v f h = ap (λ y. y ∷ l) h
  set-undone (x ∷ l) (suc i) d v f h = ap (λ m. x ∷ m) (set-undone l i d v f h)

  -- ---- an entry put in at a place

  -- an entry then is the new one or an old one
  pub in_insert : (l : List A) (n : ℕ) {a i : A} → In i (insert_at l n a) → (i ≡ a) ⊎ In i l
  unfolding insert_at
  in_insert l zero h = Memᴰ.cases_cons h
  in_insert [] (suc n) h = Memᴰ.cases_cons h
  in_insert (x ∷ l) (suc n) h =
      ⊎_elim (λ e. inr (Memᴰ.head e)) (λ k. ⊎_elim inl (λ i. inr (Memᴰ.tail i)) (in_insert l n k)) (Memᴰ.cases_cons h)

  -- an entry more in one of the lists is one more over all
  pub sum-insert : (ls : List (List A)) (p n : ℕ) (a : A) → p < length ls
      → sum (map length (set ls p (insert_at (get_or ls p []) n a))) ≡ suc (sum (map length ls))
  unfolding sum
  sum-insert [] p n a h = absurd (not-suc-le-zero h)
  sum-insert (l ∷ ls) zero n a h = omega (arith, length-insert_at l n a)
  sum-insert (l ∷ ls) (suc p) n a h = omega (arith, sum-insert ls p n a (le_of_suc-le-suc h))

-- ---- lists without repetition

-- the first is not in the rest
pub once-head : {e : Element} {l : List Element} → Once (e ∷ l) → In e l → ⊥
once-head (once-cons h o) = h

-- the rest is without repetition
pub once-tail : {e : Element} {l : List Element} → Once (e ∷ l) → Once l
once-tail (once-cons h o) = o

-- so is the second part
pub once-right : (l : List Element) {k : List Element} → Once (l ++ k) → Once k
once-right [] o = o
once-right (e ∷ l) o = once-right l (once-tail o)

-- ---- children

-- children are equal where their items are
pub child-same : {e c : Element} → child e ≡ child c → e ≡ c
child-same h = cc

-- and a child of the list is one of its children
pub in-children : {e : Element} (l : List Item) → In (child e) l → In e (children l)
unfolding children
in-children [] h = absurd (Memᴰ.not-nil h)
in-children (child c ∷ l) h =
    ⊎_elim (λ q. Memᴰ.head (child-same q)) (λ k. Memᴰ.tail (in-children l k)) (Memᴰ.cases_cons h)
in-children (text t ∷ l) h =
    ⊎_elim (λ q. let z : ◌≡◌ {A = ℕ} 0 1 = cc in absurd (omega arith)) (in-children l) (Memᴰ.cases_cons h)

-- a child's item is in the list
pub children-in : {e : Element} (l : List Item) → In e (children l) → In (child e) l
unfolding children
children-in [] h = absurd (Memᴰ.not-nil h)
children-in (child c ∷ l) h =
    ⊎_elim (λ q. Memᴰ.head (ap child q)) (λ k. Memᴰ.tail (children-in l k)) (Memᴰ.cases_cons h)
children-in (text t ∷ l) h = Memᴰ.tail (children-in l h)

-- a new child leaves the children without repetition
pub once-insert : (e : Element) (l : List Item) (n : ℕ) → (In (child e) l → ⊥) → Once (children l) → Once (children (insert_at l n (child e)))
unfolding children insert_at
once-insert e l zero fresh o = once-cons (λ h. fresh (children-in l h)) o
once-insert e [] (suc n) fresh o = once-cons (λ h. absurd (Memᴰ.not-nil h)) once-nil
once-insert e (child c ∷ l) (suc n) fresh o =
    once-cons
    (λ h.
    ⊎_elim (λ q. fresh (Memᴰ.head (sym q))) (λ k. once-head o (in-children l k)) (in_insert l n (children-in (insert_at l n (child e)) h)))
    (once-insert e l n (λ h. fresh (Memᴰ.tail h)) (once-tail o))
once-insert e (text t ∷ l) (suc n) fresh o = once-insert e l n (λ h. fresh (Memᴰ.tail h)) o

-- a text more leaves the children as they are
pub children-insert-text : (l : List Item) (n t : ℕ) → children (insert_at l n (text t)) ≡ children l
unfolding children insert_at
children-insert-text l zero t = refl
children-insert-text [] (suc n) t = refl
children-insert-text (child c ∷ l) (suc n) t = ap {B = List Element} (λ r. c ∷ r) (children-insert-text l n t)
children-insert-text (text u ∷ l) (suc n) t = children-insert-text l n t

-- ---- how often an element is in a list

-- the entries that are this element
abbrev pub occurrences : Element → List Element → ℕ
occurrences e l = length (keep (λ (y : Element). eqb y e) l)

-- 1 where a test passes
abbrev tally : Bool → ℕ
tally true = 1
tally false = 0

keep-tally : {A : Type 0} (t : A → Bool) (a : A) (l : List A) → length (keep t (a ∷ l)) ≡ tally (t a) + length (keep t l)
unfolding keep
keep-tally {A} t a l =
    bool_case (λ (k : List A). length k ≡ tally (t a) + length (keep t l)) (t a) (λ h. rw h (omega arith)) (λ h. rw h (omega arith))

occurrences-cons : (e y : Element) (l : List Element) → occurrences e (y ∷ l) ≡ tally (eqb y e) + occurrences e l
occurrences-cons e y l = keep-tally (λ (z : Element). eqb z e) y l

occurrences-first : (e : Element) (l : List Element) → occurrences e (e ∷ l) ≡ 1 + occurrences e l
occurrences-first e l = occurrences-cons e e l ∙ rw (eq-eqb e e refl)

occurrences-in : {e : Element} (l : List Element) → In e l → 1 ≤ occurrences e l
occurrences-in [] h = absurd (Memᴰ.not-nil h)
occurrences-in {e} (y ∷ l) h =
    ⊎_elim (λ q. subst (λ (z : Element). 1 ≤ occurrences e (z ∷ l)) q (omega (arith, occurrences-first e l)))
    (λ k. omega (arith, occurrences-in l k, occurrences-cons e y l)) (Memᴰ.cases_cons h)

-- a list that holds each of its elements at most once is without repetition
pub once-of : (l : List Element) → ((e : Element) → In e l → occurrences e l ≤ 1) → Once l
once-of [] h = once-nil
once-of (y ∷ l) h =
    once-cons {e = y} (λ (k : In y l). omega (arith, h y (Memᴰ.head refl), occurrences-first y l, occurrences-in l k))
    (once-of l (λ e k. omega (arith, h e (Memᴰ.tail k), occurrences-cons e y l)))

-- over two lists, the sum
pub occurrences-append : (e : Element) (l k : List Element) → occurrences e (l ++ k) ≡ occurrences e l + occurrences e k
unfolding keep
occurrences-append e [] k = omega arith
occurrences-append e (y ∷ l) k = omega (arith, occurrences-append e l k, occurrences-cons e y l, occurrences-cons e y (l ++ k))

-- entries counted by one of their fields
pub occurrences-map : {A : Type 0} (f : A → Element) (e : Element) (l : List A) → length (keep (λ (a : A). eqb (f a) e) l) ≡ occurrences e (map f l)
unfolding keep
occurrences-map f e [] = refl
occurrences-map {A} f e (a ∷ l) =
    omega (arith, occurrences-map f e l, keep-tally (λ (b : A). eqb (f b) e) a l, occurrences-cons e (f a) (map f l))
