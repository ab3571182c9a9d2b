-- Accepted merges on top of a state, with the book's sums, and where a rollback to a mark ends among them. Assumes nothing.
use mathlib.Core.Bool.{true, true≢false}
use mathlib.Core.List.{[], ◌∷◌, ◌++◌}
use mathlib.Core.Path.{◌≡◌, refl, sym, ◌∙◌, ap}
use Prim.Native.Nat.{ℕ, ◌+◌, ◌<◌, ◌≤◌}
use native.Mathlib.Omega.{arith}
use borrow.Author.Tests.{ltb-true, ltb-false, lt-ltb, le-ltb}
use lib.Dec.{ltb}
use lib.ListN.{length}
use Rattle.tables.specs.Lists.{sum}
use Rattle.tables.specs.Records.{State}
use Rattle.tables.proofs.Laws.Cases.{bool-split}
use Rattle.merge_rules.specs.Book.{Book, strike}
use Rattle.merge_rules.specs.Log.{is_mark, rollback_merge}
use Rattle.merge_rules.proofs.Laws.Marks.{mark-within, mark-steps, mark-end}
use Rattle.merge_rules.proofs.Laws.Steps.{Steps, stay, IsMerge}
use Rattle.merge_rules.proofs.Laws.Undo.{steps-append, rollback-steps}

-- ---- striking sums

-- the last sum goes where all together exceed the mark
strike-last : (mark n : ℕ) (bk : Book) → mark < sum (n ∷ bk) → strike mark (n ∷ bk) ≡ strike mark bk
unfolding strike
strike-last mark n bk h = rw (lt-ltb mark (sum (n ∷ bk)) h, strike)

-- sums that together do not exceed the mark stay
strike-none : (mark : ℕ) (bk : Book) → sum bk ≤ mark → strike mark bk ≡ bk
unfolding strike
strike-none mark [] h = refl
strike-none mark (n ∷ bk) h = rw (le-ltb mark (sum (n ∷ bk)) h, strike)

-- ---- merges on top of a state

-- from s₀ with the book bk₀, accepted merges up to a state with its book; Inv holds of every state between two of them
pub data Stack (Inv : State → Type 0) (s₀ : State) (bk₀ : Book) : State → Book → Type 0 where
  base : Inv s₀ → sum bk₀ ≡ length s₀.log → Stack Inv s₀ bk₀ s₀ bk₀
  push : {s t : State} {bk : Book} {n : ℕ} → Stack Inv s₀ bk₀ s bk → IsMerge s t n → Inv t → Stack Inv s₀ bk₀ t (n ∷ bk)

-- a state between two merges of the stack, with its book: a rollback to the mark ends there and leaves that book
pub record Boundary (Inv : State → Type 0) (s₀ : State) (bk₀ : Book) (mark : ℕ) (s : State) (bk : Book) : Type 0 where
  pub state : State
  pub book : Book
  pub stack : Stack Inv s₀ bk₀ state book
  pub steps : Steps state s
  pub at : length state.log ≡ mark
  pub strikes : strike mark bk ≡ book

module _ {Inv : State → Type 0} {s₀ : State} {bk₀ : Book} where
  -- Inv holds of the last state
  pub top : {s : State} {bk : Book} → Stack Inv s₀ bk₀ s bk → Inv s
  top (base i h) = i
  top (push st m i) = i

  -- it is a path of changes
  pub stack-steps : {s : State} {bk : Book} → Stack Inv s₀ bk₀ s bk → Steps s₀ s
  stack-steps (base i h) = stay
  stack-steps (push st m i) = steps-append (stack-steps st) m.steps

  -- the book's sums together are the log's length
  pub book-sum : {s : State} {bk : Book} → Stack Inv s₀ bk₀ s bk → sum bk ≡ length s.log
  unfolding sum
  book-sum (base i h) = h
  book-sum (push st m i) = omega (arith, book-sum st, m.size)

  -- the log's length is a mark
  pub length-mark : {s : State} {bk : Book} → Stack Inv s₀ bk₀ s bk → is_mark (length s₀.log) s₀.log ≡ true → is_mark (length s.log) s.log ≡ true
  length-mark (base i h) k = k
  length-mark {s} (push st m i) k = mark-end s.log m.last

  -- the sums in the book above the base are the length that the log has above it
  pub stack_above : {s : State} {bk : Book} → Stack Inv s₀ bk₀ s bk
      → (above : Book) × (bk ≡ above ++ bk₀) × (length s.log ≡ sum above + length s₀.log)
  unfolding sum
  stack_above (base i h) = ([], refl, omega arith)
  stack_above (push {n = n} st m i) =
      let (above, book, size) = stack_above st in
      (n ∷ above, ap (λ b. n ∷ b) book, omega (arith, m.size))

  -- ---- marks are borders

  boundary-top : {s : State} {bk : Book} (mark : ℕ) → Stack Inv s₀ bk₀ s bk → length s.log ≡ mark → Boundary Inv s₀ bk₀ mark s bk
  boundary-top {s} {bk} mark st at =
      record { state = s; book = bk; stack = st; steps = stay; at = at; strikes = strike-none mark bk (omega (arith, book-sum st)) }

  boundary-lower : {s t : State} {bk : Book} {n mark : ℕ} → Stack Inv s₀ bk₀ s bk → IsMerge s t n → mark < length t.log → Boundary Inv s₀ bk₀ mark s bk
      → Boundary Inv s₀ bk₀ mark t (n ∷ bk)
  unfolding sum
  boundary-lower {s} {t} {bk} {n} {mark} st m below b =
      record {
        state = b.state;
        book = b.book;
        stack = b.stack;
        steps = steps-append b.steps m.steps;
        at = b.at;
        strikes = strike-last mark n bk (omega (arith, book-sum st, m.size)) ∙ b.strikes;
      }

  -- a mark not below the base that rollback accepts is a boundary of merges
  pub boundary : {s : State} {bk : Book} → Stack Inv s₀ bk₀ s bk → (mark : ℕ) → length s₀.log ≤ mark → is_mark mark s.log ≡ true
      → Boundary Inv s₀ bk₀ mark s bk
  boundary (base i h) mark low ok = boundary-top mark (base i h) (omega (arith, mark-within mark s₀.log ok))
  boundary (push {s} {t} {bk} {n} st m i) mark low ok =
      bool-split (ltb mark (length t.log))
      (λ p.
      let below : mark < length t.log = ltb-true _ _ p in
      bool-split (ltb (length s.log) mark)
      (λ q. absurd (true≢false (sym ok ∙ m.inner mark (ltb-true _ _ q) below)))
      (λ q.
      let within : mark ≤ length s.log = ltb-false _ _ q in
      boundary-lower st m below (boundary st mark low (sym (mark-steps m.steps mark within) ∙ ok))))
      (λ p. boundary-top mark (push st m i) (omega (arith, mark-within mark t.log ok, ltb-false mark (length t.log) p)))

  -- rollback returns to the boundary's state
  pub boundary-state : {mark : ℕ} {s : State} {bk : Book} (b : Boundary Inv s₀ bk₀ mark s bk) → rollback_merge mark s ≡ b.state
  boundary-state {s = s} b = ap (λ k. rollback_merge k s) (sym b.at) ∙ rollback-steps b.steps
