-- What a stretch of changes within a merge moves, as seen from the model at the merge's start. Assumes nothing.
use mathlib.Core.Bool.{false}
use mathlib.Core.List.{[], ◌∷◌}
use mathlib.Core.Logic.{◌⊎◌, inl, inr, ⊎_elim}
use mathlib.Core.Option.{some}
use mathlib.Core.Path.{◌≡◌, refl, sym, ◌∙◌}
use Prim.Native.Nat.{ℕ, suc, ◌≤◌, ◌<◌}
use native.Mathlib.Omega.{arith}
use lib.ListN.{length}
use Rattle.tables.specs.Records.{Element, FileSet, child, Model, Entry, State, Fixed, root, parent_of, set_of, list_of, put_set}
use Rattle.tables.proofs.Laws.Model.{set-put_set-other}
use Rattle.merge_rules.specs.Log.{is_root_extension, is_mark}
use Rattle.merge_rules.specs.Sound.{In, Kept}
use Rattle.merge_rules.proofs.Laws.Cases.{same-or-other}
use Rattle.merge_rules.proofs.Laws.Chains.{Common, at, up}
use Rattle.merge_rules.proofs.Laws.Marks.{mark-below, mark-top}
use Rattle.merge_rules.proofs.Laws.Steps.{Change, Steps, stay, step}

-- ---- paths with no mark within

-- a path of changes without the root's extension
pub data Unmarked (s : State) : State → Type 0 where
  still : Unmarked s s
  more : {t : State} {e : Entry} {m : Model} → Unmarked s t → Change t.model e m → is_root_extension e ≡ false
      → Unmarked s (record { model = m; log = e ∷ t.log })

-- it is a path of changes
pub unmarked-steps : {s t : State} → Unmarked s t → Steps s t
unmarked-steps still = stay
unmarked-steps (more q c h) = step (unmarked-steps q) c

unmarked-append : {s t u : State} → Unmarked s t → Unmarked t u → Unmarked s u
unmarked-append p still = p
unmarked-append p (more q c h) = more (unmarked-append p q) c h

-- no number above the path's start is a mark
pub unmarked-marks : {s t : State} → Unmarked s t → (k : ℕ) → length s.log < k → k ≤ length t.log → is_mark k t.log ≡ false
unmarked-marks still k h j = absurd (omega arith)
unmarked-marks (more {t} {e} q c plain) k h j =
    ⊎_elim (λ z. rw z (mark-top e t.log ∙ plain))
    (λ n. let low : k ≤ length t.log = omega arith in mark-below k (e ∷ []) t.log low ∙ unmarked-marks q k h low)
    (same-or-other k (suc (length t.log)))

-- ---- moves

-- e is one of A, moved out of the list of its owner, whose chain up to b is as at the start, into a list of F
pub record Moved (start : Model) (F A : Element → Type 0) (b : Element) (m : Model) (e : Element) : Type 0 where
  pub within : A e
  pub owner : Element
  pub owned : parent_of start e ≡ some owner
  pub chain : Common start m b owner
  pub parent : Element
  pub given : parent_of m e ≡ some parent
  pub taken : F parent

-- changed at most the lists of F, and moved at most elements of A
pub record Moves (start : Model) (F A : Element → Type 0) (b : Element) (m m' : Model) : Type 0 where
  pub lists : (p : Element) → (F p → ⊥) → list_of m' p ≡ list_of m p
  pub new : (p e : Element) → In (child e) (list_of m' p) → In (child e) (list_of m p) ⊎ ((parent_of m' e ≡ some p) × A e)
  pub parents : (e : Element) → (parent_of m' e ≡ parent_of m e) ⊎ Moved start F A b m' e

-- a path with no mark within that keeps the root's set, with what it moves
pub record MergeSteps (x : Fixed) (start : Model) (F A : Element → Type 0) (b : Element) (t u : State) : Type 0 where
  pub unmarked : Unmarked t u
  pub kept : Kept x u
  pub root_set : set_of u.model root ≡ set_of t.model root
  pub moves : Moves start F A b t.model u.model

-- A reaches up to b, b left out
abbrev pub Closed : Model → (Element → Type 0) → Element → Type 0
Closed start A b = (e q : Element) → A e → parent_of start e ≡ some q → (q ≡ b) ⊎ A q

module _ {start : Model} {F G A B : Element → Type 0} (f : (p : Element) → F p → G p) (g : (e : Element) → A e → B e) {b b' : Element} where
  moved-map : {m m' : Model} (e : Element) → parent_of m' e ≡ parent_of m e
      → ((q : Element) → A e → parent_of start e ≡ some q → Common start m b q → Common start m' b' q)
      → Moved start F A b m e → Moved start G B b' m' e
  moved-map e same chain h =
      record {
        within = g e h.within;
        owner = h.owner;
        owned = h.owned;
        chain = chain h.owner h.within h.owned h.chain;
        parent = h.parent;
        given = same ∙ h.given;
        taken = f h.parent h.taken;
      }

  -- more may be changed and moved, below another b
  pub merge-steps-map : {x : Fixed} {t u : State} → ((q : Element) → Common start u.model b q → Common start u.model b' q)
      → MergeSteps x start F A b t u → MergeSteps x start G B b' t u
  merge-steps-map chain h =
      record {
        unmarked = h.unmarked;
        kept = h.kept;
        root_set = h.root_set;
        moves =
            record {
              lists = λ p n. h.moves.lists p (λ k. n (f p k));
              new = λ p e i. ⊎_elim (λ k. inl k) (λ k. inr (k.0, g e k.1)) (h.moves.new p e i);
              parents =
                  λ e. ⊎_elim (λ k. inl k) (λ k. inr (moved-map e refl (λ q _ _ c. chain q c) k)) (h.moves.parents e);
            };
      }

-- more may be changed and moved
pub merge-steps-widen : {x : Fixed} {start : Model} {F G A B : Element → Type 0} {b : Element} {t u : State} → ((p : Element) → F p → G p)
    → ((e : Element) → A e → B e) → MergeSteps x start F A b t u → MergeSteps x start G B b t u
merge-steps-widen f g h = merge-steps-map f g (λ q c. c) h

module _ {start : Model} {b : Element} where
  common-same : {m m' : Model} → ((e : Element) → parent_of m' e ≡ parent_of m e) → {q : Element} → Common start m b q → Common start m' b q
  common-same h (at e) = at e
  common-same h (up {p} e e' c) = up e (h p ∙ e') (common-same h c)

  common-closed : {A : Element → Type 0} {m m' : Model} → Closed start A b → ((e : Element) → A e → parent_of m' e ≡ parent_of m e)
      → {q : Element} → Common start m b q → (q ≡ b) ⊎ A q → Common start m' b q
  common-closed closed h (at e) k = at e
  common-closed closed h (up {p} {q} e e' c) k =
      ⊎_elim (λ z. at z) (λ a. up e (h p a ∙ e') (common-closed closed h c (closed p q a e))) k

  module _ {F A B : Element → Type 0} (closed : Closed start A b) (disjoint : (e : Element) → A e → B e → ⊥) where
    keeps : {m m' : Model} → Moves start F B b m m' → (e : Element) → A e → parent_of m' e ≡ parent_of m e
    keeps k e a = ⊎_elim (λ h. h) (λ h. absurd (disjoint e a h.within)) (k.parents e)

    moves-trans : {m m' m'' : Model} → Moves start F A b m m' → Moves start F B b m' m'' → Moves start F (λ (e : Element). A e ⊎ B e) b m m''
    moves-trans h k =
        record {
          lists = λ p n. k.lists p n ∙ h.lists p n;
          new =
              λ p e i.
              ⊎_elim (λ j. ⊎_elim (λ o. inl o) (λ o. inr (keeps k e o.1 ∙ o.0, inl o.1)) (h.new p e j)) (λ o. inr (o.0, inr o.1))
              (k.new p e i);
          parents =
              λ e.
              ⊎_elim
              (λ same.
              ⊎_elim (λ same'. inl (same ∙ same'))
              (λ v.
              inr
              (moved-map (λ p j. j) (λ c j. inl j) e same (λ q w own c. common-closed closed (keeps k) c (closed e q w own)) v))
              (h.parents e))
              (λ v. inr (moved-map (λ p j. j) (λ c j. inr j) e refl (λ q _ _ c. c) v)) (k.parents e);
        }

    -- two stretches that move different elements
    pub merge-steps-trans : {x : Fixed} {t u v : State} → MergeSteps x start F A b t u → MergeSteps x start F B b u v
        → MergeSteps x start F (λ (e : Element). A e ⊎ B e) b t v
    merge-steps-trans h k =
        record {
          unmarked = unmarked-append h.unmarked k.unmarked;
          kept = k.kept;
          root_set = k.root_set ∙ h.root_set;
          moves = moves-trans h.moves k.moves;
        }

  module _ {F A : Element → Type 0} where
    -- a path of no change
    pub merge-steps-still : {x : Fixed} {t : State} → Kept x t → MergeSteps x start F A b t t
    merge-steps-still k =
        record { unmarked = still; kept = k; root_set = refl; moves = record { lists = λ p n. refl; new = λ p e i. inl i; parents = λ e. inl refl } }

    -- a set put moves nothing
    pub moves_put : {m m' : Model} (e : Element) (v : FileSet) → Moves start F A b m m' → Moves start F A b m (put_set m' e v)
    unfolding put_set
    moves_put e v h =
        record {
          lists = h.lists;
          new = h.new;
          parents =
              λ c.
              ⊎_elim (λ k. inl k)
              (λ k. inr (moved-map (λ p j. j) (λ d j. j) c refl (λ q _ _ z. common-same (λ _. refl) z) k)) (h.parents c);
        }

    -- a set put, of another element than the root
    pub merge-steps-put : {x : Fixed} {t u : State} → MergeSteps x start F A b t u → (e : Element) (v : FileSet) {entry : Entry} → (e ≡ root → ⊥)
        → Change u.model entry (put_set u.model e v) → is_root_extension entry ≡ false
        → Kept x (record { model = put_set u.model e v; log = entry ∷ u.log })
        → MergeSteps x start F A b t (record { model = put_set u.model e v; log = entry ∷ u.log })
    merge-steps-put {u} h e v other c plain k =
        record {
          unmarked = more h.unmarked c plain;
          kept = k;
          root_set = set-put_set-other u.model e v root (λ q. other (sym q)) ∙ h.root_set;
          moves = moves_put e v h.moves;
        }
