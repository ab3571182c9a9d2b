-- Line by line through a load: what is printed in the end is the deck's lines from the M line on. Assumes nothing.
use mathlib.Core.Bool.{true, false, not, ◌&&◌, false≢true, true≢false, and-eq-true_iff}
use mathlib.Core.List.{List, [], ◌∷◌, ◌++◌, append-nil, append_assoc}
use mathlib.Core.Logic.{inl, ⊎_elim}
use mathlib.Core.Option.{some, some-injective}
use mathlib.Core.Path.{◌≡◌, refl, sym, ap, ◌∙◌}
use Prim.Native.Nat.{ℕ, suc, ◌<◌}
use native.Mathlib.Omega.{arith}
use borrow.Author.Tests.{leb-true, not-true}
use lib.Dec.{leb, lit<, lit≤}
use lib.ListN.{length, length-append}
use Rattle.tables.specs.Bytes.{bytes}
use Rattle.tables.specs.Cells.{Each}
use Rattle.tables.specs.Limits.{deck_limit}
use Rattle.tables.specs.Lists.{same_list}
use Rattle.tables.specs.Records.{Fixed, State}
use Rattle.tables.proofs.Laws.Cells.{each_both}
use Rattle.tables.proofs.Laws.Cases.{bool-split, bool_case}
use Rattle.deck.specs.Deck.{Part, parts, lines, Line, T, G, S, F, M, B, E, C, read_line}
use Rattle.deck.specs.Load.{form, Loading, nothing, kind_t, kind_g, kind_s, kind_f, kind_m, kind_b, put_schema, open_tree, put_content, load_t, load_g, load_s, load_f, load_m, load_b, load_e, load_c, load_root, load_child, load_line, ◌>>=◌ as bind_res, given, Load, loaded, refused_at, finish, load_lines, load}
use Rattle.merge_rules.specs.DeckLines.{trees_lines, joined_lines, tree_part, follows, in_order}
use Rattle.merge_rules.specs.Program.{line_of}
use Rattle.merge_rules.proofs.Laws.Back.{PrintedSoFar, complete-of, model-due, line_step}
use Rattle.merge_rules.proofs.Laws.Cases.{list-case, some-value, IfOk, is_ok, need-bind, given-bind, ok-case, ok-both}
use Rattle.merge_rules.proofs.Laws.Forest.{forest, trees-forest}
use Rattle.merge_rules.proofs.Laws.LinesBack.{At, parts-placed, read_back, M-read}
use Rattle.tables.proofs.Laws.Lists.{same_lists}
use Rattle.merge_rules.proofs.Laws.Loaded.{fixed_of, LoadingSound, schema-stage, no-owner, load_line-ok, sound-nothing}
use Rattle.merge_rules.proofs.Laws.Parse.{PartIn, parts_in, read_ok}

-- the line `M` without its LF
cut-end : (bs : List ℕ) → bs ++ bytes "\n" ≡ line_of (bytes "M" ∷ []) → bs ≡ bytes "M"
unfolding line_of bytes
cut-end [] h = absurd (omega (arith, ap length h))
cut-end (b ∷ []) h = let z : b ≡ 77 = cc in rw z
cut-end (b ∷ c ∷ bs) h = absurd (omega (arith, ap length h, length-append bs (10 ∷ [])))

-- the lines from an `M` on
part-model : (p : Part) (ps : List Part) → p.bytes ≡ bytes "M" → tree_part (p ∷ ps) ≡ joined_lines (p ∷ ps)
unfolding tree_part same_list bytes
part-model p ps e =
    let same : same_list p.bytes (bytes "M") ≡ true = ap (λ (bs : List ℕ). same_list bs (bytes "M")) e in
    rw (tree_part, same)

-- and those behind another line
part-other : (p : Part) (ps : List Part) → same_list p.bytes (bytes "M") ≡ false → tree_part (p ∷ ps) ≡ tree_part ps
unfolding tree_part
part-other p ps e = rw (tree_part, e)

-- a line that is read as another is not `M`
other-line : (p : Part) (line : Line) → read_line p ≡ some line → (line ≡ M → ⊥) → same_list p.bytes (bytes "M") ≡ false
other-line p line e other =
    bool-split (same_list p.bytes (bytes "M"))
    (λ t. absurd (other (some-injective line M (sym e ∙ M-read p (same_lists p.bytes (bytes "M") t))))) (λ t. t)

module _ (deck : List ℕ) where
  -- what is loaded prints as these bytes
  pub data LoadPrints (bs : List ℕ) : Load → Type 0 where
    is_loaded : {x : Fixed} {s : State} → trees_lines x s.model ≡ bs → LoadPrints bs (loaded x s)
    is_refused_at : {r n : ℕ} → LoadPrints bs (refused_at r n)

  -- a part of the deck
  abbrev PartOfDeck : Part → Type 0
  PartOfDeck p = At deck p × PartIn (length deck) p

  -- ---- from the M line on

  finish-prints : (n : ℕ) {l : Loading} (latest : Line) (printed : List ℕ) → LoadingSound deck l → PrintedSoFar deck l latest printed
      → LoadPrints printed (finish deck n l)
  unfolding finish
  finish-prints n {l} latest printed g ph =
      bool_case (LoadPrints printed) (l.model_seen && not l.root_due)
      (λ h.
      let ready : l.root_due ≡ false = not-true _ ((and-eq-true_iff l.model_seen _).0 h).1 in
      ⊎_elim (λ k. absurd (true≢false (sym k.0 ∙ ready)))
      (λ k.
      is_loaded
      (trees-forest (fixed_of deck l) l.model (complete-of deck g.stage ph.seen ready).built.trees.waiting
      ∙ ap (forest (fixed_of deck l) l.model) k.1.trees ∙ sym k.1.is))
      ph.at)
      (λ _. is_refused_at)

  last-part : (n : ℕ) (l : Loading) (printed : List ℕ) → LoadPrints printed (finish deck n l) → (bs : List ℕ)
      → LoadPrints (printed ++ bs) (elim bs [ [] ↦ finish deck n l | b ∷ cs ↦ refused_at form (suc n) ])
  last-part n l printed h [] = rw append-nil h
  last-part n l printed h (b ∷ cs) = is_refused_at

  -- a line more
  record Stepped (p : Part) (l' : Loading) (printed : List ℕ) : Type 0 where
    line : Line
    read : read_line p ≡ some line
    sound : LoadingSound deck l'
    phase : PrintedSoFar deck l' line (printed ++ (p.bytes ++ bytes "\n"))

  step : (p : Part) {l : Loading} (latest : Line) (printed : List ℕ) → PartOfDeck p → LoadingSound deck l → PrintedSoFar deck l latest printed
      → follows (some latest) (read_line p) ≡ true → IfOk (λ (l' : Loading). Stepped p l' printed) (bind_res (given form (read_line p)) (load_line l))
  unfolding follows
  step p {l} latest printed i g ph f =
      given-bind form (read_line p) (λ line e.
      ok-both (load_line-ok deck g line (some-value (read_ok (length deck) p i.1) e))
      (line_step deck g ph line (rw e at f) (p.bytes ++ bytes "\n") (some-value (read_back (fixed_of deck l) p i.0) e))
      (λ l' g' h. record { line = line; read = e; sound = g'; phase = h }))

  lines-print : (n : ℕ) (p : Part) (ps : List Part) {l : Loading} (latest : Line) (printed : List ℕ) → Each PartOfDeck (p ∷ ps) → LoadingSound deck l
      → PrintedSoFar deck l latest printed → follows (some latest) (read_line p) ≡ true → in_order (p ∷ ps) ≡ true
      → LoadPrints (printed ++ joined_lines (p ∷ ps)) (load_lines deck n (p ∷ ps) l)
  unfolding load_lines joined_lines in_order
  lines-print n p [] {l} latest printed i g ph f o = last-part n l printed (finish-prints n latest printed g ph) p.bytes
  lines-print n p (q ∷ ps) latest printed i g ph f o =
      let (next, rest) = (and-eq-true_iff (follows (read_line p) (read_line q)) (in_order (q ∷ ps))).0 o in
      ok-case (LoadPrints (printed ++ ((p.bytes ++ bytes "\n") ++ joined_lines (q ∷ ps)))) (step p latest printed i.0 g ph f)
      (λ l' s.
      rw (← append_assoc printed (p.bytes ++ bytes "\n") (joined_lines (q ∷ ps)))
      (lines-print (suc n) q ps s.line (printed ++ (p.bytes ++ bytes "\n")) i.1 s.sound s.phase (rw s.read at next) rest))
      (λ r. is_refused_at)

  -- ---- where a B line comes before any M line, no end accepts

  abbrev ModelMissing : Loading → Type 0
  ModelMissing l = (l.model_seen ≡ false) × (l.latest ≡ kind_b)

  never-line : (l : Loading) → ModelMissing l → (line : Line) → IfOk ModelMissing (load_line l line)
  unfolding load_line load_t load_g load_s load_f load_m load_b load_e load_c load_root load_child open_tree put_content
  never-line l h (T t r) = need-bind _ _ (λ _ k. absurd (omega (arith, leb-true l.latest kind_t ((and-eq-true_iff (leb l.latest kind_t) _).0 k).0, h.1)))
  never-line l h (G r) = need-bind _ _ (λ _ k. absurd (omega (arith, leb-true l.latest kind_g k, h.1)))
  never-line l h (S r) = need-bind _ _ (λ _ k. absurd (omega (arith, leb-true l.latest kind_s k, h.1)))
  never-line l h (F r) = need-bind _ _ (λ _ k. absurd (omega (arith, leb-true l.latest kind_f ((and-eq-true_iff (leb l.latest kind_f) _).0 k).0, h.1)))
  never-line l h M = need-bind _ _ (λ _ k. absurd (omega (arith, leb-true l.latest kind_m k, h.1)))
  never-line l h (B f) = need-bind _ _ (λ _ _. is_ok (h.0, refl))
  never-line l h (E d n s) =
      need-bind _ _ (λ _ _.
      bool_case (IfOk ModelMissing) l.root_due (λ _. need-bind _ _ (λ _ _. need-bind _ _ (λ _ _. need-bind _ _ (λ _ _. is_ok h))))
      (λ _. given-bind _ _ (λ p _. given-bind _ _ (λ row _. need-bind _ _ (λ _ _. is_ok h)))))
  never-line l h (C d t) =
      need-bind _ _ (λ _ _. need-bind _ _ (λ _ _. given-bind _ _ (λ p _. need-bind _ _ (λ _ _. is_ok h))))

  never-finish : (n : ℕ) (bs : List ℕ) (l : Loading) → l.model_seen ≡ false → LoadPrints bs (finish deck n l)
  unfolding finish
  never-finish n bs l h =
      bool_case (LoadPrints bs) (l.model_seen && not l.root_due) (λ k. absurd (false≢true (sym h ∙ ((and-eq-true_iff l.model_seen _).0 k).0))) (λ _. is_refused_at)

  never : (n : ℕ) (p : Part) (ps : List Part) (bs : List ℕ) (l : Loading) → ModelMissing l → LoadPrints bs (load_lines deck n (p ∷ ps) l)
  unfolding load_lines
  never n p [] bs l h = list-case (LoadPrints bs) p.bytes (never-finish n bs l h.0) (λ _ _. is_refused_at)
  never n p (q ∷ ps) bs l h =
      ok-case (LoadPrints bs) (given-bind form (read_line p) (λ line _. never-line l h line)) (λ l' k. never (suc n) q ps bs l' k) (λ r. is_refused_at)

  -- ---- up to the M line

  -- the loading behind a line there
  data Next (p : Part) (l' : Loading) : Type 0 where
    schema_line : l'.latest < kind_m → same_list p.bytes (bytes "M") ≡ false → Next p l'
    model_line : read_line p ≡ some M → p.bytes ≡ bytes "M" → PrintedSoFar deck l' M (p.bytes ++ bytes "\n") → Next p l'
    tree_line : ModelMissing l' → Next p l'

  module _ {l : Loading} (g : LoadingSound deck l) (low : l.latest < kind_m) where
    unseen : l.model_seen ≡ false
    unfolding put_schema
    unseen = schema-stage deck (λ (r : Loading). r.model_seen ≡ false) g.stage low (λ k sc. refl)

    not-due : l.root_due ≡ false
    unfolding put_schema
    not-due = schema-stage deck (λ (r : Loading). r.root_due ≡ false) g.stage low (λ k sc. refl)

    none_open : l.above ≡ []
    unfolding put_schema
    none_open = schema-stage deck (λ (r : Loading). r.above ≡ []) g.stage low (λ k sc. refl)

    model-step : (bs : List ℕ) → bs ≡ line_of (bytes "M" ∷ []) → PrintedSoFar deck (open_tree l kind_m true l.elements) M bs
    unfolding open_tree put_schema
    model-step bs e =
        schema-stage deck (λ (r : Loading). PrintedSoFar deck (open_tree r kind_m true r.elements) M bs) g.stage low
        (λ k sc. record { seen = refl; kind = lit≤ tt; at = inl (refl, rw e (model-due deck k sc)) })

    before-line : (p : Part) → PartOfDeck p → (line : Line) → read_line p ≡ some line → IfOk (Next p) (load_line l line)
    unfolding load_line load_t load_g load_s load_f load_m load_b load_e load_c load_child put_schema open_tree
    before-line p i (T t r) e =
        need-bind _ _ (λ _ _. need-bind _ _ (λ _ _.
        is_ok (schema_line (lit< tt) (other-line p (T t r) e (λ q. let z : ◌≡◌ {A = ℕ} 0 1 = cc in omega arith)))))
    before-line p i (G r) e =
        need-bind _ _ (λ _ _. need-bind _ _ (λ _ _. need-bind _ _ (λ _ _.
        is_ok (schema_line (lit< tt) (other-line p (G r) e (λ q. let z : ◌≡◌ {A = ℕ} 0 1 = cc in omega arith))))))
    before-line p i (S r) e =
        need-bind _ _ (λ _ _. need-bind _ _ (λ _ _. need-bind _ _ (λ _ _.
        is_ok (schema_line (lit< tt) (other-line p (S r) e (λ q. let z : ◌≡◌ {A = ℕ} 0 1 = cc in omega arith))))))
    before-line p i (F r) e =
        need-bind _ _ (λ _ _. is_ok (schema_line (lit< tt) (other-line p (F r) e (λ q. let z : ◌≡◌ {A = ℕ} 0 1 = cc in omega arith))))
    before-line p i M e =
        let back : p.bytes ++ bytes "\n" ≡ line_of (bytes "M" ∷ []) = some-value (read_back (fixed_of deck l) p i.0) e in
        need-bind _ _ (λ _ _. need-bind _ _ (λ _ _. is_ok (model_line e (cut-end p.bytes back) (model-step (p.bytes ++ bytes "\n") back))))
    before-line p i (B f) e = need-bind _ _ (λ _ _. is_ok (tree_line (unseen, refl)))
    before-line p i (E d n s) e =
        need-bind _ _ (λ _ _.
        bool_case (IfOk (Next p)) l.root_due (λ r. absurd (true≢false (sym r ∙ not-due)))
        (λ _. given-bind _ _ (λ c o. absurd (no-owner deck l none_open d c o))))
    before-line p i (C d t) e =
        need-bind _ _ (λ _ _. need-bind _ _ (λ _ _. given-bind _ _ (λ c o. absurd (no-owner deck l none_open d c o))))

  after : (n : ℕ) (p q : Part) (ps : List Part) {l : Loading} → Each PartOfDeck (q ∷ ps) → LoadingSound deck l → follows (read_line p) (read_line q) ≡ true
      → in_order (q ∷ ps) ≡ true → (l.latest < kind_m → LoadPrints (tree_part (q ∷ ps)) (load_lines deck (suc n) (q ∷ ps) l)) → Next p l
      → LoadPrints (tree_part (p ∷ q ∷ ps)) (load_lines deck (suc n) (q ∷ ps) l)
  unfolding joined_lines
  after n p q ps i g f o rest (schema_line low other) = rw (part-other p (q ∷ ps) other) (rest low)
  after n p q ps {l} i g f o rest (model_line e is ph) =
      rw (part-model p (q ∷ ps) is) (lines-print (suc n) q ps M (p.bytes ++ bytes "\n") i g ph (rw e at f) o)
  after n p q ps {l} i g f o rest (tree_line h) = never (suc n) q ps (tree_part (p ∷ q ∷ ps)) l h

  lines-before : (n : ℕ) (p : Part) (ps : List Part) {l : Loading} → Each PartOfDeck (p ∷ ps) → LoadingSound deck l → l.latest < kind_m → in_order (p ∷ ps) ≡ true
      → LoadPrints (tree_part (p ∷ ps)) (load_lines deck n (p ∷ ps) l)
  unfolding load_lines in_order
  lines-before n p [] {l} i g low o =
      list-case (LoadPrints (tree_part (p ∷ []))) p.bytes (never-finish n (tree_part (p ∷ [])) l (unseen g low)) (λ _ _. is_refused_at)
  lines-before n p (q ∷ ps) {l} i g low o =
      let (next, rest) = (and-eq-true_iff (follows (read_line p) (read_line q)) (in_order (q ∷ ps))).0 o in
      ok-case (LoadPrints (tree_part (p ∷ q ∷ ps)))
      (given-bind form (read_line p) (λ line e.
      ok-both {D'' = λ (l' : Loading). LoadingSound deck l' × Next p l'} (load_line-ok deck g line (some-value (read_ok (length deck) p i.0.1) e))
      (before-line g low p i.0 line e) (λ l' g' k. (g', k))))
      (λ l' s. after n p q ps i.1 s.0 next rest (λ lower. lines-before (suc n) q ps i.1 s.0 lower rest) s.1) (λ r. is_refused_at)

  -- ---- the whole deck

  all_lines : (ps : List Part) → Each PartOfDeck ps → in_order ps ≡ true → LoadPrints (tree_part ps) (load_lines deck 0 ps nothing)
  unfolding load_lines
  all_lines [] i o = never-finish 0 _ nothing refl
  all_lines (p ∷ ps) i o = lines-before 0 p ps i (sound-nothing deck) (lit< tt) o

  -- a load
  pub load-prints : in_order (lines deck) ≡ true → LoadPrints (tree_part (lines deck)) (load deck)
  unfolding load lines
  load-prints o =
      bool_case (LoadPrints (tree_part (parts 10 0 deck))) (leb (length deck) deck_limit)
      (λ _.
      all_lines (parts 10 0 deck)
      (each_both (At deck) (PartIn (length deck)) (parts 10 0 deck) (parts-placed deck 10 0 deck [] (sym (append-nil deck)))
      (parts_in (length deck) 10 0 deck (omega arith)))
      o)
      (λ _. is_refused_at)

  -- and what it accepts
  pub loaded-prints : {bs : List ℕ} {x : Fixed} {s : State} → LoadPrints bs (loaded x s) → trees_lines x s.model ≡ bs
  loaded-prints (is_loaded h) = h
