-- What is printed of the trees so far is the tree lines so far. Assumes nothing.
use mathlib.Core.Bool.{true, false, not, ◌&&◌, false≢true, true≢false, and-eq-true_iff}
use mathlib.Core.List.Memᴰ
use mathlib.Core.List.{List, [], ◌∷◌, ◌++◌, append-nil, append_assoc}
use mathlib.Core.Logic.{◌⊎◌, inl, inr, ⊎_elim}
use mathlib.Core.Option.{none, some, none-ne-some, some-injective}
use mathlib.Core.Path.{◌≡◌, refl, sym, ap, subst, ◌∙◌}
use Prim.Native.Nat.{ℕ, zero, suc, ◌+◌, ◌-◌, ◌≤◌, ◌<◌}
use native.Mathlib.Nat.{le_refl}
use native.Mathlib.Omega.{arith}
use borrow.Author.Tests.{leb-true, ltb-true, eqb-true, not-true}
use lib.Dec.{eqb, leb, lit<, lit≤}
use lib.ListN.{length, take, get_elem?, length-append, length-set}
use lib.Seq.{get_or_at, take-take, take-length, length-take-le}
use Rattle.tables.specs.Bytes.{bytes}
use Rattle.tables.specs.Limits.{depth_limit}
use Rattle.tables.specs.Records.{Element, Name, FileNumber, FileSet, SubElement, Schema, Text, enum_number, Tree, Item, child, text, Model, Fixed, root, depth_of, text_of, list_of, add_tree, add_element, add_text, add_to_model, insert_item, put_list}
use Rattle.tables.proofs.Laws.Cases.{bool_case}
use Rattle.deck.specs.Deck.{Line, T, G, S, F, M, B, E, C}
use Rattle.deck.specs.Load.{Loading, nothing, kind_t, kind_g, kind_s, kind_f, kind_m, put_schema, open_tree, put_content, load_t, load_g, load_s, load_f, load_m, may_wait, load_b, owner, next_element, append, load_root, load_child, load_e, load_c, load_line}
use Rattle.merge_rules.specs.DeckLines.{line_depth, may_follow}
use Rattle.merge_rules.specs.Program.{decimal_of, hexadecimal_of, line_of, text_line, item_lines, element_lines}
use Rattle.merge_rules.specs.Sound.{count, ItemInRange}
use Rattle.deck.proofs.Laws.Load.{owner-within}
use Rattle.merge_rules.proofs.Laws.Cases.{IfOk, is_ok, need-bind, given-bind}
use Rattle.merge_rules.proofs.Laws.Forest.{Head, head_b, heads, forest, forest-snoc, heads-snoc, Earlier, forest-same, forest-put}
use Rattle.merge_rules.proofs.Laws.Growing.{text-line-same, grown-item, item-put, grown-text, grown-trees, grown-element, new_line, grown-twice}
use Rattle.merge_rules.proofs.Laws.LinesBack.{Back}
use Rattle.merge_rules.proofs.Laws.Lists.{each_nil, each_snoc, get_d-snoc-default}
use Rattle.merge_rules.proofs.Laws.Loaded.{tree_opened, root_added, child_added, text_added, fixed_of, Complete, Stage, schema_only, model_due, model_missing, complete, tree_due, LoadingSound, owner-open, limits}
use Rattle.merge_rules.proofs.Laws.Loading.{NewElement, with_element, with_texts}
use Rattle.merge_rules.proofs.Laws.Rightmost.{Grown, ItemsInRange, Link, Open, first, open-take, open_step}

-- ---- fronts of the open elements

take-some : (l : List Element) (n : ℕ) (p : Element) → get_elem? l n ≡ some p → take (suc n) l ≡ take n l ++ (p ∷ [])
take-some [] n p h = absurd (none-ne-some p h)
take-some (a ∷ l) zero p h = rw (some-injective a p h)
take-some (a ∷ l) (suc n) p h = ap (λ (r : List Element). a ∷ r) (take-some l n p h)

first-take : (n : ℕ) (l : List Element) (a : Element) → first l a ≡ a → first (take n l) a ≡ a
first-take zero l a h = refl
first-take (suc n) [] a h = refl
first-take (suc n) (b ∷ l) a h = h

first-snoc : (l : List Element) (p : Element) (tail : List Element) (a : Element) → first (l ++ (p ∷ tail)) a ≡ first l p
first-snoc [] p tail a = refl
first-snoc (b ∷ l) p tail a = refl

module _ (deck : List ℕ) where
  abbrev fix : Loading → Fixed
  fix l = fixed_of deck l

  -- ---- what holds behind each line

  -- the latest line is an M or B line: the trees before it are printed, and it
  pub record RootDue (l : Loading) (printed : List ℕ) : Type 0 where
    pub earlier : List Head
    pub line : List ℕ
    pub trees : heads l.elements.trees ≡ earlier ++ (record { line = line; root = count (fix l) } ∷ [])
    pub below : Earlier (fix l) earlier (count (fix l))
    pub is : printed ≡ forest (fix l) l.model earlier ++ line
    pub depths : length l.elements.depths ≡ count (fix l)
    pub parents : length l.model.parents ≡ count (fix l)
    pub sets : length l.model.sets ≡ count (fix l)
    pub lists : length l.model.lists ≡ count (fix l)
    pub items : ItemsInRange (fix l) l.model

  -- all trees are printed; reach: how many of the open elements are last in their lists; latest: the latest line
  pub record TreesPrinted (l : Loading) (latest : Line) (printed : List ℕ) : Type 0 where
    pub earlier : List Head
    pub line : List ℕ
    pub top : Element
    pub trees : heads l.elements.trees ≡ earlier ++ (record { line = line; root = top } ∷ [])
    pub below : Earlier (fix l) earlier top
    pub range : top < count (fix l)
    pub depth : depth_of (fix l) top ≡ 0
    pub is : printed ≡ forest (fix l) l.model (earlier ++ (record { line = line; root = top } ∷ []))
    pub reach : ℕ
    pub opened : Open (fix l) l.model 0 none (take reach l.above)
    pub begins : first (take reach l.above) top ≡ top
    pub may : (next : Line) → may_follow latest next ≡ true → line_depth next ≤ length l.above → line_depth next ≤ reach

  -- an M line was read
  pub record PrintedSoFar (l : Loading) (latest : Line) (printed : List ℕ) : Type 0 where
    pub seen : l.model_seen ≡ true
    pub kind : kind_m ≤ l.latest
    pub at : ((l.root_due ≡ true) × RootDue l printed) ⊎ ((l.root_due ≡ false) × TreesPrinted l latest printed)

  -- the stage where no root is due
  pub complete-of : {l : Loading} → Stage deck l → l.model_seen ≡ true → l.root_due ≡ false → Complete deck l
  unfolding put_schema open_tree
  complete-of (schema_only k sc h) seen r = absurd (false≢true seen)
  complete-of (model_due k sc) seen r = absurd (true≢false r)
  complete-of (model_missing h g) seen r = absurd (false≢true (sym g ∙ seen))
  complete-of (complete g) seen r = g
  complete-of (tree_due l f g w) seen r = absurd (true≢false r)

  -- ---- an item more

  -- a change from l to l' that puts the item into the list of p, open at depth d
  record Puts (l l' : Loading) (d : ℕ) (p : Element) (i : Item) (next : Line) : Type 0 where
    grown : Grown (fix l) l.model (fix l') l'.model p
    put : list_of l'.model p ≡ list_of l.model p ++ (i ∷ [])
    trees : l'.elements.trees ≡ l.elements.trees
    tail : List Element
    link : Link l'.model p tail
    opens : Open (fix l') l'.model (suc (depth_of (fix l) p)) (some p) tail
    reach : ℕ
    front : take reach l'.above ≡ take (suc d) l.above ++ tail
    may : (later : Line) → may_follow next later ≡ true → line_depth later ≤ length l'.above → line_depth later ≤ reach

  module _ (l l' : Loading) (latest next : Line) (printed : List ℕ) (d : ℕ) (p : Element) (i : Item) (v : TreesPrinted l latest printed) (c : Complete deck l)
      (follows : may_follow latest next ≡ true) (deep : line_depth next ≡ suc d) (o : get_elem? l.above d ≡ some p) (u : Puts l l' d p i next) where
    abbrev x : Fixed
    x = fix l

    abbrev as' : List Element
    as' = take d l.above

    reached : suc d ≤ v.reach
    unfolding owner
    reached = omega (arith, v.may next follows (omega (arith, owner-within l (suc d) p o)))

    front-is : take (suc d) (take v.reach l.above) ≡ as' ++ (p ∷ [])
    front-is = take-take (suc d) v.reach l.above reached ∙ take-some l.above d p o

    open-front : Open x l.model 0 none (as' ++ (p ∷ []))
    open-front = subst (Open x l.model 0 none) front-is (open-take x l.model (suc d) 0 none (take v.reach l.above) v.opened)

    top-is : first as' p ≡ v.top
    top-is =
        sym (first-snoc as' p [] v.top) ∙ ap (λ (w : List Element). first w v.top) (sym front-is)
        ∙ first-take (suc d) (take v.reach l.above) v.top v.begins

    front_length : length as' ≡ d
    unfolding owner
    front_length = length-take-le d l.above (omega (arith, owner-within l (suc d) p o))

    front-now : take u.reach l'.above ≡ as' ++ (p ∷ u.tail)
    front-now =
        u.front ∙ ap (λ (w : List Element). w ++ u.tail) (take-some l.above d p o) ∙ append_assoc as' (p ∷ []) u.tail

    -- the item's lines are printed behind all others
    put-printed : (k : ℕ) → d + k ≡ depth_limit
        → TreesPrinted l' next (printed ++ item_lines (element_lines k (fix l') l'.model) (fix l') (suc d) (i ∷ []))
    put-printed k levels =
        let lower : Element → List ℕ = element_lines k (fix l') l'.model in
        let all : Element → List Head = λ t. v.earlier ++ (record { line = v.line; root = t } ∷ []) in
        let behind : forest (fix l') l'.model (all (first as' p)) ≡ forest x l.model (all (first as' p)) ++ item_lines lower (fix l') (suc (length as')) (i ∷ []) =
        forest-put u.grown c.built as' open-front i u.put v.earlier v.line k (omega (arith, front_length))
        (λ h j. (omega (arith, (v.below h j).0, top-is), (v.below h j).1)) in
        let behind' : forest (fix l') l'.model (all v.top) ≡ forest x l.model (all v.top) ++ item_lines lower (fix l') (suc d) (i ∷ []) =
        subst
        (λ (n : ℕ). forest (fix l') l'.model (all v.top) ≡ forest x l.model (all v.top) ++ item_lines lower (fix l') (suc n) (i ∷ []))
        front_length
        (subst
        (λ (t : Element). forest (fix l') l'.model (all t) ≡ forest x l.model (all t) ++ item_lines lower (fix l') (suc (length as')) (i ∷ []))
        top-is behind) in
        record {
          earlier = v.earlier;
          line = v.line;
          top = v.top;
          trees = ap heads u.trees ∙ v.trees;
          below = λ h j. ((v.below h j).0, u.grown.depth h.root (omega (arith, (v.below h j).0, v.range)) ∙ (v.below h j).1);
          range = omega (arith, v.range, u.grown.more);
          depth = u.grown.depth v.top v.range ∙ v.depth;
          is = ap (λ (r : List ℕ). r ++ item_lines lower (fix l') (suc d) (i ∷ [])) v.is ∙ sym behind';
          reach = u.reach;
          opened =
              subst (Open (fix l') l'.model 0 none) (sym front-now)
              (open_step u.grown c.built (as' ++ (p ∷ [])) open-front as' u.tail 0 none open-front u.link u.opens);
          begins = ap (λ (w : List Element). first w v.top) front-now ∙ first-snoc as' p u.tail v.top ∙ top-is;
          may = u.may;
        }

  -- ---- E, C

  module _ (l : Loading) (c : Complete deck l) (d : ℕ) (p : Element) (o : owner l (suc d) ≡ some p) where
    range : p < count (fix l)
    range = (owner-open deck l c (suc d) p o).0

    deeper : suc d ≡ suc (depth_of (fix l) p)
    deeper = (owner-open deck l c (suc d) p o).1

    child-puts : (n : Name) (s : FileSet) (row : SubElement) → Puts l (child_added l (suc d) n s p row) d p (child (count (fix l))) (E (suc d) n s)
    unfolding put_content add_element next_element add_to_model append insert_item put_list may_follow
    child-puts n s row =
        let x : Fixed = fix l in
        let e : Element = count x in
        let m : Model = l.model in
        let q : Model = append m p (child e) in
        let new : NewElement = record { name = n; type = row.child_type; depth = suc d; parent = some p; set = s } in
        let put : list_of (add_to_model q (some p) s) p ≡ list_of m p ++ (child e ∷ []) =
        get_d-snoc-default q.lists [] p ∙ item-put x m p (child e) (rw c.built.kept.lists range) in
        record {
          grown =
              grown-twice (le_refl _) (grown-item x m p (child e))
              (grown-element x q p new l.elements.trees c.built.elements.depths c.built.kept.parents c.built.kept.sets);
          put = put;
          trees = refl;
          tail = e ∷ [];
          link = record { front = list_of m p; is = put };
          opens = (
            rw length-append (omega arith),
            get_or_at l.elements.depths (suc d) [] 0 e c.built.elements.depths ∙ deeper,
            get_or_at m.parents (some p) [] none e c.built.kept.parents,
            tt,
            tt,
          );
          reach = length (take (suc d) l.above ++ (e ∷ []));
          front = take-length (take (suc d) l.above ++ (e ∷ []));
          may = λ later _ h. h;
        }

    text-puts : (t : Text) → Puts l (text_added l t p) d p (text (length l.elements.texts)) (C (suc d) t)
    unfolding put_content add_text append insert_item put_list may_follow
    text-puts t =
        let x : Fixed = fix l in
        let m : Model = l.model in
        let i : Item = text (length l.elements.texts) in
        record {
          grown = grown-twice (le_refl _) (grown-item x m p i) (grown-text x (append m p i) p t);
          put = item-put x m p i (rw c.built.kept.lists range);
          trees = refl;
          tail = [];
          link = tt;
          opens = tt;
          reach = suc d;
          front = sym (append-nil (take (suc d) l.above));
          may = λ later f _. leb-true (line_depth later) (suc d) f;
        }

    module _ (latest : Line) (printed : List ℕ) (v : TreesPrinted l latest printed) where
      child-printed : (n : Name) (s : FileSet) (row : SubElement) → may_follow latest (E (suc d) n s) ≡ true → suc d ≤ depth_limit
          → TreesPrinted (child_added l (suc d) n s p row) (E (suc d) n s)
          (printed ++ line_of (bytes "E" ∷ decimal_of (suc d) ∷ decimal_of n ∷ hexadecimal_of s ∷ []))
      unfolding owner line_depth put_content add_element next_element add_to_model append insert_item put_list item_lines
      child-printed n s row follows low =
          let x : Fixed = fix l in
          let e : Element = count x in
          let q : Model = append l.model p (child e) in
          let new : NewElement = record { name = n; type = row.child_type; depth = suc d; parent = some p; set = s } in
          let l' : Loading = child_added l (suc d) n s p row in
          let few : length q.lists ≤ count x = simp length-set (omega (arith, c.built.kept.lists)) in
          subst (λ (r : List ℕ). TreesPrinted l' (E (suc d) n s) (printed ++ r))
          (append-nil _
          ∙ new_line x q p new l.elements.trees c.built.elements.depths c.built.kept.parents c.built.kept.sets (depth_limit - suc d) few)
          (put-printed l l' latest (E (suc d) n s) printed d p (child e) v c follows refl o (child-puts n s row) (suc (depth_limit - suc d)) (omega arith))

      text-printed : (t : Text) → may_follow latest (C (suc d) t) ≡ true → suc d ≤ depth_limit
          → TreesPrinted (text_added l t p) (C (suc d) t) (printed ++ text_line (fix l) (suc d) t)
      unfolding owner line_depth put_content add_text append insert_item put_list item_lines
      text-printed t follows low =
          let x' : Fixed = with_texts (fix l) (l.elements.texts ++ (t ∷ [])) in
          let l' : Loading = text_added l t p in
          let k : ℕ = length l.elements.texts in
          subst (λ (r : List ℕ). TreesPrinted l' (C (suc d) t) (printed ++ r))
          (append-nil _ ∙ text-line-same (fix l) x' refl (suc d) (text_of x' k) ∙ ap (text_line (fix l) (suc d)) (get_or_at l.elements.texts t [] (enum_number 0) k refl))
          (put-printed l l' latest (C (suc d) t) printed d p (text k) v c follows refl o (text-puts t) (depth_limit - d) (omega arith))

  -- ---- M, B and roots

  -- an M line
  pub model-due : (k : ℕ) (sc : Schema) → RootDue (open_tree (put_schema nothing k sc) kind_m true nothing.elements) (line_of (bytes "M" ∷ []))
  unfolding open_tree put_schema forest
  model-due k sc =
      record {
        earlier = [];
        line = line_of (bytes "M" ∷ []);
        trees = refl;
        below = each_nil _;
        is = refl;
        depths = refl;
        parents = refl;
        sets = refl;
        lists = refl;
        items = λ p i h. absurd (Memᴰ.not-nil h);
      }

  -- a B line
  tree-due : (l : Loading) (latest : Line) (printed : List ℕ) → TreesPrinted l latest printed → Complete deck l → (f : FileNumber)
      → RootDue (tree_opened l f) (printed ++ line_of (bytes "B" ∷ decimal_of f ∷ []))
  unfolding open_tree add_tree
  tree-due l latest printed v c f =
      let x : Fixed = fix l in
      let t : Tree = record { file = f; root = count x } in
      let all : List Head = v.earlier ++ (record { line = v.line; root = v.top } ∷ []) in
      let below : Earlier x all (count x) =
      each_snoc (λ (h : Head). (h.root < count x) × (depth_of x h.root ≡ 0)) v.earlier (v.range, v.depth)
      (λ h j. (omega (arith, (v.below h j).0, v.range), (v.below h j).1)) in
      record {
        earlier = all;
        line = line_of (bytes "B" ∷ decimal_of f ∷ []);
        trees = heads-snoc l.elements.trees t ∙ ap (λ (hs : List Head). hs ++ (head_b t ∷ [])) v.trees;
        below = below;
        is =
            ap (λ (r : List ℕ). r ++ line_of (bytes "B" ∷ decimal_of f ∷ []))
            (v.is ∙ sym (forest-same (grown-trees x l.model (count x) (l.elements.trees ++ (t ∷ []))) c.built.kept.items all below));
        depths = c.built.elements.depths;
        parents = c.built.kept.parents;
        sets = c.built.kept.sets;
        lists = c.built.kept.lists;
        items = λ p i h. item-kept i (c.built.kept.items p i h);
      }
    where
      item-kept : (i : Item) → ItemInRange (fix l) i → ItemInRange (fix (tree_opened l f)) i
      item-kept (child e) h = h
      item-kept (text t) h = h

  -- the E line of a root
  root-printed : (l : Loading) (printed : List ℕ) → RootDue l printed → (d : ℕ) (n : Name) (s : FileSet) → d ≡ 0 → n ≡ 0
      → TreesPrinted (root_added l s) (E d n s) (printed ++ line_of (bytes "E" ∷ decimal_of d ∷ decimal_of n ∷ hexadecimal_of s ∷ []))
  unfolding put_content next_element add_element add_to_model may_follow
  root-printed l printed u d n s zero_depth zero_name =
      let x : Fixed = fix l in
      let m : Model = l.model in
      let new : NewElement = record { name = 0; type = 0; depth = 0; parent = none; set = s } in
      let trees : List Tree = l.elements.trees in
      let g = grown-element x m (count x) new trees u.depths u.parents u.sets in
      let x' : Fixed = with_element x new trees in
      let m' : Model = add_to_model m none s in
      let own : List ℕ = line_of (bytes "E" ∷ decimal_of d ∷ decimal_of n ∷ hexadecimal_of s ∷ []) in
      let line : element_lines (suc depth_limit) x' m' (count x) ≡ own =
      rw (zero_depth, zero_name) (new_line x m (count x) new trees u.depths u.parents u.sets depth_limit (omega (arith, u.lists))) in
      record {
        earlier = u.earlier;
        line = u.line;
        top = count x;
        trees = u.trees;
        below = λ h j. ((u.below h j).0, g.depth h.root (u.below h j).0 ∙ (u.below h j).1);
        range = rw length-append (omega arith);
        depth = get_or_at l.elements.depths 0 [] 0 (count x) u.depths;
        is =
            ap (λ (r : List ℕ). r ++ own) u.is ∙ append_assoc (forest x m u.earlier) u.line own
            ∙ sym (forest-snoc x' m' u.earlier (record { line = u.line; root = count x }) ∙ rw (forest-same g u.items u.earlier u.below, line));
        reach = 1;
        opened = (
          rw length-append (omega arith),
          get_or_at l.elements.depths 0 [] 0 (count x) u.depths,
          get_or_at m.parents none [] none (count x) u.parents,
          tt,
          tt,
        );
        begins = refl;
        may = λ next _ h. h;
      }

  -- ---- each line

  module _ {l : Loading} {latest : Line} {printed : List ℕ} (g : LoadingSound deck l) (ph : PrintedSoFar l latest printed) where
    now-due : l.root_due ≡ true → RootDue l printed
    now-due r = ⊎_elim (λ k. k.1) (λ k. absurd (true≢false (sym r ∙ k.0))) ph.at

    now-printed : l.root_due ≡ false → TreesPrinted l latest printed × Complete deck l
    now-printed r = ⊎_elim (λ k. absurd (true≢false (sym k.0 ∙ r))) (λ k. (k.1, complete-of g.stage ph.seen r)) ph.at

    -- schema lines are refused
    too-late : (k : ℕ) → k < kind_m → leb l.latest k ≡ true → ⊥
    too-late k low t = omega (arith, leb-true l.latest k t, ph.kind)

    child-step : (d : ℕ) (n : Name) (s : FileSet) (row : SubElement) (p : Element) → l.root_due ≡ false → may_follow latest (E d n s) ≡ true → owner l d ≡ some p
        → d ≤ depth_limit
        → PrintedSoFar (child_added l d n s p row) (E d n s) (printed ++ line_of (bytes "E" ∷ decimal_of d ∷ decimal_of n ∷ hexadecimal_of s ∷ []))
    unfolding put_content owner
    child-step zero n s row p r f o low = absurd (none-ne-some p o)
    child-step (suc d) n s row p r f o low =
        let (v, c) = now-printed r in
        record { seen = ph.seen; kind = ph.kind; at = inr (refl, child-printed l c d p o latest printed v n s row f low) }

    text-step : (d : ℕ) (t : Text) (p : Element) → l.root_due ≡ false → may_follow latest (C d t) ≡ true → owner l d ≡ some p → d ≤ depth_limit
        → PrintedSoFar (text_added l t p) (C d t) (printed ++ text_line (fix l) d t)
    unfolding put_content owner
    text-step zero t p r f o low = absurd (none-ne-some p o)
    text-step (suc d) t p r f o low =
        let (v, c) = now-printed r in
        record { seen = ph.seen; kind = ph.kind; at = inr (refl, text-printed l c d p o latest printed v t f low) }

    root-step : (d : ℕ) (n : Name) (s : FileSet) → l.root_due ≡ true → (eqb d 0 && eqb n 0) ≡ true
        → PrintedSoFar (root_added l s) (E d n s) (printed ++ line_of (bytes "E" ∷ decimal_of d ∷ decimal_of n ∷ hexadecimal_of s ∷ []))
    unfolding put_content
    root-step d n s r z =
        let (zero_depth, zero_name) = (and-eq-true_iff (eqb d 0) (eqb n 0)).0 z in
        record {
          seen = ph.seen;
          kind = ph.kind;
          at = inr (refl, root-printed l printed (now-due r) d n s (eqb-true d 0 zero_depth) (eqb-true n 0 zero_name));
        }

    tree-step : (f : FileNumber) → l.root_due ≡ false → PrintedSoFar (tree_opened l f) (B f) (printed ++ line_of (bytes "B" ∷ decimal_of f ∷ []))
    unfolding open_tree
    tree-step f r = let (v, c) = now-printed r in record { seen = ph.seen; kind = lit≤ tt; at = inl (refl, tree-due l latest printed v c f) }

    -- what is printed has the line's bytes at its end
    pub line_step : (line : Line) → may_follow latest line ≡ true → (bs : List ℕ) → Back (fix l) bs line
        → IfOk (λ (l' : Loading). PrintedSoFar l' line (printed ++ bs)) (load_line l line)
    unfolding load_line load_t load_g load_s load_f load_m load_b load_e load_c load_root load_child
    line_step (T t r) f bs e = need-bind _ _ (λ _ h. absurd (too-late kind_t (lit< tt) ((and-eq-true_iff (leb l.latest kind_t) _).0 h).0))
    line_step (G r) f bs e = need-bind _ _ (λ _ h. absurd (too-late kind_g (lit< tt) h))
    line_step (S r) f bs e = need-bind _ _ (λ _ h. absurd (too-late kind_s (lit< tt) h))
    line_step (F r) f bs e = need-bind _ _ (λ _ h. absurd (too-late kind_f (lit< tt) ((and-eq-true_iff (leb l.latest kind_f) _).0 h).0))
    line_step M f bs e = need-bind _ _ (λ _ _. need-bind _ _ (λ _ h. absurd (omega (arith, ltb-true l.latest kind_m h, ph.kind))))
    line_step (B k) f bs e =
        need-bind _ _ (λ _ h. is_ok (rw e (tree-step k (not-true _ ((and-eq-true_iff (not l.root_due) (may_wait l k)).0 h).0))))
    line_step (E d n s) f bs e =
        need-bind _ _ (λ _ h.
        bool_case (IfOk (λ (l' : Loading). PrintedSoFar l' (E d n s) (printed ++ bs))) l.root_due
        (λ r. need-bind _ _ (λ _ z. need-bind _ _ (λ _ _. need-bind _ _ (λ _ _. is_ok (rw e (root-step d n s r z))))))
        (λ r.
        given-bind _ _ (λ p o. given-bind _ _ (λ row _. need-bind _ _ (λ _ _. is_ok (rw e (child-step d n s row p r f o (limits deck l d h).0)))))))
    line_step (C d t) f bs e =
        need-bind _ _ (λ _ h. need-bind _ _ (λ _ r. given-bind _ _ (λ p o. need-bind _ _ (λ _ _.
        is_ok (rw e (text-step d t p (not-true _ r) f o (leb-true d depth_limit ((and-eq-true_iff (leb d depth_limit) _).0 h).0)))))))
