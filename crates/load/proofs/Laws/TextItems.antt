-- C lines: what they lead to, and what stays of the lines so far. Assumes nothing.
use mathlib.Core.Bool.{Bool, true, false, not, ◌&&◌}
use mathlib.Core.List.{List, [], ◌∷◌}
use mathlib.Core.Option.{none, some}
use Rattle.std.specs.Prelude.{Ok}
use mathlib.Core.Path.{◌≡◌, refl, sym, ap, ◌∙◌}
use Prim.Native.Nat.{ℕ, ◌≤◌, ◌<◌}
use native.Mathlib.Omega.{arith}
use borrow.Author.Tests.{le-leb, lt-leb, lt-ltb, le-ltb}
use lib.Dec.{leb, ltb}
use lib.ListN.{length, get_or, take, length-append}
use Rattle.tables.specs.Limits.{depth_limit, item_limit}
use Rattle.tables.specs.Records.{Element, TypeNumber, Schema, Mode, sequence, choice, bag, mixed, characters, Text, text, type_row, add_text, content_items}
use Rattle.tables.specs.ElementsTable.{elements_of, HoldsElements}
use Rattle.tables.specs.ModelTable.{model_of, HoldsModel}
use Rattle.tables.specs.SchemaTable.{schema_of, mode_number, mode_from}
use Rattle.deck.specs.Load.{Loading, ok, refused, tree_rule, limit, put_content, owner, append, takes_text, load_c}
use Rattle.tables.proofs.Laws.SchemaTable.{mode-back}
use Rattle.deck.proofs.Laws.Load.{count-append, total-append}
use Rattle.load.specs.Lines.{kind_number, loading_of, LoadingFits, GoodLoading, StepResult}
use Rattle.load.specs.declared.progress.Progress.{Progress}
use Rattle.load.proofs.Laws.Above.{owner-element}
use Rattle.load.proofs.Laws.Steps.{line_taken}
use Rattle.load.proofs.Laws.Results.{passes, fails, finds, misses}

-- ---- modes with text

pub mode-below : (m : Mode) → mode_number m < 5
unfolding mode_number
mode-below sequence = omega arith
mode-below choice = omega arith
mode-below bag = omega arith
mode-below mixed = omega arith
mode-below characters = omega arith

-- the test of an owner's mode
pub mode-told : (sc : Schema) (t u n : ℕ) → t ≡ u → n ≡ mode_number (type_row sc t).mode → (b : Bool) → b ≡ takes_text (mode_from n)
    → takes_text (type_row sc u).mode ≡ b
mode-told sc t u n same is b e =
    ap (λ (x : TypeNumber). takes_text (type_row sc x).mode) (sym same)
    ∙ ap takes_text (sym (mode-back (type_row sc t).mode))
    ∙ ap (λ (m : ℕ). takes_text (mode_from m)) (sym is)
    ∙ sym e

-- ---- one more text

pub fits-text : (l : Loading) → LoadingFits l → (p : Element) (t : Text) (k : ℕ) → p < length l.model.lists
    → LoadingFits (put_content l l.above (add_text l.elements t) (append l.model p (text k)))
unfolding put_content add_text
fits-text l f p t k h =
    record {
      same = count-append l.model p (text k) ∙ f.same;
      opened = f.opened;
      known = f.known;
      children = f.children;
      texts = omega (arith, f.texts, total-append l.model p (text k) h, length-append l.elements.texts (t ∷ []));
      files = f.files;
      one_line = f.one_line;
      one_tree = f.one_tree;
      closed = f.closed;
      early = f.early;
    }

-- ---- C

module _ (l : Loading) (d : ℕ) (t : Text) where
  abbrev gate : Bool
  gate = leb d depth_limit && ltb (content_items l.model) item_limit

  pub c-deep : depth_limit < d → load_c l d t ≡ refused limit
  unfolding load_c
  c-deep h =
      let g : gate ≡ false = rw (lt-leb d depth_limit h) in
      fails _ _ g

  module _ (low : d ≤ depth_limit) where
    pub c-full : item_limit ≤ content_items l.model → load_c l d t ≡ refused limit
    unfolding load_c
    c-full h =
        let g : gate ≡ false = rw (le-leb d depth_limit low, le-ltb (content_items l.model) item_limit h) in
        fails _ _ g

    module _ (room : content_items l.model < item_limit) where
      open-gate : gate ≡ true
      open-gate = rw (le-leb d depth_limit low, lt-ltb (content_items l.model) item_limit room)

      pub c-due : l.root_due ≡ true → load_c l d t ≡ refused tree_rule
      unfolding load_c
      c-due h = passes _ _ open-gate (fails _ _ (ap not h))

      module _ (due : l.root_due ≡ false) where
        pub c-alone : owner l d ≡ none → load_c l d t ≡ refused tree_rule
        unfolding load_c
        c-alone h = passes _ _ open-gate (passes _ _ (ap not due) (misses _ _ h))

        module _ (p : Element) (o : owner l d ≡ some p) where
          pub c-barred : takes_text (type_row l.schema (get_or l.elements.types p 0)).mode ≡ false → load_c l d t ≡ refused tree_rule
          unfolding load_c
          c-barred h = passes _ _ open-gate (passes _ _ (ap not due) (finds _ _ o (fails _ _ h)))

          pub c-taken : takes_text (type_row l.schema (get_or l.elements.types p 0)).mode ≡ true
              → load_c l d t
              ≡ ok (put_content l l.above (add_text l.elements t) (append l.model p (text (length l.elements.texts))))
          unfolding load_c
          c-taken h = passes _ _ open-gate (passes _ _ (ap not due) (finds _ _ o (passes _ _ h refl)))

-- ---- the line taken

pub c-line : (p : Progress) (schema elements model elements' model' : List ℕ) → GoodLoading p schema elements model
    → (d : ℕ) (t : Text) (o : Element) → d ≤ depth_limit → content_items (model_of model) < item_limit
    → p.due ≡ false → owner (loading_of p schema elements model) d ≡ some o
    → takes_text (type_row (schema_of schema) (get_or (elements_of elements).types o 0)).mode ≡ true
    → HoldsElements elements' (add_text (elements_of elements) t)
    → HoldsModel model' (append (model_of model) o (text (length (elements_of elements).texts)))
    → StepResult p (Ok p) schema elements' model' (load_c (loading_of p schema elements model) d t)
unfolding put_content
c-line p schema elements model elements' model' g d t o low room due owns takes he hm =
    let l = loading_of p schema elements model in
    let k = length (elements_of elements).texts in
    let h : o < length (model_of model).lists =
    omega (
      arith,
      owner-element l (length (elements_of elements).names) d o g.fits.opened owns,
      g.fits.same,
      g.good_model.sized.lists,
    )
    in
    let same : loading_of p schema elements' model'
    ≡ put_content l (take p.depth p.above) (add_text (elements_of elements) t) (append (model_of model) o (text k)) =
    λ i.
    record {
      latest = kind_number p.latest;
      model_seen = p.seen;
      root_due = due i;
      above = take p.depth p.above;
      schema = schema_of schema;
      elements = he.is i;
      model = hm.is i;
    }
    in
    line_taken
    (put_content l (take p.depth p.above) (add_text (elements_of elements) t) (append (model_of model) o (text k))) refl same g.depth g.room g.good_schema he.good hm.good (fits-text l g.fits o t k h) (c-taken l d t low room due o owns takes)
