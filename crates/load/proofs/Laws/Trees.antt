-- M and B lines: what they give, and what stays of the lines so far. Assumes nothing.
use mathlib.Core.Bool.{Bool, true, false, not, ◌&&◌}
use mathlib.Core.List.{List}
use Rattle.std.specs.Prelude.{Ok}
use mathlib.Core.Path.{◌≡◌, refl, ap, ◌∙◌}
use Prim.Native.Nat.{ℕ, ◌<◌}
use native.Mathlib.Omega.{arith}
use borrow.Author.Tests.{le-leb, lt-leb, lt-ltb, le-ltb}
use lib.ListN.{length}
use Rattle.tables.specs.Limits.{file_limit}
use Rattle.tables.specs.Records.{FileNumber, Tree, Elements, add_tree}
use Rattle.deck.specs.Load.{Loading, ok, refused, form, tree_rule, kind_m, kind_b, open_tree, load_m, may_wait, load_b}
use Rattle.deck.proofs.Laws.Load.{wait-new}
use Rattle.tables.specs.ElementsTable.{elements_of, HoldsElements}
use Rattle.load.specs.Lines.{kind_number, loading_of, LoadingFits, GoodLoading, StepResult}
use Rattle.load.specs.declared.progress.Progress.{Progress}
use Rattle.load.specs.declared.progress.Kind.{Kind}
use Rattle.load.specs.declared.progress.Kind.TheVariants.{M, B}
use Rattle.load.proofs.Laws.Results.{passes, fails}
use Rattle.load.proofs.Laws.Steps.{line_taken}
use Rattle.load.proofs.Laws.Taken.{taken_more, taken-room}

module _ (l : Loading) where
  -- ---- M

  pub m-late : kind_m < l.latest → load_m l ≡ refused form
  unfolding load_m
  m-late h = fails _ _ (lt-leb l.latest kind_m h)

  pub m-twice : l.latest ≡ kind_m → load_m l ≡ refused tree_rule
  unfolding load_m
  m-twice h = passes _ _ (le-leb l.latest kind_m (omega arith)) (fails _ _ (le-ltb l.latest kind_m (omega arith)))

  pub m-taken : l.latest < kind_m → load_m l ≡ ok (open_tree l kind_m true l.elements)
  unfolding load_m
  m-taken h = passes _ _ (le-leb l.latest kind_m (omega arith)) (passes _ _ (lt-ltb l.latest kind_m h) refl)

  -- a root is due, and nothing is open
  pub fits-opened : (seen : Bool) → LoadingFits l → LoadingFits (open_tree l kind_m seen l.elements)
  unfolding open_tree
  fits-opened seen f =
      record {
        same = f.same;
        opened = tt;
        known = f.known;
        children = f.children;
        texts = f.texts;
        files = f.files;
        one_line = f.one_line;
        one_tree = f.one_tree;
        closed = f.closed;
        early = λ h. absurd (omega arith);
      }

  -- ---- B

  module _ (f : FileNumber) where
    abbrev gate : Bool
    gate = not l.root_due && may_wait l f

    -- there is room for a file that may wait
    pub wait-room : LoadingFits l → f < file_limit → may_wait l f ≡ true → length l.elements.trees < file_limit
    wait-room g h k =
        taken-room (λ (t : Tree). t.file) file_limit l.elements.trees (record { file = f; root = 0 }) h (wait-new l f k) g.one_tree

    pub b-due : l.root_due ≡ true → load_b l f ≡ refused tree_rule
    unfolding load_b
    b-due h =
        let g : gate ≡ false = ap (λ (b : Bool). not b && may_wait l f) h in
        fails _ _ g

    -- no root is due
    gate-is : l.root_due ≡ false → gate ≡ may_wait l f
    gate-is h = ap (λ (b : Bool). not b && may_wait l f) h

    pub b-barred : l.root_due ≡ false → may_wait l f ≡ false → load_b l f ≡ refused tree_rule
    unfolding load_b
    b-barred h k = fails _ _ (gate-is h ∙ k)

    abbrev tree : Tree
    tree = record { file = f; root = length l.elements.names }

    pub b-taken : l.root_due ≡ false → may_wait l f ≡ true → load_b l f ≡ ok (open_tree l kind_b l.model_seen (add_tree l.elements tree))
    unfolding load_b
    b-taken h k = passes _ _ (gate-is h ∙ k) refl

    pub fits-tree : (seen : Bool) → LoadingFits l → f < file_limit → may_wait l f ≡ true
        → LoadingFits (open_tree l kind_b seen (add_tree l.elements tree))
    unfolding open_tree add_tree
    fits-tree seen g h k =
        record {
          same = g.same;
          opened = tt;
          known = g.known;
          children = g.children;
          texts = g.texts;
          files = g.files;
          one_line = g.one_line;
          one_tree = taken_more (λ (t : Tree). t.file) file_limit l.elements.trees tree h (wait-new l f k) g.one_tree;
          closed = g.closed;
          early = λ h. absurd (omega arith);
        }

-- ---- the line taken

module _ (p : Progress) (schema elements model : List ℕ) (g : GoodLoading p schema elements model) (q : Progress) where
  abbrev l : Loading
  l = loading_of p schema elements model

  -- a root due, nothing open
  abbrev after : Kind → Bool → Progress
  after kind seen = record { latest = kind; seen = seen; due = true; depth = 0; above = p.above }

  pub m-line : q ≡ after M true → kind_number p.latest < kind_m → StepResult p (Ok q) schema elements model (load_m l)
  unfolding open_tree
  m-line to h =
      line_taken (open_tree l kind_m true (elements_of elements)) to refl (omega arith)
      g.room g.good_schema g.good_elements g.good_model (fits-opened l true g.fits) (m-taken l h)

  pub b-line : (f : FileNumber) (elements' : List ℕ) → q ≡ after B p.seen → f < file_limit → p.due ≡ false → may_wait l f ≡ true
      → HoldsElements elements' (add_tree (elements_of elements) (record { file = f; root = length (elements_of elements).names }))
      → StepResult p (Ok q) schema elements' model (load_b l f)
  unfolding open_tree
  b-line f elements' to small due new held =
      let es = add_tree (elements_of elements) (record { file = f; root = length (elements_of elements).names }) in
      line_taken (open_tree l kind_b p.seen es) to
      (ap (λ (x : Elements). open_tree l kind_b p.seen x) held.is) (omega arith) g.room g.good_schema held.good g.good_model
      (fits-tree l f p.seen g.fits small new) (b-taken l f due new)
