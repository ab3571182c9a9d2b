-- After a load each element is reached at most once over content lists, so that a merge visits no more pairs than the deck has elements.
-- Assumes nothing.
use Rattle.std.specs.Prelude.{List, [], ◌∷◌, ◌++◌, map, ◌≡◌, ℕ, zero, suc, ◌+◌, ◌≤◌, length}
use Rattle.std.proofs.Math.Option.{none, some}
use Rattle.tables.specs.Bytes.{bytes}
use Rattle.tables.specs.FileSets.{loaded_files, waiting_tree}
use Rattle.tables.specs.Limits.{depth_limit}
use Rattle.tables.specs.ModelTable.{flat}
use Rattle.tables.specs.Records.{Element, FileNumber, FileSet, Version, Tree, child, text, Model, State, Fixed, root}
use Rattle.deck.specs.Load.{load, Load, loaded, refused_at}
use Rattle.deck.specs.Schema.{version_of}
use Rattle.load.specs.LoadCall.{Tables, load_call, Loaded}
use Rattle.state_test.specs.StateTest.{fixed_in, state_in}
use Rattle.merge_rules.specs.Book.{Call}
use Rattle.merge_rules.specs.Import.{import_new_items}
use Rattle.merge_rules.specs.Level.{restrict_elements, files_of_pair, settle, level_version, merge_element}
use Rattle.merge_rules.specs.Pairing.{children_of, Pair, Plan, planned, unmergeable_in, walk_level, first_used_twice}
use Rattle.merge_rules.specs.Refusals.{Outcome, done, conflict, refused, ◌>>=◌}
use Rattle.merge_rules.specs.Sound.{In, count, Once}
use Rattle.merge_rules.specs.Stars.{named_deck, named_x, named_y, choice_deck}
use Rattle.merge_rules.specs.TableWithdrawal.{tables_after}
use Rattle.merge_rules.specs.Unfolding.{merge_rules}
use Rattle.merge_rules.specs.Withdrawal.{state_after}

-- ---- what is reached

-- an element and those that its content list reaches in so many levels, as they are read; one entry for each path
unfoldable pub reached_from : ℕ → Model → Element → List Element
reached_from zero m e = []
reached_from (suc n) m e = e ∷ flat (map (reached_from n m) (children_of m e))

-- No listed element is deeper than 31, so that 32 levels reach all.
abbrev pub all_reached : Model → Element → List Element
all_reached m e = reached_from (suc depth_limit) m e

-- the model, and a waiting tree
pub record TreeApart (x : Fixed) (m : Model) (t : Tree) : Type 0 where
  -- No element of the tree is reached twice,
  pub once : Once (all_reached m t.root)
  -- none of it is reached in the model,
  pub apart : (e : Element) → In e (all_reached m root) → In e (all_reached m t.root) → ⊥
  -- and both together are no more than the deck's elements.
  pub few : length (all_reached m root) + length (all_reached m t.root) ≤ count x

pub record EachOnce (x : Fixed) (m : Model) : Type 0 where
  -- More levels reach no more.
  pub levels : (e : Element) (more : ℕ) → suc depth_limit ≤ more → reached_from more m e ≡ all_reached m e
  -- No element of the model is reached twice.
  pub model : Once (all_reached m root)
  pub trees : (f : FileNumber) (t : Tree) → waiting_tree x m f ≡ some t → TreeApart x m t

-- After a load, every call of a list of calls meets such a model.
abbrev pub ReachedOnce : Type 0
ReachedOnce =
    (deck : List ℕ) (x : Fixed) (s : State) → load deck ≡ loaded x s → (cs : List Call) → EachOnce x (state_after x cs s).model

-- ---- the pairs that a merge visits

-- those that are visited from the state left; none behind a conflict or a refusal
unfoldable pub visited_behind : Outcome → (State → List Pair) → List Pair
visited_behind (done s) next = next s
visited_behind (conflict e s) next = []
visited_behind (refused r) next = []

-- Pairs, in order: a pair, those that its level visits, whatever becomes of them, and the pairs behind it
unfoldable pub visited_in_pairs : (FileSet → Element → Element → State → Outcome) → (FileSet → Element → Element → State → List Pair) → Fixed → FileNumber
    → Version → Element → FileSet → List Pair → State → List Pair
visited_in_pairs lower visited x f v p files [] s = []
visited_in_pairs lower visited x f v p files (q ∷ qs) s =
    let own = files_of_pair files s.model q.a in
    q
    ∷ (visited own q.a q.b s
    ++ visited_behind (settle x f v p q own (length s.log) (lower own q.a q.b s)) (visited_in_pairs lower visited x f v p files qs))

-- Level by its plan: Pairs, behind A-only elements and imports
unfoldable pub visited_in_plan : (FileSet → Element → Element → State → Outcome) → (FileSet → Element → Element → State → List Pair) → Fixed → FileNumber
    → Version → FileSet → Element → Element → Plan → State → List Pair
visited_in_plan lower visited x f v files a b plan s =
    elim (first_used_twice plan (children_of s.model b)) [
      | some c ↦ []
      | none ↦
          visited_behind (restrict_elements files plan.restrictions s >>= import_new_items x f (version_of x.schema f) a 0 plan.imports)
          (visited_in_pairs lower visited x f v a files plan.pairs)
    ]

-- Level, as `merge_element` goes
unfoldable pub visited_in_level : ℕ → Fixed → FileNumber → FileSet → Element → Element → State → List Pair
visited_in_level zero x f files a b s = []
visited_in_level (suc d) x f files a b s =
    let v = level_version x f files in
    elim (walk_level x s.model v a b) [
      | planned plan ↦ visited_in_plan (merge_element d x f) (visited_in_level d x f) x f v files a b plan s
      | unmergeable_in ↦ []
    ]

-- the merge of a tree: the two roots, and those that their level visits
unfoldable pub visited_pairs : Fixed → Tree → State → List Pair
visited_pairs x t s =
    record { a = root; b = t.root } ∷ visited_in_level (suc depth_limit) x t.file (loaded_files s.model) root t.root s

pub record VisitsFew (x : Fixed) (t : Tree) (s : State) : Type 0 where
  -- No B element is visited twice,
  pub once : Once (map (λ (q : Pair). q.b) (visited_pairs x t s))
  -- so that the pairs are no more than the tree's elements,
  pub tree : length (visited_pairs x t s) ≤ length (all_reached s.model t.root)
  -- which are no more than the deck's.
  pub deck : length (visited_pairs x t s) ≤ count x

-- After a load, so does every merge behind a list of calls, accepted or refused.
abbrev pub MergesVisitFew : Type 0
MergesVisitFew =
    (deck : List ℕ) (x : Fixed) (s : State) → load deck ≡ loaded x s → (cs : List Call) (f : FileNumber) (t : Tree)
    → waiting_tree x (state_after x cs s).model f ≡ some t → VisitsFew x t (state_after x cs s)

-- ---- the same of lent tables

-- of what they say
pub record FewVisited (x : Fixed) (s : State) : Type 0 where
  pub reached : EachOnce x s.model
  pub visited : (f : FileNumber) (t : Tree) → waiting_tree x s.model f ≡ some t → VisitsFew x t s

abbrev pub FewVisitedOn : List ℕ → Tables → Type 0
FewVisitedOn deck t = FewVisited (fixed_in deck t.schema t.elements) (state_in t.model t.log)

-- Take any deck that loads, into any tables, and any list of calls.
abbrev pub FewVisitedOnTables : Type 0
FewVisitedOnTables =
    (deck : List ℕ) (t : Tables) → (load_call deck t).answer ≡ Loaded → (cs : List Call) → FewVisitedOn deck (tables_after deck cs (load_call deck t).tables)

-- ---- rows

-- Lists that no load made: both children of the root hold element 3.
abbrev pub sharing : Model
sharing =
    record {
      parents = none ∷ some 0 ∷ some 0 ∷ some 1 ∷ [];
      sets = 1 ∷ 0 ∷ 0 ∷ 0 ∷ [];
      lists = (child 1 ∷ child 2 ∷ []) ∷ (child 3 ∷ []) ∷ (text 0 ∷ child 3 ∷ []) ∷ [] ∷ [];
    }

abbrev pub pair_of : Element → Element → Pair
pair_of a b = record { a = a; b = b }

unfoldable pub visited_in : FileNumber → Load → List Pair
visited_in f (loaded x s) = elim (waiting_tree x s.model f) [ none ↦ [] | some t ↦ visited_pairs x t s ]
visited_in f (refused_at n line) = []

unfoldable pub visited_of : List ℕ → FileNumber → List Pair
unfolding merge_rules visited_behind visited_in_pairs visited_in_plan visited_in_level visited_pairs visited_in
visited_of deck f = visited_in f (load deck)

abbrev pub ReachedRows : Type 0
ReachedRows =
    -- in the order in which they are read, element 3 twice
    (all_reached sharing root ≡ 0 ∷ 1 ∷ 3 ∷ 2 ∷ 3 ∷ [])
    -- Named x, y against y, x: two pairs, each with its SHORT-NAMEs; all five elements of the tree are visited.
    × (visited_of (named_deck (bytes "0") (named_x ++ named_y) (named_y ++ named_x)) 1 ≡ pair_of 0 5 ∷ pair_of 1 8 ∷ pair_of 2 9 ∷ pair_of 3 6 ∷ pair_of 4 7 ∷ [])
    -- Unnamed n with c1 against n with c2 in a choice: the pair of the n is visited, though it falls back.
    × (visited_of (choice_deck (bytes "2")) 1 ≡ pair_of 0 3 ∷ pair_of 1 4 ∷ [])
