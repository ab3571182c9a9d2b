-- What refusal 0 asks of a state, as facts: every number in its range; each listed element once in its list, one deeper than the list's owner
-- and of the type that the owner's row gives its name; roots of depth 0 and type 0; sets of declared files; the limits.
-- Beyond what refusal 0 asks, each tree, waiting or merged, has a file and a root of its own, and an extension's file is declared.
-- Assumes nothing.
use Rattle.std.specs.Prelude.{true, ◌≡◌, ℕ, suc, ◌<◌, ◌≤◌, length, get_or}
use mathlib.Core.List.{List, [], ◌∷◌, Memᴰ}
use Rattle.std.proofs.Math.Option.{some}
use Rattle.tables.specs.FileSets.{part_of}
use Rattle.tables.specs.Limits.{element_limit, depth_limit, item_limit, log_limit}
use Rattle.tables.specs.Records.{Element, Name, TypeNumber, SubElement, Tree, Item, child, text, Entry, import, restriction, extension, State, Fixed, root, name_of, type_of, depth_of, parent_of, set_of, list_of, content_items}
use Rattle.deck.specs.Load.{load, loaded}
use Rattle.deck.specs.Schema.{declared_files, declares_file, row_of_name}
use Rattle.load.specs.LoadCall.{Tables, encoded, load_call, Loaded}
use Rattle.state_test.specs.StateTest.{lent_tables_pass}
use Rattle.merge_rules.specs.Book.{Call}
use Rattle.merge_rules.specs.Pairing.{children}
use Rattle.merge_rules.specs.Withdrawal.{state_after}

abbrev pub In {ℓ} : {A : Type ℓ} → A → List A → Type ℓ
In a l = Memᴰ a l

abbrev pub count : Fixed → ℕ
count x = length x.elements.names

-- no entry twice
pub data Once : List Element → Type 0 where
  once-nil : Once []
  once-cons : {e : Element} {l : List Element} → (In e l → ⊥) → Once l → Once (e ∷ l)

-- e is one deeper than p, and of the type that the row of its name in p's type gives
pub record ChildValid (x : Fixed) (p e : Element) : Type 0 where
  pub depth : depth_of x e ≡ suc (depth_of x p)
  pub row : SubElement
  pub found : row_of_name x.schema (type_of x p) (name_of x e) ≡ some row
  pub type : row.child_type ≡ type_of x e

-- ---- what a load fixes

-- names, types and depths of so many elements within the limits, and a root of depth 0 and type 0
pub record ElementsValid (ns : List Name) (ts : List TypeNumber) (ds : List ℕ) : Type 0 where
  pub few : length ns ≤ element_limit
  pub types : length ts ≡ length ns
  pub depths : length ds ≡ length ns
  pub shallow : (e : Element) → get_or ds e 0 ≤ depth_limit
  pub root_depth : get_or ds root 0 ≡ 0
  pub root_type : get_or ts root 0 ≡ 0

pub record TreeValid (x : Fixed) (t : Tree) : Type 0 where
  pub in_range : t.root < count x
  pub not_root : t.root ≡ root → ⊥
  pub depth : depth_of x t.root ≡ 0
  pub type : type_of x t.root ≡ 0
  pub declared : declares_file x.schema t.file ≡ true

-- each of a file and a root of its own
pub record TreesValid (x : Fixed) (trees : List Tree) : Type 0 where
  pub valid : (t : Tree) → In t trees → TreeValid x t
  pub one_file : (t u : Tree) → In t trees → In u trees → t.file ≡ u.file → t ≡ u
  pub one_root : (t u : Tree) → In t trees → In u trees → t.root ≡ u.root → t ≡ u

pub record Static (x : Fixed) : Type 0 where
  pub some : 0 < count x
  pub elements : ElementsValid x.elements.names x.elements.types x.elements.depths
  pub trees : TreesValid x x.elements.trees

-- ---- what every change keeps

-- numbers of items within their range
abbrev pub ItemInRange : Fixed → Item → Type 0
ItemInRange x (child e) = e < count x
ItemInRange x (text t) = t < length x.elements.texts

abbrev pub EntryValid : Fixed → Entry → Type 0
EntryValid x (import e p old_parent old_set) =
    (e < count x) × (p < count x) × ((q : Element) → old_parent ≡ some q → q < count x)
    × (part_of old_set (declared_files x.schema) ≡ true)
EntryValid x (restriction e old_set) = (e < count x) × (part_of old_set (declared_files x.schema) ≡ true)
EntryValid x (extension e f) = (e < count x) × (declares_file x.schema f ≡ true)

pub record Kept (x : Fixed) (s : State) : Type 0 where
  pub parents : length s.model.parents ≡ count x
  pub sets : length s.model.sets ≡ count x
  pub lists : length s.model.lists ≡ count x
  pub items : (p : Element) (i : Item) → In i (list_of s.model p) → ItemInRange x i
  pub fits : (p e : Element) → In (child e) (list_of s.model p) → ChildValid x p e
  pub once : (p : Element) → Once (children (list_of s.model p))
  pub deep : (e p : Element) → parent_of s.model e ≡ some p → depth_of x e ≡ suc (depth_of x p)
  pub parent_range : (e p : Element) → parent_of s.model e ≡ some p → p < count x
  pub declared : (e : Element) → part_of (set_of s.model e) (declared_files x.schema) ≡ true
  pub few_items : content_items s.model ≤ item_limit
  pub few_entries : length s.log ≤ log_limit
  pub entries : (e : Entry) → In e s.log → EntryValid x e

-- ---- the whole

pub record Sound (x : Fixed) (s : State) : Type 0 where
  pub static : Static x
  pub kept : Kept x s
  -- the model root's set is not 0
  pub root_set : 0 < set_of s.model root

-- After a load, every call of a list of calls meets a sound state.
abbrev pub StaysSound : Type 0
StaysSound = (deck : List ℕ) (x : Fixed) (s : State) → load deck ≡ loaded x s → (cs : List Call) → Sound x (state_after x cs s)

-- ---- refusal 0

-- the tables pass the whole of its test
abbrev pub TablesPass : List ℕ → Tables → Type 0
TablesPass deck t = lent_tables_pass deck t.schema t.elements t.model t.log ≡ true

-- those of the records do
abbrev pub Passes : List ℕ → Fixed → State → Type 0
Passes deck x s = TablesPass deck (encoded x s)

-- What a load accepts passes,
abbrev pub LoadPasses : Type 0
LoadPasses = (deck : List ℕ) (x : Fixed) (s : State) → load deck ≡ loaded x s → Passes deck x s

-- and so do the tables that the call leaves where it answers that the deck is loaded;
abbrev pub LoadCallPasses : Type 0
LoadCallPasses = (deck : List ℕ) (t : Tables) → (load_call deck t).answer ≡ Loaded → TablesPass deck (load_call deck t).tables

-- and after a load no call of a list of calls meets a state that refusal 0 would stop.
abbrev pub StaysPassing : Type 0
StaysPassing = (deck : List ℕ) (x : Fixed) (s : State) → load deck ≡ loaded x s → (cs : List Call) → Passes deck x (state_after x cs s)
