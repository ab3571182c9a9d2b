-- Document 01, "Deck and schema": tree rules; "What each operation refuses": load. Assumes nothing.
use Rattle.std.specs.Prelude.{Bool, true, false, not, ◌&&◌, ◌||◌, List, [], ◌∷◌, ◌++◌, ℕ, zero, suc, eqb, leb, ltb, length, take, get_or}
use Rattle.std.proofs.Math.Option.{Option, none, some}
use Rattle.std.proofs.Math.ListN.{get_elem?}
use Rattle.tables.specs.FileSets.{no_set, holds, part_of, loaded_files}
use Rattle.tables.specs.Limits.{deck_limit, type_limit, row_limit, group_limit, element_limit, depth_limit, item_limit}
use Rattle.tables.specs.Lists.{all_of, any_of}
use Rattle.tables.specs.Records.{Element, Name, TypeNumber, FileNumber, FileSet, Mode, sequence, choice, bag, mixed, characters, TypeRow, Group, SubElement, File, Schema, Text, Tree, Elements, Item, child, text, Model, Fixed, State, type_row, list_of, add_type, add_group, add_sub_element, add_file, add_element, add_text, add_tree, add_to_model, insert_item, content_items}
use Rattle.deck.specs.Deck.{Part, lines, Line, T, G, S, F, M, B, E, C, read_line}
use Rattle.deck.specs.Schema.{declared_type, group_rule, sub_element_rule, declares_file, declared_files, row_of_name}

-- ---- the first refusal that applies

-- form (also a value past its field, a kind or a T or F number out of order, no last LF), schema rule, tree rule, limit
abbrev pub form : ℕ
form = 1

abbrev pub schema_rule : ℕ
schema_rule = 2

abbrev pub tree_rule : ℕ
tree_rule = 3

abbrev pub limit : ℕ
limit = 4

pub data Res (A : Type 0) : Type 0 where
  ok : A → Res A
  refused : ℕ → Res A

infixl 20 ◌>>=◌
unfoldable pub ◌>>=◌ : {A B : Type 0} → Res A → (A → Res B) → Res B
ok a >>= f = f a
refused n >>= f = refused n

-- refused with this number unless the test holds
unfoldable pub need : ℕ → Bool → Res Bool
need n true = ok true
need n false = refused n

-- refused with this number where there is none
unfoldable pub given : {A : Type 0} → ℕ → Option A → Res A
given n none = refused n
given n (some a) = ok a

-- ---- what the lines so far have given

-- Kinds come in the order T, G, S, F, M, B.
abbrev pub kind_t : ℕ
kind_t = 0

abbrev pub kind_g : ℕ
kind_g = 1

abbrev pub kind_s : ℕ
kind_s = 2

abbrev pub kind_f : ℕ
kind_f = 3

abbrev pub kind_m : ℕ
kind_m = 4

abbrev pub kind_b : ℕ
kind_b = 5

-- latest: the latest kind; model_seen: an M line stands; root_due: the latest M or B has no root yet;
-- above: the latest E of each depth from 0, as far as no E of smaller depth came after it
pub record Loading : Type 0 where
  pub latest : ℕ
  pub model_seen : Bool
  pub root_due : Bool
  pub above : List Element
  pub schema : Schema
  pub elements : Elements
  pub model : Model

abbrev pub nothing : Loading
nothing =
    record {
      latest = kind_t;
      model_seen = false;
      root_due = false;
      above = [];
      schema = record { types = []; groups = []; sub_elements = []; files = [] };
      elements = record { names = []; types = []; depths = []; texts = []; trees = [] };
      model = record { parents = []; sets = []; lists = [] };
    }

unfoldable pub put_schema : Loading → ℕ → Schema → Loading
put_schema l kind sc =
    record {
      latest = kind;
      model_seen = l.model_seen;
      root_due = l.root_due;
      above = l.above;
      schema = sc;
      elements = l.elements;
      model = l.model;
    }

-- after an M or B line
unfoldable pub open_tree : Loading → ℕ → Bool → Elements → Loading
open_tree l kind seen es =
    record {
      latest = kind;
      model_seen = seen;
      root_due = true;
      above = [];
      schema = l.schema;
      elements = es;
      model = l.model;
    }

-- after an E or C line
unfoldable pub put_content : Loading → List Element → Elements → Model → Loading
put_content l above es m =
    record {
      latest = l.latest;
      model_seen = l.model_seen;
      root_due = false;
      above = above;
      schema = l.schema;
      elements = es;
      model = m;
    }

-- ---- T, G, S, F

unfoldable pub load_t : Loading → TypeNumber → TypeRow → Res Loading
load_t l t row = do
  let sc = l.schema
  -- types run from 0
  _ ← need form (leb l.latest kind_t && eqb t (length sc.types))
  _ ← need limit (ltb t type_limit)
  ok (put_schema l kind_t (add_type sc row))

unfoldable pub load_g : Loading → Group → Res Loading
load_g l g = do
  let sc = l.schema
  _ ← need form (leb l.latest kind_g)
  _ ← need limit (ltb (length sc.groups) group_limit)
  _ ← need schema_rule (group_rule sc g)
  ok (put_schema l kind_g (add_group sc g))

unfoldable pub load_s : Loading → SubElement → Res Loading
load_s l r = do
  let sc = l.schema
  _ ← need form (leb l.latest kind_s)
  _ ← need limit (ltb (length sc.sub_elements) row_limit)
  _ ← need schema_rule (sub_element_rule sc r)
  ok (put_schema l kind_s (add_sub_element sc r))

unfoldable pub load_f : Loading → File → Res Loading
load_f l d = do
  let sc = l.schema
  -- ascending
  _ ← need form (leb l.latest kind_f && all_of (λ (above : File). ltb above.file d.file) sc.files)
  ok (put_schema l kind_f (add_file sc d))

-- ---- M, B

-- one M tree; each M and B is followed by its one root
unfoldable pub load_m : Loading → Res Loading
load_m l = do
  _ ← need form (leb l.latest kind_m)
  _ ← need tree_rule (ltb l.latest kind_m)
  ok (open_tree l kind_m true l.elements)

-- a B file is declared, outside the root's set and stands once
unfoldable pub may_wait : Loading → FileNumber → Bool
may_wait l f =
    declares_file l.schema f && not (holds (loaded_files l.model) f)
    && not (any_of (λ (t : Tree). eqb t.file f) l.elements.trees)

-- the root is the next element
unfoldable pub load_b : Loading → FileNumber → Res Loading
load_b l f = do
  let es = l.elements
  _ ← need tree_rule (not l.root_due && may_wait l f)
  ok (open_tree l kind_b l.model_seen (add_tree es (record { file = f; root = length es.names })))

-- ---- E, C

-- Each belongs to the latest E one level up, if no E of smaller depth came between.
unfoldable pub owner : Loading → ℕ → Option Element
owner l zero = none
owner l (suc d) = get_elem? l.above d

unfoldable pub in_model : Loading → Bool
in_model l = eqb l.latest kind_m

-- the model root's set is not 0 and names declared files; waiting sets are 0
unfoldable pub root_set_rule : Loading → FileSet → Bool
root_set_rule l s =
    elim (in_model l) [ true ↦ not (eqb s no_set) && part_of s (declared_files l.schema) | false ↦ eqb s no_set ]

-- other model sets are parts of it; waiting sets are 0
unfoldable pub set_rule : Loading → FileSet → Bool
set_rule l s = elim (in_model l) [ true ↦ part_of s (loaded_files l.model) | false ↦ eqb s no_set ]

-- Elements are numbered from 0 in deck order.
unfoldable pub next_element : Loading → Element
next_element l = length l.elements.names

-- the item at the end of its owner's list
unfoldable pub append : Model → Element → Item → Model
append m p i = insert_item m p (length (list_of m p)) i

-- root: depth 0, name 0, type 0
unfoldable pub load_root : Loading → ℕ → Name → FileSet → Res Loading
load_root l d n s = do
  _ ← need tree_rule (eqb d 0 && eqb n 0)
  _ ← need schema_rule (declared_type l.schema 0)
  _ ← need tree_rule (root_set_rule l s)
  ok (put_content l (next_element l ∷ []) (add_element l.elements 0 0 0) (add_to_model l.model none s))

-- a child's name has a row in its parent's type; every other E has an E it belongs to
unfoldable pub load_child : Loading → ℕ → Name → FileSet → Res Loading
load_child l d n s = do
  p ← given tree_rule (owner l d)
  row ← given tree_rule (row_of_name l.schema (get_or l.elements.types p 0) n)
  _ ← need tree_rule (set_rule l s)
  let e = next_element l
  let es = add_element l.elements n row.child_type d
  ok (put_content l (take d l.above ++ (e ∷ [])) es (add_to_model (append l.model p (child e)) (some p) s))

-- A root is no content item.
unfoldable pub load_e : Loading → ℕ → Name → FileSet → Res Loading
load_e l d n s = do
  _ ← need limit (leb d depth_limit && ltb (length l.elements.names) element_limit && (eqb d 0 || ltb (content_items l.model) item_limit))
  elim l.root_due [ true ↦ load_root l d n s | false ↦ load_child l d n s ]

-- C only in modes 3 and 4
unfoldable pub takes_text : Mode → Bool
takes_text sequence = false
takes_text choice = false
takes_text bag = false
takes_text mixed = true
takes_text characters = true

-- each C has an E it belongs to
unfoldable pub load_c : Loading → ℕ → Text → Res Loading
load_c l d t = do
  let es = l.elements
  _ ← need limit (leb d depth_limit && ltb (content_items l.model) item_limit)
  _ ← need tree_rule (not l.root_due)
  p ← given tree_rule (owner l d)
  _ ← need tree_rule (takes_text (type_row l.schema (get_or es.types p 0)).mode)
  ok (put_content l l.above (add_text es t) (append l.model p (text (length es.texts))))

-- ---- load

unfoldable pub load_line : Loading → Line → Res Loading
load_line l (T t row) = load_t l t row
load_line l (G g) = load_g l g
load_line l (S r) = load_s l r
load_line l (F d) = load_f l d
load_line l M = load_m l
load_line l (B f) = load_b l f
load_line l (E d n s) = load_e l d n s
load_line l (C d t) = load_c l d t

pub data Load : Type 0 where
  loaded : Fixed → State → Load
  refused_at : ℕ → ℕ → Load

-- no M or a last root missing: the last line's number, 0 if none. After an accepted load the log is empty.
unfoldable pub finish : List ℕ → ℕ → Loading → Load
finish deck n l =
    elim (l.model_seen && not l.root_due) [
      | true ↦ loaded (record { deck = deck; schema = l.schema; elements = l.elements }) (record { model = l.model; log = [] })
      | false ↦ refused_at tree_rule n
    ]

-- at the first bad line, with its number from 1; n lines stand above
unfoldable pub load_lines : List ℕ → ℕ → List Part → Loading → Load
load_lines deck n [] l = finish deck n l
load_lines deck n (p ∷ []) l = elim p.bytes [ [] ↦ finish deck n l | b ∷ bs ↦ refused_at form (suc n) ]
load_lines deck n (p ∷ q ∷ ps) l =
    elim (given form (read_line p) >>= load_line l) [ ok l' ↦ load_lines deck (suc n) (q ∷ ps) l' | refused r ↦ refused_at r (suc n) ]

-- deck 32,768 bytes (4, line 0)
unfoldable pub load : List ℕ → Load
load deck = elim (leb (length deck) deck_limit) [ true ↦ load_lines deck 0 (lines deck) nothing | false ↦ refused_at limit 0 ]
