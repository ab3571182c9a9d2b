-- Document 01, "What each operation refuses": 0, the part that asks the schema's and the trees' rules of tables that pass their own test.
-- Assumes nothing.
use Rattle.std.specs.Prelude.{Bool, true, false, not, ◌&&◌, List, [], ◌∷◌, ◌≡◌, ℕ, suc, ◌≤◌, ◌<◌, eqb, length, get_or}
use Rattle.std.proofs.Math.Option.{none, some}
use Rattle.tables.specs.FileSets.{no_set, holds, part_of, loaded_files}
use Rattle.tables.specs.Limits.{depth_limit}
use Rattle.tables.specs.Lists.{any_of, all_of, keep}
use Rattle.tables.specs.Records.{Element, FileSet, Group, SubElement, Schema, Tree, Item, child, text, Entry, import, restriction, extension, Model, Fixed, State, root, name_of, type_of, depth_of, set_of, add_group, add_sub_element}
use Rattle.tables.specs.ElementsTable.{elements_of}
use Rattle.tables.specs.LogTable.{log_of}
use Rattle.tables.specs.ModelTable.{model_of}
use Rattle.tables.specs.SchemaTable.{schema_of, no_sub_element}
use Rattle.deck.specs.Schema.{group_rule, sub_element_rule, declares_file, declared_files, row_of_name}
use Rattle.table_test.specs.TablesTest.{tables_pass}

-- ---- a schema rule broken

-- each G row meets its rule, by the rows above it
unfoldable pub groups_valid : Schema → List Group → Bool
groups_valid sc [] = true
groups_valid sc (g ∷ gs) = elim (group_rule sc g) [ true ↦ groups_valid (add_group sc g) gs | false ↦ false ]

-- each S row meets its rule, by the rows above it
unfoldable pub rows_valid : Schema → List SubElement → Bool
rows_valid sc [] = true
rows_valid sc (r ∷ rs) = elim (sub_element_rule sc r) [ true ↦ rows_valid (add_sub_element sc r) rs | false ↦ false ]

-- the schema above its first G row
abbrev pub types_alone : Schema → Schema
types_alone sc = record { types = sc.types; groups = []; sub_elements = []; files = sc.files }

-- the schema above its first S row
abbrev pub without_rows : Schema → Schema
without_rows sc = record { types = sc.types; groups = sc.groups; sub_elements = []; files = sc.files }

unfoldable pub schema_valid : Schema → Bool
schema_valid sc = groups_valid (types_alone sc) sc.groups && rows_valid (without_rows sc) sc.sub_elements

-- ---- files

-- the model root's set 0
unfoldable pub root_set_stored : Model → Bool
root_set_stored m = not (eqb (set_of m root) no_set)

-- an undeclared file in a set,
unfoldable pub set_declared : Schema → FileSet → Bool
set_declared sc s = part_of s (declared_files sc)

-- of the model or of the log: an extension entry holds no set, and undone it brings no file in
unfoldable pub entry_declared : Schema → Entry → Bool
entry_declared sc (import e p old_parent old_set) = set_declared sc old_set
entry_declared sc (restriction e old_set) = set_declared sc old_set
entry_declared sc (extension e f) = true

-- or over a waiting tree: over any tree, since a loaded file is in the root's set, and so declared
unfoldable pub tree_declared : Schema → Tree → Bool
tree_declared sc t = declares_file sc t.file

-- a tree waits while its file is outside the root's set
unfoldable pub waits : Model → Tree → Bool
waits m t = not (holds (loaded_files m) t.file)

-- two waiting trees of one file
unfoldable pub tree_files_distinct : List Tree → Bool
tree_files_distinct [] = true
tree_files_distinct (t ∷ ts) = elim (any_of (λ (u : Tree). eqb u.file t.file) ts) [ true ↦ false | false ↦ tree_files_distinct ts ]

-- ---- roots and lists

-- a root not of depth 0 and type 0
unfoldable pub root_valid : Fixed → Element → Bool
root_valid x e = eqb (depth_of x e) 0 && eqb (type_of x e) 0

-- a listed element not one deeper than its list's owner, or of a type that no row there gives its name
unfoldable pub item_valid : Fixed → Element → Item → Bool
item_valid x p (child e) =
    eqb (depth_of x e) (suc (depth_of x p))
    && elim (row_of_name x.schema (type_of x p) (name_of x e)) [ none ↦ false | some r ↦ eqb r.child_type (type_of x e) ]
item_valid x p (text t) = true

-- the lists of the owners from p on
unfoldable pub lists_valid : Fixed → Element → List (List Item) → Bool
lists_valid x p [] = true
lists_valid x p (l ∷ ls) = elim (all_of (item_valid x p) l) [ true ↦ lists_valid x (suc p) ls | false ↦ false ]

-- ---- the whole

unfoldable pub files_declared : Fixed → State → Bool
files_declared x s =
    root_set_stored s.model && all_of (set_declared x.schema) s.model.sets && all_of (entry_declared x.schema) s.log
    && all_of (tree_declared x.schema) x.elements.trees && tree_files_distinct (keep (waits s.model) x.elements.trees)

unfoldable pub roots_valid : Fixed → Bool
roots_valid x = root_valid x root && all_of (λ (t : Tree). root_valid x t.root) x.elements.trees

unfoldable pub state_valid : Fixed → State → Bool
state_valid x s =
    schema_valid x.schema && files_declared x s && roots_valid x && lists_valid x 0 s.model.lists

abbrev pub fixed_in : List ℕ → List ℕ → List ℕ → Fixed
fixed_in deck schema elements = record { deck = deck; schema = schema_of schema; elements = elements_of elements }

abbrev pub state_in : List ℕ → List ℕ → State
state_in model log = record { model = model_of model; log = log_of log }

-- no refusal 0 but for load: the tables pass their own test, and the state that they hold is valid
unfoldable pub lent_tables_pass : List ℕ → List ℕ → List ℕ → List ℕ → List ℕ → Bool
lent_tables_pass deck schema elements model log =
    tables_pass (length deck) schema elements model log && state_valid (fixed_in deck schema elements) (state_in model log)

-- ---- what the rules are asked of

-- an S row's path is not empty, which a table's own test asks
abbrev pub PathFilled : SubElement → Type 0
PathFilled r = 0 < length r.path

-- a depth is within its limit, which a table's own test asks too
abbrev pub Shallow : ℕ → Type 0
Shallow d = d ≤ depth_limit

-- the row at a place, if there is one, is what its name has in its type
abbrev pub FoundRow : Schema → ℕ → Type 0
FoundRow sc i =
    i < length sc.sub_elements
    → let r = get_or sc.sub_elements i no_sub_element in
    row_of_name sc r.type r.name ≡ some r
