-- The records that deck and merge share: schema, elements, model, log. Elements, texts and types are numbered from 0, in deck order.
-- The number types say which number is meant; an element number is never taken for a name, type or file number. Assumes nothing.
use Rattle.std.specs.Prelude.{List, [], ◌∷◌, ◌++◌, map, Bool, false, ℕ, length, get_or, set}
use Rattle.std.proofs.Math.Option.{Option, none}
use Rattle.tables.specs.Lists.{sum, insert_at, remove_at, insert_run, remove_run}

abbrev pub Element : Type 0
Element = ℕ

abbrev pub Name : Type 0
Name = ℕ

abbrev pub TypeNumber : Type 0
TypeNumber = ℕ

abbrev pub FileNumber : Type 0
FileNumber = ℕ

abbrev pub Version : Type 0
Version = ℕ

-- bit v for version v
abbrev pub Mask : Type 0
Mask = ℕ

-- bit f for file f; 0 means no set stored
abbrev pub FileSet : Type 0
FileSet = ℕ

-- a path's parts, first one first; the empty path is the type itself
abbrev pub SchemaPath : Type 0
SchemaPath = List ℕ

-- ---- schema

pub data Mode : Type 0 where
  sequence choice bag mixed characters : Mode

abbrev pub modes : List Mode
modes = sequence ∷ choice ∷ bag ∷ mixed ∷ characters ∷ []

-- at most one, one, any
pub data Mult : Type 0 where
  at_most_one one any : Mult

abbrev pub mults : List Mult
mults = at_most_one ∷ one ∷ any ∷ []

-- T row
pub record TypeRow : Type 0 where
  pub mode : Mode
  pub named : Bool
  pub split : Mask

-- G row
pub record Group : Type 0 where
  pub type : TypeNumber
  pub path : SchemaPath
  pub mode : Mode

-- S row
pub record SubElement : Type 0 where
  pub type : TypeNumber
  pub path : SchemaPath
  pub name : Name
  pub child_type : TypeNumber
  pub mult : Mult
  pub mask : Mask

-- F row
pub record File : Type 0 where
  pub file : FileNumber
  pub version : Version

-- each list in deck order
pub record Schema : Type 0 where
  pub types : List TypeRow
  pub groups : List Group
  pub sub_elements : List SubElement
  pub files : List File

-- ---- elements

-- a string of the deck: its first byte's place, and its length
pub record Place : Type 0 where
  pub start : ℕ
  pub size : ℕ

-- a text item: an enum number, a string, a whole number, a float's 64 bits
pub data Text : Type 0 where
  enum_number : ℕ → Text
  string : Place → Text
  whole_number : ℕ → Text
  float : ℕ → Text

-- the tree of a B line
pub record Tree : Type 0 where
  pub file : FileNumber
  pub root : Element

-- names, types and depths by element; texts by their number; trees in deck order
pub record Elements : Type 0 where
  pub names : List Name
  pub types : List TypeNumber
  pub depths : List ℕ
  pub texts : List Text
  pub trees : List Tree

-- ---- model

-- a content item: an element, or a text by its number
pub data Item : Type 0 where
  child : Element → Item
  text : ℕ → Item

-- each list by element
pub record Model : Type 0 where
  pub parents : List (Option Element)
  pub sets : List FileSet
  pub lists : List (List Item)

-- ---- log

-- import: the element, its new parent, its old parent and set; restriction: the element and its old set; extension: the element and the file
pub data Entry : Type 0 where
  import : Element → Element → Option Element → FileSet → Entry
  restriction : Element → FileSet → Entry
  extension : Element → FileNumber → Entry

-- newest first
abbrev pub Log : Type 0
Log = List Entry

-- ---- the whole state

-- what a load writes and no other call changes
pub record Fixed : Type 0 where
  pub deck : List ℕ
  pub schema : Schema
  pub elements : Elements

-- what merge and rollback change
pub record State : Type 0 where
  pub model : Model
  pub log : Log

-- the model's root
abbrev pub root : Element
root = 0

abbrev pub no_type : TypeRow
no_type = record { mode = characters; named = false; split = 0 }

abbrev pub type_row : Schema → TypeNumber → TypeRow
type_row sc t = get_or sc.types t no_type

abbrev pub name_of : Fixed → Element → Name
name_of x e = get_or x.elements.names e 0

abbrev pub type_of : Fixed → Element → TypeNumber
type_of x e = get_or x.elements.types e 0

abbrev pub depth_of : Fixed → Element → ℕ
depth_of x e = get_or x.elements.depths e 0

abbrev pub text_of : Fixed → ℕ → Text
text_of x t = get_or x.elements.texts t (enum_number 0)

abbrev pub parent_of : Model → Element → Option Element
parent_of m e = get_or m.parents e none

abbrev pub set_of : Model → Element → FileSet
set_of m e = get_or m.sets e 0

abbrev pub list_of : Model → Element → List Item
list_of m e = get_or m.lists e []

-- ---- changes of the schema and the elements: one more of each

unfoldable pub add_type : Schema → TypeRow → Schema
add_type sc r = record { types = sc.types ++ (r ∷ []); groups = sc.groups; sub_elements = sc.sub_elements; files = sc.files }

unfoldable pub add_group : Schema → Group → Schema
add_group sc g = record { types = sc.types; groups = sc.groups ++ (g ∷ []); sub_elements = sc.sub_elements; files = sc.files }

unfoldable pub add_sub_element : Schema → SubElement → Schema
add_sub_element sc r = record { types = sc.types; groups = sc.groups; sub_elements = sc.sub_elements ++ (r ∷ []); files = sc.files }

unfoldable pub add_file : Schema → File → Schema
add_file sc d = record { types = sc.types; groups = sc.groups; sub_elements = sc.sub_elements; files = sc.files ++ (d ∷ []) }

unfoldable pub add_element : Elements → Name → TypeNumber → ℕ → Elements
add_element es n t d =
    record { names = es.names ++ (n ∷ []); types = es.types ++ (t ∷ []); depths = es.depths ++ (d ∷ []); texts = es.texts; trees = es.trees }

unfoldable pub add_text : Elements → Text → Elements
add_text es t = record { names = es.names; types = es.types; depths = es.depths; texts = es.texts ++ (t ∷ []); trees = es.trees }

unfoldable pub add_tree : Elements → Tree → Elements
add_tree es t = record { names = es.names; types = es.types; depths = es.depths; texts = es.texts; trees = es.trees ++ (t ∷ []) }

-- ---- changes of the model

-- one more element, with an empty list
unfoldable pub add_to_model : Model → Option Element → FileSet → Model
add_to_model m p s = record { parents = m.parents ++ (p ∷ []); sets = m.sets ++ (s ∷ []); lists = m.lists ++ ([] ∷ []) }

unfoldable pub put_parent : Model → Element → Option Element → Model
put_parent m e p = record { parents = set m.parents e p; sets = m.sets; lists = m.lists }

unfoldable pub put_set : Model → Element → FileSet → Model
put_set m e s = record { parents = m.parents; sets = set m.sets e s; lists = m.lists }

unfoldable pub put_list : Model → Element → List Item → Model
put_list m e l = record { parents = m.parents; sets = m.sets; lists = set m.lists e l }

-- the item at this place of the element's list
unfoldable pub insert_item : Model → Element → ℕ → Item → Model
insert_item m e i a = put_list m e (insert_at (list_of m e) i a)

-- the item k times at this place of the element's list
unfoldable pub insert_items : Model → Element → ℕ → ℕ → Item → Model
insert_items m e i k a = put_list m e (insert_run (list_of m e) i k a)

-- the item at this place of the element's list, in place of the one that stands there
unfoldable pub put_item : Model → Element → ℕ → Item → Model
put_item m e i a = put_list m e (set (list_of m e) i a)

-- the element's list without the item at this place
unfoldable pub remove_item : Model → Element → ℕ → Model
remove_item m e i = put_list m e (remove_at (list_of m e) i)

-- the element's list without k items, the first of them at this place
unfoldable pub remove_items : Model → Element → ℕ → ℕ → Model
remove_items m e i k = put_list m e (remove_run (list_of m e) i k)

-- content items over all lists
unfoldable pub content_items : Model → ℕ
content_items m = sum (map length m.lists)
