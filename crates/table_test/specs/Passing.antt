-- What the tests of the tables ask, as facts of the records that the tables encode: a table of such records passes. Assumes nothing.
use Rattle.std.specs.Prelude.{true, List, ◌≡◌, ℕ, ◌≤◌, ◌<◌, length}
use Rattle.tables.specs.Cells.{Each}
use Rattle.tables.specs.Limits.{depth_limit, name_limit, part_limit}
use Rattle.tables.specs.Records.{SchemaPath, characters, Group, SubElement, Schema, Elements, Item, child, text, Model, Log}
use Rattle.tables.specs.SchemaTable.{SizedSchema}
use Rattle.tables.specs.ElementsTable.{SizedElements}
use Rattle.tables.specs.ModelTable.{flat, SizedModel}
use Rattle.tables.specs.LogTable.{SizedLog}
use Rattle.table_test.specs.ModelTest.{once_in}
use Rattle.table_test.specs.LogTest.{EntryIn}
use Rattle.table_test.specs.ElementsTest.{TextIn, TreeIn}
use Rattle.table_test.specs.SchemaTest.{TypeIn, GroupIn, RowIn, FilesIn}

-- ---- schema

-- parts from 0 to 255
abbrev pub PartsIn : SchemaPath → Type 0
PartsIn p = Each (λ (a : ℕ). a ≤ part_limit) p

abbrev pub GroupPassing : Group → Type 0
GroupPassing g = GroupIn g × PartsIn g.path × (g.mode ≡ characters → ⊥)

abbrev pub RowPassing : SubElement → Type 0
RowPassing r = RowIn r × PartsIn r.path

pub record SchemaIn (sc : Schema) : Type 0 where
  pub sized : SizedSchema sc
  pub types : Each TypeIn sc.types
  pub groups : Each GroupPassing sc.groups
  pub rows : Each RowPassing sc.sub_elements
  pub files : FilesIn 0 sc.files

-- ---- elements

-- the schema has so many types, and the deck this size
pub record ElementsIn (types size : ℕ) (es : Elements) : Type 0 where
  pub sized : SizedElements es
  pub names : Each (λ (n : ℕ). n ≤ name_limit) es.names
  pub types_in : Each (λ (t : ℕ). t < types) es.types
  pub depths : Each (λ (d : ℕ). d ≤ depth_limit) es.depths
  pub texts : Each (TextIn size) es.texts
  pub trees : Each (TreeIn (length es.names)) es.trees

-- ---- model

-- a text's number is that of a text
abbrev pub ItemTextIn : ℕ → Item → Type 0
ItemTextIn n (child e) = Unit {0}
ItemTextIn n (text t) = t < n

-- there are so many texts
pub record ModelIn (texts : ℕ) (m : Model) : Type 0 where
  pub sized : SizedModel m
  pub texts_in : Each (ItemTextIn texts) (flat m.lists)
  pub once : Each (λ (l : List Item). once_in l ≡ true) m.lists

-- ---- log

-- there are n elements
pub record LogIn (n : ℕ) (l : Log) : Type 0 where
  pub sized : SizedLog l
  pub entries : Each (EntryIn n) l
