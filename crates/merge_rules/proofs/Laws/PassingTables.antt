-- What a load fixes, with a sound state, is what the test of the tables asks of the records. Assumes nothing.
use mathlib.Core.Bool.{true, false≢true}
use mathlib.Core.List.{List, [], ◌∷◌, map}
use mathlib.Core.Option.{Option, none, some}
use mathlib.Core.Path.{◌≡◌, refl, sym, ◌∙◌}
use Prim.Native.Nat.{ℕ, ◌+◌, ◌≤◌, ◌<◌}
use native.Mathlib.Omega.{arith}
use borrow.Author.Tests.{eqb-true, eqb-false}
use lib.Dec.{eqb}
use lib.ListN.{length, get_or, length-map}
use Rattle.tables.specs.Cells.{Each}
use Rattle.tables.specs.Limits.{type_limit, part_limit, file_limit, depth_limit, deck_limit}
use Rattle.tables.specs.Lists.{any_of}
use Rattle.tables.specs.Records.{Element, FileNumber, File, Schema, Text, enum_number, string, whole_number, float, Tree, Item, child, text, Entry, import, restriction, extension, Fixed, State, list_of}
use Rattle.tables.specs.SchemaTable.{GroupFits, RowFits}
use Rattle.tables.specs.ElementsTable.{TextFits}
use Rattle.tables.specs.ModelTable.{ParentBelow, ItemBelow}
use Rattle.tables.specs.LogTable.{EntryFits}
use Rattle.tables.proofs.Laws.Cells.{each-imp}
use Rattle.tables.proofs.Laws.Cases.{bool-split}
use Rattle.table_test.specs.ElementsTest.{TextIn, TreeIn}
use Rattle.table_test.specs.LogTest.{EntryIn}
use Rattle.table_test.specs.ModelTest.{once_in}
use Rattle.table_test.specs.Passing.{GroupPassing, RowPassing, SchemaIn, ElementsIn, ItemTextIn, ModelIn, LogIn}
use Rattle.table_test.specs.SchemaTest.{TypeIn, FilesIn}
use Rattle.table_test.proofs.Laws.LogTest.{entry-weaker}
use Rattle.deck.specs.Schema.{declares_file}
use Rattle.state_test.specs.StateTest.{tree_files_distinct}
use Rattle.merge_rules.specs.Sound.{count, Once, once-nil, once-cons, Static, ItemInRange, EntryValid, Kept}
use Rattle.merge_rules.proofs.Laws.Elements.{distinct-first}
use Rattle.merge_rules.proofs.Laws.Lists.{map-in, any_of-false, in-each, at_each, flat-each}
use Rattle.merge_rules.proofs.Laws.Loaded.{FixedInRange}
use Rattle.merge_rules.proofs.Laws.Once.{once-in, once-below}
use Rattle.merge_rules.proofs.Laws.Parse.{SchemaInRange}

-- ---- schema

files-few : (low : ℕ) (fs : List File) → FilesIn low fs → low ≤ file_limit → low + length fs ≤ file_limit
files-few low [] h k = omega arith
files-few low (f ∷ fs) h k = omega (arith, files-few (f.file + 1) fs h.3 (omega (arith, h.1)), h.0)

-- a declared file is in its range
file-below : (low : ℕ) (fs : List File) → FilesIn low fs → (f : FileNumber) → any_of (λ (d : File). eqb d.file f) fs ≡ true → f < file_limit
unfolding any_of
file-below low [] h f k = absurd (false≢true k)
file-below low (d ∷ fs) h f k =
    bool-split (eqb d.file f) (λ e. omega (arith, eqb-true d.file f e, h.1))
    (λ e. file-below (d.file + 1) fs h.3 f (rw (any_of, e) at k))

-- a schema whose rows fit
pub schema-in : (sc : Schema) → SchemaInRange sc → SchemaIn sc
schema-in sc h =
    let few : length sc.types ≤ type_limit = h.types.few in
    record {
      sized =
          record {
            type_count = few;
            group_count = h.groups.few;
            row_count = h.rows.few;
            file_count = omega (arith, files-few 0 sc.files h.files (omega arith));
            group_paths = in-each GroupFits sc.groups (λ g i. omega (arith, (h.groups.fit g i).0.path.few));
            row_paths = in-each RowFits sc.sub_elements (λ r i. (h.rows.fit r i).0.path.few);
          };
      types = in-each TypeIn sc.types (λ r i. (h.types.fit r i).split);
      groups =
          in-each GroupPassing sc.groups (λ g i.
          let (fits, known) = h.groups.fit g i in
          ((omega arith, fits.path.some, fits.path.few), in-each (λ (a : ℕ). a ≤ part_limit) g.path fits.path.parts, fits.mode));
      rows =
          in-each RowPassing sc.sub_elements (λ r i.
          let (fits, known, below) = h.rows.fit r i in (
            (omega arith, fits.path.some, fits.name, omega arith, fits.some_version, fits.mask),
            in-each (λ (a : ℕ). a ≤ part_limit) r.path fits.path.parts,
          ));
      files = h.files;
    }

-- ---- elements

text-fits : (size : ℕ) → size ≤ deck_limit → (t : Text) → TextIn size t → TextFits t
text-fits size few (enum_number n) h = tt
text-fits size few (string p) h = omega arith
text-fits size few (whole_number n) h = tt
text-fits size few (float b) h = tt

distinct-once : (ts : List Tree) → tree_files_distinct ts ≡ true → Once (map Tree.file ts)
distinct-once [] h = once-nil
distinct-once (t ∷ ts) h =
    let (first, later) = distinct-first t ts h in
    once-cons
    (λ i. map-in (λ (n : ℕ). n ≡ t.file → ⊥) Tree.file ts (λ u j. eqb-false u.file t.file (any_of-false _ ts first u j)) t.file i refl)
    (distinct-once ts later)

module _ (deck : List ℕ) (x : Fixed) (r : FixedInRange deck x) (static : Static x) where
  declared-below : (f : FileNumber) → declares_file x.schema f ≡ true → f < file_limit
  unfolding declares_file
  declared-below f h = file-below 0 x.schema.files r.schema.files f h

  trees-few : length x.elements.trees ≤ file_limit
  trees-few =
      let ts : List Tree = x.elements.trees in
      let few =
      once-below file_limit (map Tree.file ts) (distinct-once ts r.elements.trees)
      (map-in (λ (n : ℕ). n < file_limit) Tree.file ts (λ t i. declared-below t.file (static.trees.valid t i).declared)) in
      omega (arith, length-map ts Tree.file)

  -- the elements
  pub elements-in : ElementsIn (length x.schema.types) (length deck) x.elements
  elements-in =
      record {
        sized =
            record {
              same_types = static.elements.types;
              same_depths = static.elements.depths;
              count = static.elements.few;
              text_count = r.few_texts;
              tree_count = trees-few;
              strings = each-imp (TextIn (length deck)) TextFits x.elements.texts (text-fits (length deck) r.size) r.elements.texts;
            };
        names = r.elements.names;
        types_in = r.elements.types;
        depths = at_each (λ (d : ℕ). d ≤ depth_limit) x.elements.depths 0 static.elements.shallow;
        texts = r.elements.texts;
        trees =
            in-each (TreeIn (count x)) x.elements.trees (λ t i. (declared-below t.file (static.trees.valid t i).declared, (static.trees.valid t i).in_range));
      }

  -- ---- model and log

  module _ (s : State) (k : Kept x s) where
    item-below : (i : Item) → ItemInRange x i → ItemBelow (length s.model.parents) i
    item-below (child e) h = rw k.parents h
    item-below (text t) h = omega (arith, r.few_texts)

    item-text : (i : Item) → ItemInRange x i → ItemTextIn (length x.elements.texts) i
    item-text (child e) h = tt
    item-text (text t) h = h

    parent-below : (e : Element) → ParentBelow (length s.model.parents) (get_or s.model.parents e none)
    parent-below e = go (get_or s.model.parents e none) refl
      where
        go : (o : Option Element) → get_or s.model.parents e none ≡ o → ParentBelow (length s.model.parents) o
        go none h = tt
        go (some p) h = rw k.parents (k.parent_range e p h)

    -- the model
    pub model_in : ModelIn (length x.elements.texts) s.model
    model_in =
        record {
          sized =
              record {
                sets = k.sets ∙ sym k.parents;
                lists = k.lists ∙ sym k.parents;
                count = rw k.parents static.elements.few;
                total = k.few_items;
                parents_in = at_each (ParentBelow (length s.model.parents)) s.model.parents none parent-below;
                items_in = flat-each (ItemBelow (length s.model.parents)) s.model.lists (λ p i h. item-below i (k.items p i h));
              };
          texts_in = flat-each (ItemTextIn (length x.elements.texts)) s.model.lists (λ p i h. item-text i (k.items p i h));
          once = at_each (λ (l : List Item). once_in l ≡ true) s.model.lists [] (λ p. once-in (list_of s.model p) (k.once p));
        }

    old-parent : (o : Option Element) → ((q : Element) → o ≡ some q → q < count x) → ParentBelow (count x) o
    old-parent none h = tt
    old-parent (some q) h = h q refl

    entry_in : (e : Entry) → EntryValid x e → EntryIn (count x) e
    entry_in (import e p o old) h = (h.0, h.1, old-parent o h.2)
    entry_in (restriction e old) h = h.0
    entry_in (extension e f) h = (h.0, declared-below f h.1)

    -- the log
    pub log-in : LogIn (count x) s.log
    log-in =
        let entries : Each (EntryIn (count x)) s.log = in-each (EntryIn (count x)) s.log (λ e i. entry_in e (k.entries e i)) in
        record {
          sized = record { fits = k.few_entries; parts = each-imp (EntryIn (count x)) EntryFits s.log (λ e. entry-weaker (count x) e static.elements.few) entries };
          entries = entries;
        }
