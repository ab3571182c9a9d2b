-- Each fact of a tested table has one proof at most, as a ghost field asks. Assumes nothing.
use Rattle.std.specs.Prelude.{List, [], ◌∷◌, ℕ, ◌+◌}
use Rattle.std.specs.Coded.{×_prop, Unit-prop, le_prop}
use Rattle.std.proofs.Math.Option.{Option, none, some}
use Rattle.tables.specs.Cells.{Each}
use Rattle.tables.specs.Records.{Text, enum_number, string, whole_number, float, Item, child, text, File}
use Rattle.tables.specs.ElementsTable.{TextFits}
use Rattle.tables.specs.ModelTable.{ParentBelow, ItemBelow}
use Rattle.table_test.specs.ElementsTest.{TextIn}
use Rattle.table_test.specs.Passing.{ItemTextIn}
use Rattle.table_test.specs.SchemaTest.{FilesIn}

pub Each-prop : {A : Type 0} (P : A → Type 0) → ((x : A) → IsProp (P x)) → (xs : List A) → IsProp (Each P xs)
Each-prop P p [] = Unit-prop
Each-prop P p (x ∷ xs) = ×_prop (p x) (Each-prop P p xs)

pub TextFits-prop : (t : Text) → IsProp (TextFits t)
TextFits-prop (enum_number n) = Unit-prop
TextFits-prop (string p) = le_prop
TextFits-prop (whole_number n) = Unit-prop
TextFits-prop (float b) = Unit-prop

pub TextIn-prop : (size : ℕ) (t : Text) → IsProp (TextIn size t)
TextIn-prop size (enum_number n) = le_prop
TextIn-prop size (string p) = le_prop
TextIn-prop size (whole_number n) = Unit-prop
TextIn-prop size (float b) = Unit-prop

pub ParentBelow-prop : (n : ℕ) (p : Option ℕ) → IsProp (ParentBelow n p)
ParentBelow-prop n none = Unit-prop
ParentBelow-prop n (some p) = le_prop

pub ItemBelow-prop : (n : ℕ) (i : Item) → IsProp (ItemBelow n i)
ItemBelow-prop n (child e) = le_prop
ItemBelow-prop n (text t) = le_prop

pub ItemTextIn-prop : (n : ℕ) (i : Item) → IsProp (ItemTextIn n i)
ItemTextIn-prop n (child e) = Unit-prop
ItemTextIn-prop n (text t) = le_prop

pub FilesIn-prop : (low : ℕ) (fs : List File) → IsProp (FilesIn low fs)
FilesIn-prop low [] = Unit-prop
FilesIn-prop low (f ∷ fs) = λ u v.
    λ i. (le_prop u.0 v.0 i, le_prop u.1 v.1 i, le_prop u.2 v.2 i, FilesIn-prop (f.file + 1) fs u.3 v.3 i)

pub ruleset facts = (Each-prop, TextFits-prop, TextIn-prop, ParentBelow-prop, ItemBelow-prop, ItemTextIn-prop, FilesIn-prop)
