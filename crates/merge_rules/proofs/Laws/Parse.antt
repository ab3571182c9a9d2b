-- What holds of each line that is read, and of the schema: numbers in their ranges. Assumes nothing.
use mathlib.Core.Bool.{Bool, true, false, and-eq-true_iff}
use mathlib.Core.List.{List, [], ◌∷◌, ◌++◌}
use mathlib.Core.Option.{Option}
use mathlib.Core.Path.{◌≡◌, refl, ap}
use Prim.Native.Char.{code}
use Prim.Native.Nat.{ℕ, zero, suc, ◌+◌, ◌-◌, ◌≤◌, ◌<◌, zero-le}
use native.Mathlib.Nat.{le_refl}
use native.Mathlib.Omega.{arith}
use borrow.Author.Tests.{ltb-true, leb-true}
use lib.Dec.{eqb, leb, ltb}
use lib.ListN.{length, get_or, length-append}
use Rattle.tables.specs.Cells.{Each}
use Rattle.tables.specs.Limits.{name_limit, part_limit, path_limit, mask_limit, file_limit, version_limit, type_limit, group_limit, row_limit}
use Rattle.tables.specs.Lists.{all_of, first_of}
use Rattle.tables.specs.Records.{TypeNumber, SchemaPath, Mode, modes, characters, TypeRow, Group, SubElement, File, Schema, add_type, add_group, add_sub_element, add_file}
use Rattle.tables.proofs.Laws.Cells.{each-imp}
use Rattle.tables.proofs.Laws.Cases.{bool_case}
use Rattle.table_test.specs.ElementsTest.{TextIn}
use Rattle.table_test.specs.SchemaTest.{FilesIn}
use Rattle.tables.proofs.Laws.Scans.{all_head, all_tail}
use Rattle.deck.specs.Deck.{Part, parts, ahead, only, number, decimal, hexadecimal, name_field, file_field, mask_field, mode_field, path_parts, path_field, by_letter, texts, text_e, text_s, text_u, text_f, text_fields, fields, field, Line, T, G, S, F, M, B, E, C, line_t, line_g, line_s, line_f, line_m, line_b, line_e, line_c, kinds, read_line}
use Rattle.deck.specs.Load.{nothing}
use Rattle.deck.specs.Schema.{declared_type, path_valid, group_rule, sub_element_rule}
use Rattle.deck.proofs.Laws.Numbers.{number-most}
use Rattle.deck.proofs.Laws.Parts.{parts-some}
use Rattle.schema_calls.proofs.Laws.Rules.{child-declared}
use Rattle.merge_rules.specs.Sound.{In}
use Rattle.merge_rules.proofs.Laws.Cases.{and-three, option-case, IfSome, is_some, is_none, some_of, some-map, some-bind, any-bind}
use Rattle.merge_rules.proofs.Laws.Lists.{each_nil, each-cons, each_snoc, each_in, first_of-some}

-- ---- fields

-- what holds of the value where the test does
pub only-ok : {A : Type 0} {D : A → Type 0} (b : Bool) (a : A) → (b ≡ true → D a) → IfSome D (only b a)
unfolding only
only-ok true a h = is_some (h refl)
only-ok false a h = is_none

-- a path of at most so many parts, of a byte each
pub record PathInRange (most : ℕ) (p : SchemaPath) : Type 0 where
  pub some : 0 < length p
  pub few : length p ≤ most
  pub parts : (n : ℕ) → In n p → n ≤ part_limit

number_ok : (radix most : ℕ) (p : Part) → IfSome (λ (v : ℕ). v ≤ most) (number radix most p)
number_ok radix most p = some_of (number radix most p) (number-most radix most p)

decimal-ok : (most : ℕ) (p : Part) → IfSome (λ (v : ℕ). v ≤ most) (decimal most p)
unfolding decimal
decimal-ok most p = number_ok 10 most p

name-ok : (p : Part) → IfSome (λ (v : ℕ). v ≤ name_limit) (name_field p)
unfolding name_field
name-ok p = decimal-ok _ p

file-ok : (p : Part) → IfSome (λ (v : ℕ). v < file_limit) (file_field p)
unfolding file_field
file-ok p = some-map (λ v h. omega arith) (decimal-ok _ p)

version-ok : (p : Part) → IfSome (λ (v : ℕ). v < version_limit) (decimal (version_limit - 1) p)
version-ok p = some-map (λ v h. omega arith) (decimal-ok _ p)

mask-ok : (p : Part) → IfSome (λ (v : ℕ). v < mask_limit) (mask_field p)
unfolding mask_field hexadecimal
mask-ok p = some-map (λ v h. omega arith) (number_ok 16 _ p)

-- the mode of a group
mode-ok : (p : Part) → IfSome (λ (m : Mode). m ≡ characters → ⊥) (mode_field 3 p)
unfolding mode_field
mode-ok p = some-bind (decimal-ok 3 p) (λ n h. is_some (other n h))
  where
    other : (n : ℕ) → n ≤ 3 → get_or modes n characters ≡ characters → ⊥
    other zero h e = let z : ◌≡◌ {A = ℕ} 0 1 = cc in omega arith
    other (suc zero) h e = let z : ◌≡◌ {A = ℕ} 0 1 = cc in omega arith
    other (suc (suc zero)) h e = let z : ◌≡◌ {A = ℕ} 0 1 = cc in omega arith
    other (suc (suc (suc zero))) h e = let z : ◌≡◌ {A = ℕ} 0 1 = cc in omega arith
    other (suc (suc (suc (suc n)))) h e = omega arith

-- ---- parts of a deck

-- the part ends within the first so many bytes
abbrev pub PartIn : ℕ → Part → Type 0
PartIn size p = p.start + length p.bytes ≤ size

-- and does not begin before this place
abbrev PartFrom : ℕ → ℕ → Part → Type 0
PartFrom size at p = (at ≤ p.start) × PartIn size p

module _ (size : ℕ) where
  ahead-from : (at b : ℕ) (ps : List Part) → at < size → Each (PartFrom size (suc at)) ps → Each (PartFrom size at) (ahead at b ps)
  unfolding ahead
  ahead-from at b [] room h = ((le_refl at, omega arith), tt)
  ahead-from at b (p ∷ ps) room h =
      ((le_refl at, omega (arith, h.0.0, h.0.1)), each-imp (PartFrom size (suc at)) (PartFrom size at) ps (λ q k. (omega (arith, k.0), k.1)) h.1)

  parts_from_lem : (separator at : ℕ) (bs : List ℕ) → at + length bs ≤ size → Each (PartFrom size at) (parts separator at bs)
  unfolding parts
  parts_from_lem separator at [] h = ((le_refl at, h), tt)
  parts_from_lem separator at (b ∷ bs) h =
      let ps : List Part = parts separator (suc at) bs in
      let rest : Each (PartFrom size (suc at)) ps = parts_from_lem separator (suc at) bs (omega arith) in
      bool_case (Each (PartFrom size at)) (eqb b separator)
      (λ _.
      ((le_refl at, omega arith), each-imp (PartFrom size (suc at)) (PartFrom size at) ps (λ q k. (omega (arith, k.0), k.1)) rest))
      (λ _. ahead-from at b ps (omega arith) rest)

  -- each part of a part
  pub parts_in : (separator at : ℕ) (bs : List ℕ) → at + length bs ≤ size → Each (PartIn size) (parts separator at bs)
  parts_in separator at bs h = each-imp (PartFrom size at) (PartIn size) (parts separator at bs) (λ q k. k.1) (parts_from_lem separator at bs h)

  field_in : (l : List Part) (i : ℕ) → Each (PartIn size) l → PartIn size (field l i)
  field_in [] i h = zero-le
  field_in (p ∷ l) zero h = h.0
  field_in (p ∷ l) (suc i) h = field_in l i h.1

path_parts-ok : (ps : List Part) → IfSome (λ (q : SchemaPath). (length q ≡ length ps) × ((n : ℕ) → In n q → n ≤ part_limit)) (path_parts ps)
unfolding path_parts
path_parts-ok [] = is_some (refl, each_nil _)
path_parts-ok (p ∷ ps) =
    some-bind (decimal-ok part_limit p) (λ a h. some-bind (path_parts-ok ps) (λ q k.
    is_some (ap suc k.0, each-cons (λ (n : ℕ). n ≤ part_limit) h k.1)))

path-ok : (most : ℕ) (p : Part) → IfSome (PathInRange most) (path_field most p)
unfolding path_field
path-ok most p =
    let ps : List Part = parts (code ".") p.start p.bytes in
    bool_case (IfSome (PathInRange most)) (leb (length ps) most)
    (λ h. some-map (λ q k.
    record { some = rw k.0 (parts-some _ p.start p.bytes); few = rw k.0 (leb-true (length ps) most h); parts = k.1 })
    (path_parts-ok ps))
    (λ _. is_none)

-- ---- lines

-- a T line
pub record TypeInRange (r : TypeRow) : Type 0 where
  pub split : r.split < mask_limit

-- a G line
pub record GroupInRange (g : Group) : Type 0 where
  pub path : PathInRange (path_limit - 1) g.path
  pub mode : g.mode ≡ characters → ⊥

-- an S line
pub record RowInRange (r : SubElement) : Type 0 where
  pub path : PathInRange path_limit r.path
  pub name : r.name ≤ name_limit
  pub some_version : 0 < r.mask
  pub mask : r.mask < mask_limit

-- an F line
pub record FileInRange (d : File) : Type 0 where
  pub file : d.file < file_limit
  pub version : d.version < version_limit

-- numbers in their ranges, and strings in the deck of this size
abbrev pub LineInRange : ℕ → Line → Type 0
LineInRange size (T t r) = TypeInRange r
LineInRange size (G g) = GroupInRange g
LineInRange size (S r) = RowInRange r
LineInRange size (F d) = FileInRange d
LineInRange size M = Unit
LineInRange size (B f) = Unit
LineInRange size (E d n s) = n ≤ name_limit
LineInRange size (C d t) = TextIn size t

-- what holds of each reading of a table holds of the one under a letter
letter-ok : {A B : Type 0} (D : B → Type 0) (table : List (ℕ × (A → Option B))) (a : A)
    → Each (λ (r : ℕ × (A → Option B)). IfSome D (r.1 a)) table → (k : ℕ) → IfSome D (by_letter table k a)
unfolding by_letter
letter-ok {A} {B} D table a h k =
    option-case (IfSome D) (first_of _ table) (λ _. is_none)
    (λ r f. each_in (λ (r : ℕ × (A → Option B)). IfSome D (r.1 a)) table h r (first_of-some _ table f).1)

module _ (size : ℕ) where
  text-ok : (k p : Part) → PartIn size p → IfSome (TextIn size) (text_fields k p)
  unfolding text_fields text_e text_s text_u text_f
  text-ok k p h =
      any-bind _ (letter-ok (TextIn size) texts p (
        some-bind (decimal-ok _ p) (λ v i. is_some i),
        (
          only-ok _ _ (λ _. h),
          (
            any-bind _ (λ v. is_some tt),
            (any-bind _ (λ v. is_some tt), tt),
          ),
        ),
      ))

  line_t-ok : (l : List Part) → IfSome (LineInRange size) (line_t l)
  unfolding line_t
  line_t-ok l =
      any-bind _ (λ t. any-bind _ (λ m. any-bind _ (λ n. some-bind (mask-ok _) (λ s h. only-ok _ _ (λ _. record { split = h })))))

  line_g-ok : (l : List Part) → IfSome (LineInRange size) (line_g l)
  unfolding line_g
  line_g-ok l =
      any-bind _ (λ t. some-bind (path-ok (path_limit - 1) _) (λ p h. some-bind (mode-ok _) (λ m i. only-ok _ _ (λ _. record { path = h; mode = i }))))

  line_s-ok : (l : List Part) → IfSome (LineInRange size) (line_s l)
  unfolding line_s
  line_s-ok l =
      any-bind _ (λ t. some-bind (path-ok path_limit _) (λ p hp. some-bind (name-ok _) (λ n hn. any-bind _ (λ c. any-bind _ (λ u.
      some-bind (mask-ok _) (λ m hm. only-ok _ _ (λ h. record { path = hp; name = hn; some_version = ltb-true 0 m ((and-eq-true_iff (eqb (length l) 7) _).0 h).1; mask = hm })))))))

  line_f-ok : (l : List Part) → IfSome (LineInRange size) (line_f l)
  unfolding line_f
  line_f-ok l = some-bind (file-ok _) (λ f hf. some-bind (version-ok _) (λ v hv. only-ok _ _ (λ _. record { file = hf; version = hv })))

  line_m-ok : (l : List Part) → IfSome (LineInRange size) (line_m l)
  unfolding line_m
  line_m-ok l = only-ok _ _ (λ _. tt)

  line_b-ok : (l : List Part) → IfSome (LineInRange size) (line_b l)
  unfolding line_b
  line_b-ok l = any-bind _ (λ f. only-ok _ _ (λ _. tt))

  line_e-ok : (l : List Part) → IfSome (LineInRange size) (line_e l)
  unfolding line_e
  line_e-ok l = any-bind _ (λ d. some-bind (name-ok _) (λ n h. any-bind _ (λ s. only-ok _ _ (λ _. h))))

  line_c-ok : (l : List Part) → Each (PartIn size) l → IfSome (LineInRange size) (line_c l)
  unfolding line_c
  line_c-ok l i =
      any-bind _ (λ d. some-bind (text-ok _ _ (field_in size l 3 i)) (λ t h. only-ok _ _ (λ _. h)))

  -- what is read fits
  pub read_ok : (p : Part) → PartIn size p → IfSome (LineInRange size) (read_line p)
  unfolding read_line fields
  read_ok p h =
      let l = parts (code ",") p.start p.bytes in
      let i = parts_in size (code ",") p.start p.bytes h in
      any-bind _ (letter-ok (LineInRange size) kinds l
      (line_t-ok l, (line_g-ok l, (line_s-ok l, (line_f-ok l, (line_m-ok l, (line_b-ok l, (line_e-ok l, (line_c-ok l i, tt)))))))))

-- ---- the schema

-- at most so many rows, and what holds of each
pub record Rows {A : Type 0} (most : ℕ) (P : A → Type 0) (l : List A) : Type 0 where
  pub few : length l ≤ most
  pub fit : (r : A) → In r l → P r

rows_none : {A : Type 0} {most : ℕ} {P : A → Type 0} → Rows most P []
rows_none = record { few = zero-le; fit = each_nil _ }

rows-map : {A : Type 0} {most : ℕ} {P Q : A → Type 0} {l : List A} → ((r : A) → P r → Q r) → Rows most P l → Rows most Q l
rows-map f h = record { few = h.few; fit = λ r i. f r (h.fit r i) }

row_more : {A : Type 0} {most : ℕ} {P : A → Type 0} {l : List A} → Rows most P l → (a : A) → P a → length l < most
    → Rows most P (l ++ (a ∷ []))
row_more {P = P} {l = l} h a new room = record { few = rw length-append (omega arith); fit = each_snoc P l new h.fit }

-- numbers of rows within the limits, and numbers in rows in their ranges
pub record SchemaInRange (sc : Schema) : Type 0 where
  pub types : Rows type_limit TypeInRange sc.types
  pub groups : Rows group_limit (λ (g : Group). GroupInRange g × (g.type < length sc.types)) sc.groups
  pub rows :
      Rows row_limit (λ (r : SubElement). RowInRange r × (r.type < length sc.types) × (r.child_type < length sc.types)) sc.sub_elements
  pub files : FilesIn 0 sc.files

-- no row fits
pub schema-nothing : SchemaInRange nothing.schema
schema-nothing = record { types = rows_none; groups = rows_none; rows = rows_none; files = tt }

files-snoc : (d : File) → FileInRange d → (low : ℕ) (fs : List File) → FilesIn low fs → low ≤ d.file
    → all_of (λ (above : File). ltb above.file d.file) fs ≡ true → FilesIn low (fs ++ (d ∷ []))
files-snoc d f low [] h above rises = (above, f.file, f.version, tt)
files-snoc d f low (e ∷ fs) h above rises =
    let below : File → Bool = λ above. ltb above.file d.file in
    let first = ltb-true e.file d.file (all_head below e fs rises) in
    (h.0, h.1, h.2, files-snoc d f (e.file + 1) fs h.3 (omega arith) (all_tail below e fs rises))

module _ {sc : Schema} (s : SchemaInRange sc) where
  -- a type more fits
  pub type-added : (r : TypeRow) → TypeInRange r → length sc.types < type_limit → SchemaInRange (add_type sc r)
  unfolding add_type
  type-added r f few =
      record {
        types = row_more s.types r f few;
        groups = rows-map (λ g h. (h.0, rw length-append (omega (arith, h.1)))) s.groups;
        rows = rows-map (λ q h. (h.0, rw length-append (omega (arith, h.1)), rw length-append (omega (arith, h.2)))) s.rows;
        files = s.files;
      }

  row-declared : (t : TypeNumber) (p : SchemaPath) → path_valid sc t p ≡ true → t < length sc.types
  unfolding path_valid declared_type
  row-declared t p h = ltb-true t (length sc.types) (and-three _ _ _ h).0

  -- a group more fits
  pub group-added : (g : Group) → GroupInRange g → length sc.groups < group_limit → group_rule sc g ≡ true → SchemaInRange (add_group sc g)
  unfolding add_group group_rule
  group-added g f few rule =
      let known = row-declared g.type g.path ((and-eq-true_iff _ _).0 rule).0 in
      record { types = s.types; groups = row_more s.groups g (f, known) few; rows = s.rows; files = s.files }

  -- a row more fits
  pub row-added : (r : SubElement) → RowInRange r → length sc.sub_elements < row_limit → sub_element_rule sc r ≡ true → SchemaInRange (add_sub_element sc r)
  unfolding add_sub_element sub_element_rule declared_type
  row-added r f few rule =
      let (path, _, _) = and-three (path_valid sc r.type r.path) _ _ ((and-eq-true_iff _ _).0 rule).0 in
      let known = row-declared r.type r.path path in
      record {
        types = s.types;
        groups = s.groups;
        rows = row_more s.rows r (f, known, child-declared sc r rule) few;
        files = s.files;
      }

  -- a file more, of a greater number, fits
  pub file-added : (d : File) → FileInRange d → all_of (λ (above : File). ltb above.file d.file) sc.files ≡ true → SchemaInRange (add_file sc d)
  unfolding add_file
  file-added d f rises =
      record { types = s.types; groups = s.groups; rows = s.rows; files = files-snoc d f 0 sc.files s.files zero-le rises }
