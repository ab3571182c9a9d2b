-- What the answers of the code stand for in the rules. Assumes nothing.
use Rattle.std.specs.Prelude.{true, false, List, [], ◌∷◌, ◌≡◌, ℕ, suc, ◌+◌, ◌≤◌, ◌<◌, eqb, map, length, get_or, take}
use Rattle.std.proofs.Math.Option.{Option, none, some}
use Rattle.std.specs.Prelude as program_option
use Rattle.std.specs.Prelude.{Some, None}
use Rattle.tables.specs.Cells.{between}
use Rattle.tables.specs.Limits.{file_limit, version_limit}
use Rattle.tables.specs.declared.path.Path.{Path}
use Rattle.tables.specs.Paths.{parts_of}
use Rattle.tables.specs.Records.{SchemaPath, modes, characters, TypeRow, Group, SubElement, File, Text}
use Rattle.tables.specs.SetCells.{set_is}
use Rattle.tables.specs.declared.text.StoredText.{StoredText}
use Rattle.tables.specs.Texts.{stored_is, StoredFits}
use Rattle.tables.specs.SchemaTable.{mult_is}
use Rattle.deck.specs.Deck.{Part, Line, read_line}
use Rattle.deck.specs.declared.lines.Fields.{Fields}
use Rattle.deck.specs.declared.lines.Span.{Span}
use Rattle.deck.specs.declared.lines.TypeCells.{TypeCells}
use Rattle.deck.specs.declared.lines.GroupCells.{GroupCells}
use Rattle.deck.specs.declared.lines.RowCells.{RowCells}
use Rattle.deck.specs.declared.lines.FileCells.{FileCells}
use Rattle.deck.specs.declared.lines.Line as program
use Rattle.deck.specs.declared.lines.Line.TheVariants.{T, G, S, F, M, B, E, C}
use Rattle.deck.specs.declared.reader.NextLine.{NextLine}

-- ---- places

-- the part of the deck between two places
abbrev pub part_at : List ℕ → ℕ → ℕ → Part
part_at deck a e = record { start = a; bytes = between a e deck }

-- bytes by themselves, as a part that begins at 0
abbrev pub whole : List ℕ → Part
whole bs = record { start = 0; bytes = bs }

-- how many bytes stand before the first separator
unfoldable pub reach : ℕ → List ℕ → ℕ
reach separator [] = 0
reach separator (b ∷ bs) = elim (eqb b separator) [ true ↦ 0 | false ↦ suc (reach separator bs) ]

-- r is the first place in [at, end) with a separator, or the end
pub record Next (s : List ℕ) (separator at end r : ℕ) : Type 0 where
  pub past : at ≤ r
  pub within : r ≤ end
  pub is : r ≡ at + reach separator (between at end s)

-- ---- the places of a line's fields

-- the part between two places
abbrev pub span_part : List ℕ → Span → Part
span_part deck s = part_at deck s.start s.end

unfoldable pub fields_of : List ℕ → Fields → List Part
fields_of deck f = take f.count (map (span_part deck) f.spans)

abbrev pub no_bytes : Span
no_bytes = record { start = 0; end = 0 }

-- both places are the deck's, the first not behind the second
abbrev pub Ordered : List ℕ → Span → Type 0
Ordered deck s = (s.start ≤ s.end) × (s.end ≤ length deck)

-- each place is one of the deck
pub record Placed (deck : List ℕ) (f : Fields) : Type 0 where
  pub few : f.count ≤ 8
  pub size : length f.spans ≡ 8
  pub each : (i : ℕ) → i < f.count → Ordered deck (get_or f.spans i no_bytes)

-- r has the places of the part
pub record SpanOf (deck : List ℕ) (p : Part) (r : Span) : Type 0 where
  pub ordered : r.start ≤ r.end
  pub within : r.end ≤ length deck
  pub is : part_at deck r.start r.end ≡ p

-- f has the places of the first 8 fields of the list
pub record Splits (deck : List ℕ) (l : List Part) (f : Fields) : Type 0 where
  pub placed : Placed deck f
  pub is : fields_of deck f ≡ take 8 l

-- ---- fields

unfoldable pub num_is : program_option.Option ℕ → Option ℕ
num_is (Some n) = some n
num_is None = none

unfoldable pub path_is : program_option.Option Path → Option SchemaPath
path_is (Some p) = some (parts_of p)
path_is None = none

-- the path has a part
abbrev pub PathFits : Path → Type 0
PathFits p = 0 < length (parts_of p)

abbrev pub path_fits : program_option.Option Path → Type 0
path_fits (Some p) = PathFits p
path_fits None = Unit {0}

pub record PathReads (r : program_option.Option Path) (o : Option SchemaPath) : Type 0 where
  pub is : path_is r ≡ o
  pub fits : path_fits r

unfoldable pub text_is : program_option.Option StoredText → Option Text
text_is (Some t) = some (stored_is t)
text_is None = none

abbrev pub text_fits : program_option.Option StoredText → Type 0
text_fits (Some t) = StoredFits t
text_fits None = Unit {0}

pub record TextReads (r : program_option.Option StoredText) (o : Option Text) : Type 0 where
  pub is : text_is r ≡ o
  pub fits : text_fits r

-- ---- lines

abbrev pub type_is : TypeCells → TypeRow
type_is c = record { mode = get_or modes c.mode characters; named = c.named; split = c.split }

abbrev pub group_is : GroupCells → Group
group_is c = record { type = c.ty.0; path = parts_of c.path; mode = get_or modes c.mode characters }

abbrev pub row_is : RowCells → SubElement
row_is c =
    record {
      type = c.ty.0;
      path = parts_of c.path;
      name = c.name.0;
      child_type = c.child.0;
      mult = mult_is c.mult;
      mask = c.mask;
    }

abbrev pub file_is : FileCells → File
file_is c = record { file = c.file.0; version = c.version }

unfoldable pub line_is : program_option.Option program.Line → Option Line
line_is (Some (T c)) = some (Line.T c.ty.0 (type_is c))
line_is (Some (G c)) = some (Line.G (group_is c))
line_is (Some (S c)) = some (Line.S (row_is c))
line_is (Some (F c)) = some (Line.F (file_is c))
line_is (Some M) = some Line.M
line_is (Some (B f)) = some (Line.B f.0)
line_is (Some (E c)) = some (Line.E c.depth c.name.0 (set_is c.set))
line_is (Some (C c)) = some (Line.C c.depth (stored_is c.text))
line_is None = none

-- the numbers of a line are those of the rules' cases
abbrev pub line_fits : program_option.Option program.Line → Type 0
line_fits (Some (T c)) = c.mode < 5
line_fits (Some (G c)) = c.mode < 4
line_fits (Some (S c)) = PathFits c.path
line_fits (Some (F c)) = (c.file.0 < file_limit) × (c.version < version_limit)
line_fits (Some M) = Unit {0}
line_fits (Some (B f)) = f.0 < file_limit
line_fits (Some (E c)) = Unit {0}
line_fits (Some (C c)) = StoredFits c.text
line_fits None = Unit {0}

pub record LineReads (r : program_option.Option program.Line) (o : Option Line) : Type 0 where
  pub is : line_is r ≡ o
  pub fits : line_fits r

-- line is the one from the byte at up to its LF, and behind is the byte behind that
pub record LineAt (deck : List ℕ) (at : ℕ) (line : program_option.Option program.Line) (behind : ℕ) : Type 0 where
  pub end : ℕ
  pub next : Next deck 10 at (length deck) end
  pub within : end < length deck
  pub reads : LineReads line (read_line (part_at deck at end))
  pub is : behind ≡ end + 1

-- the line from the byte at ends at an LF, or has none
abbrev pub EndReads : List ℕ → ℕ → program_option.Option ℕ → Type 0
EndReads deck at (Some end) = Next deck 10 at (length deck) end × (end < length deck)
EndReads deck at None = Next deck 10 at (length deck) (length deck)

-- what stands from the byte at on
abbrev pub NextReads : List ℕ → ℕ → program_option.Option NextLine → Type 0
NextReads deck at (Some n) = LineAt deck at n.line n.behind
NextReads deck at None = Next deck 10 at (length deck) (length deck)
