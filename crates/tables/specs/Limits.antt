-- The limits of document 01, "What each operation refuses": the largest count of each thing and the largest number of each field, each
-- written once. Assumes nothing.
use Rattle.std.specs.Prelude.{ℕ}

-- bytes of a deck
abbrev pub deck_limit : ℕ
deck_limit = 32768

abbrev pub type_limit : ℕ
type_limit = 128

-- S rows
abbrev pub row_limit : ℕ
row_limit = 512

-- G rows
abbrev pub group_limit : ℕ
group_limit = 128

-- parts of a path
abbrev pub path_limit : ℕ
path_limit = 4

-- files are numbered from 0, below this
abbrev pub file_limit : ℕ
file_limit = 64

-- versions are numbered from 0, below this
abbrev pub version_limit : ℕ
version_limit = 32

abbrev pub element_limit : ℕ
element_limit = 1024

-- the largest depth
abbrev pub depth_limit : ℕ
depth_limit = 31

-- content items over all lists
abbrev pub item_limit : ℕ
item_limit = 2048

-- log entries
abbrev pub log_limit : ℕ
log_limit = 1024

-- the largest name
abbrev pub name_limit : ℕ
name_limit = 4095

-- the largest enum number
abbrev pub enum_limit : ℕ
enum_limit = 65535

-- strings are shorter than this
abbrev pub string_limit : ℕ
string_limit = 65536

-- the largest part of a path
abbrev pub part_limit : ℕ
part_limit = 255

-- masks are below this: a bit for each version
abbrev pub mask_limit : ℕ
mask_limit = 4294967296
