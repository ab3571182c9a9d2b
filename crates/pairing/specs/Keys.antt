-- What the answers of the searches for keys, children and siblings stand for in the rules. Assumes nothing.
use Rattle.std.specs.Prelude.{Some, None, Bool, true, false, ◌&&◌, List, [], ◌∷◌, ◌≡◌, ℕ, ◌+◌, ◌*◌, ◌%◌, ◌<◌, ◌≤◌, eqb, length, get_or, take, drop}
use Rattle.std.specs.Prelude as program
use Rattle.std.proofs.Math.Option.{Option, none, some}
use Rattle.tables.specs.Lists.{same_list}
use Rattle.tables.specs.Records.{Element, Name, Place, Model, Fixed, name_of}
use Rattle.tables.specs.Texts.{bytes_at, place_of, place_in}
use Rattle.tables.specs.declared.numbers.Element as numbers
use Rattle.tables.specs.declared.text.Place as code
use Rattle.merge_rules.specs.Pairing.{item_name, definition, same_key}
use Rattle.pairing.specs.declared.keys.KeyKind.{KeyKind}
use Rattle.pairing.specs.declared.keys.KeyKind.TheVariants.{ItemName, Definition}

-- ---- keys

-- the code's key: its place in the deck
abbrev pub Key : Type 0
Key = program.Option code.Place

-- the bytes of a key
abbrev pub key_is : List ℕ → Key → Option (List ℕ)
key_is deck (Some p) = some (bytes_at deck (place_of p))
key_is deck None = none

abbrev pub KeyIn : List ℕ → Key → Type 0
KeyIn deck (Some p) = place_in deck p
KeyIn deck None = Unit {0}

-- r is the rule's key, its place in the deck
pub record Keys (deck : List ℕ) (r : Key) (o : Option (List ℕ)) : Type 0 where
  pub is : key_is deck r ≡ o
  pub within : KeyIn deck r

-- the key is the item name
abbrev pub is_name : KeyKind → Bool
is_name ItemName = true
is_name Definition = false

-- the key of an element: its item name, or its definition
abbrev pub key_by : Bool → Fixed → Model → Element → Option (List ℕ)
key_by true = item_name
key_by false = definition

-- ---- marks

-- the mark of bytes behind others of mark h
unfoldable pub mark_of : ℕ → List ℕ → ℕ
mark_of h [] = h
mark_of h (b ∷ bs) = mark_of ((h * 33 + b) % 65536) bs

-- a mark of 16 bits: keys of different marks are different
unfoldable pub key_mark : Option (List ℕ) → ℕ
key_mark none = 0
key_mark (some bs) = mark_of 0 bs

-- the marks of the elements' keys, in order
pub record KeyMarks (key : Element → Option (List ℕ)) (l : List Element) (marks : List ℕ) : Type 0 where
  pub size : length marks ≡ length l
  pub each : (i : ℕ) → i < length l → get_or marks i 0 ≡ key_mark (key (get_or l i 0))

-- the mark stands nowhere from one place up to another
pub record NoMark (marks : List ℕ) (mark from to : ℕ) : Type 0 where
  pub order : from ≤ to
  pub within : to ≤ length marks
  pub none : (i : ℕ) → from ≤ i → i < to → get_or marks i 0 ≡ mark → ⊥

-- ---- children

-- the code's element, if there is one
abbrev pub Child : Type 0
Child = program.Option numbers.Element

abbrev pub child_is : Child → Option Element
child_is (Some e) = some e.0
child_is None = none

abbrev pub ChildIn : ℕ → Child → Type 0
ChildIn n (Some e) = e.0 < n
ChildIn n None = Unit {0}

-- r is the rule's element, one of n
pub record FindsChild (n : ℕ) (r : Child) (o : Option Element) : Type 0 where
  pub is : child_is r ≡ o
  pub within : ChildIn n r

-- ---- siblings

-- the element has this name and this key
abbrev pub has_key : Fixed → (Element → Option (List ℕ)) → Name → Option (List ℕ) → Element → Bool
has_key x key n k b = eqb (name_of x b) n && same_key (key b) k

-- the bytes to compare: those of a key, none of a missing one
abbrev pub span_of : Key → Place
span_of (Some p) = place_of p
span_of None = record { start = 0; size = 0 }

-- where to compare, if the test can pass
abbrev pub Candidate : Type 0
Candidate = program.Option ℕ

-- the test fails, or it asks whether the bytes from s on are those of p
abbrev pub CandidateIs : List ℕ → Place → Bool → Candidate → Type 0
CandidateIs deck p t (Some s) =
    (s + p.size ≤ length deck) × (t ≡ same_list (take p.size (drop s deck)) (take p.size (drop p.start deck)))
CandidateIs deck p t None = t ≡ false

pub record Candidates (deck : List ℕ) (p : Place) (t : Bool) (r : Candidate) : Type 0 where
  pub is : CandidateIs deck p t r
