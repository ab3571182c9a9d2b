-- The row of a name in a type: equal types and equal names have one row. Assumes nothing.
use mathlib.Core.Option.{some, some-injective}
use mathlib.Core.Path.{◌≡◌, sym, ap, ◌∙◌}
use Rattle.tables.specs.Records.{Name, TypeNumber, SubElement, Schema}
use Rattle.deck.specs.Schema.{row_of_name}

pub row-equal : (sc : Schema) {t u : TypeNumber} {n m : Name} → t ≡ u → n ≡ m → row_of_name sc t n ≡ row_of_name sc u m
row-equal sc ht hn = λ i. row_of_name sc (ht i) (hn i)

-- equal names below parents of equal types have equal types
pub child-type-equal : (sc : Schema) {t u : TypeNumber} {n m : Name} {r s : SubElement} → t ≡ u → n ≡ m → row_of_name sc t n ≡ some r
    → row_of_name sc u m ≡ some s → r.child_type ≡ s.child_type
child-type-equal sc {r = r} {s = s} ht hn hr hs =
    ap (λ (x : SubElement). x.child_type) (some-injective r s (sym hr ∙ row-equal sc ht hn ∙ hs))
