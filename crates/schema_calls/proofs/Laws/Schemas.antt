-- Laws of what is above a row of a schema. Assumes nothing.
use mathlib.Core.Path.{◌≡◌, ap, ◌∙◌}
use Prim.Native.Nat.{ℕ}
use mathlib.Core.List.{List}
use lib.ListN.{length}
use lib.Seq.{take-length}
use Rattle.tables.specs.Records.{Group, SubElement, Schema}
use Rattle.schema_calls.specs.Calls.{groups_above, rows_above}

-- all groups are above the end
pub groups_above-all : (sc : Schema) → groups_above sc (length sc.groups) ≡ sc
unfolding groups_above
groups_above-all sc =
    ap (λ (gs : List Group). record { types = sc.types; groups = gs; sub_elements = sc.sub_elements; files = sc.files }) (take-length sc.groups)

-- and all S rows
pub rows_above-all : (sc : Schema) → rows_above sc (length sc.sub_elements) ≡ sc
unfolding rows_above
rows_above-all sc =
    ap (λ (rs : List SubElement). record { types = sc.types; groups = sc.groups; sub_elements = rs; files = sc.files }) (take-length sc.sub_elements)

-- the same at a number as it is read
pub groups-all : (sc : Schema) (n : ℕ) → n ≡ length sc.groups → groups_above sc n ≡ sc
groups-all sc n e = ap (groups_above sc) e ∙ groups_above-all sc

pub rows_all : (sc : Schema) (n : ℕ) → n ≡ length sc.sub_elements → rows_above sc n ≡ sc
rows_all sc n e = ap (rows_above sc) e ∙ rows_above-all sc
