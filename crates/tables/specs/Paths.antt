-- Paths of document 01, "Deck and schema": their order, and which begins which. Assumes nothing.
use Rattle.std.specs.Prelude.{Bool, true, false, not, ◌&&◌, List, [], ◌∷◌, eqb}
use Prim.Native.Nat.{ℕ, zero, suc, compare, Ordering}
use Rattle.std.specs.declared.cmp.Ordering as program
use Rattle.std.specs.declared.cmp.Ordering.TheVariants.{Less, Equal, Greater}
use Rattle.tables.specs.declared.path.Path.{Path}
use Rattle.tables.specs.Records.{SchemaPath}

-- the path equals or begins the other
unfoldable pub begins : SchemaPath → SchemaPath → Bool
begins [] q = true
begins (a ∷ p) [] = false
begins (a ∷ p) (b ∷ q) = elim (eqb a b) [ true ↦ begins p q | false ↦ false ]

-- the path order (part by part); a beginning comes before what it begins
unfoldable pub path_order : SchemaPath → SchemaPath → Ordering
path_order [] [] = Ordering.eq
path_order [] (b ∷ q) = Ordering.lt
path_order (a ∷ p) [] = Ordering.gt
path_order (a ∷ p) (b ∷ q) = elim (compare a b) [ Ordering.lt ↦ Ordering.lt | Ordering.eq ↦ path_order p q | Ordering.gt ↦ Ordering.gt ]

unfoldable pub same_path : SchemaPath → SchemaPath → Bool
same_path p q = elim (path_order p q) [ Ordering.lt ↦ false | Ordering.eq ↦ true | Ordering.gt ↦ false ]

-- the beginning that both paths share
unfoldable pub shared_beginning : SchemaPath → SchemaPath → SchemaPath
shared_beginning [] q = []
shared_beginning (a ∷ p) [] = []
shared_beginning (a ∷ p) (b ∷ q) = elim (eqb a b) [ true ↦ a ∷ shared_beginning p q | false ↦ [] ]

-- ---- as the code holds them

-- the parts that cells hold, each as part + 1, up to the first 0
unfoldable pub front : List ℕ → SchemaPath
front [] = []
front (zero ∷ cs) = []
front (suc a ∷ cs) = a ∷ front cs

-- the cells of a path, zeros behind its last part up to the room
unfoldable pub path_cells : ℕ → SchemaPath → List ℕ
path_cells zero p = []
path_cells (suc n) [] = 0 ∷ path_cells n []
path_cells (suc n) (a ∷ p) = suc a ∷ path_cells n p

abbrev pub cells_of : Path → List ℕ
cells_of p = p.0 ∷ p.1 ∷ p.2 ∷ p.3 ∷ []

abbrev pub parts_of : Path → SchemaPath
parts_of p = front (cells_of p)

unfoldable pub order_of : Ordering → program.Ordering
order_of Ordering.lt = Less
order_of Ordering.eq = Equal
order_of Ordering.gt = Greater

-- two paths share a part, and each has one behind it
unfoldable pub shares_part : ℕ → ℕ → ℕ → ℕ → Bool
shares_part x xn y yn = not (eqb x 0) && not (eqb xn 0) && not (eqb yn 0) && eqb x y
