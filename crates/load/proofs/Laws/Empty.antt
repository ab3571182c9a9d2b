-- Tables of zeros hold nothing. Assumes nothing.
use mathlib.Core.List.{List, [], ◌∷◌, ◌++◌}
use mathlib.Core.Path.{◌≡◌, refl, sym, ap, ◌∙◌}
use Prim.Native.Nat.{ℕ, suc, ◌+◌, ◌*◌}
use native.Mathlib.Nat.{sub-zero}
use native.Mathlib.Omega.{arith}
use lib.ListN.{length, replicate, length-replicate, replicate-append-replicate}
use Rattle.tables.specs.Cells.{padded, row_cells, cells}
use Rattle.tables.specs.ElementsTable.{elements_size, elements_area, texts_area, trees_area, element_rows, encode_elements, HoldsElements}
use Rattle.tables.specs.Index.{index_size, index_cells, empty_index}
use Rattle.tables.specs.Limits.{log_limit}
use Rattle.tables.specs.LogTable.{log_size, entry_width, encode_log}
use Rattle.tables.specs.ModelTable.{model_size, HoldsModel}
use Rattle.tables.specs.SchemaTable.{schema_size, types_area, groups_area, rows_area, files_area, encode_schema, HoldsSchema}
use Rattle.tables.proofs.Laws.ElementsTable.{hold-elements}
use Rattle.tables.proofs.Laws.ModelTable.{hold-empty}
use Rattle.tables.proofs.Laws.SchemaTable.{hold-schema}
use Rattle.deck.specs.Load.{nothing}
use Rattle.load.specs.LoadCall.{zeros}

empty-index : empty_index ≡ replicate index_size 0
unfolding empty_index
empty-index = refl

-- the areas of the schema's table: four of rows, three indexes z of e cells
schema-areas : (a b c d e : ℕ) (z : List ℕ) → z ≡ replicate e 0
    → replicate (suc (suc (suc (suc (a + (b + (c + (d + (e + (e + e)))))))))) 0
    ≡ 0 ∷ 0 ∷ 0 ∷ 0 ∷ (padded a [] ++ (padded b [] ++ (padded c [] ++ (padded d [] ++ (z ++ (z ++ z))))))
unfolding padded
schema-areas a b c d e z h =
    rw (
      sub-zero a,
      sub-zero b,
      sub-zero c,
      sub-zero d,
      h,
      ← replicate-append-replicate {A = ℕ} a (b + (c + (d + (e + (e + e))))) 0,
      ← replicate-append-replicate {A = ℕ} b (c + (d + (e + (e + e)))) 0,
      ← replicate-append-replicate {A = ℕ} c (d + (e + (e + e))) 0,
      ← replicate-append-replicate {A = ℕ} d (e + (e + e)) 0,
      ← replicate-append-replicate {A = ℕ} e (e + e) 0,
      ← replicate-append-replicate {A = ℕ} e e 0,
    )

three-areas : (a b c : ℕ) → replicate (suc (suc (suc (a + (b + c))))) 0 ≡ 0 ∷ 0 ∷ 0 ∷ (padded a [] ++ (padded b [] ++ padded c []))
unfolding padded
three-areas a b c =
    rw (sub-zero a, sub-zero b, sub-zero c, ← replicate-append-replicate {A = ℕ} a (b + c) 0, ← replicate-append-replicate {A = ℕ} b c 0)

one-area : (a : ℕ) → replicate (suc a) 0 ≡ 0 ∷ padded a []
unfolding padded
one-area a = rw (sub-zero a)

-- a table ys of the length of xs, all zeros
module _ (xs ys : List ℕ) (e : ys ≡ zeros xs) where
  pub zeros-length : length ys ≡ length xs
  zeros-length = ap length e ∙ length-replicate (length xs) 0

  pub zeros-themselves : ys ≡ zeros ys
  zeros-themselves = e ∙ ap (λ (n : ℕ). replicate n 0) (sym zeros-length)

  pub empty-schema : length xs ≡ schema_size → HoldsSchema ys nothing.schema
  unfolding encode_schema cells row_cells index_cells
  empty-schema l =
      hold-schema nothing.schema ys
      (e ∙ ap (λ (n : ℕ). replicate n 0) l ∙ schema-areas types_area groups_area rows_area files_area index_size empty_index empty-index)
      (record { type_count = omega arith; group_count = omega arith; row_count = omega arith; file_count = omega arith; group_paths = tt; row_paths = tt })

  pub empty-elements : length xs ≡ elements_size → HoldsElements ys nothing.elements
  unfolding encode_elements element_rows cells row_cells
  empty-elements l =
      hold-elements nothing.elements ys (e ∙ ap (λ (n : ℕ). replicate n 0) l ∙ three-areas elements_area texts_area trees_area)
      (record { same_types = refl; same_depths = refl; count = omega arith; text_count = omega arith; tree_count = omega arith; strings = tt })

  pub empty-model : length xs ≡ model_size → HoldsModel ys nothing.model
  empty-model l = hold-empty ys (zeros-length ∙ l) zeros-themselves

  pub empty-log : length xs ≡ log_size → ys ≡ encode_log []
  unfolding encode_log cells row_cells
  empty-log l = e ∙ ap (λ (n : ℕ). replicate n 0) l ∙ one-area (log_limit * entry_width)
