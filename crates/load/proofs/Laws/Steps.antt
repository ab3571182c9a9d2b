-- A line's answer with the tables: a refused line leaves the lines so far, a taken one gives what the rules say. Assumes nothing.
use mathlib.Core.List.{List}
use mathlib.Core.Path.{◌≡◌, sym, ap, ◌∙◌, subst}
use Rattle.std.specs.Prelude.{Result, Ok, Err}
use Prim.Native.Nat.{ℕ, ◌≤◌}
use lib.ListN.{length}
use Rattle.tables.specs.ElementsTable.{GoodElements}
use Rattle.tables.specs.ModelTable.{GoodModel}
use Rattle.tables.specs.SchemaTable.{GoodSchema}
use Rattle.deck.specs.Load.{Loading, Res, ok, refused, form}
use Rattle.load.specs.Lines.{open_limit, refusal_number, loading_of, LoadingFits, GoodLoading, step_is, progress_after, StepResult}
use Rattle.load.specs.declared.progress.Progress.{Progress}
use Rattle.load.specs.declared.refusals.Refusal.{Refusal}
use Rattle.load.specs.declared.refusals.Refusal.TheVariants.{Form}

module _ {p : Progress} {schema elements model : List ℕ} {o : Res Loading} where
  pub line_refused : {r : Refusal} → GoodLoading p schema elements model → o ≡ refused (refusal_number r) → StepResult p (Err r) schema elements model o
  unfolding step_is progress_after
  line_refused g e = record { is = sym e; good = g }

  pub late_refused : {r : Refusal} → GoodLoading p schema elements model → r ≡ Form → o ≡ refused form → StepResult p (Err r) schema elements model o
  late_refused g f e = line_refused g (e ∙ ap (λ (x : Refusal). refused (refusal_number x)) (sym f))

  pub line_taken : {q q' : Progress} (l : Loading) → q ≡ q' → loading_of q' schema elements model ≡ l → q'.depth ≤ open_limit
      → length q'.above ≡ open_limit → GoodSchema schema → GoodElements elements → GoodModel model → LoadingFits l → o ≡ ok l
      → StepResult p (Ok q) schema elements model o
  unfolding step_is progress_after
  line_taken {q} {q'} l told is depth room gs ge gm fits e =
      let g : GoodLoading q' schema elements model =
      record { depth = depth; room = room; good_schema = gs; good_elements = ge; good_model = gm; fits = subst LoadingFits (sym is) fits }
      in
      record {
        is = ap (λ (x : Progress). ok (loading_of x schema elements model)) told ∙ ap ok is ∙ sym e;
        good = subst (λ (x : Progress). GoodLoading x schema elements model) (sym told) g;
      }

-- the same, as another rule has it
pub line_as : {p : Progress} {r : Result Progress Refusal} {schema elements model : List ℕ} {o o' : Res Loading} → o ≡ o'
    → StepResult p r schema elements model o' → StepResult p r schema elements model o
line_as {p} {r} {schema} {elements} {model} e h = subst (StepResult p r schema elements model) (sym e) h
