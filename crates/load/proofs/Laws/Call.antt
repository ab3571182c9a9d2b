-- The call of load on lent tables: all tables zero, or the encodings of what was loaded. Assumes nothing.
use mathlib.Core.Bool.{true, false, false≢true, and-eq-true_iff}
use mathlib.Core.List.{List, []}
use Rattle.std.specs.Prelude.{Result, Ok, Err, is_err}
use mathlib.Core.Path.{◌≡◌, refl, sym, ap, ◌∙◌}
use Prim.Native.Nat.{ℕ}
use borrow.Author.Tests.{eqb-true}
use lib.Dec.{eqb}
use lib.ListN.{length, replicate}
use Rattle.tables.specs.ElementsTable.{elements_size}
use Rattle.tables.specs.LogTable.{log_size, encode_log}
use Rattle.tables.specs.ModelTable.{model_size}
use Rattle.tables.specs.SchemaTable.{schema_size}
use Rattle.deck.specs.Load.{Load, loaded, refused_at, load}
use Rattle.load.proofs.Laws.Empty.{zeros-length}
use Rattle.load.specs.LoadCall.{Tables, tables_of, zeros, sizes_fit, Loaded, Refused, load_answer, load_result, load_into, load_call, answer_is, Loads}
use Rattle.load.specs.Lines.{refusal_number}
use Rattle.load.specs.declared.refusals.LoadError.{LoadError}
use Rattle.load.specs.declared.refusals.Refusal.TheVariants.{WrongSize}

-- ---- sizes

pub record Fit (t : Tables) : Type 0 where
  pub schema_fits : length t.schema ≡ schema_size
  pub elements_fits : length t.elements ≡ elements_size
  pub model_fits : length t.model ≡ model_size
  pub log_fits : length t.log ≡ log_size

pub all_fit : (t : Tables) → sizes_fit t ≡ true → Fit t
unfolding sizes_fit
all_fit t h =
    let (sem, l) = (and-eq-true_iff _ (eqb (length t.log) log_size)).0 h in
    let (se, m) = (and-eq-true_iff _ (eqb (length t.model) model_size)).0 sem in
    let (s, e) = (and-eq-true_iff (eqb (length t.schema) schema_size) (eqb (length t.elements) elements_size)).0 se in
    record {
      schema_fits = eqb-true (length t.schema) schema_size s;
      elements_fits = eqb-true (length t.elements) elements_size e;
      model_fits = eqb-true (length t.model) model_size m;
      log_fits = eqb-true (length t.log) log_size l;
    }

-- ---- into empty tables

zeros-as : (xs ys : List ℕ) → length xs ≡ length ys → zeros xs ≡ zeros ys
zeros-as xs ys e = ap (λ (n : ℕ). replicate n 0) e

module _ (deck schema elements model schema₀ elements₀ model₀ log : List ℕ) where
  pub into-refused : (r : Result (Unit {0}) LoadError) → Loads r deck schema elements model (load deck) → is_err r ≡ true
      → length schema ≡ length schema₀ → length elements ≡ length elements₀ → length model ≡ length model₀
      → (schema' elements' model' : List ℕ) → schema' ≡ zeros schema → elements' ≡ zeros elements → model' ≡ zeros model → log ≡ zeros log
      → load_result (load_answer r) schema' elements' model' log ≡ load_into (tables_of schema₀ elements₀ model₀ log) (load deck)
  unfolding load_into load_answer answer_is
  into-refused (Ok u) h b ls le lm schema' elements' model' zs ze zm zl = absurd (false≢true b)
  into-refused (Err x) h b ls le lm schema' elements' model' zs ze zm zl =
      let a : schema' ≡ zeros schema₀ = zs ∙ zeros-as schema schema₀ ls in
      let b : elements' ≡ zeros elements₀ = ze ∙ zeros-as elements elements₀ le in
      let d : model' ≡ zeros model₀ = zm ∙ zeros-as model model₀ lm in
      rw (← h.is) (λ i. load_result (Refused (refusal_number x.refusal) x.line) (a i) (b i) (d i) (zl i))

  pub into-loaded : (r : Result (Unit {0}) LoadError) → Loads r deck schema elements model (load deck) → is_err r ≡ false → log ≡ encode_log []
      → load_result (load_answer r) schema elements model log ≡ load_into (tables_of schema₀ elements₀ model₀ log) (load deck)
  unfolding load_into load_answer answer_is
  into-loaded (Ok u) h b l =
      rw (← h.is)
      (λ i. load_result Loaded (h.good_schema.raw i) (h.good_elements.raw i) (h.good_model.raw i) (l i))
  into-loaded (Err x) h b l = absurd (false≢true (sym b))

-- ---- the call

module _ (deck schema elements model log schema' elements' model' log' : List ℕ) (zs : schema' ≡ zeros schema) (ze : elements' ≡ zeros elements) (zm : model' ≡ zeros model) (zl : log' ≡ zeros log) where
  pub call-misfit : sizes_fit (tables_of schema elements model log) ≡ false
      → load_result (load_answer (Err (record { refusal = WrongSize; line = 0 }))) schema' elements' model' log' ≡ load_call deck (tables_of schema elements model log)
  unfolding load_call load_answer
  call-misfit h = rw (h, load_call) (λ i. load_result (Refused 0 0) (zs i) (ze i) (zm i) (zl i))

  into-same : (o : Load) → load_into (tables_of schema' elements' model' log') o ≡ load_into (tables_of schema elements model log) o
  unfolding load_into
  into-same (loaded x s) = refl
  into-same (refused_at n line) =
      λ i.
      load_result (Refused n line) (zeros-as schema' schema (zeros-length schema schema' zs) i)
      (zeros-as elements' elements (zeros-length elements elements' ze) i) (zeros-as model' model (zeros-length model model' zm) i)
      (zeros-as log' log (zeros-length log log' zl) i)

  pub call_fits : sizes_fit (tables_of schema elements model log) ≡ true
      → load_into (tables_of schema' elements' model' log') (load deck) ≡ load_call deck (tables_of schema elements model log)
  unfolding load_call
  call_fits h = rw (h, load_call) (into-same (load deck))
