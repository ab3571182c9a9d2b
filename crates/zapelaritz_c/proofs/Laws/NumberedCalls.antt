-- Laws of the calls with a lent answer. Assumes nothing.
use mathlib.Core.List.{List}
use mathlib.Core.Path.{◌≡◌, ap, ◌∙◌}
use Prim.Native.Nat.{ℕ}
use lib.ListN.{length}
use Rattle.load.specs.LoadCall.{tables_of, zeros}
use Rattle.merge_rules.specs.TableCalls.{CallAnswer, CallResult}
use Rattle.answer_numbers.specs.Numbers.{answer_size, Numbered, refused_by0}
use Rattle.answer_numbers.proofs.Laws.Numbers.{wrong_size}
use Rattle.zapelaritz_c.specs.NumberedCalls.{LoadLeft, numbered_load, CallLeft}

-- a load with an answer of a wrong size leaves zeros
pub load-zeros : (deck schema elements model log answer : List ℕ) {schema' elements' model' log' answer' : List ℕ} → schema' ≡ zeros schema
    → elements' ≡ zeros elements → model' ≡ zeros model → log' ≡ zeros log → answer' ≡ zeros answer → (length answer ≡ answer_size → ⊥)
    → ◌≡◌ {A = LoadLeft} (record { answer = refused_by0 answer'; tables = tables_of schema' elements' model' log' })
    (numbered_load deck (tables_of schema elements model log) answer)
unfolding numbered_load
load-zeros deck schema elements model log answer s e m l a h =
    (λ i. record { answer = refused_by0 (a i); tables = tables_of (s i) (e i) (m i) (l i) }) ∙ wrong_size answer _ _ h

-- an answer as numbers, with the tables that the call left
pub call-left : {A : Type 0} (numbers : CallAnswer A → Numbered) {r s : CallResult A} {w : Numbered} → w ≡ numbers r.answer → r ≡ s
    → ◌≡◌ {A = CallLeft} (record { answer = w; model = r.model; log = r.log }) (record { answer = numbers s.answer; model = s.model; log = s.log })
call-left {A = A} numbers p e =
    let q = p ∙ ap (λ (r : CallResult A). numbers r.answer) e in
    λ i. record { answer = q i; model = (e i).model; log = (e i).log }
