-- Laws of lines whose fields are written in turn, each with the comma or LF behind it. Assumes nothing.
use mathlib.Core.List.{List, [], ◌∷◌, ◌++◌, append_assoc}
use mathlib.Core.Path.{◌≡◌, refl, ap}
use Prim.Native.Nat.{ℕ}
use Rattle.tables.specs.Bytes.{bytes}
use Rattle.merge_rules.specs.Program.{decimal_of, or_dash, line_of, answer_line, program_rules}
use Rattle.merge_rules.specs.Refusals.{Refusal, RefusalFields, refusal_fields}
use Rattle.merge_rules.specs.CallLists.{rollback_line, range_line}
use Rattle.output.specs.Answers.{refusal_text, error_text, error_number, merge_text, rollback_text, range_text}
use Rattle.merge_log.specs.Refusals.{optional_is, refusal_fields_is}
use Rattle.merge_log.specs.declared.refusals.RefusalFields as program
use Rattle.std.specs.Prelude.{Err}
use Rattle.merge.specs.declared.calls.CallError.{CallError}
use Rattle.merge.specs.declared.calls.CallError.TheVariants.{BadTables, Refused}
use Rattle.merge.specs.Calls.{merge_answer_is, rollback_answer_is, range_answer_is}

pub refusal-text : (f : program.RefusalFields) (r : Refusal) → refusal_fields_is f ≡ refusal_fields r
    → line_of (decimal_of f.number ∷ or_dash (optional_is f.element) ∷ or_dash (optional_is f.name) ∷ []) ≡ refusal_text r
unfolding refusal_text
refusal-text f r e = ap (λ (g : RefusalFields). line_of (decimal_of g.number ∷ or_dash g.element ∷ or_dash g.name ∷ [])) e

-- as for a refusal without element and name
pub zero-fields : bytes "0,-,-\n" ≡ line_of (bytes "0" ∷ bytes "-" ∷ bytes "-" ∷ [])
unfolding line_of bytes
zero-fields = refl

-- the fields behind those already written are f, and then fs
module _ (word f : List ℕ) (fs : List (List ℕ)) where
  pub behind-word : word ++ bytes "," ++ line_of (f ∷ fs) ≡ line_of (word ∷ f ∷ fs)
  unfolding line_of
  behind-word = refl

  pub behind-head : (n : ℕ) → (word ++ bytes "," ++ (decimal_of n ++ bytes ",")) ++ line_of (f ∷ fs) ≡ line_of (word ∷ decimal_of n ∷ f ∷ fs)
  unfolding line_of
  behind-head n = append_assoc (word ++ bytes ",") (decimal_of n ++ bytes ",") (line_of (f ∷ fs))

  pub behind-asked : (e n v : ℕ)
      → ((word ++ bytes "," ++ (decimal_of e ++ bytes ",")) ++ ((decimal_of n ++ bytes ",") ++ (decimal_of v ++ bytes ","))) ++ line_of (f ∷ fs)
      ≡ line_of (word ∷ decimal_of e ∷ decimal_of n ∷ decimal_of v ∷ f ∷ fs)
  unfolding line_of
  behind-asked e n v = simp append_assoc

-- why a call is not done, behind what was asked

pub merge-error : (f : ℕ) (e : CallError)
    → (bytes "refused" ++ bytes "," ++ (decimal_of f ++ bytes ",")) ++ error_text e ≡ merge_text f (merge_answer_is (Err e))
unfolding merge_text answer_line refusal_text
merge-error f BadTables = behind-head _ _ _ f
merge-error f (Refused r) = behind-head _ _ _ f

pub range-error : (e n v : ℕ) (error : CallError)
    → ((bytes "range-refused" ++ bytes "," ++ (decimal_of e ++ bytes ",")) ++ ((decimal_of n ++ bytes ",") ++ (decimal_of v ++ bytes ","))) ++ error_text error
    ≡ range_text e n v (range_answer_is (Err error))
unfolding range_text range_line refusal_text
range-error e n v BadTables = behind-asked _ _ _ e n v
range-error e n v (Refused r) = behind-asked _ _ _ e n v

pub rollback-error : (mark : ℕ) (e : CallError)
    → line_of (bytes "rollback-refused" ∷ decimal_of mark ∷ decimal_of (error_number e) ∷ []) ≡ rollback_text mark (rollback_answer_is (Err e))
unfolding rollback_text rollback_line program_rules bytes
rollback-error mark BadTables = refl
rollback-error mark (Refused r) = refl
