-- What the fields of a refusal in the code stand for in the rules. Assumes nothing.
use Rattle.std.proofs.Math.Option.{Option, none, some}
use Rattle.std.specs.Prelude.{Option as Given, Some, None, ℕ}
use Rattle.merge_rules.specs.Refusals.{RefusalFields}
use Rattle.merge_log.specs.declared.refusals.RefusalFields as program

abbrev pub optional_is : Given ℕ → Option ℕ
optional_is None = none
optional_is (Some n) = some n

abbrev pub refusal_fields_is : program.RefusalFields → RefusalFields
refusal_fields_is f = record { number = f.number; element = optional_is f.element; name = optional_is f.name }
