-- What the tables hold that the pairing of a level reads. Assumes nothing.
use Rattle.std.specs.Prelude.{ℕ, length}
use Rattle.tables.specs.Records.{Model, Fixed}
use Rattle.tables.specs.ElementsTable.{elements_of}
use Rattle.tables.specs.ModelTable.{model_of}
use Rattle.state_test.specs.StateTest.{fixed_in}
use Rattle.pairing.specs.declared.lent.Tables.{Tables}

abbrev pub fixed_of : Tables → Fixed
fixed_of x = fixed_in x.deck.now x.schema.now x.elements.now

abbrev pub model_in : Tables → Model
model_in x = model_of x.model.now

abbrev pub element_count : Tables → ℕ
element_count x = length (elements_of x.elements.now).names
