-- What the deck and the tables that no merge changes stand for in the rules. Assumes nothing.
use Rattle.tables.specs.Records as rules
use Rattle.state_test.specs.StateTest.{fixed_in}
use Rattle.level.specs.declared.lent.Fixed.{Fixed}

abbrev pub fixed_of : Fixed → rules.Fixed
fixed_of x = fixed_in x.deck.now x.schema.now x.elements.now
