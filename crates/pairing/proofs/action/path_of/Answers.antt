use Rattle.tables.specs.Paths.{front}
use Rattle.state_test.specs.StateTest.{fixed_in}
use Rattle.pairing.proofs.Laws.Actions.{path-found, path-missing}
use Rattle.pairing.proofs.action.path_of.Goals as goal

pub returns-in-Some : goal.returns-in-Some
returns-in-Some c =
    λ deck elements. path-found (fixed_in deck c.args.schema.now elements) c.args.t.0 c.args.n.0 c.row_of_name-row.ensures c.in-Some.is c.row_path.ensures

pub returns-in-None : goal.returns-in-None
unfolding front
returns-in-None c =
    λ deck elements. path-missing (fixed_in deck c.args.schema.now elements) c.args.t.0 c.args.n.0 c.row_of_name-row.ensures c.in-None.is
