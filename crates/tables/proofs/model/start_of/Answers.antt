use native.Mathlib.Omega.{arith}
use Rattle.tables.proofs.Laws.ModelTable.{read-start, start-room}
use Rattle.tables.proofs.model.start_of.Goals as goal

pub returns : goal.returns
returns c =
    let r = read-start c.args.model.now c.requires.good_model c.args.e.0 (omega arith) in
    record { is = r; fits = rw r (start-room c.args.model.now c.requires.good_model c.args.e.0 c.requires.e_bound) }
