use Rattle.deck.proofs.Laws.PathFields.{PathReading}
use Rattle.deck.proofs.fields.path_field.Given as goal

abbrev pub invariant-loop-n : goal.invariant-loop-n
invariant-loop-n l = PathReading l.deck l.start l.end l.most l.p l.n l.at
