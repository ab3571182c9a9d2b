use borrow.Author.Tests.{not-true, not-false}
use Rattle.load.proofs.Laws.Reading.{not_seen, root-due, all_seen}
use Rattle.load.proofs.load.finish.Goals as goal
use Rattle.load.proofs.load.finish.Goals.{then-not-p-via-then-not-p, then-not-p-via-else-not-p+then-p}

pub returns-then-not-p : goal.returns-then-not-p
returns-then-not-p c deck schema elements model =
    elim c.then-not-p.branch [
      | then-not-p-via-then-not-p w ↦ not_seen deck schema elements model c.args.p c.args.n (not-true _ w.if-not-p.true)
      | then-not-p-via-else-not-p+then-p w ↦
          root-due deck schema elements model c.args.p c.args.n (not-false _ w.if-not-p.false) w.if-p.true
    ]

pub returns : goal.returns
returns c deck schema elements model =
    all_seen deck schema elements model c.args.p c.args.n (not-false _ c.if-not-p.false) c.if-p.false
