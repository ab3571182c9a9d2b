use mathlib.Core.Bool.{true}
use mathlib.Core.Path.{◌≡◌, sym, ◌∙◌}
use Rattle.tables.specs.Paths.{shares_part}
use Rattle.tables.proofs.Laws.Paths.{shared-none, shared-one, shared-two, shared-three}
use Rattle.tables.proofs.path.Path.shared.Goals as goal

pub returns-then-not-shares : goal.returns-then-not-shares
returns-then-not-shares c =
    shared-none c.args.self c.args.q (sym c.shares.ensures ∙ c.if-not-shares.true)

pub returns-then-not-shares-2 : goal.returns-then-not-shares-2
returns-then-not-shares-2 c = let one_0 : shares_part c.args.self.0 c.args.self.1 c.args.q.0 c.args.q.1 ≡ true = sym c.shares.ensures ∙ c.if-not-shares.false in
    shared-one c.args.self c.args.q one_0 (sym c.shares-2.ensures ∙ c.if-not-shares-2.true)

pub returns-then-not-shares-3 : goal.returns-then-not-shares-3
returns-then-not-shares-3 c = let two_0 : shares_part c.args.self.1 c.args.self.2 c.args.q.1 c.args.q.2 ≡ true = sym c.shares-2.ensures ∙ c.if-not-shares-2.false in let one_0 : shares_part c.args.self.0 c.args.self.1 c.args.q.0 c.args.q.1 ≡ true = sym c.shares.ensures ∙ c.if-not-shares.false in
    shared-two c.args.self c.args.q one_0 two_0 (sym c.shares-3.ensures ∙ c.if-not-shares-3.true)

pub returns : goal.returns
returns c = let two_0 : shares_part c.args.self.1 c.args.self.2 c.args.q.1 c.args.q.2 ≡ true = sym c.shares-2.ensures ∙ c.if-not-shares-2.false in let one_0 : shares_part c.args.self.0 c.args.self.1 c.args.q.0 c.args.q.1 ≡ true = sym c.shares.ensures ∙ c.if-not-shares.false in
    shared-three c.args.self c.args.q one_0 two_0 (sym c.shares-3.ensures ∙ c.if-not-shares-3.false)
