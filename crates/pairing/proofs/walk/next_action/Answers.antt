use mathlib.Core.Path.{refl, sym}
use Rattle.pairing.specs.Walks.{second_children}
use Rattle.pairing.proofs.Laws.Actions.{decided, sought}
use Rattle.pairing.proofs.Laws.Steps.{next-at, next_past}
use Rattle.pairing.proofs.walk.next_action.Goals as goal

pub returns-then-s-at : goal.returns-then-s-at
returns-then-s-at c = record { acts = record { is = sym (next_past c.args.s c.args.work.now c.args.c.a c.args.c.b c.args.c.new c.requires.work_room _ c.if-s-at.true); within = tt }; marked_if_2 = c.requires.marked_if; work_unchanged = refl }

pub returns-in-Some : goal.returns-in-Some
returns-in-Some c = record { acts = rw (next-at c.args.s c.args.work.now c.args.c.a c.args.c.b c.args.c.new c.requires.work_room _ c.requires.a_lt_rows c.if-s-at.false) (decided c.cursor_action-decision.ensures c.in-Some.is c.args.splittable (second_children c.args.s c.args.work.now)); marked_if_2 = c.requires.marked_if; work_unchanged = refl }

pub returns-in-None : goal.returns-in-None
returns-in-None c = record { acts = rw (next-at c.args.s c.args.work.now c.args.c.a c.args.c.b c.args.c.new c.requires.work_room _ c.requires.a_lt_rows c.if-s-at.false) (c.search_children-act.ensures.searches _ _ (sought c.cursor_action-decision.ensures c.in-None.is)); marked_if_2 = (λ e. c.search_children-act.ensures.marked); work_unchanged = c.search_children-act.ensures.work_unchanged }
