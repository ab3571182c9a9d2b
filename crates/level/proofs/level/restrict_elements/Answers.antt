use mathlib.Core.Path.{◌≡◌, sym, ◌∙◌}
use borrow.Author.Rules.{rules}
use Rattle.imports.proofs.Laws.Imports.{not-done}
use Rattle.level.proofs.Laws.Restrictions.{restricts-end, restricts-skip, restricts-stop, restricts-more, mate-some, mate-none}
use Rattle.level.proofs.level.restrict_elements.Goals as goal

pub loop-i-preserved-then-is_some : goal.loop-i-preserved-then-is_some
loop-i-preserved-then-is_some c =
    restricts-skip c.loop-i.invariant c.loop-i-test.true (mate-some c.mate.result c.mate.ensures.paired (sym c.is_some.ensures ∙ c.if-is_some.true))

pub loop-i-preserved : goal.loop-i-preserved
loop-i-preserved c =
    restricts-more c.loop-i.invariant c.loop-i-test.true (mate-none c.mate.result c.mate.ensures.alone (sym c.is_some.ensures ∙ c.if-is_some.false)) c.restrict_new.new.model c.restrict_new.new.log c.restrict_new.result c.restrict_new.ensures.log_after c.in_ok-restrict_new.was c.restrict_new.ensures.keeps_state

pub returns-in_err-restrict_new : goal.returns-in_err-restrict_new
returns-in_err-restrict_new c =
    let same : c.from_residual.result ≡ c.restrict_new.result = search rules in record {
      log_after = rw same (restricts-stop c.loop-i.invariant c.loop-i-test.true (mate-none c.mate.result c.mate.ensures.alone (sym c.is_some.ensures ∙ c.if-is_some.false)) c.restrict_new.new.model c.restrict_new.new.log c.restrict_new.result c.restrict_new.ensures.log_after (not-done c.in_err-restrict_new.was));
      keeps_state = λ n texts q. c.restrict_new.ensures.keeps_state n texts (c.loop-i.invariant.keeps n texts q);
    }

pub returns-clause-log_after : goal.returns-clause-log_after
returns-clause-log_after c =
    restricts-end c.loop-i.invariant c.loop-i-test.false
