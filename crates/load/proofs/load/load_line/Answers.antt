use mathlib.Core.Path.{ap, ◌∙◌}
use Rattle.std.specs.Prelude.{Some}
use Rattle.load.proofs.Laws.Dispatch.{result-t, result-g, result-s, result_f, result-m, result-b, result-e, result-c, result-bad}
use Rattle.load.proofs.Laws.Steps.{line_refused, line_as}
use Rattle.load.proofs.load.load_line.Goals as goal

pub returns-in-T : goal.returns-in-T
returns-in-T c =
    line_as (result-t _ _ _ (c.in-Some.is ∙ ap Some c.in-T.is)) (c.load_t.ensures _ _ c.requires.good_loading)

pub returns-in-G : goal.returns-in-G
returns-in-G c =
    line_as (result-g _ _ _ (c.in-Some.is ∙ ap Some c.in-G.is)) (c.load_g.ensures _ _ c.requires.good_loading)

pub returns-in-S : goal.returns-in-S
returns-in-S c =
    line_as (result-s _ _ _ (c.in-Some.is ∙ ap Some c.in-S.is)) (c.load_s.ensures _ _ c.requires.good_loading)

pub returns-in-F : goal.returns-in-F
returns-in-F c =
    line_as (result_f _ _ _ (c.in-Some.is ∙ ap Some c.in-F.is)) (c.load_f.ensures _ _ c.requires.good_loading)

pub returns-in-M : goal.returns-in-M
returns-in-M c =
    line_as (result-m _ _ (c.in-Some.is ∙ ap Some c.in-M.is)) (c.load_m.ensures _ _ _ c.requires.good_loading)

pub returns-in-B : goal.returns-in-B
returns-in-B c = line_as (result-b _ _ _ (c.in-Some.is ∙ ap Some c.in-B.is)) c.load_b.ensures

pub returns-in-E : goal.returns-in-E
returns-in-E c = line_as (result-e _ _ _ (c.in-Some.is ∙ ap Some c.in-E.is)) c.load_e.ensures

pub returns-in-C : goal.returns-in-C
returns-in-C c = line_as (result-c _ _ _ (c.in-Some.is ∙ ap Some c.in-C.is)) c.load_c.ensures

pub returns-in_default : goal.returns-in_default
returns-in_default c =
    line_refused c.requires.good_loading (result-bad _ _ c.in_default.is)
