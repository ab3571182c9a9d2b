use mathlib.Core.Path.{ap, sym, ◌∙◌}
use lib.ListN.{length}
use Rattle.merge.proofs.Laws.Calls.{merged-from}
use Rattle.merge.proofs.calls.merge_waiting.Goals as goal

pub conclude-requires : goal.conclude-requires
conclude-requires c =
    let fits = c.merge_tree-r.ensures.keeps_state _ _ c.requires.state_over in record { good_log = fits.log_fits.good; old_model_len = ap length c.copy.ensures ∙ c.requires.state_over.model_fits.good.size ∙ sym fits.model_fits.good.size; old_log_len = ap length c.copy-2.ensures ∙ c.requires.state_over.log_fits.good.size ∙ sym fits.log_fits.good.size }

pub returns : goal.returns
returns c =
    merged-from c.requires.state_over (c.merge_tree-r.ensures.keeps_state _ _ c.requires.state_over) c.log_length-mark.ensures c.copy.ensures c.copy-2.ensures c.merge_tree-r.result c.merge_tree-r.ensures.log_after c.conclude.ensures
