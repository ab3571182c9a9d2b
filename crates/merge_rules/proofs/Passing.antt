-- What a load accepts, and every state that calls reach from it, passes the whole of refusal 0. Assumes nothing.
use mathlib.Core.List.{[]}
use Rattle.merge_rules.specs.Sound.{TablesPass, LoadPasses, LoadCallPasses, StaysPassing}
use Rattle.merge_rules.specs.Withdrawal.{state_after}
use Rattle.merge_rules.proofs.Laws.Loaded.{load-sound}
use Rattle.merge_rules.proofs.Laws.Passing.{sound-passes}
use Rattle.merge_rules.proofs.Laws.TableCalls.{loaded-tables}
use Rattle.merge_rules.proofs.Withdrawal.{stays-sound}

-- every state that calls reach passes
pub stays-passing : StaysPassing
stays-passing deck x s h cs = sound-passes deck x (state_after x cs s) (load-sound deck x s h).fixed (stays-sound deck x s h cs)

-- so does what the load left
pub load-passes : LoadPasses
unfolding state_after
load-passes deck x s h = stays-passing deck x s h []

-- and the tables that hold it
pub load-call-passes : LoadCallPasses
load-call-passes deck t = loaded-tables deck t (TablesPass deck) (λ x s h. load-passes deck x s h)
