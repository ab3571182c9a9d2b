-- Demand 3, of the rules, and that every call of a list meets a sound state. Assumes nothing.
use Rattle.merge_rules.specs.Sound.{StaysSound}
use Rattle.merge_rules.specs.Withdrawal.{Demand3}
use Rattle.merge_rules.proofs.Laws.Invariant.{Inv}
use Rattle.merge_rules.proofs.Laws.Loaded.{load-inv}
use Rattle.merge_rules.proofs.Laws.Merges.{merge-inv}
use Rattle.merge_rules.proofs.Laws.Withdrawal.{reached, withdrawn-from}

-- a rollback to a mark undoes every call since
pub demand3 : Demand3
demand3 deck x s h = let l = load-inv deck x s h in withdrawn-from x (Inv x) (merge-inv x) s l.1 l.0

-- every call meets a sound state
pub stays-sound : StaysSound
stays-sound deck x s h cs =
    let l = load-inv deck x s h in
    (reached x (Inv x) (merge-inv x) s l.1 l.0 cs).sound
