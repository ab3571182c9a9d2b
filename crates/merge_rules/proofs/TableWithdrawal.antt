-- Demand 3, of the calls on lent tables. Assumes nothing.
use mathlib.Core.List.{List}
use mathlib.Core.Path.{◌≡◌}
use Prim.Native.Nat.{ℕ}
use Rattle.tables.specs.Records.{Fixed, State}
use Rattle.deck.specs.Load.{loaded, load}
use Rattle.merge_rules.specs.Standing.{StaysHolding}
use Rattle.merge_rules.specs.TableWithdrawal.{TablesWithdrawnFrom, Demand3OnTables}
use Rattle.merge_rules.specs.Withdrawal.{state_after}
use Rattle.merge_rules.proofs.Laws.Loaded.{load-sound}
use Rattle.merge_rules.proofs.Laws.TableCalls.{sound-holds, loaded-tables, withdrawn-on}
use Rattle.merge_rules.proofs.Withdrawal.{demand3, stays-sound}

-- after a load, the tables of every state that calls reach pass and hold it
pub stays-holding : (deck : List ℕ) (x : Fixed) (s : State) → load deck ≡ loaded x s → StaysHolding deck x s
stays-holding deck x s h =
    record { after = λ cs. sound-holds deck x (state_after x cs s) (load-sound deck x s h).fixed (stays-sound deck x s h cs) }

-- a rollback to a mark leaves all lent tables as they were at the mark
pub demand3-on-tables : Demand3OnTables
demand3-on-tables deck t =
    loaded-tables deck t (TablesWithdrawnFrom deck) (λ x s h. withdrawn-on (stays-holding deck x s h) (demand3 deck x s h))
