-- After a load each element is reached at most once, and a merge visits no more pairs than the deck has elements. Assumes nothing.
use mathlib.Core.List.{List}
use mathlib.Core.Path.{◌≡◌, refl}
use Prim.Native.Nat.{ℕ}
use Rattle.tables.specs.Bytes.{bytes}
use Rattle.tables.specs.ModelTable.{flat}
use Rattle.tables.specs.Records.{Fixed, State}
use Rattle.deck.specs.Load.{load, loaded}
use Rattle.load.specs.LoadCall.{Tables}
use Rattle.merge_rules.specs.Book.{Call}
use Rattle.merge_rules.specs.Pairing.{children, children_of}
use Rattle.merge_rules.specs.Reached.{reached_from, ReachedOnce, MergesVisitFew, FewVisitedOn, FewVisitedOnTables, visited_of, ReachedRows}
use Rattle.merge_rules.specs.TableWithdrawal.{tables_after}
use Rattle.merge_rules.specs.Withdrawal.{state_after}
use Rattle.merge_rules.proofs.Laws.Invariant.{Inv}
use Rattle.merge_rules.proofs.Laws.Loaded.{load-inv}
use Rattle.merge_rules.proofs.Laws.Merges.{merge-inv, waiting-tree}
use Rattle.merge_rules.proofs.Laws.Reached.{each-once}
use Rattle.merge_rules.proofs.Laws.TableCalls.{loaded-tables, tables_after_lem}
use Rattle.merge_rules.proofs.Laws.Visited.{visits-few}
use Rattle.merge_rules.proofs.Laws.Withdrawal.{reached}
use Rattle.merge_rules.proofs.TableWithdrawal.{stays-holding}

stays-inv : (deck : List ℕ) (x : Fixed) (s : State) → load deck ≡ loaded x s → (cs : List Call) → Inv x (state_after x cs s)
stays-inv deck x s h cs = let l = load-inv deck x s h in reached x (Inv x) (merge-inv x) s l.1 l.0 cs

-- no element is reached twice
pub reached-once : ReachedOnce
reached-once deck x s h cs = each-once (stays-inv deck x s h cs)

-- and a merge visits no more pairs than there are elements
pub merges-visit-few : MergesVisitFew
merges-visit-few deck x s h cs f t w =
    let inv = stays-inv deck x s h cs in
    let (waits, among) = waiting-tree x (state_after x cs s).model f t w in
    visits-few x (state_after x cs s) inv t among waits

-- the same of lent tables
pub few-visited-on-tables : FewVisitedOnTables
few-visited-on-tables deck t =
    loaded-tables deck t (λ (u : Tables). (cs : List Call) → FewVisitedOn deck (tables_after deck cs u))
    (λ x s h cs.
    let holding = stays-holding deck x s h in
    rw (tables_after_lem holding cs, (holding.after cs).fixed, (holding.after cs).state)
    (record { reached = reached-once deck x s h cs; visited = merges-visit-few deck x s h cs }))

-- the rows, each by computation
pub reached-rows : ReachedRows
unfolding visited_of bytes children_of children flat reached_from
reached-rows = (refl, refl, refl)
