-- What a load fixes, with a sound state, passes the whole of refusal 0. Assumes nothing.
use mathlib.Core.List.{List}
use Prim.Native.Nat.{ℕ}
use lib.ListN.{length}
use Rattle.tables.specs.Records.{Fixed, State}
use Rattle.tables.proofs.Laws.ElementsTable.{elements-back}
use Rattle.tables.proofs.Laws.LogTable.{log_back}
use Rattle.tables.proofs.Laws.ModelTable.{decode-encode}
use Rattle.tables.proofs.Laws.SchemaTable.{schema-back}
use Rattle.table_test.proofs.Laws.Passing.{tables-pass}
use Rattle.state_test.specs.StateTest.{lent_tables_pass}
use Rattle.merge_rules.specs.Sound.{Sound, Passes}
use Rattle.merge_rules.proofs.Laws.Loaded.{FixedInRange}
use Rattle.merge_rules.proofs.Laws.PassingState.{state-valid}
use Rattle.merge_rules.proofs.Laws.PassingTables.{schema-in, elements-in, model_in, log-in}

pub sound-passes : (deck : List ℕ) (x : Fixed) (s : State) → FixedInRange deck x → Sound x s → Passes deck x s
unfolding lent_tables_pass
sound-passes deck x s r h =
    let schema = schema-in x.schema r.schema in
    let elements = elements-in deck x r h.static in
    let model = model_in deck x r h.static s h.kept in
    rw (
      tables-pass (length deck) x.schema x.elements s.model s.log schema elements model
          (log-in deck x r h.static s h.kept) h.kept.parents,
      schema-back x.schema schema.sized,
      elements-back x.elements elements.sized,
      decode-encode s.model model.sized,
      log_back s.log,
      ← r.read,
    )
    (state-valid deck x r s h)
