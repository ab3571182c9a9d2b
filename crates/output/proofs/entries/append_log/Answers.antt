use mathlib.Core.List.{[]}
use mathlib.Core.Path.{sym}
use Prim.Native.Nat.{◌<◌}
use native.Mathlib.Omega.{arith}
use lib.ListN.{length}
use Rattle.tables.specs.Bytes.{bytes}
use Rattle.tables.specs.LogTable.{log_of}
use Rattle.merge_rules.specs.Program.{decimal_of}
use Rattle.printing.proofs.Laws.Buffers.{then, reads, nothing, begin, turn, as_long}
use Rattle.output.proofs.Laws.Entries.{no_lines, line-more, log-parts}
use Rattle.output.proofs.entries.append_log.Goals as goal

pub loop-i-init : goal.loop-i-init
loop-i-init c = reads (sym (no_lines _)) (nothing _)

pub entry_at-a-requires : goal.entry_at-a-requires
entry_at-a-requires c = record { good_log = c.requires; i_in_bounds = omega (arith, c.log_length-n.ensures, c.loop-i-test.true) }

pub loop-i-preserved : goal.loop-i-preserved
loop-i-preserved c =
    let i = c.loop-i.i in
    let l : i < length (log_of c.args.log.now) = omega (arith, c.log_length-n.ensures, c.loop-i-test.true) in
    reads (line-more _ i l c.entry_at-a.ensures) (then c.loop-i.invariant c.append_entry-k.ensures)

pub returns : goal.returns
unfolding decimal_of bytes
returns c =
    reads
    (log-parts _ c.log_length-n.ensures c.loop-i-test.false)
    (then (then c.append_bytes-head.ensures c.append_number-k.ensures) c.loop-i.invariant)

pub shape_of-out : goal.shape_of-out
shape_of-out c = as_long {rest = []} (turn (begin _ _) (returns c))
