use mathlib.Core.Path.{refl}
use Rattle.tables.specs.Bytes.{bytes}
use Rattle.merge_rules.specs.CallLists.{bad_call}
use Rattle.merge_rules.specs.Program.{decimal_of, line_of}
use Rattle.printing.proofs.Laws.Buffers.{then, reads}
use Rattle.output.proofs.print.append_bad_call.Goals as goal

pub returns : goal.returns
unfolding bad_call line_of decimal_of bytes
returns c = reads refl (then c.append_bytes-k.ensures c.append_number.ensures)
