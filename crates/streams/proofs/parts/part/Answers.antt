-- What is printed lies within the buffer.
use Rattle.std.proofs.Common.{sym, length-take-le}
use Rattle.streams.proofs.Laws.Printed.{printed-within}
use Rattle.streams.proofs.parts.part.Goals as goal

pub returns-in-Some : goal.returns-in-Some
returns-in-Some c = let w = printed-within _ _ _ c.print_calls.ensures in (w, sym (length-take-le _ _ w))

pub returns-in-None : goal.returns-in-None
returns-in-None c = let w = printed-within _ _ _ c.print_output.ensures in (w, sym (length-take-le _ _ w))
