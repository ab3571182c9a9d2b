-- Where a part begins grows, up to a last place.
use Rattle.std.proofs.Common.{◌-◌, ◌^◌}
use Rattle.streams.proofs.parts.print_all.Given as goal

abbrev pub decreases-loop-from : goal.decreases-loop-from
decreases-loop-from g l = 2 ^ 63 - l.from
