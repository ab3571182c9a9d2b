-- The starred rows of document 01 hold of the rules, each by computation. Assumes nothing.
use mathlib.Core.Path.{refl}
use Rattle.tables.specs.Bytes.{bytes}
use Rattle.merge_rules.specs.Program.{output}
use Rattle.merge_rules.specs.Stars.{result_of, starred_rows, AllHold, all, ◌and◌}

pub starred : AllHold starred_rows
unfolding output result_of bytes
starred =
    refl and refl and refl and refl and refl and refl and refl and refl and refl and refl and refl and refl and refl and refl and refl
    and refl and all
