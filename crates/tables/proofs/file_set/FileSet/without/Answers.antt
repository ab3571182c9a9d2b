use mathlib.Core.Path.{sym, ap, ◌∙◌}
use Prim.Native.Nat.{ℕ}
use borrow.Author.Rules.{rules}
use lib.Bits.{bit_and, bit_xor}
use Rattle.tables.specs.Limits.{file_limit}
use Rattle.tables.specs.SetCells.{set_is}
use Rattle.tables.proofs.Laws.FileSets.{xor-without_file, one_shifted, absent-past, without_file-absent}
use Rattle.tables.proofs.file_set.FileSet.without.Goals as goal

pub returns-then-v-lt-FILE_LIMIT : goal.returns-then-v-lt-FILE_LIMIT
unfolding set_is
returns-then-v-lt-FILE_LIMIT c =
    let s = c.args.self.0 in
    let v = c.args.f.0 in
    ap (λ (bit : ℕ). bit_xor s (bit_and s bit)) (one_shifted v (search rules)) ∙ xor-without_file s v

pub returns-else-v-lt-FILE_LIMIT : goal.returns-else-v-lt-FILE_LIMIT
unfolding set_is
returns-else-v-lt-FILE_LIMIT c = sym (without_file-absent c.args.self.0 c.args.f.0 (absent-past file_limit c.args.self.0 c.args.f.0 (search rules) c.if-v-lt-FILE_LIMIT.false))
