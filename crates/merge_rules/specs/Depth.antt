-- Document 01, "Level and Pairs": the remaining depth, at most 32, never runs out. Assumes nothing.
use Rattle.std.specs.Prelude.{true, List, ◌≡◌, ℕ, suc, ◌≤◌}
use Rattle.tables.specs.Limits.{depth_limit}
use Rattle.tables.specs.Records.{FileSet, Tree, root}
use Rattle.tables.specs.ElementsTable.{elements_of}
use Rattle.state_test.specs.StateTest.{lent_tables_pass, fixed_in, state_in}
use Rattle.merge_rules.specs.Level.{merge_element}
use Rattle.merge_rules.specs.Sound.{In}

-- On lent tables that pass refusal 0, 32 levels and any larger number give the same outcome: the clause for depth 0 is never an answer.
abbrev pub LevelsSuffice : Type 0
LevelsSuffice =
    (deck schema elements model log : List ℕ) → lent_tables_pass deck schema elements model log ≡ true
    → (t : Tree) → In t (elements_of elements).trees → (files : FileSet) (more : ℕ) → suc depth_limit ≤ more
    → merge_element (suc depth_limit) (fixed_in deck schema elements) t.file files root t.root (state_in model log)
    ≡ merge_element more (fixed_in deck schema elements) t.file files root t.root (state_in model log)
