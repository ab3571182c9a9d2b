-- A level by its plan: restrictions and imports, then the pairs; and one pair. Assumes nothing.
use Rattle.std.specs.Prelude.{true, false, [], ◌≡◌, ℕ, ◌<◌, eqb, length}
use Rattle.tables.specs.FileSets.{no_set}
use Rattle.tables.specs.Records.{Element, FileNumber, FileSet, Version, Model, State, Fixed, set_of}
use Rattle.deck.specs.Schema.{version_of}
use Rattle.merge_rules.specs.Import.{import_new_items}
use Rattle.merge_rules.specs.Level.{files_of_pair, restrict_elements, settle, merge_sub_elements}
use Rattle.merge_rules.specs.Log.{restrict}
use Rattle.merge_rules.specs.Pairing.{children_of, Pair, Plan}
use Rattle.merge_rules.specs.Refusals.{Outcome, done, refused, unmergeable, used_twice, ◌>>=◌}
use Rattle.pairing.specs.Plans.{LevelPlan, level_plan, child_used_twice, level_unmergeable}

-- one A-only element
unfoldable pub restrict_new : FileSet → Element → State → Outcome
restrict_new files a s = elim (eqb (set_of s.model a) no_set) [ true ↦ restrict a files s | false ↦ done s ]

-- what a plan changes before its pairs
unfoldable pub apply_plan : Fixed → FileNumber → FileSet → Element → Plan → State → Outcome
apply_plan x f files a plan s =
    restrict_elements files plan.restrictions s >>= import_new_items x f (version_of x.schema f) a 0 plan.imports

-- the level of a by what its walk gave
unfoldable pub merge_level : (FileSet → Element → Element → State → Outcome) → Fixed → FileNumber → Version → FileSet → Element → LevelPlan → State → Outcome
merge_level lower x f v files a (level_plan plan) s = apply_plan x f files a plan s >>= merge_sub_elements lower x f v a files plan.pairs
merge_level lower x f v files a (child_used_twice c) s = refused (used_twice c)
merge_level lower x f v files a level_unmergeable s = refused (unmergeable a)

-- one pair: its level, and what becomes of it
unfoldable pub merge_pair : (FileSet → Element → Element → State → Outcome) → Fixed → FileNumber → Version → Element → FileSet → Pair → State → Outcome
merge_pair lower x f v p files q s =
    let own = files_of_pair files s.model q.a in
    settle x f v p q own (length s.log) (lower own q.a q.b s)

-- a level is left, and neither a nor b lists an element
pub record Bare (d : ℕ) (m : Model) (a b : Element) : Type 0 where
  pub deep : 0 < d
  pub first : children_of m a ≡ []
  pub second : children_of m b ≡ []
