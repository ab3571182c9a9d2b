-- Document 01, "Level and Pairs, `merge_element`, `merge_sub_elements`". Assumes nothing.
use Rattle.std.specs.Prelude.{Bool, true, false, ◌||◌, List, [], ◌∷◌, ℕ, zero, suc, eqb, length}
use Rattle.std.proofs.Math.Option.{none, some}
use Rattle.tables.specs.FileSets.{no_set}
use Rattle.tables.specs.Records.{Element, FileNumber, FileSet, Version, Model, State, Fixed, name_of, type_of, set_of, list_of}
use Rattle.deck.specs.Schema.{version_of, least_version, splittable_in}
use Rattle.merge_rules.specs.Import.{clamp, import_at, import_new_items}
use Rattle.merge_rules.specs.Log.{restrict, extend, first_place_of, rollback_merge}
use Rattle.merge_rules.specs.Pairing.{children_of, identifiable, definition_child, Pair, Plan, planned, unmergeable_in, walk_level, first_used_twice}
use Rattle.merge_rules.specs.Range.{places, no_row, conflicting, calc_element_insert_range}
use Rattle.merge_rules.specs.Refusals.{Outcome, done, conflict, refused, unmergeable, used_twice, ◌>>=◌}

-- ---- A-only

-- A-only elements without a set get the level's files;
unfoldable pub restrict_elements : FileSet → List Element → State → Outcome
restrict_elements files [] s = done s
restrict_elements files (a ∷ as') s =
    elim (eqb (set_of s.model a) no_set) [
      | true ↦ restrict a files s >>= restrict_elements files as'
      | false ↦ restrict_elements files as' s
    ]

-- ---- Pairs

-- files are A's own set, else the level's.
unfoldable pub files_of_pair : FileSet → Model → Element → FileSet
files_of_pair files m a = elim (eqb (set_of m a) no_set) [ true ↦ files | false ↦ set_of m a ]

-- Level succeeded: an A with a set gains the new file.
unfoldable pub extend_pair : FileNumber → Element → State → Outcome
extend_pair f a s = elim (eqb (set_of s.model a) no_set) [ true ↦ done s | false ↦ extend a f s ]

-- identifiable A, or one with a DEFINITION-REF child
unfoldable pub keyed : Fixed → Model → Element → Bool
keyed x m a = identifiable x m a || elim (definition_child x m a) [ none ↦ false | some d ↦ true ]

-- A's content index + 1
unfoldable pub place_behind : Model → Element → Element → ℕ
place_behind m p a = elim (first_place_of a (list_of m p)) [ none ↦ 1 | some i ↦ suc i ]

-- import B at A's content index + 1, ranges in the level's version; if that range is refused, the old conflict goes up
unfoldable pub import_instead : Fixed → FileNumber → Version → Element → Pair → Element → State → Outcome
import_instead x f v p q e s =
    elim (calc_element_insert_range x s.model p (name_of x q.b) v) [
      | places first last ↦ import_at f p q.b (clamp (place_behind s.model p q.a) first last) s
      | no_row ↦ conflict e s
      | conflicting ↦ conflict e s
    ]

-- roll back to the pair's mark, give A the files, and import B
unfoldable pub fall_back : Fixed → FileNumber → Version → Element → Pair → FileSet → ℕ → Element → State → Outcome
fall_back x f v p q files mark e s = restrict q.a files (rollback_merge mark s) >>= import_instead x f v p q e

-- A conflict from below: identifiable A, or one with a DEFINITION-REF child, gives refusal 6 with the conflict's element;
-- else, if the parent is splittable in the level's version, the fallback; the old conflict goes up where it is not
unfoldable pub settle_conflict : Fixed → FileNumber → Version → Element → Pair → FileSet → ℕ → Element → State → Outcome
settle_conflict x f v p q files mark e s =
    elim (keyed x s.model q.a) [
      | true ↦ refused (unmergeable e)
      | false ↦
          elim (splittable_in x.schema (type_of x p) v) [ true ↦ fall_back x f v p q files mark e s | false ↦ conflict e s ]
    ]

-- what becomes of the pair's level. Other refusals pass up.
unfoldable pub settle : Fixed → FileNumber → Version → Element → Pair → FileSet → ℕ → Outcome → Outcome
settle x f v p q files mark (done s) = extend_pair f q.a s
settle x f v p q files mark (conflict e s) = settle_conflict x f v p q files mark e s
settle x f v p q files mark (refused r) = refused r

-- Pairs, in order, over the level one depth lower
unfoldable pub merge_sub_elements : (FileSet → Element → Element → State → Outcome) → Fixed → FileNumber → Version → Element → FileSet → List Pair → State → Outcome
merge_sub_elements lower x f v p files [] s = done s
merge_sub_elements lower x f v p files (q ∷ qs) s =
    let own = files_of_pair files s.model q.a in
    settle x f v p q own (length s.log) (lower own q.a q.b s) >>= merge_sub_elements lower x f v p files qs

-- ---- Level

-- A-only elements; imports, ranges here in the new file's version; Pairs.
-- Refusal 8 comes after the walk, before any change of its level.
unfoldable pub merge_plan : (FileSet → Element → Element → State → Outcome) → Fixed → FileNumber → Version → FileSet → Element → Element → Plan → State → Outcome
merge_plan lower x f v files a b plan s =
    elim (first_used_twice plan (children_of s.model b)) [
      | some c ↦ refused (used_twice c)
      | none ↦
          restrict_elements files plan.restrictions s >>= import_new_items x f (version_of x.schema f) a 0 plan.imports
          >>= merge_sub_elements lower x f v a files plan.pairs
    ]

-- The version is the smaller of the new file's and the least over the level's files.
unfoldable pub level_version : Fixed → FileNumber → FileSet → Version
level_version x f files = least_version x.schema files (version_of x.schema f)

-- These two call each other, one depth lower each time. No listed element is deeper than 31, so that 32 levels never run out.
unfoldable pub merge_element : ℕ → Fixed → FileNumber → FileSet → Element → Element → State → Outcome
merge_element zero x f files a b s = refused (unmergeable a)
merge_element (suc d) x f files a b s =
    let v = level_version x f files in
    elim (walk_level x s.model v a b) [
      | planned plan ↦ merge_plan (merge_element d x f) x f v files a b plan s
      | unmergeable_in ↦ refused (unmergeable a)
    ]
