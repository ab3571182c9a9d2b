-- Names every rule of this crate and those below on one `unfolding` line, so that what names this computes. Assumes nothing.
use Rattle.std.specs.Float.Ieee.{of_bits, is_nan, eq}
use Rattle.deck.specs.Unfolding.{deck_rules}
use Rattle.merge_rules.specs.Refusals.{refusal_fields, ◌>>=◌}
use Rattle.merge_rules.specs.Range.{equal_path, move_by, move_at, read_content, range_in, calc_element_insert_range}
use Rattle.merge_rules.specs.Pairing.{children, children_of, string_of, sole_text, element_text, sole_string, leading_short_name, identifier, identifiable, item_name, definition_child, definition, same_key, same_texts, sibling, calc_identifiables_merge, calc_element_merge, path_of, action_by_path, action_of, restrict_first, import_first, pair_first, import_unpaired, left_over_a, left_over_b, walk, walk_level, uses, first_used_twice}
use Rattle.merge_rules.specs.Import.{adopt, import_at, clamp, import_single_item, import_new_items}
use Rattle.merge_rules.specs.Level.{restrict_elements, files_of_pair, extend_pair, keyed, place_behind, import_instead, fall_back, settle_conflict, settle, merge_sub_elements, merge_plan, level_version, merge_element}
use Rattle.merge_rules.specs.Log.{change, restrict, extend, first_place_of, take_out, undo, undo_to, rollback_merge, is_root_extension, ends_merge, is_mark}
use Rattle.merge_rules.specs.Calls.{is_import, is_restriction, is_extension, counts_of, entries_above, merged_from, merge_tree, merge, range_answer, range, rollback}
use Rattle.merge_rules.specs.Book.{call, sum_of, strike, enter_merge, enter_rollback, enter}

unfoldable pub merge_rules : Unit {0}
unfolding deck_rules of_bits is_nan eq refusal_fields ◌>>=◌ equal_path move_by move_at read_content range_in calc_element_insert_range children children_of string_of sole_text element_text sole_string leading_short_name identifier identifiable item_name definition_child definition same_key same_texts sibling calc_identifiables_merge calc_element_merge path_of action_by_path action_of restrict_first import_first pair_first import_unpaired left_over_a left_over_b walk walk_level uses first_used_twice adopt import_at clamp import_single_item import_new_items restrict_elements files_of_pair extend_pair keyed place_behind import_instead fall_back settle_conflict settle merge_sub_elements merge_plan level_version merge_element change restrict extend first_place_of take_out undo undo_to rollback_merge is_root_extension ends_merge is_mark is_import is_restriction is_extension counts_of entries_above merged_from merge_tree merge range_answer range rollback call sum_of strike enter_merge enter_rollback enter
merge_rules = tt
