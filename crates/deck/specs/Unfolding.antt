-- Names every rule of this crate and the one below on one `unfolding` line, so that what names this computes. Assumes nothing.
use Rattle.std.proofs.Math.Option.{bind}
use Rattle.tables.specs.Unfolding.{tables_rules}
use Rattle.deck.specs.Deck.{ahead, parts, lines, fields, digit, value_from, plain, only, number, decimal, hexadecimal, type_field, depth_field, name_field, file_field, set_field, mask_field, mode_field, mult_field, named_field, path_parts, path_field, printable, by_letter, text_e, text_s, text_u, text_f, letter, text_fields, line_t, line_g, line_s, line_f, line_m, line_b, line_e, line_c, read_line}
use Rattle.deck.specs.Schema.{proper_beginnings, is_characters, declared_type, group_at, has_group, path_valid, group_rule, rows_meet, begins_group, sub_element_rule, declares_file, files_of, declared_files, version_of, least_from, least_version, meets, find_sub_element, row_of_name, group_mode, find_common_group, splittable_in}
use Rattle.deck.specs.Load.{◌>>=◌, need, given, put_schema, open_tree, put_content, load_t, load_g, load_s, load_f, load_m, may_wait, load_b, owner, in_model, root_set_rule, set_rule, next_element, append, load_root, load_child, load_e, takes_text, load_c, load_line, finish, load_lines, load}

unfoldable pub deck_rules : Unit {0}
unfolding tables_rules bind ahead parts lines fields digit value_from plain only number decimal hexadecimal type_field depth_field name_field file_field set_field mask_field mode_field mult_field named_field path_parts path_field printable by_letter text_e text_s text_u text_f letter text_fields line_t line_g line_s line_f line_m line_b line_e line_c read_line proper_beginnings is_characters declared_type group_at has_group path_valid group_rule rows_meet begins_group sub_element_rule declares_file files_of declared_files version_of least_from least_version meets find_sub_element row_of_name group_mode find_common_group splittable_in ◌>>=◌ need given put_schema open_tree put_content load_t load_g load_s load_f load_m may_wait load_b owner in_model root_set_rule set_rule next_element append load_root load_child load_e takes_text load_c load_line finish load_lines load
deck_rules = tt
