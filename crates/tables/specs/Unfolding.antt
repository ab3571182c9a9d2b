-- Names every rule of this crate on one `unfolding` line, so that what names this computes. Assumes nothing.
use Rattle.tables.specs.Bytes.{bytes}
use Rattle.tables.specs.Lists.{any_of, all_of, first_of, insert_at, remove_at, insert_run, remove_run, keep, sum, same_list}
use Rattle.tables.specs.Records.{add_type, add_group, add_sub_element, add_file, add_element, add_text, add_tree, add_to_model, put_parent, put_set, put_list, insert_item, remove_item, insert_items, put_item, remove_items, content_items}
use Rattle.tables.specs.FileSets.{holds, with_file, without_file, part_of, waiting_tree}
use Rattle.tables.specs.Paths.{begins, path_order, same_path, shared_beginning, front, path_cells, order_of, shares_part}
use Rattle.tables.specs.Texts.{bytes_at, same_floats, same_float, same_text, text_kind, text_value, text_from, value_of, same_values}

unfoldable pub tables_rules : Unit {0}
unfolding bytes any_of all_of first_of insert_at remove_at insert_run remove_run keep sum same_list add_type add_group add_sub_element add_file add_element add_text add_tree add_to_model put_parent put_set put_list insert_item remove_item insert_items put_item remove_items content_items holds with_file without_file part_of waiting_tree begins path_order same_path shared_beginning front path_cells order_of shares_part bytes_at same_floats same_float same_text text_kind text_value text_from value_of same_values
tables_rules = tt
