-- Made by tools/everything.py: one name that opens every definition of the crates that this one uses.
use Prim.Native.Nat.{ℕ}
use Rattle.base_lists.specs.Pieces.{pieces_from}
use Rattle.base_lists.specs.Ranges.{first_from, past_last, least, count, sum, gather, select}
use Rattle.base_lists.specs.Records.{flat, read_n, read_all}
use Rattle.base_lists.specs.Rows.{index_in, has_index, row_in, column_in, has_row}
use Rattle.base_lists.specs.Strings.{same, prefixed, zero_at, name_end, has_end, name_at, over_at, ascii}
use Rattle.base_lists.specs.Windows.{spliced}
use Rattle.base_scope.specs.Codes.{section_codes, code_name, code_type, holds_bytes, leaves_out, is_late_target, target_code}
use Rattle.base_scope.specs.Limits.{is_broken, over_limits, Kept}
use Rattle.base_scope.specs.Refusals.{expect, found_below}
use Rattle.base_scope.specs.Text.{text}
use Rattle.base_text.specs.Decimals.{decimal_from, digits_text, decimal_text}
use Rattle.base_text.specs.Lines.{lined}
use Rattle.blocks_values.specs.Parts.{line_parts}
use Rattle.blocks_values.specs.Values.{every, is_digit, is_hex_digit, is_number, number_sound, space_at, space_in, label_sound, label_in, after_label, size_in, align_in, span_sound, line_sound, dummy_sound, jump_table_sound, empty_sound, any_sound}
use Rattle.blocks_lines.specs.After.{line_after}
use Rattle.blocks_lines.specs.Keys.{keys, key_name, repeats, value_sound, value_at, is_key_line}
use Rattle.blocks_lines.specs.Lines.{feed_at, line_end, is_whole, line, next, line_number}
use Rattle.blocks_file.specs.Blocks.{skip_from, skip, count_from, group_size, line_behind, group_end, group_at, is_faulty, faulty_group, block_at, stops_at, block_count, fault_at, block_fault}
use Rattle.blocks_file.specs.Table.{groups, block_row, block_table, group_after, group_in, bad_line}
use Rattle.blocks_places.specs.Faults.{odd_place, sizeless, early, fault8, fault9, is_misplaced, misplaced_at, placing}
use Rattle.blocks_places.specs.Lines.{span_value, labelled, span_label, span_size, span_align8}
use Rattle.blocks_places.specs.Places.{label_symbol, has_symbol, label_value, lacks, reached, is_placed, place_of, places_of, taken, place, untaken, live, end_at}
use Rattle.blocks_places.specs.Table.{held_size, place_in, places_in, place_row, place_table, off_step, low_place, on_step, on_after, step_of}
use Rattle.blocks_items.specs.Items.{hex_digit, hex_from, dummy_count, dummy_line, dummy_word, jump_table, sized, late_bytes, late_length}
use Rattle.blocks_items.specs.Table.{dummies_in}

unfoldable pub everything : ℕ
unfolding pieces_from first_from past_last least count sum gather select flat read_n read_all index_in has_index row_in column_in has_row same prefixed zero_at name_end has_end name_at over_at ascii spliced section_codes code_name code_type holds_bytes leaves_out is_late_target target_code is_broken over_limits Kept expect found_below text decimal_from digits_text decimal_text lined line_parts every is_digit is_hex_digit is_number number_sound space_at space_in label_sound label_in after_label size_in align_in span_sound line_sound dummy_sound jump_table_sound empty_sound any_sound line_after keys key_name repeats value_sound value_at is_key_line feed_at line_end is_whole line next line_number skip_from skip count_from group_size line_behind group_end group_at is_faulty faulty_group block_at stops_at block_count fault_at block_fault groups block_row block_table group_after group_in bad_line odd_place sizeless early fault8 fault9 is_misplaced misplaced_at placing span_value labelled span_label span_size span_align8 label_symbol has_symbol label_value lacks reached is_placed place_of places_of taken place untaken live end_at held_size place_in places_in place_row place_table off_step low_place on_step on_after step_of hex_digit hex_from dummy_count dummy_line dummy_word jump_table sized late_bytes late_length dummies_in
everything = 0
