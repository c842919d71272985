-- Made by tools/everything.py: one name that opens every definition of the crates that this one uses.
use Prim.Native.Nat.{ℕ}
use Rattle.base_lists.specs.Pieces.{pieces_from}
use Rattle.base_lists.specs.Ranges.{first_from, past_last, least, count, sum, gather, select}
use Rattle.base_lists.specs.Records.{flat, read_n, read_all}
use Rattle.base_lists.specs.Rows.{index_in, has_index, row_in, column_in, has_row}
use Rattle.base_lists.specs.Strings.{same, prefixed, zero_at, name_end, has_end, name_at, over_at, ascii}
use Rattle.base_lists.specs.Windows.{spliced}
use Rattle.base_fields.specs.Layouts.{width_of, fields_from, record_bytes}
use Rattle.base_fields.specs.Numbers.{turned, magnitude, digits, number, encoded}
use Rattle.base_text.specs.Decimals.{decimal_from, digits_text, decimal_text}
use Rattle.base_text.specs.Lines.{lined}
use Rattle.base_scope.specs.Codes.{section_codes, code_name, code_type, holds_bytes, leaves_out, is_late_target, target_code}
use Rattle.base_scope.specs.Limits.{is_broken, over_limits, Kept}
use Rattle.base_scope.specs.Refusals.{expect, found_below}
use Rattle.base_scope.specs.Text.{text}
use Rattle.base_groups.specs.Groups.{in_group, of_group, grouped, grouped_place}
use Rattle.base_groups.specs.Holders.{holder, is_holder}
use Rattle.elf_records.specs.Debug.{debug_layout, debug_from, debug_fields, debug_at, debug_bytes}
use Rattle.elf_records.specs.Header.{elf_layout, elf_from, elf_fields, elf_at, elf_bytes}
use Rattle.elf_records.specs.Relocation.{relocation_layout, addend_of, relocation_from, addend_fields, relocation_fields, present, has_addend, relocation_at, relocation_bytes}
use Rattle.elf_records.specs.Section.{section_layout, section_from, section_fields, section_at, section_bytes}
use Rattle.elf_records.specs.Symbol.{symbol_layout, symbol_from, symbol_fields, symbol_at, symbol_bytes}
use Rattle.elf_readers.specs.Readers.{order_of, header, section_count, header_place, section, contents, is_strtab, section_strings, section_name, has_name, section_named, coded_section, has_code, coded_contents}
use Rattle.elf_symbols.specs.Symbols.{is_symtab, symtab, symbol_count, symbol_place, symbol, strtab, symbol_strings, symbol_name, is_symbol_named, symbol_named, symbol_table}
use Rattle.elf_relocations.specs.Relocations.{is_rela, is_table, entry_size, relocation_table_sound, bad_table, relocation_fault, relocates, table_from, relocation_count, relocation}
use Rattle.blocks_values.specs.Parts.{line_parts}
use Rattle.blocks_values.specs.Values.{every, is_digit, is_hex_digit, is_number, number_sound, space_at, space_in, label_sound, label_in, after_label, size_in, align_in, span_sound, line_sound, dummy_sound, jump_table_sound, empty_sound, any_sound}
use Rattle.blocks_lines.specs.After.{line_after}
use Rattle.blocks_lines.specs.Keys.{keys, key_name, repeats, value_sound, value_at, is_key_line}
use Rattle.blocks_lines.specs.Lines.{feed_at, line_end, is_whole, line, next, line_number}
use Rattle.blocks_file.specs.Blocks.{skip_from, skip, count_from, group_size, line_behind, group_end, group_at, is_faulty, faulty_group, block_at, stops_at, block_count, fault_at, block_fault}
use Rattle.blocks_file.specs.Table.{groups, block_row, block_table, group_after, group_in, bad_line}
use Rattle.blocks_places.specs.Faults.{odd_place, sizeless, early, fault8, fault9, is_misplaced, misplaced_at, placing}
use Rattle.blocks_places.specs.Lines.{span_value, labelled, span_label, span_size, span_align8}
use Rattle.blocks_places.specs.Places.{label_symbol, has_symbol, label_value, lacks, reached, is_placed, place_of, places_of, taken, place, untaken, live, end_at}
use Rattle.blocks_places.specs.Table.{held_size, place_in, places_in, place_row, place_table, off_step, low_place, on_step, on_after, step_of}
use Rattle.symbols_taken.specs.of_blocks_items.Items.{hex_digit, hex_from, dummy_count, dummy_line, dummy_word, jump_table, sized, late_bytes, late_length}
use Rattle.symbols_taken.specs.of_blocks_items.Table.{dummies_in}
use Rattle.blocks_glabels.specs.Glabels.{glabel_count, glabel, is_glabel_at, is_glabel, gives_size, past_sized, glabel_size}
use Rattle.blocks_spans.specs.Copied.{copied_byte, copied}
use Rattle.blocks_spans.specs.Spans.{span_end, is_span, span_of, spans_among, spans_of, span_at, covers, is_covered, last_end, is_word_of, replaced_word}
use Rattle.blocks_spans.specs.Table.{span_in, spans_in, span_ends, span_row, ends_behind, span_from, next_span}
use Rattle.late_dummies.specs.Dummies.{word_at, found, shifts, placed, is_lost}
use Rattle.late_dummies.specs.Spots.{shift_spot, spot}
use Rattle.symbols_taken.specs.of_late_moves.Moved.{is_in, is_word, starts, is_moved, moved_block, moved_item, table_word, is_jump_word, move_covers, zeroes, place_in_move, moved_place, offset_in_move, covered_by, late_byte, late_rodata}
use Rattle.symbols_taken.specs.of_late_moves.Moves.{is_dummy, first_of_many, item_length, item_place, item_fault, last_from, items, late_source, move_source, late_from, last_place, move_place, is_move_fault, late_step_fault, is_shifted}
use Rattle.statics_debug.specs.Entries.{tables_in, file_at, entry_at, among, lists_static, opens_scope, closes_scope, storage_code}
use Rattle.statics_table.specs.Statics.{stored_name, count_tail, working_name, name_head, written_name, written_length, names_length, is_namesake, namesakes, static_type, static_binding}
use Rattle.statics_table.specs.Table.{static_row, static_rows, static_in, statics_in}
use Rattle.statics_entry.specs.Code.{is_there, listable_in, stopped, passed, list_next}
use Rattle.statics_entry.specs.Entry.{nth, count_of, static_from, readable_name, entry_inside, type_at, is_static, has_section, name_start, listable, entry_fault, list_after}
use Rattle.statics_file.specs.File.{entry_place, opened, closed, nested, balanced, listed_in, fault_in, completed_in, fails_in}
use Rattle.statics_walk.specs.Code.{no_statics}
use Rattle.statics_walk.specs.Walk.{descriptor_place, descriptor_inside, file_record, entry_count, entries_before, entries_start, names_start, listed_before, completed, file_fault, faulty_file, walk_fault, walk_list, debug_section, has_debug, debug_part, debug_fault, debug_list, reads_statics, statics_fault, statics}
use Rattle.statics_symbols.specs.Entries.{symbol_of_static, static_symbol}
use Rattle.symbols_taken.specs.of_merge_labels.Labels.{label_of, is_at, is_lined, is_mislabelled, mislabelled_at, label_fault, late_label, late_start, late_lined}
use Rattle.symbols_merge.specs.Candidates.{is_defined, is_unnamed, is_local, is_gp_disp}
use Rattle.symbols_merge.specs.Listed.{list_group, listed, position, listed_at, is_alike, holder_of, is_loose, is_elsewhere, symbols_verdict}
use Rattle.symbols_merge.specs.Merged.{result_group, is_merged, group_at_position, merged, merged_count, local_count, merged_at, held_by, number_of}
use Rattle.symbols_taken.specs.Code.{is_section_in, code_in, is_source_in, marked, used_below, used_in, used_to, used_bytes, has_target_in, lacks_target_in, is_homeless_in, homeless_in, is_moved_in, is_unmoved_value, is_unmoved_in, unmoved_in, taken_in}
use Rattle.symbols_taken.specs.Taken.{is_helper, locals_of, is_taken_c, is_placed_in, is_taken_a, symbol_code, has_target, is_homeless, homeless_at, is_unmoved, unmoved_at, taken_verdict}
use Rattle.symbols_taken.specs.Used.{is_section_of, code_of, is_source, is_source_table, uses_symbol, is_used}

unfoldable pub everything : ℕ
unfolding pieces_from first_from past_last least count sum gather select flat read_n read_all index_in has_index row_in column_in has_row same prefixed zero_at name_end has_end name_at over_at ascii spliced width_of fields_from record_bytes turned magnitude digits number encoded decimal_from digits_text decimal_text lined section_codes code_name code_type holds_bytes leaves_out is_late_target target_code is_broken over_limits Kept expect found_below text in_group of_group grouped grouped_place holder is_holder debug_layout debug_from debug_fields debug_at debug_bytes elf_layout elf_from elf_fields elf_at elf_bytes relocation_layout addend_of relocation_from addend_fields relocation_fields present has_addend relocation_at relocation_bytes section_layout section_from section_fields section_at section_bytes symbol_layout symbol_from symbol_fields symbol_at symbol_bytes order_of header section_count header_place section contents is_strtab section_strings section_name has_name section_named coded_section has_code coded_contents is_symtab symtab symbol_count symbol_place symbol strtab symbol_strings symbol_name is_symbol_named symbol_named symbol_table is_rela is_table entry_size relocation_table_sound bad_table relocation_fault relocates table_from relocation_count relocation line_parts every is_digit is_hex_digit is_number number_sound space_at space_in label_sound label_in after_label size_in align_in span_sound line_sound dummy_sound jump_table_sound empty_sound any_sound line_after keys key_name repeats value_sound value_at is_key_line feed_at line_end is_whole line next line_number skip_from skip count_from group_size line_behind group_end group_at is_faulty faulty_group block_at stops_at block_count fault_at block_fault groups block_row block_table group_after group_in bad_line odd_place sizeless early fault8 fault9 is_misplaced misplaced_at placing span_value labelled span_label span_size span_align8 label_symbol has_symbol label_value lacks reached is_placed place_of places_of taken place untaken live end_at held_size place_in places_in place_row place_table off_step low_place on_step on_after step_of hex_digit hex_from dummy_count dummy_line dummy_word jump_table sized late_bytes late_length dummies_in glabel_count glabel is_glabel_at is_glabel gives_size past_sized glabel_size copied_byte copied span_end is_span span_of spans_among spans_of span_at covers is_covered last_end is_word_of replaced_word span_in spans_in span_ends span_row ends_behind span_from next_span word_at found shifts placed is_lost shift_spot spot is_in is_word starts is_moved moved_block moved_item table_word is_jump_word move_covers zeroes place_in_move moved_place offset_in_move covered_by late_byte late_rodata is_dummy first_of_many item_length item_place item_fault last_from items late_source move_source late_from last_place move_place is_move_fault late_step_fault is_shifted tables_in file_at entry_at among lists_static opens_scope closes_scope storage_code stored_name count_tail working_name name_head written_name written_length names_length is_namesake namesakes static_type static_binding static_row static_rows static_in statics_in is_there listable_in stopped passed list_next nth count_of static_from readable_name entry_inside type_at is_static has_section name_start listable entry_fault list_after entry_place opened closed nested balanced listed_in fault_in completed_in fails_in no_statics descriptor_place descriptor_inside file_record entry_count entries_before entries_start names_start listed_before completed file_fault faulty_file walk_fault walk_list debug_section has_debug debug_part debug_fault debug_list reads_statics statics_fault statics symbol_of_static static_symbol label_of is_at is_lined is_mislabelled mislabelled_at label_fault late_label late_start late_lined is_defined is_unnamed is_local is_gp_disp list_group listed position listed_at is_alike holder_of is_loose is_elsewhere symbols_verdict result_group is_merged group_at_position merged merged_count local_count merged_at held_by number_of is_section_in code_in is_source_in marked used_below used_in used_to used_bytes has_target_in lacks_target_in is_homeless_in homeless_in is_moved_in is_unmoved_value is_unmoved_in unmoved_in taken_in is_helper locals_of is_taken_c is_placed_in is_taken_a symbol_code has_target is_homeless homeless_at is_unmoved unmoved_at taken_verdict is_section_of code_of is_source is_source_table uses_symbol is_used
everything = 0
