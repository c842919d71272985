-- Made by tools/everything.py: one name that opens every definition of the crates that this one uses.
use Prim.Native.Nat.{ℕ}
use Rattle.base_lists.specs.Pieces.{pieces_from}
use Rattle.base_lists.specs.Ranges.{first_from, past_last, least, count, sum, gather, select}
use Rattle.base_lists.specs.Records.{flat, read_n, read_all}
use Rattle.base_lists.specs.Rows.{index_in, has_index, row_in, column_in, has_row}
use Rattle.base_lists.specs.Strings.{same, prefixed, zero_at, name_end, has_end, name_at, over_at, ascii}
use Rattle.base_lists.specs.Windows.{spliced}
use Rattle.base_buffers.specs.Buffers.{zeros, zeroed_from}
use Rattle.base_buffers.specs.Parts.{part_at, front_of}
use Rattle.base_fields.specs.Layouts.{width_of, fields_from, record_bytes}
use Rattle.base_fields.specs.Numbers.{turned, magnitude, digits, number, encoded}
use Rattle.base_scope.specs.Codes.{section_codes, code_name, code_type, holds_bytes, leaves_out, is_late_target, target_code}
use Rattle.base_scope.specs.Limits.{is_broken, over_limits, Kept}
use Rattle.base_scope.specs.Refusals.{expect, found_below}
use Rattle.base_scope.specs.Text.{text}
use Rattle.base_text.specs.Decimals.{decimal_from, digits_text, decimal_text}
use Rattle.base_text.specs.Lines.{lined}
use Rattle.base_answers.specs.Answers.{length_outcome, outcome_of, result_of, output_of, room_for}
use Rattle.base_answers.specs.Verdicts.{also, if_passed, limit_verdict, finding_verdict}
use Rattle.base_groups.specs.Groups.{in_group, of_group, grouped, grouped_place}
use Rattle.base_groups.specs.Holders.{holder, is_holder}
use Rattle.base_index.specs.Index.{mixed_at, mixed, spread, hash_of, buckets_of, bucket_of, hash_in, next_in, head_in, in_bucket, linked}
use Rattle.elf_records.specs.Debug.{debug_layout, debug_from, debug_fields, debug_at, debug_bytes}
use Rattle.elf_records.specs.Header.{elf_layout, elf_from, elf_fields, elf_at, elf_bytes}
use Rattle.elf_records.specs.Relocation.{relocation_layout, addend_of, relocation_from, addend_fields, relocation_fields, present, has_addend, relocation_at, relocation_bytes}
use Rattle.elf_records.specs.Section.{section_layout, section_from, section_fields, section_at, section_bytes}
use Rattle.elf_records.specs.Symbol.{symbol_layout, symbol_from, symbol_fields, symbol_at, symbol_bytes}
use Rattle.elf_readers.specs.Readers.{order_of, header, section_count, header_place, section, contents, is_strtab, section_strings, section_name, has_name, section_named, coded_section, has_code, coded_contents}
use Rattle.elf_header.specs.FileHeader.{field_fault, header_fault}
use Rattle.elf_sections.specs.Headers.{null_section_sound, unlinked, whole_entries, bytes_inside, header_sound, section_sound, bad_section, count_sound, section_fault}
use Rattle.elf_sections.specs.Names.{name_sound, bad_name, name_fault, mistyped, coded_after, type_fault}
use Rattle.elf_symbols.specs.Symbols.{is_symtab, symtab, symbol_count, symbol_place, symbol, strtab, symbol_strings, symbol_name, is_symbol_named, symbol_named, symbol_table}
use Rattle.elf_symbol_faults.specs.Faults.{zero_entry, index_sound, symbol_table_sound, null_symbol_sound, symbol_sound, bad_symbol, symbol_fault}
use Rattle.elf_relocations.specs.Relocations.{is_rela, is_table, entry_size, relocation_table_sound, bad_table, relocation_fault, relocates, table_from, relocation_count, relocation}
use Rattle.elf_check.specs.Object.{refuse, check_tables, check_names, check_in, check_of}
use Rattle.elf_check.specs.View.{coded_sections, view_of, section_in, has_in}
use Rattle.blocks_values.specs.Parts.{line_parts}
use Rattle.blocks_values.specs.Values.{every, is_digit, is_hex_digit, is_number, number_sound, space_at, space_in, label_sound, label_in, after_label, size_in, align_in, span_sound, line_sound, dummy_sound, jump_table_sound, empty_sound, any_sound}
use Rattle.blocks_lines.specs.After.{line_after}
use Rattle.blocks_lines.specs.Keys.{keys, key_name, repeats, value_sound, value_at, is_key_line}
use Rattle.blocks_lines.specs.Lines.{feed_at, line_end, is_whole, line, next, line_number}
use Rattle.blocks_file.specs.Blocks.{skip_from, skip, count_from, group_size, line_behind, group_end, group_at, is_faulty, faulty_group, block_at, stops_at, block_count, fault_at, block_fault}
use Rattle.blocks_file.specs.Table.{groups, block_row, block_table, group_after, group_in, bad_line}
use Rattle.blocks_places.specs.Faults.{odd_place, sizeless, early, fault8, fault9, is_misplaced, misplaced_at, placing}
use Rattle.blocks_places.specs.Lines.{span_value, labelled, span_label, span_size, span_align8}
use Rattle.blocks_places.specs.Places.{label_symbol, has_symbol, label_value, lacks, reached, is_placed, place_of, places_of, taken, place, untaken, live, end_at}
use Rattle.blocks_places.specs.Table.{held_size, place_in, places_in, place_row, place_table, off_step, low_place, on_step, on_after, step_of}
use Rattle.blocks_items.specs.Items.{hex_digit, hex_from, dummy_count, dummy_line, dummy_word, jump_table, sized, late_bytes, late_length}
use Rattle.blocks_items.specs.Table.{dummies_in}
use Rattle.blocks_glabels.specs.Glabels.{glabel_count, glabel, is_glabel_at, is_glabel, gives_size, past_sized, glabel_size}
use Rattle.blocks_spans.specs.Copied.{copied_byte, copied}
use Rattle.blocks_spans.specs.Spans.{span_end, is_span, span_of, spans_among, spans_of, span_at, covers, is_covered, last_end, is_word_of, replaced_word}
use Rattle.blocks_spans.specs.Table.{span_in, spans_in, span_ends, span_row, ends_behind, span_from, next_span}
use Rattle.open_inputs.specs.Open.{check_verdict, placing_verdict, open_verdict}
use Rattle.open_inputs.specs.Opened.{opened_verdict}
use Rattle.copy_registers.specs.Reginfo.{or_byte, joined_byte, joined}
use Rattle.late_dummies.specs.Dummies.{found, shifts, placed}
use Rattle.late_dummies.specs.Dummies as Dummies
use Rattle.late_dummies.specs.Spots.{shift_spot, spot}
use Rattle.late_length.specs.Late.{is_late, has_late_step}
use Rattle.late_moves.specs.Moved.{is_in, is_word, starts, is_moved, moved_block, moved_item, table_word, is_jump_word, move_covers, zeroes, place_in_move, moved_place, offset_in_move, covered_by, late_byte, late_rodata}
use Rattle.late_moves.specs.Moves.{is_dummy, first_of_many, item_length, item_place, item_fault, last_from, items, late_source, move_source, late_from, last_place, move_place, is_move_fault, late_step_fault, is_shifted}
use Rattle.late_finals.specs.Finals.{is_late_written, final_bytes, is_written}
use Rattle.statics_debug.specs.Entries.{tables_in, file_at, entry_at, among, lists_static, opens_scope, closes_scope, storage_code}
use Rattle.statics_shift.specs.Shift.{is_offset, moves, moved_word, moved_words, moved_debug, has_header, shift_fails}
use Rattle.statics_table.specs.Statics.{stored_name, count_tail, working_name, name_head, written_name, written_length, names_length, is_namesake, namesakes, static_type, static_binding}
use Rattle.statics_table.specs.Table.{static_row, static_rows, static_in, statics_in}
use Rattle.statics_entry.specs.Code.{is_there, listable_in, stopped, passed, list_next}
use Rattle.statics_entry.specs.Entry.{nth, count_of, static_from, readable_name, entry_inside, type_at, is_static, has_section, name_start, listable, entry_fault, list_after}
use Rattle.statics_file.specs.File.{entry_place, opened, closed, nested, balanced, listed_in, fault_in, completed_in, fails_in}
use Rattle.statics_walk.specs.Code.{no_statics}
use Rattle.statics_walk.specs.Walk.{descriptor_place, descriptor_inside, file_record, entry_count, entries_before, entries_start, names_start, listed_before, completed, file_fault, faulty_file, walk_fault, walk_list, debug_section, has_debug, debug_part, debug_fault, debug_list, reads_statics, statics_fault, statics}
use Rattle.statics_symbols.specs.Entries.{symbol_of_static, static_symbol}
use Rattle.merge_inputs.specs.Taken.{inputs_of}
use Rattle.merge_inputs.specs.Verdict.{inputs_verdict}
use Rattle.merge_missing.specs.Ends.{lacking_by, asked_c, asked_a, missing_by}
use Rattle.merge_missing.specs.Missing.{goes_to, is_target, passes, has_span, is_uneven, has_uneven, is_lacking, wanted_c, missing_c, wanted_a, missing_a, lowest_code, missing_verdict}
use Rattle.merge_labels.specs.Labels.{label_of, is_at, is_lined, is_mislabelled, mislabelled_at, label_fault, late_label, late_start, late_lined}
use Rattle.merge_line_up.specs.Answer.{lined_verdict}
use Rattle.merge_line_up.specs.LineUp.{late_label_fault, labels_verdict, line_up_verdict, late_step_of}
use Rattle.merge_sections.specs.Sections.{step_finding, late_finding, result_section, register_bytes}
use Rattle.merge_kept.specs.Kept.{stays, kept}
use Rattle.symbols_merge.specs.Candidates.{is_defined, is_unnamed, is_local, is_gp_disp}
use Rattle.symbols_merge.specs.Listed.{list_group, listed, position, listed_at, is_alike, holder_of, is_loose, is_elsewhere, symbols_verdict}
use Rattle.symbols_merge.specs.Merged.{result_group, is_merged, group_at_position, merged, merged_count, local_count, merged_at, held_by, number_of}
use Rattle.symbols_taken.specs.Code.{is_section_in, code_in, is_source_in, marked, used_below, used_in, used_to, used_bytes, has_target_in, lacks_target_in, is_homeless_in, homeless_in, is_moved_in, is_unmoved_value, is_unmoved_in, unmoved_in, taken_in}
use Rattle.symbols_taken.specs.Taken.{is_helper, locals_of, is_taken_c, is_placed_in, is_taken_a, symbol_code, has_target, is_homeless, homeless_at, is_unmoved, unmoved_at, taken_verdict}
use Rattle.symbols_taken.specs.Used.{is_section_of, code_of, is_source, is_source_table, uses_symbol, is_used}
use Rattle.symbols_ids.specs.Entries.{finished, late_place, is_placed_a, section_a, value_a, is_glabel_a, type_a, size_a, entry_a}
use Rattle.symbols_ids.specs.Ids.{first_a, first_static, by_origin, name_of, entry_static, entry_of, candidates, merge_candidates}
use Rattle.symbols_ids.specs.Table.{null_entry, result_entry, result_symbols}
use Rattle.symbols_numbers.specs.Numbers.{binding_group, holds_in, number_on, order_in, group_count, group_counts, group_starts, number_at, number_by, new_symbol, new_in}
use Rattle.symbols_numbers.specs.Result.{new_of}
use Rattle.symbols_stage.specs.End.{end_verdict, counts_of, filling_of, numbering_by}
use Rattle.symbols_stage.specs.Verdict.{list_verdict, symbol_stages_verdict}
use Rattle.carry_clash.specs.Clash.{is_stale, leads_out, holds_symbol, is_missed, is_cut, joined_name, name_among, carried_code, is_carried, is_other_table, joined_section, is_misjoined, clash_of, clash_at, clash_finding}
use Rattle.carry_entries.specs.Carried.{is_gone, goal_c, goal_a, carrying_c, carrying_a, carry_verdict}
use Rattle.carry_entries.specs.Code.{late_goal, is_gone_in, goal_in, carrying_in, is_kept_entry, symbol_in, is_lost_entry, carried_to, entry_bytes, placed_bytes, is_still, entry_table_of}
use Rattle.carry_entries.specs.Entries.{is_left_out, is_stuck, goal_place, is_in_result, new_number, entry_goal, entry_symbol, is_kept, carried_entry, kept_count, carried_bytes, loss_in, loss_at, loss_finding}
use Rattle.carry_entries.specs.Entries as Entries
use Rattle.carry_entries.specs.Positions.{kept_positions, left_positions}
use Rattle.carry_homes.specs.Code.{listed_table, home_in, opened_in, in_rank, ranked_count, home_key, kind_name, same_key}
use Rattle.carry_homes.specs.Homes.{carried_rank, carried_tables, carried_count, carried_table, home_name, same_home, has_home, opens_home, new_count, new_tables, opened_by, new_name, home_of, joined_bytes}
use Rattle.write_image.specs.Image.{piece_of, image}
use Rattle.write_image.specs.Layout.{aligned_to, end_before, start_of, headings_at, image_length}
use Rattle.write_object.specs.Object.{has_place, layout_of, written_offset, written_size, written_heading, is_moved_debug, written_content, fails_to_move, moved_finding, written_front, object_bytes}
use Rattle.write_object.specs.Own.{own_plan, own_object, own_end, own_start, rewrite_answer}
use Rattle.write_object.specs.Steps.{front_with, heading_with, size_with, moves_words, moved_bytes, padded_section, padded_piece, placed_piece, pieces_of, headings_of}
use Rattle.write_strings.specs.Strings.{zero_ended, static_string, strings_below, result_strings}
use Rattle.write_plan.specs.Answer.{merged_answer}
use Rattle.write_plan.specs.Names.{name_written}
use Rattle.write_plan.specs.Plan.{new_names, is_planned_table, table_bytes, own_bytes, added_names, planned_bytes, kept_heading, new_heading, merged_plan, merged_object}
use Rattle.write_plan.specs.Tables.{kept_entries, joined_entries, table_entries}
use Rattle.demand_three.specs.of_merge_verdict.Verdict.{merge_bounds, is_path_byte, is_path, references_verdict, late_verdict, stages_verdict, carried_verdict, entries_answer, symbols_answer, late_answer, stages_answer, carried_answer, merge_verdict}
use Rattle.demand_clauses.specs.Demand.{plain_name, DemandThree}
use Rattle.demand_clauses.specs.Reading.{same_reference, reference_at, times_in, referred_symbol, reference_kind, symbol_binding, entries_at, all_entries}
use Rattle.demand_clauses.specs.Reading as Reading
use Rattle.demand_clauses.specs.TakenOver.{defines, has_definition, definition_c, definition_a, definition_static, taken_over, stays_c, references_c, references_a, is_owed_c, is_owed_a, is_owed, origins_at, origins, is_rewritten, is_compiled, object_of, source_of, reference_code, offset_of, is_late_reference, target_of, has_offset, new_offset, is_untouched, is_copied, is_moved_whole, keeps_word, referred_definition, merge_statics}

unfoldable pub everything : ℕ
unfolding pieces_from first_from past_last least count sum gather select flat read_n read_all index_in has_index row_in column_in has_row same prefixed zero_at name_end has_end name_at over_at ascii spliced zeros zeroed_from part_at front_of width_of fields_from record_bytes turned magnitude digits number encoded section_codes code_name code_type holds_bytes leaves_out is_late_target target_code is_broken over_limits Kept expect found_below text decimal_from digits_text decimal_text lined length_outcome outcome_of result_of output_of room_for also if_passed limit_verdict finding_verdict in_group of_group grouped grouped_place holder is_holder mixed_at mixed spread hash_of buckets_of bucket_of hash_in next_in head_in in_bucket linked debug_layout debug_from debug_fields debug_at debug_bytes elf_layout elf_from elf_fields elf_at elf_bytes relocation_layout addend_of relocation_from addend_fields relocation_fields present has_addend relocation_at relocation_bytes section_layout section_from section_fields section_at section_bytes symbol_layout symbol_from symbol_fields symbol_at symbol_bytes order_of header section_count header_place section contents is_strtab section_strings section_name has_name section_named coded_section has_code coded_contents field_fault header_fault null_section_sound unlinked whole_entries bytes_inside header_sound section_sound bad_section count_sound section_fault name_sound bad_name name_fault mistyped coded_after type_fault is_symtab symtab symbol_count symbol_place symbol strtab symbol_strings symbol_name is_symbol_named symbol_named symbol_table zero_entry index_sound symbol_table_sound null_symbol_sound symbol_sound bad_symbol symbol_fault is_rela is_table entry_size relocation_table_sound bad_table relocation_fault relocates table_from relocation_count relocation refuse check_tables check_names check_in check_of coded_sections view_of section_in has_in line_parts every is_digit is_hex_digit is_number number_sound space_at space_in label_sound label_in after_label size_in align_in span_sound line_sound dummy_sound jump_table_sound empty_sound any_sound line_after keys key_name repeats value_sound value_at is_key_line feed_at line_end is_whole line next line_number skip_from skip count_from group_size line_behind group_end group_at is_faulty faulty_group block_at stops_at block_count fault_at block_fault groups block_row block_table group_after group_in bad_line odd_place sizeless early fault8 fault9 is_misplaced misplaced_at placing span_value labelled span_label span_size span_align8 label_symbol has_symbol label_value lacks reached is_placed place_of places_of taken place untaken live end_at held_size place_in places_in place_row place_table off_step low_place on_step on_after step_of hex_digit hex_from dummy_count dummy_line dummy_word jump_table sized late_bytes late_length dummies_in glabel_count glabel is_glabel_at is_glabel gives_size past_sized glabel_size copied_byte copied span_end is_span span_of spans_among spans_of span_at covers is_covered last_end is_word_of replaced_word span_in spans_in span_ends span_row ends_behind span_from next_span check_verdict placing_verdict open_verdict opened_verdict or_byte joined_byte joined Dummies.word_at found shifts placed Dummies.is_lost shift_spot spot is_late has_late_step is_in is_word starts is_moved moved_block moved_item table_word is_jump_word move_covers zeroes place_in_move moved_place offset_in_move covered_by late_byte late_rodata is_dummy first_of_many item_length item_place item_fault last_from items late_source move_source late_from last_place move_place is_move_fault late_step_fault is_shifted is_late_written final_bytes is_written tables_in file_at entry_at among lists_static opens_scope closes_scope storage_code is_offset moves moved_word moved_words moved_debug has_header shift_fails stored_name count_tail working_name name_head written_name written_length names_length is_namesake namesakes static_type static_binding static_row static_rows static_in statics_in is_there listable_in stopped passed list_next nth count_of static_from readable_name entry_inside type_at is_static has_section name_start listable entry_fault list_after entry_place opened closed nested balanced listed_in fault_in completed_in fails_in no_statics descriptor_place descriptor_inside file_record entry_count entries_before entries_start names_start listed_before completed file_fault faulty_file walk_fault walk_list debug_section has_debug debug_part debug_fault debug_list reads_statics statics_fault statics symbol_of_static static_symbol inputs_of inputs_verdict lacking_by asked_c asked_a missing_by goes_to is_target passes has_span is_uneven has_uneven is_lacking wanted_c missing_c wanted_a missing_a lowest_code missing_verdict label_of is_at is_lined is_mislabelled mislabelled_at label_fault late_label late_start late_lined lined_verdict late_label_fault labels_verdict line_up_verdict late_step_of step_finding late_finding result_section register_bytes stays kept is_defined is_unnamed is_local is_gp_disp list_group listed position listed_at is_alike holder_of is_loose is_elsewhere symbols_verdict result_group is_merged group_at_position merged merged_count local_count merged_at held_by number_of is_section_in code_in is_source_in marked used_below used_in used_to used_bytes has_target_in lacks_target_in is_homeless_in homeless_in is_moved_in is_unmoved_value is_unmoved_in unmoved_in taken_in is_helper locals_of is_taken_c is_placed_in is_taken_a symbol_code has_target is_homeless homeless_at is_unmoved unmoved_at taken_verdict is_section_of code_of is_source is_source_table uses_symbol is_used finished late_place is_placed_a section_a value_a is_glabel_a type_a size_a entry_a first_a first_static by_origin name_of entry_static entry_of candidates merge_candidates null_entry result_entry result_symbols binding_group holds_in number_on order_in group_count group_counts group_starts number_at number_by new_symbol new_in new_of end_verdict counts_of filling_of numbering_by list_verdict symbol_stages_verdict is_stale leads_out holds_symbol is_missed is_cut joined_name name_among carried_code is_carried is_other_table joined_section is_misjoined clash_of clash_at clash_finding is_gone goal_c goal_a carrying_c carrying_a carry_verdict late_goal is_gone_in goal_in carrying_in is_kept_entry symbol_in is_lost_entry carried_to entry_bytes placed_bytes is_still entry_table_of is_left_out is_stuck goal_place is_in_result new_number entry_goal entry_symbol is_kept carried_entry kept_count carried_bytes Entries.is_lost loss_in loss_at loss_finding kept_positions left_positions listed_table home_in opened_in in_rank ranked_count home_key kind_name same_key carried_rank carried_tables carried_count carried_table home_name same_home has_home opens_home new_count new_tables opened_by new_name home_of joined_bytes piece_of image aligned_to end_before start_of headings_at image_length has_place layout_of written_offset written_size written_heading is_moved_debug written_content fails_to_move moved_finding written_front object_bytes own_plan own_object own_end own_start rewrite_answer front_with heading_with size_with moves_words moved_bytes padded_section padded_piece placed_piece pieces_of headings_of zero_ended static_string strings_below result_strings merged_answer name_written new_names is_planned_table table_bytes own_bytes added_names planned_bytes kept_heading new_heading merged_plan merged_object kept_entries joined_entries table_entries merge_bounds is_path_byte is_path references_verdict late_verdict stages_verdict carried_verdict entries_answer symbols_answer late_answer stages_answer carried_answer merge_verdict plain_name DemandThree same_reference reference_at times_in referred_symbol reference_kind symbol_binding Reading.word_at entries_at all_entries defines has_definition definition_c definition_a definition_static taken_over stays_c references_c references_a is_owed_c is_owed_a is_owed origins_at origins is_rewritten is_compiled object_of source_of reference_code offset_of is_late_reference target_of has_offset new_offset is_untouched is_copied is_moved_whole keeps_word referred_definition merge_statics
everything = 0
