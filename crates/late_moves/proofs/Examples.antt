-- One late step in numbers, by computing the definitions: a block with a span of 8 bytes at 0 of .rodata, two dummies, of which the first moves on, and a jump table of 4
-- bytes. The span holds the first dummy's word too, which no search may find. Assumes nothing.
use Prim.Native.Nat.{ℕ}
use mathlib.Core.Path.{◌≡◌, refl, ◌∙◌}
use mathlib.Core.Bool.{true, false}
use mathlib.Core.List.{List, [], ◌∷◌}
use native.Mathlib.Omega.{arith}
use lib.ListN.{take}
use Rattle.base_lists.specs.Ranges.{first_from, sum}
use Rattle.base_lists.specs.Rows.{index_in, has_index, row_in, has_row}
use Rattle.base_lists.specs.Strings.{same, prefixed}
use Rattle.base_lists.proofs.Ranges.{first_here, first_next}
use Rattle.base_fields.specs.declared.ByteOrder.TheVariants.{Big}
use Rattle.base_fields.specs.Numbers.{turned, magnitude, number}
use Rattle.base_scope.specs.Text.{text}
use Rattle.base_scope.specs.Limits.{BLOCK_LIMIT}
use Rattle.base_text.specs.Decimals.{decimal_from}
use Rattle.blocks_values.specs.Values.{every, is_digit, is_hex_digit, is_number, number_sound, space_at, space_in, label_sound, label_in, after_label, size_in, align_in, span_sound, line_sound, dummy_sound, jump_table_sound, empty_sound, any_sound}
use Rattle.blocks_lines.specs.Lines.{feed_at, line_end, is_whole, line, next}
use Rattle.blocks_lines.specs.Keys.{keys, key_name, repeats, value_sound, value_at, is_key_line}
use Rattle.late_length.specs.of_blocks_file.Blocks.{skip_from, skip, count_from, group_size, line_behind, group_end, group_at, is_faulty, faulty_group, block_at, stops_at, block_count}
use Rattle.late_length.specs.of_blocks_places.Lines.{span_value, labelled, span_size}
use Rattle.late_length.specs.of_blocks_places.Places.{Place, nowhere, taken, place, untaken, live, end_at}
use Rattle.late_length.specs.of_blocks_items.Items.{hex_digit, hex_from, dummy_count, dummy_line, dummy_word, jump_table}
use Rattle.late_dummies.specs.Dummies.{word_at, found, shifts, placed}
use Rattle.late_moves.specs.Moves.{is_dummy, first_of_many, item_length, item_place, item_fault, last_from, items, late_source, move_source, late_from, last_place, move_place, is_shifted}
use Rattle.late_moves.specs.Moved.{is_in, is_word, move_covers, zeroes, late_byte}

abbrev pub file : List ℕ
file = text "desc=\ntext=\ndata=\nrodata=r 8 0\nbss=\ndummy=e0123456\ndummy=e0123457\njtbl=4\nend=\n"

-- the line `rodata=` has its span at 0; and where its label is absent from C
abbrev pub there : List Place
there = nowhere ∷ nowhere ∷ record { taken = true; at = 0 } ∷ nowhere ∷ []

abbrev pub absent : List Place
absent = nowhere ∷ nowhere ∷ nowhere ∷ nowhere ∷ []

abbrev pub rodata : List ℕ
rodata = 0 ∷ 0 ∷ 0 ∷ 0 ∷ 0xE0 ∷ 0x12 ∷ 0x34 ∷ 0x56 ∷ 0xE0 ∷ 0x12 ∷ 0x34 ∷ 0x56 ∷ 0 ∷ 0 ∷ 0 ∷ 0 ∷ 0xE0 ∷ 0x12 ∷ 0x34 ∷ 0x57 ∷ 0 ∷ 0 ∷ 0 ∷ 0 ∷ []

-- ---- what is read of the block file

pub record FileRead (B : List ℕ) : Type 0 where
  pub dummies : dummy_count B 0 ≡ 2
  pub first_word : dummy_word B 0 0 ≡ 0xE0123456
  pub second_word : dummy_word B 0 1 ≡ 0xE0123457
  pub table : jump_table B 0 ≡ 4
  pub labels : (labelled B 0 ≡ false) × (labelled B 1 ≡ false) × (labelled B 2 ≡ true) × (labelled B 3 ≡ false)
  pub size : span_size B 2 ≡ 8
  pub starts : stops_at B 0 ≡ false
  pub stops : stops_at B 1 ≡ true

pub read : FileRead file
unfolding dummy_count dummy_word dummy_line jump_table labelled span_size span_value stops_at faulty_group is_faulty hex_from hex_digit line_behind group_size count_from group_at group_end block_at skip skip_from repeats keys is_key_line is_whole next line line_end feed_at value_at key_name value_sound prefixed same text first_from line_sound span_sound any_sound label_sound dummy_sound jump_table_sound empty_sound every is_hex_digit is_digit number_sound is_number decimal_from space_in space_at size_in align_in after_label label_in
read = record { dummies = refl; first_word = refl; second_word = refl; table = refl; labels = (refl, refl, refl, refl); size = refl; starts = refl; stops = refl }

blocks : block_count file ≡ 1
unfolding block_count
blocks = first_next (stops_at file) 0 BLOCK_LIMIT (omega arith) read.starts ∙ first_here (stops_at file) 1 BLOCK_LIMIT (omega arith) read.stops

-- ---- a block that is switched off has no items; this one has three

pub off_items : items absent file 0 ≡ 0
unfolding items live untaken taken first_from
off_items = rw (read.labels.0, read.labels.1, read.labels.2)

three_items : items there file 0 ≡ 3
unfolding items live untaken taken first_from
three_items = rw (read.labels.0, read.labels.1, read.labels.2, read.labels.3, read.dummies)

-- ---- places: the search begins behind the span, at 8; the first dummy is found there and moves on to 12, and the next search begins at 16

pub search_start : late_from Big there file rodata 0 ≡ 8
unfolding late_from end_at taken place
search_start = rw (blocks, read.size)

pub first_place : item_place Big file rodata 0 8 0 ≡ 12
unfolding item_place is_dummy first_of_many placed shifts found word_at first_from number turned magnitude
first_place = rw (read.dummies, read.first_word)

pub second_last : last_from Big file rodata 0 8 1 ≡ 16
unfolding last_from item_place item_length is_dummy first_of_many placed shifts found word_at first_from number turned magnitude
second_last = rw (read.dummies, read.first_word)

-- ---- refusal 14: a jump table of 4 bytes at 20 ends at 24

pub past_end : item_fault Big file (take 23 rodata) 0 20 2 ≡ true
unfolding item_fault is_dummy
past_end = rw (read.dummies, read.table)

pub at_end : item_fault Big file rodata 0 20 2 ≡ false
unfolding item_fault is_dummy
at_end = rw (read.dummies, read.table)

-- ---- sources: with the late span at 100 the second dummy's word is at 104

pub second_source : move_source there file 100 0 1 ≡ 104
unfolding move_source late_source sum
second_source = refl

-- ---- the words of a jump table of 8 bytes at 4 start at 4 and 8

pub table_word_lem : is_word 4 8 8 ≡ true
unfolding is_word is_in
table_word_lem = refl

-- ---- the final .rodata: the first dummy's old word, at 8, is zero

pub old_word : (W : List ℕ) → late_byte Big there file rodata 100 W 8 ≡ 0
unfolding late_byte has_row row_in has_index index_in move_covers zeroes is_in is_shifted move_place last_place last_from item_place item_length is_dummy first_of_many placed shifts found word_at first_from number turned magnitude
old_word W = rw (blocks, three_items, search_start, read.dummies, read.first_word, read.second_word)
