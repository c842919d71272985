-- Document 01, "Known pairs": those with a star, as one table over the definitions that the calls use.
use Rattle.std.specs.Prelude.{ℕ, ◌+◌, true, ◌≡◌, List, [], ◌∷◌, map, None}
use Rattle.base_fields.specs.declared.ByteOrder.TheVariants.{Big}
use Rattle.base_lists.specs.Ranges.{select}
use Rattle.base_lists.specs.Records.{flat}
use Rattle.base_fields.specs.Numbers.{encoded}
use Rattle.base_scope.specs.Text.{text}
use Rattle.base_scope.specs.Refusals.{BLOCK_ALIGNMENT, NAME_TWICE}
use Rattle.base_packed.specs.Packed.{symbol_of, kind_of, relocation_info}
use Rattle.base_answers.specs.Verdicts.{Passed, Refused}
use Rattle.base_answers.specs.Answers.{NONE, COMPILED}
use Rattle.elf_samples.specs.Samples.{label_at}
use Rattle.open_inputs.specs.Open.{open_verdict}
use Rattle.late_dummies.specs.Dummies.{found}
use Rattle.late_moves.specs.Moves.{move_place}
use Rattle.late_moves.specs.Moved.{late_rodata}
use Rattle.statics_shift.specs.Shift.{moved_debug}
use Rattle.statics_table.specs.Statics.{MODE_LOCAL, working_name}
use Rattle.statics_walk.specs.Walk.{statics_fault, statics}
use Rattle.symbols_merge.specs.Candidates.{Candidates}
use Rattle.symbols_merge.specs.Listed.{symbols_verdict}
use Rattle.symbols_merge.specs.Merged.{merged_count, local_count, merged_at}
use Rattle.symbols_ids.specs.Ids.{merge_candidates}
use Rattle.write_image.specs.Layout.{aligned_to}
use Rattle.known_pairs.specs.Jobs.{align_four, align_eight, searched, padded, two_dummies, one_dummy, unplaced, late_words, symbolic_header, twice_in_proc, once_in_file, one_symbol, four_symbols, foo_at}

-- the working names of an object's statics in mode 1
abbrev static_names : List ℕ → List (List ℕ)
static_names C = map (working_name C) (statics Big C MODE_LOCAL 0)

-- the symbols of two objects without blocks and statics, and the names of the first n symbols of the result behind entry 0
abbrev symbols_of : List ℕ → List ℕ → Candidates
symbols_of C A = merge_candidates Big C A [] [] 0 0

abbrev result_names : Candidates → ℕ → List (List ℕ)
result_names s n = select (λ k. true) (λ k. s.name (merged_at s (k + 1))) n

pub record KnownPairs : Type 0 where
  -- r_info 00000304 hex: symbol 3, kind 4. Symbol 12,286, kind 255: 002FFEFF hex
  pub info_symbol : symbol_of 0x00000304 ≡ 3
  pub info_kind : kind_of 0x00000304 ≡ 4
  pub info_joined : relocation_info 12286 255 ≡ 0x002FFEFF
  -- end 52, alignment 16: next 64. Alignment 0 or 1: 52
  pub end_sixteen : aligned_to 52 16 ≡ 64
  pub end_none : aligned_to 52 0 ≡ 52
  pub end_one : aligned_to 52 1 ≡ 52
  -- debug section from 200 to 1F0: offset 260 becomes 250, all hex; with count 0 it stays
  pub offset_moves : moved_debug Big (symbolic_header 1 0x260) 0x200 0x1F0 ≡ symbolic_header 1 0x250
  pub offset_stays : moved_debug Big (symbolic_header 0 0x260) 0x200 0x1F0 ≡ symbolic_header 0 0x260
  -- .rodata 00 E0 12 34 56 E0 12 34 56, dummy E0123456: from 0 at 1, from 2 at 5
  pub found_from_0 : found Big searched 0 0xE0123456 ≡ 1
  pub found_from_2 : found Big searched 2 0xE0123456 ≡ 5
  -- .rodata E0123456 00000000 E0123457, two dummies: 4 and 8, word 0 zero. One dummy: 0
  pub first_of_two : move_place Big unplaced two_dummies padded 0 0 ≡ 4
  pub second_of_two : move_place Big unplaced two_dummies padded 0 1 ≡ 8
  pub word_zeroed : late_rodata Big unplaced two_dummies padded 0 late_words ≡ flat (encoded Big 4) (0 ∷ 0x01020304 ∷ 0x05060708 ∷ [])
  pub one_dummy_lem : move_place Big unplaced one_dummy padded 0 0 ≡ 0
  -- place 12: align8 4 passes, 8 gives 9. Place 16: 8 passes
  pub twelve_four : open_verdict (label_at 12) align_four ≡ Passed
  pub twelve_eight : open_verdict (label_at 12) align_eight ≡ Refused BLOCK_ALIGNMENT COMPILED 0
  pub sixteen_eight : open_verdict (label_at 16) align_eight ≡ Passed
  -- scope file, proc, static n twice: n:1, n:2. At level 1: n
  pub statics_sound : statics_fault Big twice_in_proc MODE_LOCAL 0 ≡ None
  pub statics_counted : static_names twice_in_proc ≡ text "n:1" ∷ text "n:2" ∷ []
  pub static_plain : static_names once_in_file ≡ text "n" ∷ []
  -- C: empty, g defined, u undefined, l local defined: order empty, l, g, u; sh_info 2
  pub symbol_order : result_names (symbols_of four_symbols one_symbol) 3 ≡ text "l" ∷ text "g" ∷ text "u" ∷ []
  pub symbol_count_lem : merged_count (symbols_of four_symbols one_symbol) ≡ 4
  pub symbol_info_lem : local_count (symbols_of four_symbols one_symbol) ≡ 2
  -- foo at .text 8 in both: one symbol. At 8 and 12: 19
  pub foo_sound : symbols_verdict (symbols_of (foo_at 8) (foo_at 8)) ≡ Passed
  pub foo_once : result_names (symbols_of (foo_at 8) (foo_at 8)) 1 ≡ text "foo" ∷ []
  pub foo_count : merged_count (symbols_of (foo_at 8) (foo_at 8)) ≡ 2
  pub foo_twice : symbols_verdict (symbols_of (foo_at 8) (foo_at 12)) ≡ Refused NAME_TWICE NONE 1
