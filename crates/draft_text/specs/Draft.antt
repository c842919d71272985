-- The draft's text (document 01, "Draft"): the prelude; then, block by block, the padding of its lines of sections and, where it stays on, its start labels, `.text`,
-- its lines and its end labels; last the late part. B is the block file, P the places of its lines (the crate blocks_places, specs/Places.antt).
use Rattle.std.specs.Prelude.{ℕ, ◌+◌, ◌-◌, ◌/◌, Bool, true, ◌&&◌, List, [], ◌++◌, eqb, ltb}
use Rattle.base_lists.specs.Ranges.{first, gather, pick_list}
use Rattle.base_scope.specs.Text.{text}
use Rattle.base_scope.specs.Codes.{TEXT, LINES, line_code, line_block, first_line}
use Rattle.base_text.specs.Lines.{lined}
use Rattle.blocks_lines.specs.Keys.{KEY_ASM, KEY_LATE, is_key_line}
use Rattle.blocks_file.specs.Blocks.{group_at, block_at, block_count}
use Rattle.blocks_places.specs.Lines.{line_count, labelled, span_label}
use Rattle.blocks_places.specs.Places.{Place, taken, place, live, end_at}
use Rattle.draft_lines.specs.Lines.{section_line, nop_lines, space_line, label_line, group_lines}

-- what fills a gap in the section of a code: nops in .text, a whole number of words; `.space` in the others
unfoldable pub fill_of : ℕ → ℕ → List ℕ
fill_of code gap = pick_list (eqb code TEXT) (nop_lines (gap / 4)) (space_line gap)

module _ (B : List ℕ) where
  -- the start or end label of line j
  unfoldable pub label_text : List ℕ → ℕ → List ℕ
  label_text suffix j = pick_list (labelled B j) (section_line (line_code j) ++ label_line (span_label B j) suffix) []

  -- those of the lines of block i
  unfoldable pub labels_text : List ℕ → ℕ → List ℕ
  labels_text suffix i = gather (λ k. true) (λ k. label_text suffix (first_line i + k)) LINES

  -- the lines `asm=` and `late=` of block i
  unfoldable pub asm_text : ℕ → List ℕ
  asm_text i = group_lines B KEY_ASM (group_at B (block_at B i) KEY_ASM)

  unfoldable pub late_text : ℕ → List ℕ
  late_text i = group_lines B KEY_LATE (group_at B (block_at B i) KEY_LATE)

  -- what a block that stays on adds
  unfoldable pub body_text : ℕ → List ℕ
  body_text i = labels_text (text "_asm_start") i ++ (lined (text ".text") ++ (asm_text i ++ labels_text (text "_asm_end") i))

module _ (P : List Place) (B : List ℕ) where
  -- from the end before to the place of line j
  unfoldable pub gap : ℕ → ℕ
  gap j = place P j - end_at P B j (line_code j)

  unfoldable pub pad_text : ℕ → List ℕ
  pad_text j = pick_list (taken P j && ltb 0 (gap j)) (section_line (line_code j) ++ fill_of (line_code j) (gap j)) []

  -- what line j adds: its padding, also where its block is switched off; and behind the last line of a block that stays on, the block's body
  unfoldable pub line_text : ℕ → List ℕ
  line_text j = pad_text j ++ pick_list (eqb (line_code j) LINES && live P B (line_block j)) (body_text B (line_block j)) []

  -- what the first n lines add
  unfoldable pub lines_text : ℕ → List ℕ
  lines_text n = gather (λ j. true) line_text n

  -- the late lines of all blocks that stay on
  unfoldable pub late_lines : List ℕ
  late_lines = gather (live P B) (late_text B) (block_count B)

  -- block i stays on and has a late line
  unfoldable pub late_at : ℕ → Bool
  late_at i = live P B i && is_key_line B KEY_LATE (group_at B (block_at B i) KEY_LATE)

  unfoldable pub has_late : Bool
  has_late = ltb (first late_at 0 (block_count B)) (block_count B)

  unfoldable pub late_part : List ℕ
  late_part =
      pick_list has_late
      (lined (text ".section .late_rodata")
      ++ (lined (text ".word 0, 0")
      ++ (lined (text "glabel _asmpp_late_rodata_start")
      ++ (late_lines ++ lined (text "glabel _asmpp_late_rodata_end")))))
      []

  unfoldable pub draft_text : List ℕ → List ℕ
  draft_text prelude = lined prelude ++ (lines_text (line_count B) ++ late_part)
