-- How C's entries and A's are carried (document 01, "Carrying"): "C's relocations whose offset is the start of a replaced .text word or of a jump-table word are left out"; A's
-- that 000 adds are those of its five sections that hold bytes, and late ones move. P are the places of the lines of the block file B.
use Rattle.std.specs.Prelude.{ℕ, Bool, true, false, ◌&&◌, ◌||◌, List, eqb}
use Rattle.base_fields.specs.declared.ByteOrder.{ByteOrder}
use Rattle.base_scope.specs.Codes.{LATE_RODATA, LATE_TARGET, leaves_out, is_late_target}
use Rattle.base_answers.specs.Answers.{COMPILED, ASSEMBLED}
use Rattle.base_answers.specs.Verdicts.{Verdict, also, finding_verdict}
use Rattle.elf_readers.specs.Readers.{coded_contents}
use Rattle.elf_symbols.specs.Symbols.{symbol_count}
use Rattle.elf_relocations.specs.Relocations.{is_table}
use Rattle.blocks_places.specs.Places.{Place}
use Rattle.blocks_spans.specs.Spans.{spans_of, replaced_word}
use Rattle.blocks_spans.specs.Copied.{copied}
use Rattle.late_length.specs.Late.{has_late_step}
use Rattle.carry_clash.specs.of_late_moves.Moved.{is_moved, is_jump_word}
use Rattle.carry_clash.specs.of_merge_labels.Labels.{late_start}
use Rattle.symbols_fill.specs.of_symbols_ids.Entries.{late_place}
use Rattle.symbols_fill.specs.of_symbols_ids.Ids.{first_a, merge_candidates}
use Rattle.symbols_numbers.specs.Result.{new_of}
use Rattle.carry_clash.specs.Clash.{is_carried}
use Rattle.carry_entries.specs.declared.Goal.{Goal}
use Rattle.carry_entries.specs.declared.Goal.TheVariants.{To, LeftOut, Unmoved}
use Rattle.carry_entries.specs.Entries.{Carrying, loss_finding}

-- refusal 20
abbrev pub LOST_ENTRY : ℕ
LOST_ENTRY = 20

abbrev pub pick_goal : Bool → Goal → Goal → Goal
pick_goal true a b = a
pick_goal false a b = b

module _ (o : ByteOrder) (C A : List ℕ) (P : List Place) (B : List ℕ) where
  -- a word starts at x of C's section of code c that a block's copy replaces, or that is one of a jump table
  unfoldable pub is_gone : ℕ → ℕ → Bool
  is_gone c x =
      (leaves_out c && replaced_word (spans_of P B c) x)
      || (is_late_target c && (has_late_step P B && is_jump_word o P B (copied (spans_of P B LATE_TARGET) (coded_contents o C LATE_TARGET) (coded_contents o A LATE_TARGET)) x))

  -- offset x of C's section of code c; of A's
  unfoldable pub goal_c : ℕ → ℕ → Goal
  goal_c c x = pick_goal (is_gone c x) LeftOut (To x)

  unfoldable pub goal_a : ℕ → ℕ → Goal
  goal_a c x =
      pick_goal (eqb c LATE_RODATA)
      (pick_goal (has_late_step P B && is_moved P B (late_start o A) x) (To (late_place o C A P B x)) Unmoved)
      (To x)

  -- the mode of the statics, which puts `head` bytes in front of a name
  module _ (mode head : ℕ) where
    unfoldable pub carrying_c : Carrying
    carrying_c = record { tables = is_table o C; goal = goal_c; new = new_of (merge_candidates o C A P B mode head) 0 (symbol_count o C) }

    unfoldable pub carrying_a : Carrying
    carrying_a = record { tables = is_carried o A; goal = goal_a; new = new_of (merge_candidates o C A P B mode head) (first_a o C A) (symbol_count o A) }

    unfoldable pub carry_verdict : Verdict
    carry_verdict =
        also (finding_verdict LOST_ENTRY COMPILED (loss_finding o C carrying_c))
        (finding_verdict LOST_ENTRY ASSEMBLED (loss_finding o A carrying_a))
