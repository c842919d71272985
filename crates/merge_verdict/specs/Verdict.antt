-- The merge, whole (document 01, "Order"): 1; the inputs, C by 2 to 6, 7, blocks by 8 and 9, A by 2 to 6; 10; 11, 12 and 13; 14; 15 to 19; 20; 17 of a debug section that cannot
-- move; 21. What it gives back is the merged object.
use Rattle.std.specs.Prelude.{ℕ, ◌≤◌, ◌≡◌, Bool, true, not, ◌&&◌, ◌||◌, List, [], ◌∷◌, length, get_or, eqb, ltb, leb, None}
use Rattle.base_lists.specs.Ranges.{first}
use Rattle.base_fields.specs.declared.ByteOrder.{ByteOrder}
use Rattle.base_scope.specs.Codes.{LATE_TARGET}
use Rattle.base_scope.specs.Limits.{FILE_LIMIT, PATH_LIMIT, Bound, at_most, at_least, over_limits}
use Rattle.base_scope.specs.Refusals.{LATE_STEP}
use Rattle.base_answers.specs.Answers.{Answer, COMPILED}
use Rattle.base_answers.specs.Verdicts.{Passed, Verdict, also, if_passed, limit_verdict, finding_verdict}
use Rattle.elf_readers.specs.Readers.{order_of, coded_contents}
use Rattle.blocks_file.specs.Blocks.{block_count}
use Rattle.blocks_places.specs.Places.{Place, places_of}
use Rattle.blocks_spans.specs.Spans.{spans_of}
use Rattle.blocks_spans.specs.Copied.{copied}
use Rattle.late_length.specs.Late.{has_late_step}
use Rattle.late_moves.specs.Moves.{late_step_fault}
use Rattle.statics_table.specs.Statics.{name_head}
use Rattle.merge_buffers.specs.Buffers.{BLOCK_BUFFER, PLACE_BUFFER, STEP_BUFFER, INDEX_BUFFER}
use Rattle.merge_inputs.specs.Verdict.{inputs_verdict, InputsPassed}
use Rattle.write_plan.specs.of_merge_line_up.LineUp.{line_up_verdict}
use Rattle.write_plan.specs.of_merge_line_up.Agrees.{Agrees}
use Rattle.write_plan.specs.of_merge_sections.Sections.{late_finding}
use Rattle.symbols_stage.specs.Verdict.{symbol_stages_verdict}
use Rattle.write_plan.specs.of_carry_clash.Clash.{CLASH, clash_finding}
use Rattle.write_plan.specs.of_carry_entries.Carried.{carry_verdict}
use Rattle.write_object.specs.Object.{moved_finding}
use Rattle.write_plan.specs.Plan.{merged_plan, merged_object}
use Rattle.write_plan.specs.Answer.{merged_answer}

-- refusal 1: the lengths of C, A and the block file, the drop flag, the statics mode, and the lengths of the working buffers
unfoldable pub merge_bounds : ℕ → ℕ → ℕ → ℕ → ℕ → ℕ → ℕ → ℕ → ℕ → List Bound
merge_bounds compiled assembled blocks flag mode table places steps index =
    at_most FILE_LIMIT compiled
    ∷ at_most FILE_LIMIT assembled
    ∷ at_most FILE_LIMIT blocks
    ∷ at_most 1 flag
    ∷ at_most 3 mode
    ∷ at_least BLOCK_BUFFER table
    ∷ at_least PLACE_BUFFER places
    ∷ at_least STEP_BUFFER steps
    ∷ at_least INDEX_BUFFER index
    ∷ []

-- and the path: at most 255 bytes, none of them 0 or over 127
unfoldable pub is_path_byte : ℕ → Bool
is_path_byte x = ltb 0 x && ltb x 128

unfoldable pub is_path : List ℕ → Bool
is_path p = leb (length p) PATH_LIMIT && eqb (first (λ k. not (is_path_byte (get_or p k 0))) 0 (length p)) (length p)

-- P are the places of the lines of the block file B; the flag drops C's trailing debug sections; mode and path say how statics are named
module _ (o : ByteOrder) (C A : List ℕ) (P : List Place) (B path : List ℕ) (flag mode : ℕ) where
  -- how many bytes the mode puts in front of a static's name
  abbrev head : ℕ
  head = length (name_head mode path)

  -- 15 to 20, behind the late step
  unfoldable pub references_verdict : Verdict
  references_verdict = also (symbol_stages_verdict o C A P B mode head) (carry_verdict o C A P B mode head)

  -- 14 to 20, behind the line-up
  unfoldable pub late_verdict : Verdict
  late_verdict = also (finding_verdict LATE_STEP COMPILED (late_finding o C A P B)) references_verdict

  -- 11 to 20, behind 10
  unfoldable pub stages_verdict : Verdict
  stages_verdict = also (line_up_verdict o C A P B) late_verdict

  -- 10 to 20, behind the inputs
  unfoldable pub carried_verdict : Verdict
  carried_verdict = also (finding_verdict CLASH COMPILED (clash_finding o C A flag)) stages_verdict

  -- each with what comes behind 20: the merged object, 17 of a moved debug section or 21. Room is the output's length.
  unfoldable pub entries_answer : ℕ → Answer
  entries_answer room = if_passed (carry_verdict o C A P B mode head) (merged_answer o C A P B path flag mode room)

  unfoldable pub symbols_answer : ℕ → Answer
  symbols_answer room = if_passed references_verdict (merged_answer o C A P B path flag mode room)

  unfoldable pub late_answer : ℕ → Answer
  late_answer room = if_passed late_verdict (merged_answer o C A P B path flag mode room)

  unfoldable pub stages_answer : ℕ → Answer
  stages_answer room = if_passed stages_verdict (merged_answer o C A P B path flag mode room)

  unfoldable pub carried_answer : ℕ → Answer
  carried_answer room = if_passed carried_verdict (merged_answer o C A P B path flag mode room)

module _ (C A B path : List ℕ) (flag mode : ℕ) where
  -- the whole call: room is the output's length, the others those of the working buffers
  unfoldable pub merge_verdict : ℕ → ℕ → ℕ → ℕ → ℕ → Answer
  merge_verdict room table places steps index =
      if_passed
      (also (limit_verdict (over_limits (merge_bounds (length C) (length A) (length B) flag mode table places steps index) || not (is_path path)))
      (inputs_verdict C A B))
      (carried_answer (order_of C) C A (places_of (order_of C) C B) B path flag mode room)

  -- what an accepted answer O says of the inputs (proofs/Accepted.antt, `merge_accepted`): every test passed, and O is the object that the plan writes. No buffer is spoken of.
  pub record MergePassed (O : List ℕ) : Type 0 where
    pub compiled_limit : length C ≤ FILE_LIMIT
    pub assembled_limit : length A ≤ FILE_LIMIT
    pub blocks_limit : length B ≤ FILE_LIMIT
    pub flag_limit : flag ≤ 1
    pub mode_limit : mode ≤ 3
    pub path_is : is_path path ≡ true
    pub inputs : InputsPassed C A B
    pub unclashed : clash_finding (order_of C) C A flag ≡ None
    pub agrees : Agrees (order_of C) C A (places_of (order_of C) C B) B
    pub moved : has_late_step (places_of (order_of C) C B) B ≡ true
        → late_step_fault (order_of C) (places_of (order_of C) C B) B
        (copied (spans_of (places_of (order_of C) C B) B LATE_TARGET) (coded_contents (order_of C) C LATE_TARGET) (coded_contents (order_of C) A LATE_TARGET))
        ≡ block_count B
    pub symbols : symbol_stages_verdict (order_of C) C A (places_of (order_of C) C B) B mode (length (name_head mode path)) ≡ Passed
    pub carried : carry_verdict (order_of C) C A (places_of (order_of C) C B) B mode (length (name_head mode path)) ≡ Passed
    pub movable : moved_finding (merged_plan (order_of C) C A (places_of (order_of C) C B) B path flag mode) (order_of C) ≡ None
    pub object : O ≡ merged_object (order_of C) C A (places_of (order_of C) C B) B path flag mode
