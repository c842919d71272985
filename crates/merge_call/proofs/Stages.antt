-- What each stage of the merge leaves in the working buffers is what the next one needs; and what the call leaves. Assumes nothing.
use Rattle.std.specs.Prelude.{Option}
use Prim.Native.Nat.{ℕ, ◌≤◌}
use mathlib.Core.Path.{◌≡◌, refl, ap, ◌∙◌}
use mathlib.Core.List.{List}
use native.Mathlib.Omega.{arith}
use lib.ListN.{length}
use Rattle.base_buffers.specs.Buffers.{zeros, zeroed_from}
use Rattle.base_fields.specs.declared.ByteOrder.{ByteOrder}
use Rattle.base_index.specs.Index.{Room}
use Rattle.base_scope.specs.Limits.{SYMBOL_LIMIT, LATE_TABLE, BLOCK_TABLE, PLACE_TABLE, SYMBOL_INDEX}
use Rattle.base_answers.specs.declared.Outcome.{Outcome}
use Rattle.base_answers.specs.Verdicts.{Passed, Refused, Verdict}
use Rattle.base_answers.specs.Answers.{Answer, refused}
use Rattle.base_answers.specs.Answered.{Answered}
use Rattle.base_answers.proofs.Answered.{answered_output}
use Rattle.elf_index.specs.Index.{SymbolIndex}
use Rattle.blocks_places.specs.Lines.{line_count}
use Rattle.blocks_places.specs.Table.{places_in}
use Rattle.open_inputs.specs.Opened.{Opened}
use Rattle.statics_table.specs.Statics.{name_head}
use Rattle.merge_buffers.specs.Buffers.{ROWS_AT, HOLDERS_AT, USED_AT, PLACE_BUFFER, STEP_BUFFER, NAMES_AT, INDEX_BUFFER, blocks_part, places_part, late_step_part, names_part, BuffersHeld}
use Rattle.base_buffers.proofs.Parts.{lent, put_back, part_long, part_lent, put_table, kept_part}
use Rattle.merge_inputs.specs.Taken.{Took}
use Rattle.merge_sections.specs.declared.Stage.{Stage}
use Rattle.merge_sections.specs.Stages.{StageRead, Movable, Searched}
use Rattle.merge_verdict.specs.of_symbols_stage.Verdict.{symbol_stages_verdict}
use Rattle.merge_verdict.specs.of_symbols_stage.declared.Manner.{Manner}
use Rattle.merge_verdict.specs.of_symbols_stage.declared.Counts.{Counts}
use Rattle.merge_verdict.specs.of_symbols_stage.End.{Numbered, SymbolsEnd, end_verdict, SymbolsHeld, StageEnd}
use Rattle.merge_verdict.specs.of_carry_entries.Carried.{carry_verdict}
use Rattle.write_merged.specs.of_carry_stage.declared.Carry.{Carry}
use Rattle.write_merged.specs.of_carry_stage.Tables.{HOMES_AT}
use Rattle.write_merged.specs.of_carry_stage.Carry.{SidesRead, CarryMade, CarryJudged}
use Rattle.write_merged.proofs.of_carry_stage.Stage.{ready_read, ready_movable, ready_symbols, ready_held, ready_carry, sides_read}
use Rattle.write_merged.specs.of_write_planned.Held.{held_places}
use Rattle.merge_verdict.specs.of_write_plan.Answer.{merged_answer}
use Rattle.write_merged.specs.Merged.{MergedReady}
use Rattle.merge_verdict.specs.Verdict.{entries_answer, symbols_answer}
use Rattle.merge_verdict.proofs.Accepted.{answer_symbols, answer_numbered, answer_20, answer_result}
use Rattle.merge_call.specs.Path.{PathHeld}
use Rattle.merge_call.specs.Merged.{Merged}

-- ---- the inputs

-- the places stand at the start of their buffer, as the blocks do in theirs
pub took_put : (from to : ℕ) (places : List ℕ) → from ≡ 0 → to ≡ HOLDERS_AT → PLACE_BUFFER ≤ length places → (C A B : List ℕ) (r : Opened) (table part : List ℕ)
    → length part ≡ length (lent from to places) → Took C A B r table part → Took C A B r table (places_part (put_back from to places part))
took_put from to places starts ends room C A B r table part same w =
    rw (put_table 0 PLACE_TABLE from to places part (put_back from to places part) starts ends (omega (arith, room)) same refl) w

-- ---- the index of A's symbols

-- it stands at the end of its buffer, where there is room for it
module _ (from to : ℕ) (index : List ℕ) (starts : from ≡ NAMES_AT) (ends : to ≡ INDEX_BUFFER) (room : INDEX_BUFFER ≤ length index) where
  pub names_room : Room SYMBOL_LIMIT (lent from to index)
  names_room =
      let e = ap length (part_lent NAMES_AT SYMBOL_INDEX from to index starts ends) ∙ part_long NAMES_AT SYMBOL_INDEX index (omega (arith, room)) in
      record { few = omega arith; long = omega (arith, e) }

  pub names_put : (o : ByteOrder) (A part : List ℕ) → length part ≡ length (lent from to index) → SymbolIndex o A part → SymbolIndex o A (names_part (put_back from to index part))
  names_put o A part same x = rw (put_table NAMES_AT SYMBOL_INDEX from to index part (put_back from to index part) starts ends (omega (arith, room)) same refl) x

-- ---- the late step

-- its table stands at the start of the buffer of steps
pub late_put : (C B : List ℕ) (s : Stage) (lines places : List ℕ) (from to : ℕ) (steps part : List ℕ) (r : Option ℕ) → lines ≡ places_part places → from ≡ 0 → to ≡ USED_AT
    → STEP_BUFFER ≤ length steps → length part ≡ length (lent from to steps) → Searched C B s (places_in lines (line_count B)) r part
    → Searched C B s (held_places B places) r (late_step_part (put_back from to steps part))
late_put C B s lines places from to steps part r p starts ends room same w =
    rw (put_table 0 LATE_TABLE from to steps part (put_back from to steps part) starts ends (omega (arith, room)) same refl, ← p) w

-- and there is room for it
pub late_room : (from to : ℕ) (steps : List ℕ) → from ≡ 0 → to ≡ USED_AT → STEP_BUFFER ≤ length steps → LATE_TABLE ≤ length (lent from to steps)
late_room from to steps starts ends room =
    let e = ap length (part_lent 0 LATE_TABLE from to steps starts ends) ∙ part_long 0 LATE_TABLE steps (omega (arith, room)) in
    omega (arith, e)

-- ---- the symbols

module _ (C A B path : List ℕ) (s : Stage) (w : Manner) (r : SymbolsEnd) (table table1 places places1 steps steps1 index1 : List ℕ)
    (x : StageEnd C A B s w r table table1 places places1 steps steps1 index1) where
  blocks_1 : blocks_part table1 ≡ blocks_part table
  blocks_1 = kept_part ROWS_AT table table1 x.kept_table 0 BLOCK_TABLE (omega arith)

  places_1 : places_part places1 ≡ places_part places
  places_1 = kept_part HOLDERS_AT places places1 x.kept_places 0 PLACE_TABLE (omega arith)

  late_1 : late_step_part steps1 ≡ late_step_part steps
  late_1 = kept_part USED_AT steps steps1 x.kept_steps 0 LATE_TABLE (omega arith)

  -- what was in hand before them stays
  pub read_after : StageRead C A B s (blocks_part table) (places_part places) → StageRead C A B s (blocks_part table1) (places_part places1)
  read_after read = rw (blocks_1, places_1) read

  pub moves_after : Movable C B s (held_places B places) (late_step_part steps) → Movable C B s (held_places B places1) (late_step_part steps1)
  moves_after moves = rw (places_1, late_1) moves

  pub symbols_after : (n : Counts) → r ≡ Numbered n → SymbolsHeld C A B (held_places B places1) s w n table1 steps1 index1
  symbols_after n q = rw places_1 (x.held n q)

  pub held_after : (index : List ℕ) → BuffersHeld table places steps index → length index1 ≡ length index → BuffersHeld table1 places1 steps1 index1
  held_after index b same = record {
    table_long = rw x.kept_table.long b.table_long;
    places_long = rw x.kept_places.long b.places_long;
    steps_long_lem = rw x.kept_steps.long b.steps_long_lem;
    index_long_lem = rw same b.index_long_lem;
  }

  -- and their answer is that of the path's head
  module _ (p : PathHeld path w) (flag room : ℕ) where
    ended : end_verdict r ≡ symbol_stages_verdict s.inputs.order C A (held_places B places) B w.mode (length (name_head w.mode path))
    ended = x.verdict ∙ ap (symbol_stages_verdict s.inputs.order C A (held_places B places) B w.mode) p.head

    pub symbols_refused : (n o q : ℕ) → r ≡ Refused n o q → refused n o q ≡ symbols_answer s.inputs.order C A (held_places B places) B path flag w.mode room
    symbols_refused n o q e = answer_symbols s.inputs.order C A (held_places B places) B path flag w.mode room r ended n o q e

    pub symbols_numbered : (n : Counts) → r ≡ Numbered n
        → entries_answer s.inputs.order C A (held_places B places1) B path flag w.mode room ≡ symbols_answer s.inputs.order C A (held_places B places) B path flag w.mode room
    symbols_numbered n e =
        ap (λ (l : List ℕ). entries_answer s.inputs.order C A (places_in l (line_count B)) B path flag w.mode room) places_1
        ∙ answer_numbered s.inputs.order C A (held_places B places) B path flag w.mode room r ended n e

-- ---- the relocations

-- carrying was made ready behind the symbols
module _ (C A B path : List ℕ) (s : Stage) (w : Manner) (n : Counts) (table places steps index : List ℕ) (read : StageRead C A B s (blocks_part table) (places_part places))
    (moves : Movable C B s (held_places B places) (late_step_part steps)) (symbols : SymbolsHeld C A B (held_places B places) s w n table steps index) (p : PathHeld path w)
    (held : BuffersHeld table places steps index) (flag : ℕ) (k : Carry) (places1 index1 : List ℕ) (m : CarryMade C A B s flag k places places1 index index1) where
  pub carry_sides : SidesRead C A s k steps index1
  carry_sides = sides_read C A _ B s w k steps index1 (ready_carry C A B s w n table places steps index read moves symbols held flag k places1 index1 m)

  -- all that the merged object is written by is in hand
  pub merged_ready : MergedReady C A B path (record { stage = s; manner = w; counts = n; carry = k; flag = flag }) table places1 steps index1
  merged_ready = record {
    held = record {
      read = ready_read C A B s w n table places steps index read moves symbols held flag k places1 index1 m;
      movable = ready_movable C A B s w n table places steps index read moves symbols held flag k places1 index1 m;
      symbols = ready_symbols C A B s w n table places steps index read moves symbols held flag k places1 index1 m;
      carried = m.held;
      buffers = ready_held C A B s w n table places steps index read moves symbols held flag k places1 index1 m;
      short = p.short;
      head = p.head;
    };
    names = read.read.compiled_sound.names;
  }

  -- 20, then the answer of the writer
  module _ (v : Verdict) (j : CarryJudged C A s k v steps index1) (room : ℕ) where
    places_2 : places_part places1 ≡ places_part places
    places_2 = kept_part HOMES_AT places places1 m.kept_places 0 PLACE_TABLE (omega arith)

    judged : v ≡ carry_verdict s.inputs.order C A (held_places B places1) B w.mode (length (name_head w.mode path))
    judged =
        j.is _ B w (ready_carry C A B s w n table places steps index read moves symbols held flag k places1 index1 m)
        ∙ ap (carry_verdict s.inputs.order C A (held_places B places1) B w.mode) p.head

    entries_as : entries_answer s.inputs.order C A (held_places B places1) B path flag w.mode room ≡ entries_answer s.inputs.order C A (held_places B places) B path flag w.mode room
    entries_as = ap (λ (l : List ℕ). entries_answer s.inputs.order C A (places_in l (line_count B)) B path flag w.mode room) places_2

    pub entries_refused : (x y z : ℕ) → v ≡ Refused x y z → refused x y z ≡ entries_answer s.inputs.order C A (held_places B places) B path flag w.mode room
    entries_refused x y z e = answer_20 s.inputs.order C A (held_places B places1) B path flag w.mode room v judged x y z e ∙ entries_as

    pub entries_merged : v ≡ Passed
        → merged_answer s.inputs.order C A (held_places B places1) B path flag w.mode room ≡ entries_answer s.inputs.order C A (held_places B places) B path flag w.mode room
    entries_merged e = answer_result s.inputs.order C A (held_places B places1) B path flag w.mode room v judged e ∙ entries_as

-- ---- the call

-- what was answered, with the rest of the output and the working buffers zeroed
pub merged_of : (a : Answer) (r : Outcome) (out mid after t t' p p' l l' w w' : List ℕ) → Answered a r out mid → after ≡ zeroed_from mid r.length
    → t' ≡ zeros (length t) → p' ≡ zeros (length p) → l' ≡ zeros (length l) → w' ≡ zeros (length w) → Merged a r out after t t' p p' l l' w w'
merged_of a r out mid after t t' p p' l l' w w' d o e f g h = record {
  outcome = d.outcome;
  output = o ∙ answered_output a r out mid d;
  table_zero = e;
  places_zero = f;
  steps_zero = g;
  index_zero = h;
}
