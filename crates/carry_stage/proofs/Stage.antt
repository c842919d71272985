-- What the stages before leave is all that carrying reads; and what it reads is of C, A and the block file what document 01's definitions say. Assumes nothing.
use Prim.Native.Nat.{ℕ, ◌≤◌}
use mathlib.Core.Path.{◌≡◌, refl, sym, ap, ◌∙◌}
use mathlib.Core.Bool.{true}
use mathlib.Core.List.{List}
use native.Mathlib.Omega.{arith}
use Rattle.base_fields.specs.declared.ByteOrder.{ByteOrder}
use Rattle.base_scope.specs.Codes.{LATE_TARGET}
use Rattle.base_scope.specs.Limits.{ID_LIMIT, POSITION_TABLE, PLACE_TABLE}
use Rattle.base_answers.specs.Answers.{COMPILED, ASSEMBLED}
use Rattle.base_answers.specs.Verdicts.{Passed, Refused, Verdict, finding_verdict}
use Rattle.base_answers.proofs.Verdicts.{also_passed, also_refused}
use Rattle.elf_readers.specs.Readers.{coded_contents}
use Rattle.elf_symbols.specs.Symbols.{symbol_table}
use Rattle.elf_check.specs.declared.View.{View}
use Rattle.elf_check.specs.View.{view_of}
use Rattle.blocks_places.specs.Lines.{line_count}
use Rattle.blocks_places.specs.Places.{Place}
use Rattle.blocks_places.specs.Table.{places_in}
use Rattle.blocks_spans.specs.Spans.{spans_of}
use Rattle.blocks_spans.specs.Copied.{copied}
use Rattle.late_walk.specs.Table.{Moves}
use Rattle.late_laws.proofs.Copied.{moves_copied}
use Rattle.merge_buffers.specs.Buffers.{NUMBERS_AT, blocks_part, places_part, late_step_part, order_part, numbers_part, BuffersHeld}
use Rattle.base_buffers.proofs.Parts.{part_long, kept_part}
use Rattle.merge_labels.specs.Labels.{late_start}
use Rattle.symbols_stage.specs.of_merge_sections.declared.Stage.{Stage}
use Rattle.symbols_stage.specs.of_merge_sections.Stages.{StageRead, Movable}
use Rattle.symbols_stage.proofs.of_merge_sections.Sections.{step_runs, step_start}
use Rattle.carry_entries.specs.of_symbols_ids.Ids.{first_a, merge_candidates}
use Rattle.symbols_numbers.specs.Result.{NumbersOf}
use Rattle.symbols_stage.specs.declared.Manner.{Manner}
use Rattle.symbols_stage.specs.declared.Counts.{Counts}
use Rattle.symbols_stage.specs.End.{SymbolsHeld}
use Rattle.carry_entries.specs.declared.Side.{Side}
use Rattle.carry_entries.specs.Entries.{loss_finding}
use Rattle.carry_entries.specs.Carried.{LOST_ENTRY, carrying_c, carrying_a, carry_verdict}
use Rattle.carry_entries.specs.Code.{carrying_in, EntriesRead}
use Rattle.carry_entries.specs.InHand.{CarryHand, CompiledSide, AssembledSide}
use Rattle.carry_entries.proofs.InHand.{hand_late, carrying_c_lem, carrying_a_lem, symbols_c, symbols_a, carry_is}
use Rattle.carry_stage.specs.declared.Carry.{Carry}
use Rattle.carry_stage.specs.Tables.{CARRY_SPANS_AT, HOMES_AT, text_spans_part}
use Rattle.carry_stage.specs.Carry.{CarryMade, side_of_c, side_of_a, carry_verdict_in, SidesRead, CarryRead, CarryJudged}

-- ---- what the stages before leave

-- behind the symbol merge, and behind what is made ready
module _ (C A B : List ℕ) (s : Stage) (w : Manner) (n : Counts) (table places steps index : List ℕ) (read : StageRead C A B s (blocks_part table) (places_part places))
    (movable : Movable C B s (places_in (places_part places) (line_count B)) (late_step_part steps))
    (symbols : SymbolsHeld C A B (places_in (places_part places) (line_count B)) s w n table steps index) (held : BuffersHeld table places steps index) where
  abbrev P : List Place
  P = places_in (places_part places) (line_count B)

  -- the moves in hand are those of the late target after block copying
  moves_as : s.step.runs ≡ true
      → Moves s.inputs.order P B (copied (spans_of P B LATE_TARGET) (coded_contents s.inputs.order C LATE_TARGET) (coded_contents s.inputs.order A LATE_TARGET))
      (late_start s.inputs.order A) (late_step_part steps)
  moves_as t =
      moves_copied s.inputs.order P B (coded_contents s.inputs.order C LATE_TARGET) (coded_contents s.inputs.order A LATE_TARGET) read.read.laid.fitting
      (late_start s.inputs.order A) (late_step_part steps)
      (rw (← step_start C A B s (blocks_part table) (places_part places) read) (movable t))

  -- carrying is made ready: what was in hand before stays, and all that carrying reads is in hand
  module _ (flag : ℕ) (k : Carry) (placesAfter index_after : List ℕ) (m : CarryMade C A B s flag k places placesAfter index index_after) where
    places_stay : places_part placesAfter ≡ places_part places
    places_stay = kept_part HOMES_AT places placesAfter m.kept_places 0 PLACE_TABLE (omega arith)

    order_stays : order_part index_after ≡ order_part index
    order_stays = kept_part CARRY_SPANS_AT index index_after m.kept_index 0 POSITION_TABLE (omega arith)

    numbers_stay : numbers_part index_after ≡ numbers_part index
    numbers_stay = kept_part CARRY_SPANS_AT index index_after m.kept_index NUMBERS_AT POSITION_TABLE (omega arith)

    pub ready_read : StageRead C A B s (blocks_part table) (places_part placesAfter)
    ready_read = rw places_stay read

    pub ready_movable : Movable C B s (places_in (places_part placesAfter) (line_count B)) (late_step_part steps)
    ready_movable = rw places_stay movable

    pub ready_symbols : SymbolsHeld C A B (places_in (places_part placesAfter) (line_count B)) s w n table steps index_after
    ready_symbols = rw places_stay (record {
      positions = symbols.positions;
      tables = rw order_stays symbols.tables;
      statics_are = symbols.statics_are;
      numbers = rw numbers_stay symbols.numbers;
      locals_are = symbols.locals_are;
    })

    pub ready_held : BuffersHeld table placesAfter steps index_after
    ready_held = record {
      table_long = held.table_long;
      places_long = rw m.kept_places.long held.places_long;
      steps_long_lem = held.steps_long_lem;
      index_long_lem = rw m.kept_index.long held.index_long_lem;
    }

    pub ready_carry : CarryRead C A (places_in (places_part placesAfter) (line_count B)) B s w k steps index_after
    ready_carry = rw places_stay (record {
      compiled = read.read.compiled;
      assembled = read.read.assembled;
      many = read.read.many;
      rows = m.held.rows;
      replaced = rw (← places_stay) m.held.replaced;
      there = step_runs C A B s (blocks_part table) (places_part places) read;
      moves = moves_as;
      numbers = rw numbers_stay symbols.numbers;
      steps_long = held.steps_long_lem;
      index_long = ready_held.index_long_lem;
    })

-- ---- what is in hand of both objects

module _ (C A : List ℕ) (P : List Place) (B : List ℕ) (s : Stage) (w : Manner) (k : Carry) (steps index : List ℕ) (x : CarryRead C A P B s w k steps index) where
  abbrev o : ByteOrder
  o = s.inputs.order

  abbrev rows : List ℕ
  rows = text_spans_part index

  abbrev late : List ℕ
  late = late_step_part steps

  abbrev N : List ℕ
  N = numbers_part index

  few : (merge_candidates o C A P B w.mode w.head).many ≤ ID_LIMIT
  few = omega (arith, x.numbers.long, part_long NUMBERS_AT POSITION_TABLE index (omega (arith, x.index_long)))

  -- what is in hand is of C, A, P and B
  pub hand_c : CarryHand C A P B (side_of_c s k) rows late
  unfolding side_of_c
  hand_c = record { replaced = x.replaced; there = x.there; many = x.many; moves = x.moves }

  pub hand_a : CarryHand C A P B (side_of_a s k) rows late
  unfolding side_of_a
  hand_a = record { replaced = x.replaced; there = x.there; many = x.many; moves = x.moves }

  pub side_c : CompiledSide C (side_of_c s k)
  unfolding side_of_c
  side_c = record { here = refl; start = refl; is = x.compiled.is }

  pub side_a : AssembledSide C A (side_of_a s k)
  unfolding side_of_a first_a view_of symbol_table
  side_a = record { here = refl; start = ap (λ (v : View). v.symbols.count) x.compiled.is; is = x.assembled.is }

  numbers_c : NumbersOf (merge_candidates (side_of_c s k).order C A P B w.mode w.head) N
  unfolding side_of_c
  numbers_c = x.numbers

  numbers_a : NumbersOf (merge_candidates (side_of_a s k).order C A P B w.mode w.head) N
  unfolding side_of_a
  numbers_a = x.numbers

  few_c : (merge_candidates (side_of_c s k).order C A P B w.mode w.head).many ≤ ID_LIMIT
  unfolding side_of_c
  few_c = few

  few_a : (merge_candidates (side_of_a s k).order C A P B w.mode w.head).many ≤ ID_LIMIT
  unfolding side_of_a
  few_a = few

  -- the entries of C can be read; those of A
  pub entries_c : EntriesRead C (side_of_c s k) rows late N
  unfolding side_of_c
  entries_c = record {
    goals = record { viewed = x.compiled; spans = x.rows; moves = hand_late C A P B (side_of_c s k) rows late hand_c };
    symbols = symbols_c C A P B w.mode w.head N (side_of_c s k) rows late hand_c numbers_c side_c few_c;
  }

  pub entries_a : EntriesRead A (side_of_a s k) rows late N
  unfolding side_of_a
  entries_a = record {
    goals = record { viewed = x.assembled; spans = x.rows; moves = hand_late C A P B (side_of_a s k) rows late hand_a };
    symbols = symbols_a C A P B w.mode w.head N (side_of_a s k) rows late hand_a numbers_a side_a few_a;
  }

  pub sides_read : SidesRead C A s k steps index
  sides_read = record { compiled = entries_c; assembled = entries_a; steps_long = x.steps_long; index_long = x.index_long }

  -- and they are carried as document 01 says
  pub carrying_c_is : carrying_in C (side_of_c s k) rows late N ≡ carrying_c o C A P B w.mode w.head
  unfolding side_of_c
  carrying_c_is = carrying_c_lem C A P B w.mode w.head N (side_of_c s k) rows late hand_c numbers_c side_c

  pub carrying_a_is : carrying_in A (side_of_a s k) rows late N ≡ carrying_a o C A P B w.mode w.head
  unfolding side_of_a
  carrying_a_is = carrying_a_lem C A P B w.mode w.head N (side_of_a s k) rows late hand_a numbers_a side_a

  -- refusal 20 by what is in hand is that of document 01
  pub carry_verdict_is : carry_verdict_in C A s k rows late N ≡ carry_verdict o C A P B w.mode w.head
  unfolding carry_verdict_in side_of_c side_of_a
  carry_verdict_is = carry_is C A P B w.mode w.head N (side_of_c s k) (side_of_a s k) rows late hand_c hand_a refl numbers_c side_c side_a

-- ---- C's loss decides, then A's

module _ (C A : List ℕ) (s : Stage) (k : Carry) (rows late N : List ℕ) (c a : Side) (p : c ≡ side_of_c s k) (q : a ≡ side_of_a s k) where
  pub side_reads_c : EntriesRead C (side_of_c s k) rows late N → EntriesRead C c rows late N
  side_reads_c x = rw p x

  pub side_reads_a : EntriesRead A (side_of_a s k) rows late N → EntriesRead A a rows late N
  side_reads_a x = rw q x

  abbrev loss_c : Verdict
  loss_c = finding_verdict LOST_ENTRY COMPILED (loss_finding c.order C (carrying_in C c rows late N))

  abbrev loss_a : Verdict
  loss_a = finding_verdict LOST_ENTRY ASSEMBLED (loss_finding a.order A (carrying_in A a rows late N))

  loss_c_as : loss_c ≡ finding_verdict LOST_ENTRY COMPILED (loss_finding s.inputs.order C (carrying_in C (side_of_c s k) rows late N))
  unfolding side_of_c
  loss_c_as = rw p

  loss_a_as : loss_a ≡ finding_verdict LOST_ENTRY ASSEMBLED (loss_finding s.inputs.order A (carrying_in A (side_of_a s k) rows late N))
  unfolding side_of_a
  loss_a_as = rw q

  pub losses_passed : (v r : Verdict) → v ≡ loss_c → v ≡ Passed → r ≡ loss_a → r ≡ carry_verdict_in C A s k rows late N
  unfolding carry_verdict_in
  losses_passed v r e passed f = f ∙ loss_a_as ∙ sym (also_passed _ _ (sym loss_c_as ∙ sym e ∙ passed))

  pub losses_refused : (v : Verdict) (x y z : ℕ) → v ≡ loss_c → v ≡ Refused x y z → v ≡ carry_verdict_in C A s k rows late N
  unfolding carry_verdict_in
  losses_refused v x y z e refused = refused ∙ sym (also_refused _ _ x y z (sym loss_c_as ∙ sym e ∙ refused))

-- ---- by the tables as they are read

module _ (C A : List ℕ) (s : Stage) (k : Carry) (steps index rows late N : List ℕ) (p : rows ≡ text_spans_part index) (q : late ≡ late_step_part steps)
    (u : N ≡ numbers_part index) where
  pub parts_read : SidesRead C A s k steps index → EntriesRead C (side_of_c s k) rows late N × EntriesRead A (side_of_a s k) rows late N
  parts_read x = rw (p, q, u) (x.compiled, x.assembled)

  pub parts_judged : (v : Verdict) → v ≡ carry_verdict_in C A s k rows late N → CarryJudged C A s k v steps index
  parts_judged v e =
      let f : v ≡ carry_verdict_in C A s k (text_spans_part index) (late_step_part steps) (numbers_part index) = rw (← p, ← q, ← u) e in
      record { read = f; is = λ P B w x. f ∙ carry_verdict_is C A P B s w k steps index x }
