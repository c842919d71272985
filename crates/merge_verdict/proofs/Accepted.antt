-- The verdict of the merge in each way through its tests, and what an accepted answer says of its inputs. Assumes nothing.
use Rattle.std.specs.Prelude.{None, Some, Option}
use mathlib.Core.Path.{◌≡◌, sym, ap, ◌∙◌}
use mathlib.Core.Bool.{Bool, true, false, not, ◌||◌}
use mathlib.Core.List.{List, []}
use Prim.Native.Nat.{ℕ, ◌≤◌}
use native.Mathlib.Omega.{arith}
use lib.ListN.{length}
use Rattle.base_lists.specs.Rows.{has_index, row_in}
use Rattle.base_lists.proofs.Ranges.{first_high}
use Rattle.base_fields.specs.declared.ByteOrder.{ByteOrder}
use Rattle.base_scope.specs.Codes.{LATE_TARGET}
use Rattle.base_scope.specs.Limits.{over_limits}
use Rattle.base_scope.specs.Refusals.{LIMITS, LATE_STEP, STATICS}
use Rattle.base_scope.proofs.Refusals.{found_clear}
use Rattle.base_answers.specs.Answers.{accepted, refused, NONE, COMPILED}
use Rattle.base_answers.specs.Verdicts.{Passed, Refused, Verdict, also, if_passed, finding_verdict}
use Rattle.base_answers.proofs.Verdicts.{also_passed, also_refused, also_parts, if_passed_lem, if_refused, if_accepted, room_accepted, limit_kept, limit_broken, limit_passed, finding_clear, finding_at, finding_passed}
use Rattle.elf_readers.specs.Readers.{order_of, coded_contents}
use Rattle.blocks_file.specs.Blocks.{block_count}
use Rattle.blocks_places.specs.Lines.{line_count}
use Rattle.blocks_places.specs.Places.{Place, places_of}
use Rattle.blocks_places.specs.Table.{places_in}
use Rattle.blocks_spans.specs.Spans.{spans_of}
use Rattle.blocks_spans.specs.Copied.{copied}
use Rattle.late_length.specs.declared.LateStep.{LateStep}
use Rattle.late_length.specs.Late.{has_late_step}
use Rattle.late_moves.specs.Moves.{items, is_move_fault, late_step_fault}
use Rattle.open_inputs.specs.Opened.{Blocks, Opened, opened_verdict}
use Rattle.statics_table.specs.Statics.{name_head}
use Rattle.merge_inputs.specs.declared.Inputs.{Inputs}
use Rattle.merge_inputs.specs.Verdict.{inputs_verdict}
use Rattle.merge_inputs.specs.Taken.{inputs_of, InputsRead}
use Rattle.merge_inputs.proofs.Reading.{inputs_passed}
use Rattle.write_plan.specs.of_merge_line_up.LineUp.{line_up_verdict}
use Rattle.write_plan.specs.of_merge_line_up.Answer.{Lined, LinedUp, lined_verdict, LinesUp}
use Rattle.write_plan.proofs.of_merge_line_up.Agrees.{agrees_of}
use Rattle.write_plan.specs.of_merge_sections.Sections.{step_finding, late_finding}
use Rattle.write_plan.specs.of_merge_sections.Stages.{StageRead}
use Rattle.symbols_stage.specs.Verdict.{symbol_stages_verdict}
use Rattle.symbols_stage.specs.declared.Counts.{Counts}
use Rattle.symbols_stage.specs.End.{Numbered, SymbolsEnd, end_verdict}
use Rattle.write_plan.specs.of_carry_clash.Clash.{CLASH, clash_finding}
use Rattle.write_plan.specs.of_carry_entries.Carried.{carry_verdict}
use Rattle.write_object.specs.Object.{moved_finding}
use Rattle.write_plan.specs.Plan.{merged_plan, merged_object}
use Rattle.write_plan.specs.Answer.{merged_answer}
use Rattle.merge_verdict.specs.Verdict.{merge_bounds, is_path, references_verdict, late_verdict, stages_verdict, carried_verdict, entries_answer, symbols_answer, late_answer, stages_answer, carried_answer, merge_verdict, MergePassed}
use Rattle.merge_verdict.proofs.Limits.{merge_limits}

fault_high : (o : ByteOrder) (P : List Place) (B R : List ℕ) → late_step_fault o P B R ≤ block_count B
unfolding late_step_fault row_in
fault_high o P B R = first_high (has_index (is_move_fault o P B R) (items P B)) 0 (block_count B) (omega arith)

module _ (o : ByteOrder) (C A : List ℕ) (P : List Place) (B path : List ℕ) (flag mode room : ℕ) where
  abbrev head : ℕ
  head = length (name_head mode path)

  -- ---- 15 to 19

  module _ (e : SymbolsEnd) (is : end_verdict e ≡ symbol_stages_verdict o C A P B mode head) where
    pub answer_symbols : (n x p : ℕ) → e ≡ Refused n x p → refused n x p ≡ symbols_answer o C A P B path flag mode room
    unfolding symbols_answer references_verdict end_verdict
    answer_symbols n x p q = sym (if_refused _ _ n x p (also_refused _ _ n x p (sym is ∙ ap end_verdict q)))

    pub answer_numbered : (c : Counts) → e ≡ Numbered c → entries_answer o C A P B path flag mode room ≡ symbols_answer o C A P B path flag mode room
    unfolding symbols_answer entries_answer references_verdict end_verdict
    answer_numbered c q = sym (ap (λ (v : Verdict). if_passed v (merged_answer o C A P B path flag mode room)) (also_passed _ _ (sym is ∙ ap end_verdict q)))

  -- ---- 20

  module _ (v : Verdict) (is : v ≡ carry_verdict o C A P B mode head) where
    pub answer_20 : (n x p : ℕ) → v ≡ Refused n x p → refused n x p ≡ entries_answer o C A P B path flag mode room
    unfolding entries_answer
    answer_20 n x p q = sym (if_refused _ _ n x p (sym is ∙ q))

    pub answer_result : v ≡ Passed → merged_answer o C A P B path flag mode room ≡ entries_answer o C A P B path flag mode room
    unfolding entries_answer
    answer_result q = sym (if_passed_lem _ _ (sym is ∙ q))

  -- ---- 14

  module _ (f : Option ℕ) (is : f ≡ late_finding o C A P B) where
    late_by : late_verdict o C A P B path flag mode ≡ also (finding_verdict LATE_STEP COMPILED f) (references_verdict o C A P B path flag mode)
    unfolding late_verdict
    late_by = rw is

    pub answer_14 : (block : ℕ) → f ≡ Some block → refused LATE_STEP COMPILED block ≡ late_answer o C A P B path flag mode room
    unfolding late_answer
    answer_14 block t = sym (if_refused _ _ LATE_STEP COMPILED block (late_by ∙ also_refused _ _ LATE_STEP COMPILED block (finding_at LATE_STEP COMPILED f block t)))

    pub answer_moved : f ≡ None → symbols_answer o C A P B path flag mode room ≡ late_answer o C A P B path flag mode room
    unfolding late_answer symbols_answer
    answer_moved t = sym (ap (λ (v : Verdict). if_passed v (merged_answer o C A P B path flag mode room)) (late_by ∙ also_passed _ _ (finding_clear LATE_STEP COMPILED f t)))

  -- ---- 10

  module _ (f : Option ℕ) (is : f ≡ clash_finding o C A flag) where
    clash_by : carried_verdict o C A P B path flag mode ≡ also (finding_verdict CLASH COMPILED f) (stages_verdict o C A P B path flag mode)
    unfolding carried_verdict
    clash_by = rw is

    pub answer_10 : (i : ℕ) → f ≡ Some i → refused CLASH COMPILED i ≡ carried_answer o C A P B path flag mode room
    unfolding carried_answer
    answer_10 i t = sym (if_refused _ _ CLASH COMPILED i (clash_by ∙ also_refused _ _ CLASH COMPILED i (finding_at CLASH COMPILED f i t)))

    pub answer_unclashed : f ≡ None → stages_answer o C A P B path flag mode room ≡ carried_answer o C A P B path flag mode room
    unfolding carried_answer stages_answer
    answer_unclashed t = sym (ap (λ (v : Verdict). if_passed v (merged_answer o C A P B path flag mode room)) (clash_by ∙ also_passed _ _ (finding_clear CLASH COMPILED f t)))

  -- ---- 11 to 13

  module _ (r : LinedUp) (w : LinesUp o C A P B r) where
    pub answer_unlined : (n x p : ℕ) → r ≡ Refused n x p → refused n x p ≡ stages_answer o C A P B path flag mode room
    unfolding stages_answer stages_verdict lined_verdict
    answer_unlined n x p e = sym (if_refused _ _ n x p (also_refused _ _ n x p (sym w.verdict ∙ ap lined_verdict e)))

    pub lined_passed : (s : LateStep) → r ≡ Lined s → line_up_verdict o C A P B ≡ Passed
    unfolding lined_verdict
    lined_passed s e = sym w.verdict ∙ ap lined_verdict e

    pub answer_lined : (s : LateStep) → r ≡ Lined s → late_answer o C A P B path flag mode room ≡ stages_answer o C A P B path flag mode room
    unfolding stages_answer stages_verdict late_answer
    answer_lined s e = sym (ap (λ (v : Verdict). if_passed v (merged_answer o C A P B path flag mode room)) (also_passed _ _ (lined_passed s e)))

-- what is in hand behind 13
pub stage_read : (C A B : List ℕ) (i : Inputs) (table places : List ℕ) → InputsRead C A B i table places → (r : LinedUp)
    → LinesUp i.order C A (places_in places (line_count B)) B r → (s : LateStep) → r ≡ Lined s → StageRead C A B (record { inputs = i; step = s }) table places
stage_read C A B i table places w r u s e = record {
  read = w;
  agrees = agrees_of i.order C A (places_in places (line_count B)) B (lined_passed i.order C A (places_in places (line_count B)) B [] 0 0 0 r u s e);
  step = u.step s e;
}

-- ---- the whole call

module _ (C A B path : List ℕ) (flag mode room table places steps index : ℕ) where
  abbrev broken : Bool
  broken = over_limits (merge_bounds (length C) (length A) (length B) flag mode table places steps index) || not (is_path path)

  pub verdict_over : broken ≡ true → refused LIMITS NONE 0 ≡ merge_verdict C A B path flag mode room table places steps index
  unfolding merge_verdict
  verdict_over t = sym (if_refused _ _ LIMITS NONE 0 (also_refused _ _ LIMITS NONE 0 (limit_broken _ t)))

  module _ (kept : broken ≡ false) (r : Opened) (is : opened_verdict r ≡ inputs_verdict C A B) where
    pub verdict_refused : (n o p : ℕ) → r ≡ Refused n o p → refused n o p ≡ merge_verdict C A B path flag mode room table places steps index
    unfolding merge_verdict opened_verdict
    verdict_refused n o p e = sym (if_refused _ _ n o p (also_passed _ _ (limit_kept _ kept) ∙ sym is ∙ ap opened_verdict e))

    pub verdict_stages : (n : ℕ) → r ≡ Blocks n → (i : Inputs) → i ≡ inputs_of C A n → (P : List Place) → P ≡ places_of i.order C B
        → carried_answer i.order C A P B path flag mode room ≡ merge_verdict C A B path flag mode room table places steps index
    unfolding merge_verdict opened_verdict inputs_of
    verdict_stages n e i q P at =
        let o : i.order ≡ order_of C = ap (λ (x : Inputs). x.order) q in
        ap (λ (x : List Place). carried_answer i.order C A x B path flag mode room) (at ∙ ap (λ (x : ByteOrder). places_of x C B) o)
        ∙ ap (λ (x : ByteOrder). carried_answer x C A (places_of (order_of C) C B) B path flag mode room) o
        ∙ sym (if_passed_lem _ _ (also_passed _ _ (limit_kept _ kept) ∙ sym is ∙ ap opened_verdict e))

  -- ---- what an accepted answer says

  module _ (O : List ℕ) (e : merge_verdict C A B path flag mode room table places steps index ≡ accepted O) where
    abbrev P : List Place
    P = places_of (order_of C) C B

    tests : (broken ≡ false) × (inputs_verdict C A B ≡ Passed) × (carried_verdict (order_of C) C A P B path flag mode ≡ Passed)
        × (moved_finding (merged_plan (order_of C) C A P B path flag mode) (order_of C) ≡ None) × (O ≡ merged_object (order_of C) C A P B path flag mode)
    unfolding merge_verdict carried_answer merged_answer
    tests =
        let a = if_accepted _ _ O e in
        let b = also_parts _ _ a.0 in
        let c = if_accepted _ _ O a.1 in
        let d = if_accepted _ _ O c.1 in
        let f = room_accepted _ O room d.1 in
        (limit_passed _ b.0, b.1, c.0, finding_passed STATICS COMPILED _ d.0, f.0)

    stages : (clash_finding (order_of C) C A flag ≡ None) × (line_up_verdict (order_of C) C A P B ≡ Passed) × (late_finding (order_of C) C A P B ≡ None) × (symbol_stages_verdict (order_of C) C A P B mode (length (name_head mode path)) ≡ Passed)
        × (carry_verdict (order_of C) C A P B mode (length (name_head mode path)) ≡ Passed)
    unfolding carried_verdict stages_verdict late_verdict references_verdict
    stages =
        let x = also_parts _ _ tests.2 in
        let a = also_parts _ _ x.1 in
        let b = also_parts _ _ a.1 in
        let y = also_parts _ _ b.1 in
        (finding_passed CLASH COMPILED _ x.0, a.0, finding_passed LATE_STEP COMPILED _ b.0, y.0, y.1)

    no_fault : has_late_step P B ≡ true
        → late_step_fault (order_of C) P B (copied (spans_of P B LATE_TARGET) (coded_contents (order_of C) C LATE_TARGET) (coded_contents (order_of C) A LATE_TARGET)) ≡ block_count B
    unfolding late_finding step_finding
    no_fault t =
        let f = rw t at stages.2 in
        omega (arith, found_clear (block_count B) _ f, fault_high (order_of C) P B (copied (spans_of P B LATE_TARGET) (coded_contents (order_of C) C LATE_TARGET) (coded_contents (order_of C) A LATE_TARGET)))

    pub merge_accepted : MergePassed C A B path flag mode O
    merge_accepted =
        let l = merge_limits (length C) (length A) (length B) flag mode table places steps index path tests.0 in
        record {
          compiled_limit = l.compiled_limit_lem;
          assembled_limit = l.assembled_limit_lem;
          blocks_limit = l.blocks_limit_lem;
          flag_limit = l.flag_limit_lem;
          mode_limit = l.mode_limit_lem;
          path_is = l.path_is;
          inputs = inputs_passed C A B tests.1;
          unclashed = stages.0;
          agrees = agrees_of (order_of C) C A P B stages.1;
          moved = no_fault;
          symbols = stages.3;
          carried = stages.4;
          movable = tests.3;
          object = tests.4;
        }
