-- What 11 to 13 leave is what the late step, block copying and the late moves ask for. Assumes nothing.
use Rattle.std.specs.Prelude.{None, Option}
use mathlib.Core.Path.{◌≡◌, refl, sym, ap, ◌∙◌}
use mathlib.Core.Bool.{true, false}
use mathlib.Core.List.{List}
use Prim.Native.Nat.{ℕ, ◌+◌, ◌≤◌}
use native.Mathlib.Omega.{arith}
use lib.ListN.{length, take, drop}
use lib.Seq.{length-take-le}
use Rattle.base_lists.specs.Windows.{spliced}
use Rattle.base_lists.proofs.Ranges.{both, by-lt}
use Rattle.base_fields.specs.declared.ByteOrder.{ByteOrder}
use Rattle.base_scope.specs.Codes.{LATE_RODATA, LATE_TARGET, REGINFO, CODES, holds_bytes, is_late_target, section_codes}
use Rattle.base_scope.specs.Limits.{FILE_LIMIT, LATE_TABLE}
use Rattle.base_scope.proofs.Codes.{past_holds, late_target_lem}
use Rattle.elf_readers.specs.Readers.{coded_contents}
use Rattle.elf_readers.proofs.Readers.{coded_short}
use Rattle.blocks_file.specs.Blocks.{block_count}
use Rattle.blocks_places.specs.Lines.{line_count}
use Rattle.blocks_places.specs.Places.{Place}
use Rattle.blocks_places.specs.Faults.{Fitting}
use Rattle.blocks_places.specs.Table.{places_in}
use Rattle.blocks_spans.specs.declared.Span.{Span}
use Rattle.blocks_spans.specs.Spans.{spans_of, last_end, EndsBy}
use Rattle.blocks_spans.specs.Copied.{copied}
use Rattle.blocks_spans.proofs.Spans.{end_spans, spans_ascend, span_last, last_by}
use Rattle.copy_registers.proofs.Reginfo.{length_joined}
use Rattle.copy_spans.proofs.Records.{copied_front}
use Rattle.late_finals.specs.of_late_length.declared.LateStep.{LateStep}
use Rattle.late_finals.specs.of_late_length.Late.{has_late_step}
use Rattle.late_finals.specs.of_late_moves.Moved.{late_rodata}
use Rattle.late_laws.specs.of_late_walk.Table.{Ready, Walk}
use Rattle.late_laws.proofs.of_late_walk.Walk.{moves_of}
use Rattle.late_laws.proofs.Copied.{fault_copied, rodata_written}
use Rattle.late_rodata.specs.Writing.{rest_read, Moving, RestInHand}
use Rattle.late_rodata.proofs.Writing.{rest_read_lem}
use Rattle.late_finals.proofs.Finals.{final_late, final_other, final_still, final_length}
use Rattle.merge_line_up.specs.of_merge_labels.Labels.{late_start}
use Rattle.merge_line_up.specs.LineUp.{late_step_of}
use Rattle.merge_sections.specs.declared.Stage.{Stage}
use Rattle.merge_sections.specs.Sections.{step_finding, late_finding, result_section, register_bytes}
use Rattle.merge_sections.specs.Stages.{StageRead, Searchable, Movable, Searched}

-- ---- codes

-- a code whose section holds bytes is one
pub holds_code : (c : ℕ) → holds_bytes c ≡ true → (1 ≤ c) × (c ≤ CODES)
holds_code c t = by-lt c 1
    (λ h. absurd (apart (past_holds c (λ l. absurd (omega arith)))))
    (λ h. by-lt CODES c (λ g. absurd (apart (past_holds c (λ l. g)))) (λ g. (h, g)))
  where
    apart : holds_bytes c ≡ false → ⊥
    apart f = let z : ◌≡◌ {A = ℕ} 0 1 = both t f in omega arith

pub target_holds : holds_bytes LATE_TARGET ≡ true
unfolding holds_bytes section_codes
target_holds = refl

-- no span ends behind the last one
pub ends_last : (P : List Place) (B : List ℕ) → Fitting P B → (c last : ℕ) → last ≡ last_end (spans_of P B c) → EndsBy (spans_of P B c) last
ends_last P B f c last e r h = rw e (span_last (spans_of P B c) (spans_ascend P B f c) r h)

-- the first bytes of a section up to there
pub front_ends : (L : List Span) (own : List ℕ) (last : ℕ) → last ≤ length own → EndsBy L last → EndsBy L (length (take last own))
front_ends L own last few ends = rw (length-take-le last own few) ends

-- ---- what 11 to 13 leave

module _ (C A B : List ℕ) (s : Stage) (table places : List ℕ) (w : StageRead C A B s table places) where
  abbrev P : List Place
  P = places_in places (line_count B)

  abbrev o : ByteOrder
  o = s.inputs.order

  -- C's bytes of the late target and A's, and A's late bytes
  abbrev S : List ℕ
  S = coded_contents o C LATE_TARGET

  abbrev T : List ℕ
  T = coded_contents o A LATE_TARGET

  abbrev W : List ℕ
  W = coded_contents o A LATE_RODATA

  pub step_runs : s.step.runs ≡ has_late_step P B
  unfolding late_step_of
  step_runs = ap (λ (x : LateStep). x.runs) w.step

  pub step_start : s.step.start ≡ late_start o A
  unfolding late_step_of
  step_start = ap (λ (x : LateStep). x.start) w.step

  pub step_last : s.step.last ≡ last_end (spans_of P B LATE_TARGET)
  unfolding late_step_of
  step_last = ap (λ (x : LateStep). x.last) w.step

  pub last_inside : s.step.last ≤ length S
  last_inside = rw step_last (last_by (spans_of P B LATE_TARGET) (length S) (w.agrees.complete.compiled_ends LATE_TARGET target_holds))

  small : length S ≤ FILE_LIMIT
  small = omega (arith, coded_short o C LATE_TARGET, w.read.compiled_small)

  short : length W ≤ FILE_LIMIT
  short = omega (arith, coded_short o A LATE_RODATA, w.read.assembled_small)

  pub searchable : Searchable C B s table places
  searchable = record { compiled = w.read.compiled; runs = step_runs; ready = ready }
    where
      ready : s.step.runs ≡ true → Ready P B S table places s.inputs.blocks s.step
      ready t = record {
        parsed = w.read.laid.parsed;
        placed = w.read.laid.long;
        counted = w.read.many;
        small = small;
        span = omega (arith, step_start, w.agrees.late_inside (sym step_runs ∙ t), short);
        from = step_last ∙ sym (end_spans P B LATE_TARGET);
        inside = last_inside;
      }

  -- refusal 14 is that of the late target after block copying
  pub finding_copied : step_finding o P B S ≡ late_finding o C A P B
  unfolding late_finding step_finding
  finding_copied = rw (fault_copied o P B S T w.read.laid.fitting)

  -- the moves in hand, for the bytes behind the last span
  pub moving : s.step.runs ≡ true → (late : List ℕ) → Movable C B s P late → Moving o P B S W table late s.step.start s.step.last
  moving t late m = record {
    moves = m t;
    parsed = w.read.laid.parsed;
    from = step_last ∙ sym (end_spans P B LATE_TARGET);
    inside = last_inside;
    span = omega (arith, step_start, w.agrees.late_inside (sym step_runs ∙ t));
    small = small;
    short = short;
  }

  -- what is written up to the last span and behind it is the late target
  module _ (t : s.step.runs ≡ true) (late : List ℕ) (m : Movable C B s P late) (n at : ℕ) (many : n ≡ block_count B) (before mid after : List ℕ)
      (room : at + length S ≤ length before) (front : mid ≡ spliced before at (take s.step.last (copied (spans_of P B LATE_TARGET) S T)))
      (rest : after ≡ spliced mid (at + s.step.last) (rest_read o B S W late n s.step.last)) where
    pub target_written : after ≡ spliced before at (result_section o C A P B LATE_TARGET)
    unfolding result_section
    target_written =
        let q : after ≡ spliced mid (at + s.step.last) (drop s.step.last (late_rodata o P B S s.step.start W)) =
        rest ∙ ap (spliced mid (at + s.step.last)) (rest_read_lem o P B S W table late s.step.start s.step.last (moving t late m) n many) in
        rodata_written o P B S T w.read.laid.fitting s.step.start W s.step.last step_last last_inside at before mid after room front q
        ∙ ap (λ (i : ℕ). spliced before at (late_rodata o P B (copied (spans_of P B LATE_TARGET) S T) i W)) step_start
        ∙ ap (spliced before at) (sym (final_late o P B S T W (late_start o A) LATE_TARGET late_target_lem))

  -- without a late step it is what block copying leaves
  pub target_still : s.step.runs ≡ false → (at : ℕ) (before after : List ℕ) → after ≡ spliced before at (copied (spans_of P B LATE_TARGET) S T)
      → after ≡ spliced before at (result_section o C A P B LATE_TARGET)
  unfolding result_section
  target_still f at before after e = e ∙ ap (spliced before at) (sym (final_still o P B S T W (late_start o A) LATE_TARGET (sym step_runs ∙ f)))

-- another section has no late moves
pub section_plain : (o : ByteOrder) (C A : List ℕ) (P : List Place) (B : List ℕ) (c : ℕ) → is_late_target c ≡ false
    → copied (spans_of P B c) (coded_contents o C c) (coded_contents o A c) ≡ result_section o C A P B c
unfolding result_section
section_plain o C A P B c f = sym (final_other o P B (coded_contents o C c) (coded_contents o A c) (coded_contents o A LATE_RODATA) (late_start o A) c f)

pub section_length : (o : ByteOrder) (C A : List ℕ) (P : List Place) (B : List ℕ) (c : ℕ) → length (result_section o C A P B c) ≡ length (coded_contents o C c)
unfolding result_section
section_length o C A P B c = final_length o P B (coded_contents o C c) (coded_contents o A c) (coded_contents o A LATE_RODATA) (late_start o A) c

pub registers_length : (o : ByteOrder) (C A : List ℕ) → length (register_bytes o C A) ≡ length (coded_contents o C REGINFO)
unfolding register_bytes
registers_length o C A = length_joined (coded_contents o C REGINFO) (coded_contents o A REGINFO)

-- ---- the search

module _ (C B : List ℕ) (s : Stage) (table places : List ℕ) (w : Searchable C B s table places) where
  pub found_still : s.step.runs ≡ false → (late : List ℕ) → Searched C B s (places_in places (line_count B)) None late
  unfolding step_finding
  found_still f late = record { answer = rw (← w.runs, f); moves = λ q t. both t f }

  pub found_step : s.step.runs ≡ true → (R : List ℕ) → R ≡ coded_contents s.inputs.order C LATE_TARGET → (r : Option ℕ) (before late : List ℕ) → LATE_TABLE ≤ length before
      → Walk s.inputs.order (places_in places (line_count B)) B R s.step.start r before late → Searched C B s (places_in places (line_count B)) r late
  unfolding step_finding
  found_step t R e r before late room v = record {
    answer = rw (← w.runs, t, ← e) v.answer;
    moves = λ q u. rw (← e) (moves_of s.inputs.order (places_in places (line_count B)) B R s.step.start before late (rw q at v) room (w.ready t).parsed.small);
  }

-- ---- the bytes as they are read

-- block copying of what is read is that of the sections; of the first n bytes it is the front of that
pub copied_as : (before : List ℕ) (at : ℕ) (L : List Span) (own other S T after : List ℕ) → own ≡ S → other ≡ T → after ≡ spliced before at (copied L own other)
    → after ≡ spliced before at (copied L S T)
copied_as before at L own other S T after e f is = is ∙ ap (spliced before at) (ap (λ (x : List ℕ). copied L x other) e ∙ ap (copied L S) f)

pub front_as : (before : List ℕ) (at n : ℕ) (L : List Span) (own other S T after : List ℕ) → own ≡ S → other ≡ T → n ≤ length S → after ≡ spliced before at (copied L (take n own) other)
    → after ≡ spliced before at (take n (copied L S T))
front_as before at n L own other S T after e f few is = copied_as before at L (take n own) other (take n S) T after (ap (take n) e) f is ∙ ap (spliced before at) (copied_front L S T n few)

pub rest_as : (mid after : List ℕ) (at last : ℕ) (o : ByteOrder) (B own words S W late : List ℕ) (n : ℕ) → own ≡ S → words ≡ W
    → after ≡ spliced mid (at + last) (rest_read o B own words late n last) → after ≡ spliced mid (at + last) (rest_read o B S W late n last)
rest_as mid after at last o B own words S W late n e f is = is ∙ ap (λ (x : List ℕ). spliced mid (at + last) (rest_read o B x words late n last)) e ∙ ap (λ (x : List ℕ). spliced mid (at + last) (rest_read o B S x late n last)) f

pub rest_hand : (o : ByteOrder) (P : List Place) (B S W table late own words : List ℕ) (start last : ℕ) → own ≡ S → words ≡ W → Moving o P B S W table late start last
    → RestInHand o B own words table late last
rest_hand o P B S W table late own words start last e f m = record { places = P; start = start; moving = rw (e, f) m }
