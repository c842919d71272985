-- Four bytes of a section of the merged object: C's where nothing is written over them, A's under one span, and A's late ones at their moved place. A table of C with entries is for
-- one of its first four sections. Assumes nothing.
use Rattle.std.specs.Prelude.{None}
use Prim.Native.Nat.{ℕ, ◌+◌, ◌/◌, ◌≤◌, ◌<◌, min}
use mathlib.Core.Path.{◌≡◌, sym, ap, ◌∙◌}
use mathlib.Core.Logic.{⊎_elim}
use mathlib.Core.Bool.{Bool, true, false, ◌&&◌}
use mathlib.Core.List.{List, []}
use native.Mathlib.Omega.{arith}
use lib.ListN.{length, take, drop}
use lib.Dec.{ltb, leb}
use borrow.Author.Tests.{ltb-false, leb-true, lt-ltb}
use Rattle.base_lists.specs.Ranges.{first, least}
use Rattle.base_lists.specs.Rows.{row_in, column_in, has_row}
use Rattle.base_lists.proofs.Ranges.{by-lt, and_parts, or_parts, first_high, none_first, some_hit}
use Rattle.base_lists.proofs.Rows.{row_hit}
use Rattle.base_fields.specs.declared.ByteOrder.{ByteOrder}
use Rattle.base_scope.specs.Codes.{BSS, LATE_RODATA, LINES, LATE_TARGET}
use Rattle.base_scope.proofs.Codes.{late_target_lem}
use Rattle.base_scope.proofs.Refusals.{found_clear}
use Rattle.elf_readers.specs.Readers.{section_count, section, contents, coded_section, has_code, coded_contents}
use Rattle.elf_relocations.specs.Relocations.{is_table, entry_size, relocation_count}
use Rattle.elf_relocations.proofs.Relocations.{size_cases}
use Rattle.elf_check.specs.Sound.{Sound}
use Rattle.blocks_file.specs.Blocks.{block_count}
use Rattle.blocks_places.specs.Places.{Place, places_of}
use Rattle.blocks_places.specs.Faults.{Placed, placing}
use Rattle.blocks_spans.specs.Spans.{spans_of, span_at, span_end}
use Rattle.blocks_spans.specs.Copied.{copied}
use Rattle.late_length.specs.Late.{has_late_step}
use Rattle.late_moves.specs.Moves.{items, item_length, move_source, late_step_fault}
use Rattle.late_moves.specs.Moved.{is_moved}
use Rattle.late_finals.specs.Finals.{is_written}
use Rattle.merge_labels.specs.Labels.{late_start}
use Rattle.merge_line_up.specs.Agrees.{Agrees}
use Rattle.merge_kept.specs.Kept.{kept}
use Rattle.merge_verdict.specs.of_merge_sections.Sections.{result_section}
use Rattle.merge_verdict.proofs.of_merge_sections.Sections.{section_length}
use Rattle.symbols_taken.specs.Used.{code_of}
use Rattle.symbols_ids.specs.Entries.{late_place}
use Rattle.carry_clash.specs.Clash.{is_stale, is_cut, joined_section, is_misjoined, clash_at, clash_finding}
use Rattle.write_object.specs.Object.{moved_finding}
use Rattle.merge_verdict.specs.of_write_plan.Plan.{merged_plan, merged_object}
use Rattle.demand_clauses.specs.Reading.{word_at}
use Rattle.demand_clauses.proofs.Codes.{code_low, code_section, code_contents}
use Rattle.demand_words.proofs.Sections.{coded_merged, bss_merged}
use Rattle.demand_words.proofs.Finals.{front_holds, own_result, span_result, late_result}

-- ---- refusal 10: a table of C with entries is for one of its first four sections

pub none_stale : (o : ByteOrder) (C A : List ℕ) (flag : ℕ) → clash_finding o C A flag ≡ None → (t : ℕ) → t < section_count o C → is_stale o C t ≡ false
unfolding clash_finding clash_at is_cut
none_stale o C A flag clear t h =
    let stay : ℕ = kept o C flag in
    let n : ℕ = section_count o C in
    let low : ℕ = first (is_cut o C stay) 0 n in
    let m = found_clear n (min low (least (joined_section o C A) (is_misjoined o C A stay) n (section_count o A))) clear in
    let e : low ≡ n = omega (arith, m, first_high (is_cut o C stay) 0 n (omega arith)) in
    (or_parts (is_stale o C t) _ (none_first (is_cut o C stay) 0 n t e (omega arith) h)).0

-- a table with an entry has bytes
some_bytes : (o : ByteOrder) (F : List ℕ) (t k : ℕ) → k < relocation_count o F t → 0 < (section o F t).sh_size
unfolding relocation_count
some_bytes o F t k h = ⊎_elim
    (λ (e : entry_size o F t ≡ 8). let g : k < (section o F t).sh_size / 8 = rw e at h in omega (arith, g))
    (λ (e : entry_size o F t ≡ 12). let g : k < (section o F t).sh_size / 12 = rw e at h in omega (arith, g))
    (size_cases o F t)

pub entry_code : (o : ByteOrder) (C : List ℕ) (t k : ℕ) → is_stale o C t ≡ false → is_table o C t ≡ true → k < relocation_count o C t → code_of o C (section o C t).sh_info ≤ LINES
unfolding is_stale
entry_code o C t k f y h = ltb-false LINES (code_of o C (section o C t).sh_info) (rw (y, lt-ltb 0 (section o C t).sh_size (some_bytes o C t k h)) at f)

-- ---- words of sections

module _ (o : ByteOrder) (C A B path : List ℕ) (flag mode : ℕ) (sound : Sound o C) (clear : moved_finding (merged_plan o C A (places_of o C B) B path flag mode) o ≡ None) where
  abbrev P : List Place
  P = places_of o C B

  abbrev O : List ℕ
  O = merged_object o C A P B path flag mode

  -- of C's section s at x: not written
  pub own_word : (s x : ℕ) → code_of o C s ≤ LINES → x + 4 ≤ length (contents o O s)
      → first (λ j. is_written o P B (coded_contents o C (code_of o C s)) (coded_contents o A (code_of o C s)) (code_of o C s) (x + j)) 0 4 ≡ 4
      → word_at o O s x ≡ word_at o C s x
  unfolding word_at
  own_word s x h room e =
      let c : ℕ = code_of o C s in
      let p = code_section o C s (omega (arith, h)) in
      by-lt c BSS
      (λ front.
      let q : contents o O s ≡ result_section o C A P B c
      = ap (contents o O) (sym p.1) ∙ coded_merged o C A P B path flag mode sound c (code_low o C s) p.0 front clear in
      let n : length (contents o O s) ≡ length (coded_contents o C c) = ap length q ∙ section_length o C A P B c in
      ap (λ (b : List ℕ). take 4 (drop x b)) q
      ∙ own_result o C A P B c x 4 (omega (arith, n, room)) e
      ∙ ap (λ (b : List ℕ). take 4 (drop x b)) (code_contents o C s (omega (arith, h))))
      (λ past.
      let d : c ≡ BSS = omega (arith, past, h) in
      let q : contents o O s ≡ []
      = ap (contents o O) (sym p.1 ∙ ap (coded_section o C) d) ∙ bss_merged o C A P B path flag mode sound (rw d at p.0) clear in
      let n : length (contents o O s) ≡ 0 = ap length q in
      absurd (omega (arith, n, room)))

  module _ (placed : placing o C B ≡ Placed) (agrees : Agrees o C A P B) where
    -- of A's section s at x: under one span
    pub copied_word : (s x : ℕ) → code_of o A s < BSS → has_code o C (code_of o A s) ≡ true
        → ltb (first (λ i. leb (span_at (spans_of P B (code_of o A s)) i).place x && leb (x + 4) (span_end (span_at (spans_of P B (code_of o A s)) i))) 0 (length (spans_of P B (code_of o A s))))
        (length (spans_of P B (code_of o A s))) ≡ true
        → word_at o O (coded_section o C (code_of o A s)) x ≡ word_at o A s x
    unfolding word_at
    copied_word s x front there t =
        let c : ℕ = code_of o A s in
        let L = spans_of P B c in
        let test : ℕ → Bool = λ i. leb (span_at L i).place x && leb (x + 4) (span_end (span_at L i)) in
        let r : ℕ = first test 0 (length L) in
        let hit = some_hit test 0 (length L) (omega arith) t in
        let p = and_parts (leb (span_at L r).place x) _ hit.1 in
        let holds = front_holds c (code_low o A s) front in
        ap (λ (b : List ℕ). take 4 (drop x b)) (coded_merged o C A P B path flag mode sound c (code_low o A s) there front clear)
        ∙ span_result o C A B placed c x 4 r hit.0 (leb-true (span_at L r).place x p.0) (leb-true (x + 4) (span_end (span_at L r)) p.1)
        (agrees.complete.compiled_ends c holds r hit.0) (agrees.complete.assembled_ends c holds r hit.0)
        ∙ ap (λ (b : List ℕ). take 4 (drop x b)) (code_contents o A s (omega (arith, front)))

    -- of A's .late_rodata: in one late word or jump table
    pub late_word_lem : (s x : ℕ) → code_of o A s ≡ LATE_RODATA → has_late_step P B ≡ true → is_moved P B (late_start o A) x ≡ true
        → late_step_fault o P B (copied (spans_of P B LATE_TARGET) (coded_contents o C LATE_TARGET) (coded_contents o A LATE_TARGET)) ≡ block_count B
        → has_row (λ i k. leb (move_source P B (late_start o A) i k) x && leb (x + 4) (move_source P B (late_start o A) i k + item_length B i k)) (items P B) (block_count B) ≡ true
        → word_at o O (coded_section o C LATE_TARGET) (late_place o C A P B x) ≡ word_at o A s x
    unfolding word_at
    late_word_lem s x late runs moved found t =
        let from : ℕ → ℕ → ℕ = move_source P B (late_start o A) in
        let test : ℕ → ℕ → Bool = λ i k. leb (from i k) x && leb (x + 4) (from i k + item_length B i k) in
        let i : ℕ = row_in test (items P B) (block_count B) in
        let k : ℕ = column_in test (items P B) (block_count B) in
        let hit = row_hit test (items P B) (block_count B) t in
        let p = and_parts (leb (from i k) x) _ hit.passes in
        ap (λ (b : List ℕ). take 4 (drop (late_place o C A P B x) b))
        (coded_merged o C A P B path flag mode sound LATE_TARGET (omega arith) (agrees.complete.late_target runs LATE_TARGET late_target_lem) (omega arith) clear)
        ∙ late_result o C A P B agrees runs found x 4 i k moved hit.row hit.column (leb-true (from i k) x p.0) (omega arith)
        (leb-true (x + 4) (from i k + item_length B i k) p.1)
        ∙ ap (λ (b : List ℕ). take 4 (drop x b)) (ap (coded_contents o A) (sym late) ∙ code_contents o A s (omega (arith, late)))
