-- Demand 3, bytes: each byte of a section of C that the merge does not write stands in the result's section of that index, at its offset. Assumes nothing.
use Rattle.std.specs.Prelude.{None}
use Prim.Native.Nat.{ℕ, ◌+◌, ◌*◌, ◌≤◌, ◌<◌}
use mathlib.Core.Path.{◌≡◌, refl, sym, ap, ◌∙◌}
use mathlib.Core.Logic.{◌≢◌}
use mathlib.Core.Bool.{true, false, ◌&&◌, ◌||◌}
use mathlib.Core.List.{List}
use native.Mathlib.Omega.{arith}
use lib.ListN.{length, get_or, take, drop, length-append, get_or-append}
use lib.Seq.{get_or-take, get_or-drop}
use lib.Dec.{eqb, ltb}
use borrow.Author.Tests.{eqb-true, eqb-false, ne_eqb, ltb-true, ltb-false}
use Rattle.base_lists.proofs.Ranges.{both, by-test, and_parts, or_parts}
use Rattle.base_lists.specs.Records.{flat}
use Rattle.base_lists.proofs.Records.{length_flat}
use Rattle.base_lists.proofs.Windows.{spliced_after}
use Rattle.base_fields.specs.declared.ByteOrder.{ByteOrder}
use Rattle.base_fields.specs.Numbers.{encoded}
use Rattle.base_fields.proofs.Numbers.{length_encoded}
use Rattle.base_scope.specs.Elf.{SHT_NULL, SHT_NOBITS, SHT_MIPS_DEBUG}
use Rattle.base_scope.specs.Codes.{BSS, LATE_RODATA, REGINFO}
use Rattle.elf_readers.specs.Readers.{order_of, header, section_count, section, contents, coded_contents}
use Rattle.elf_readers.proofs.Readers.{contents_none}
use Rattle.elf_symbols.specs.Symbols.{symtab, strtab, symbol_strings}
use Rattle.elf_relocations.specs.Relocations.{is_table}
use Rattle.elf_records.specs.Debug.{debug_at}
use Rattle.elf_sections.specs.Headers.{null_section_sound}
use Rattle.elf_sections.proofs.Bounds.{sound_null}
use Rattle.elf_check.specs.Sound.{Sound}
use Rattle.statics_shift.specs.Shift.{HEADER_SIZE, HEADER_WORDS, moved_words, moved_debug}
use Rattle.statics_shift.proofs.Shift.{length_moved}
use Rattle.blocks_places.specs.Places.{Place, places_of}
use Rattle.late_finals.specs.Finals.{final_bytes, is_written}
use Rattle.late_finals.proofs.Finals.{own_part, final_length}
use Rattle.merge_labels.specs.Labels.{late_start}
use Rattle.merge_verdict.specs.of_merge_sections.Sections.{result_section}
use Rattle.merge_kept.specs.Kept.{kept}
use Rattle.merge_kept.proofs.Kept.{kept_le}
use Rattle.symbols_taken.specs.Used.{is_section_of, code_of}
use Rattle.write_strings.specs.Strings.{result_strings}
use Rattle.write_object.specs.Object.{Plan, written_offset, is_moved_debug, written_content, moved_finding}
use Rattle.merge_verdict.specs.of_write_plan.Plan.{own_bytes, added_names, merged_plan, merged_object}
use Rattle.merge_verdict.proofs.of_write_plan.Sections.{debug_bytes_lem, other_holds}
use Rattle.merge_verdict.proofs.of_write_plan.Headers.{content_is, type_kept, debug_merged, merged_contents}
use Rattle.merge_verdict.specs.Verdict.{MergePassed}
use Rattle.demand_clauses.proofs.Codes.{code_contents}
use Rattle.demand_clauses.specs.TakenOver.{is_rewritten}

-- a byte by its part of one
part_byte : (a b : List ℕ) (x : ℕ) → take 1 (drop x a) ≡ take 1 (drop x b) → get_or a x 0 ≡ get_or b x 0
part_byte a b x e =
    let z : x + 0 ≡ x = omega arith in
    let one : (l : List ℕ) → get_or (take 1 (drop x l)) 0 0 ≡ get_or l x 0 = λ l. get_or-take 1 (drop x l) 0 0 (omega arith) ∙ get_or-drop x l 0 0 ∙ ap (λ (y : ℕ). get_or l y 0) z in
    sym (one a) ∙ ap (λ (l : List ℕ). get_or l 0 0) e ∙ one b

-- ---- what C's sections hold

module _ (o : ByteOrder) (C : List ℕ) (i : ℕ) where
  -- a section that holds a byte has a place
  held_placed : Sound o C → (x : ℕ) → i < section_count o C → x < length (contents o C i) → (section o C i).sh_type ≢ SHT_NULL
  unfolding null_section_sound contents
  held_placed sound x l h e =
      let n : null_section_sound i (section o C i) ≡ true = sound_null o C i (sound.sections i l) in
      by-test (eqb i 0)
      (λ z.
      let t = and_parts (eqb (section o C i).sh_type SHT_NULL) (eqb (section o C i).sh_size 0) (rw z at n) in
      let s : (section o C i).sh_size ≡ 0 = eqb-true (section o C i).sh_size 0 t.1 in
      let u = rw (e, s) at h in
      omega (arith, u))
      (λ z. both {b = false} (rw (z, e) at n) refl)

  held_bytes_lem : (x : ℕ) → x < length (contents o C i) → (section o C i).sh_type ≢ SHT_NOBITS
  held_bytes_lem x h e = omega (arith, rw (← contents_none o C i (section o C i) refl e) at h)

-- a debug section's bytes behind its header
behind_header : (o : ByteOrder) (D : List ℕ) (old new x : ℕ) → HEADER_SIZE ≤ x → x < length D → get_or (moved_debug o D old new) x 0 ≡ get_or D x 0
unfolding moved_debug
behind_header o D old new x h l =
    let w : List ℕ = moved_words (debug_at o D 0).words old new in
    let n : length (flat (encoded o 4) w) ≡ 4 * length w = length_flat (encoded o 4) 4 (length_encoded o 4) w in
    let m : length w ≡ HEADER_WORDS = length_moved (debug_at o D 0).words old new in
    spliced_after D 4 (flat (encoded o 4) w) (omega (arith, n, m, h, l)) x (omega (arith, n, m, h))

-- ---- what the result holds

module _ (o : ByteOrder) (C A : List ℕ) (P : List Place) (B path : List ℕ) (flag mode : ℕ) (sound : Sound o C) where
  abbrev p : Plan
  p = merged_plan o C A P B path flag mode

  abbrev O : List ℕ
  O = merged_object o C A P B path flag mode

  abbrev own : ℕ → List ℕ
  own = own_bytes o C A P B path flag mode

  module _ (i : ℕ) (plain : is_table o C i ≡ false) (others : eqb i (symtab o C) ≡ false) (ground : is_section_of o C i REGINFO ≡ false) where
    -- byte x of what the plan has in front
    own_byte : (section o C i).sh_type ≢ SHT_MIPS_DEBUG → (x : ℕ) → x < length (contents o C i)
        → (ltb (code_of o C i) BSS && is_written o P B (coded_contents o C (code_of o C i)) (coded_contents o A (code_of o C i)) (code_of o C i) x) ≡ false
        → (get_or (own i) x 0 ≡ get_or (contents o C i) x 0) × (x < length (own i))
    unfolding own_bytes result_strings symbol_strings result_section
    own_byte n x h f =
        let a = ne_eqb (section o C i).sh_type SHT_MIPS_DEBUG n in
        by-test (eqb i (strtab o C))
        (λ t.
        let e : contents o C (strtab o C) ≡ contents o C i = ap (contents o C) (sym (eqb-true i (strtab o C) t)) in
        rw (a, others, t, e) (get_or-append (contents o C i) _ 0 x h, rw length-append (omega (arith, h))))
        (λ s. by-test (ltb (code_of o C i) BSS)
        (λ t.
        let c : ℕ = code_of o C i in
        let l : c < BSS = ltb-true c BSS t in
        let e : coded_contents o C c ≡ contents o C i = code_contents o C i (omega (arith, l)) in
        let u : x < length (coded_contents o C c) = rw e h in
        let w : is_written o P B (coded_contents o C c) (coded_contents o A c) c x ≡ false = rw t at f in
        let b = part_byte (final_bytes o P B (coded_contents o C c) (coded_contents o A c) (coded_contents o A LATE_RODATA) (late_start o A) c) (coded_contents o C c) x
        (own_part o P B (coded_contents o C c) (coded_contents o A c) (coded_contents o A LATE_RODATA) (late_start o A) c x 1 (omega (arith, u)) (λ j k. one_byte c x w j k)) in
        let m = final_length o P B (coded_contents o C c) (coded_contents o A c) (coded_contents o A LATE_RODATA) (late_start o A) c in
        rw (a, others, s, ground, t) (b ∙ ap (λ (l : List ℕ). get_or l x 0) e, omega (arith, m, u)))
        (λ t. rw (a, others, s, ground, t) (refl, h)))
      where
        one_byte : (c x : ℕ) → is_written o P B (coded_contents o C c) (coded_contents o A c) c x ≡ false → (j : ℕ) → j < 1
            → is_written o P B (coded_contents o C c) (coded_contents o A c) c (x + j) ≡ false
        one_byte c x w j k =
            let z : x + j ≡ x = omega (arith, k) in
            ap (λ (y : ℕ). is_written o P B (coded_contents o C c) (coded_contents o A c) c y) z ∙ w

  module _ (clear : moved_finding p o ≡ None) (i : ℕ) (stays : i < kept o C flag) where
    abbrev type : ℕ
    type = (section o C i).sh_type

    -- a debug section, whose header may move
    debug_byte : type ≡ SHT_MIPS_DEBUG → (x : ℕ) → x < length (contents o C i) → HEADER_SIZE ≤ x → get_or (contents o O i) x 0 ≡ get_or (contents o C i) x 0
    unfolding written_content
    debug_byte e x h l =
        let c : p.content i ≡ contents o C i = content_is o C A P B path flag mode i ∙ debug_bytes_lem o C A P B path flag mode sound sound.names i stays e in
        ap (λ (d : List ℕ). get_or d x 0) (debug_merged o C A P B path flag mode clear i stays e)
        ∙ by-test (is_moved_debug p i)
        (λ t. rw (t, c) (behind_header o (contents o C i) (p.heading i).sh_offset (written_offset p i) x l h))
        (λ f. rw (f, c))

    -- any other that holds bytes
    other_byte : type ≢ SHT_NULL → type ≢ SHT_NOBITS → type ≢ SHT_MIPS_DEBUG → is_table o C i ≡ false → (x : ℕ) → x < length (own i) → get_or (contents o O i) x 0 ≡ get_or (own i) x 0
    other_byte a b n f x h =
        let t = type_kept o C A P B path flag mode i stays in
        ap (λ (d : List ℕ). get_or d x 0)
        (merged_contents o C A P B path flag mode clear i (omega (arith, stays)) (λ q. a (sym t ∙ q)) (λ q. b (sym t ∙ q)) (λ q. n (sym t ∙ q))
        ∙ other_holds o C A P B path flag mode i stays f)
        ∙ get_or-append (own i) (added_names o C A P B path flag mode i) 0 x h

    pub byte_kept : (x : ℕ) → x < length (contents o C i) → is_rewritten o C A P B i x ≡ false → get_or (contents o O i) x 0 ≡ get_or (contents o C i) x 0
    unfolding is_rewritten
    byte_kept x h f =
        let a = or_parts (is_table o C i || eqb i (symtab o C)) _ f in
        let b = or_parts (is_table o C i) (eqb i (symtab o C)) a.0 in
        let c = or_parts (is_section_of o C i REGINFO) _ a.1 in
        let d = or_parts (eqb type SHT_MIPS_DEBUG && ltb x HEADER_SIZE) _ c.1 in
        by-test (eqb type SHT_MIPS_DEBUG)
        (λ t. debug_byte (eqb-true type SHT_MIPS_DEBUG t) x h (ltb-false x HEADER_SIZE (rw t at d.0)))
        (λ n.
        let m : type ≢ SHT_MIPS_DEBUG = eqb-false type SHT_MIPS_DEBUG n in
        let e = own_byte i b.0 b.1 c.0 m x h d.1 in
        other_byte (held_placed o C i sound x (omega (arith, stays, kept_le o C flag)) h) (held_bytes_lem o C i x h) m b.0 x e.1 ∙ e.0)

-- ---- of an accepted merge

module _ (C A B path : List ℕ) (flag mode : ℕ) (O : List ℕ) (p : MergePassed C A B path flag mode O) where
  pub bytes_kept : (i x : ℕ) → i < kept (order_of C) C flag → x < length (contents (order_of C) C i) → is_rewritten (order_of C) C A (places_of (order_of C) C B) B i x ≡ false
      → get_or (contents (order_of C) O i) x 0 ≡ get_or (contents (order_of C) C i) x 0
  bytes_kept i x l h f =
      ap (λ (F : List ℕ). get_or (contents (order_of C) F i) x 0) p.object
      ∙ byte_kept (order_of C) C A (places_of (order_of C) C B) B path flag mode p.inputs.opened.sound p.movable i l x h f
