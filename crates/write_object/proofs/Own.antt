-- An object that is written again from its own sections: what its checks leave true, how far its sections reach, and each step's part of it. Assumes nothing.
use Rattle.std.specs.Prelude.{None, Some}
use Prim.Native.Nat.{ℕ, zero, suc, ◌+◌, ◌-◌, ◌*◌, ◌≤◌, ◌<◌}
use mathlib.Core.Path.{◌≡◌, refl, sym, ap, ◌∙◌}
use mathlib.Core.Bool.{Bool, true, false}
use mathlib.Core.List.{List, []}
use native.Mathlib.Numerals.{add-one}
use native.Mathlib.Omega.{arith}
use lib.ListN.{length}
use lib.Dec.{eqb, ltb}
use borrow.Author.Tests.{lt-ltb, le-ltb, eqb-true, eqb-false}
use Rattle.base_lists.specs.Ranges.{first}
use Rattle.base_lists.specs.Windows.{spliced}
use Rattle.base_lists.specs.Written.{Written}
use Rattle.base_lists.proofs.Ranges.{by-test, both, first_here, first_next, first_end}
use Rattle.base_lists.proofs.Windows.{spliced_nil}
use Rattle.base_buffers.specs.Buffers.{zeros}
use Rattle.base_fields.specs.declared.ByteOrder.{ByteOrder}
use Rattle.base_fields.specs.Layouts.{fields_from}
use Rattle.base_scope.specs.Elf.{SHT_MIPS_DEBUG}
use Rattle.base_scope.specs.Refusals.{STATICS}
use Rattle.base_answers.specs.Answers.{refused, COMPILED, room_for}
use Rattle.base_answers.specs.Verdicts.{if_passed, finding_verdict}
use Rattle.base_scope.specs.Limits.{FILE_LIMIT, ALIGN_LIMIT}
use Rattle.elf_records.specs.declared.section.SectionHeader.{SectionHeader}
use Rattle.elf_records.specs.declared.header.ElfHeader.{ElfHeader}
use Rattle.elf_records.specs.Section.{section_bytes}
use Rattle.elf_records.specs.Header.{elf_bytes, elf_layout, elf_from, elf_at}
use Rattle.elf_readers.specs.Readers.{header, section_count, section, contents}
use Rattle.elf_readers.proofs.Readers.{contents_short}
use Rattle.elf_header.specs.FileHeader.{header_fault}
use Rattle.elf_sections.specs.Headers.{section_fault}
use Rattle.elf_sections.proofs.Bounds.{headed_of, sections_sound, sound_aligned}
use Rattle.statics_shift.specs.Shift.{shift_fails}
use Rattle.statics_shift.proofs.Shift.{fails_other}
use Rattle.write_image.specs.Layout.{HEADER_END, HEADING_SIZE, aligned_to, start_of, headings_at, image_length}
use Rattle.write_image.proofs.Ends.{aligned_none, aligned_next, aligned_low, end_first}
use Rattle.write_object.specs.Object.{Plan, has_place, layout_of, written_offset, written_size, written_heading, written_front, fails_to_move, moved_finding, object_bytes}
use Rattle.write_object.specs.Steps.{front_with, size_with, heading_with, padded_section, placed_piece, pieces_of, headings_of}
use Rattle.write_object.specs.Own.{own_plan, own_object, own_end, own_start, rewrite_answer, OwnReady, OwnSection, OwnStep}
use Rattle.write_object.proofs.Writing.{next_placed, next_unplaced, padded_is, unplaced_is, headings_behind, image_is, pieces_turn, object_put}
use Rattle.write_object.proofs.Content.{none_fails, length_object}
use Rattle.write_object.proofs.Words.{end_mono}

-- an object that refusals 2 and 3 pass is ready
pub own_ready : (o : ByteOrder) (F : List ℕ) → header_fault o F ≡ None → section_fault o F ≡ None → length F ≤ FILE_LIMIT → OwnReady o F
own_ready o F h s short = record {
  headed = headed_of o F h s;
  aligned = λ i below. sound_aligned o F i (sections_sound o F s i below);
  short = short;
}

aligned_high : (end align : ℕ) → aligned_to end align ≤ end + align
aligned_high end align = by-test (eqb align 0)
    (λ t. omega (arith, aligned_none end align (eqb-true align 0 t)))
    (λ f. let n = eqb-false align 0 f in omega (arith, aligned_next end align (omega (arith, n))))

-- a section without a place does not move
unplaced_type : (h : SectionHeader) → has_place h ≡ false → h.sh_type ≡ SHT_MIPS_DEBUG → ⊥
unfolding has_place
unplaced_type h f e = both (rw e) f

module _ (p : Plan) (o : ByteOrder) where
  finding_yes : ltb (first (fails_to_move p o) 0 p.many) p.many ≡ true → Some 0 ≡ moved_finding p o
  unfolding moved_finding
  finding_yes t = rw t

  finding_no : ltb (first (fails_to_move p o) 0 p.many) p.many ≡ false → None ≡ moved_finding p o
  unfolding moved_finding
  finding_no f = rw f

module _ (o : ByteOrder) (F : List ℕ) where
  abbrev P : Plan
  P = own_plan o F

  pub own_ident : length (header o F).e_ident ≡ 16
  unfolding header elf_at elf_from elf_layout fields_from
  own_ident = refl

  pub own_first : own_end o F 0 ≡ HEADER_END
  unfolding own_end
  own_first = end_first (layout_of P)

  own_start_is : (i end : ℕ) → end ≡ own_end o F i → aligned_to end (section o F i).sh_addralign ≡ own_start o F i
  unfolding own_end own_start start_of layout_of own_plan
  own_start_is i end e = rw e

  own_placed : (i : ℕ) → has_place (section o F i) ≡ true → own_end o F (i + 1) ≡ own_start o F i + length (contents o F i)
  unfolding own_end own_start own_plan
  own_placed i t = next_placed P o i t

  own_unplaced : (i : ℕ) → has_place (section o F i) ≡ false → own_end o F (i + 1) ≡ own_end o F i
  unfolding own_end own_plan
  own_unplaced i f = next_unplaced P o i f

  piece_at : (i : ℕ) → has_place (section o F i) ≡ true → padded_section o (section o F i) (contents o F i) (own_end o F i) (own_start o F i) ≡ placed_piece P o i
  unfolding own_plan own_end own_start
  piece_at i t = padded_is P o i t

  start_high : (i : ℕ) → own_start o F i ≤ own_end o F i + (section o F i).sh_addralign
  start_high i = rw (← own_start_is i (own_end o F i) refl) (aligned_high (own_end o F i) (section o F i).sh_addralign)

  start_low : (i : ℕ) → own_end o F i ≤ own_start o F i
  start_low i = rw (← own_start_is i (own_end o F i) refl) (aligned_low (own_end o F i) (section o F i).sh_addralign)

  module _ (r : OwnReady o F) where
    own_step : (i : ℕ) → i < section_count o F → own_end o F (i + 1) ≤ own_end o F i + (ALIGN_LIMIT + FILE_LIMIT)
    own_step i h = by-test (has_place (section o F i))
        (λ t. omega (arith, own_placed i t, start_high i, r.aligned i h, contents_short o F i, r.short))
        (λ f. omega (arith, own_unplaced i f))

    own_bound : (i : ℕ) → i ≤ section_count o F → own_end o F i ≤ HEADER_END + (ALIGN_LIMIT + FILE_LIMIT) * i
    own_bound zero h = omega (arith, own_first)
    own_bound (suc i) h = rw (← add-one i) (omega (arith, own_bound i (omega arith), own_step i (omega arith)))

    -- ends and starts are small numbers
    pub own_small : (i : ℕ) → i ≤ section_count o F → own_end o F i < 268435456
    own_small i h = omega (arith, own_bound i h, r.headed.few)

    start_small : (i : ℕ) → i < section_count o F → own_start o F i < 268500992
    start_small i h = omega (arith, own_small i (omega arith), start_high i, r.aligned i h)

  -- ---- refusal 17

  module _ (i n : ℕ) (all : n ≡ section_count o F) (before : first (fails_to_move P o) 0 n ≡ first (fails_to_move P o) i n) where
    whole : P.many ≡ n
    unfolding own_plan
    whole = sym all

    pub finding_here : i < n → fails_to_move P o i ≡ true → Some 0 ≡ moved_finding P o
    finding_here h t =
        let e : ltb (first (fails_to_move P o) 0 n) n ≡ true = lt-ltb (first (fails_to_move P o) 0 n) n (omega (arith, h, before, first_here (fails_to_move P o) i n h t)) in
        finding_yes P o (ap (λ (m : ℕ). ltb (first (fails_to_move P o) 0 m) m) whole ∙ e)

    pub finding_next : i < n → fails_to_move P o i ≡ false → first (fails_to_move P o) 0 n ≡ first (fails_to_move P o) (i + 1) n
    finding_next h f = before ∙ first_next (fails_to_move P o) i n h f

    pub finding_none : n ≤ i → None ≡ moved_finding P o
    finding_none h =
        let e : ltb (first (fails_to_move P o) 0 n) n ≡ false = le-ltb (first (fails_to_move P o) 0 n) n (omega (arith, h, before, first_end (fails_to_move P o) i n h)) in
        finding_no P o (ap (λ (m : ℕ). ltb (first (fails_to_move P o) 0 m) m) whole ∙ e)

  -- ---- section i in hand

  module _ (i end : ℕ) (s : OwnSection o F i end) (h : SectionHeader) (is : h ≡ section o F i) where
    abbrev start : ℕ
    start = aligned_to end h.sh_addralign

    start_is : start ≡ own_start o F i
    start_is = ap (λ (x : SectionHeader). aligned_to end x.sh_addralign) is ∙ own_start_is i end s.from

    -- numbers that the code adds
    pub own_sum : end + h.sh_addralign < 4294967296
    own_sum = omega (arith, ap (λ (x : SectionHeader). x.sh_addralign) is, s.from, own_small s.ready i (omega (arith, s.below)), s.ready.aligned i s.below)

    pub own_low : end ≤ start
    own_low = omega (arith, start_is, s.from, start_low i)

    pub own_high : start < 268500992
    own_high = omega (arith, start_is, start_small s.ready i s.below)

    place_is : (b : Bool) → has_place h ≡ b → has_place (section o F i) ≡ b
    place_is b e = ap has_place (sym is) ∙ e

    pub end_unplaced : has_place h ≡ false → end ≡ own_end o F (i + 1)
    end_unplaced f = s.from ∙ sym (own_unplaced i (place_is false f))

    offset_unplaced : has_place h ≡ false → written_offset P i ≡ h.sh_offset
    unfolding written_offset own_plan
    offset_unplaced f = rw (place_is false f, is)

    offset_placed : has_place h ≡ true → written_offset P i ≡ start
    unfolding written_offset own_plan own_start
    offset_placed t = rw (place_is true t) (sym start_is)

    -- a section without a place has nothing to move and nothing to write
    pub fails_unplaced : has_place h ≡ false → false ≡ fails_to_move P o i
    unfolding fails_to_move own_plan
    fails_unplaced f = fails_other o (contents o F i) (section o F i).sh_type (section o F i).sh_offset (written_offset P i) (unplaced_type (section o F i) (place_is false f))

    piece_unplaced : has_place h ≡ false → placed_piece P o i ≡ []
    unfolding own_plan
    piece_unplaced f = unplaced_is P o i (place_is false f)

    pub section_kept : has_place h ≡ false → (L : List ℕ) → OwnStep o F i (placed_piece P o i) end end L L
    section_kept f L = record { next = end_unplaced f; bytes = rw (piece_unplaced f) (sym (spliced_nil L end)) }

    -- its bytes in hand, and where it starts
    module _ (D : List ℕ) (held : D ≡ contents o F i) where
      pub content_small : length D ≤ FILE_LIMIT
      content_small = omega (arith, ap length held, contents_short o F i, s.ready.short)

      heading_unplaced : has_place h ≡ false → heading_with h h.sh_offset (size_with h (length D)) ≡ written_heading P i
      unfolding heading_with written_heading size_with written_size own_plan
      heading_unplaced f = rw (offset_unplaced f, is, held)

      pub heading_kept : (L m : List ℕ) (at size : ℕ) → has_place h ≡ false → size ≡ size_with h (length D) → m ≡ spliced L at (section_bytes o (heading_with h h.sh_offset size))
          → OwnStep o F i (section_bytes o (written_heading P i)) at end L m
      heading_kept L m at size f e w = record {
        next = end_unplaced f;
        bytes = w ∙ ap (λ (x : SectionHeader). spliced L at (section_bytes o x)) (ap (heading_with h h.sh_offset) e ∙ heading_unplaced f);
      }

      module _ (x : ℕ) (from : x ≡ start) (t : has_place h ≡ true) where
        pub end_placed : x + length D ≡ own_end o F (i + 1)
        end_placed = omega (arith, from, start_is, ap length held, own_placed i (place_is true t))

        pub fails_placed : shift_fails o D h.sh_type h.sh_offset x ≡ fails_to_move P o i
        unfolding fails_to_move own_plan
        fails_placed = rw (from, ← offset_placed t, is, held)

        pub fails_read : (b : Bool) → b ≡ shift_fails o D h.sh_type h.sh_offset x → b ≡ fails_to_move P o i
        fails_read b e = e ∙ fails_placed

        piece_placed : padded_section o h D end x ≡ placed_piece P o i
        piece_placed = ap (padded_section o h D end) (from ∙ start_is) ∙ rw (is, held, s.from) (piece_at i (place_is true t))

        pub section_step : (L m : List ℕ) → m ≡ spliced L end (padded_section o h D end x) → OwnStep o F i (placed_piece P o i) end (x + length D) L m
        section_step L m w = record { next = end_placed; bytes = w ∙ ap (spliced L end) piece_placed }

        heading_placed : heading_with h x (size_with h (length D)) ≡ written_heading P i
        unfolding heading_with written_heading size_with written_size own_plan
        heading_placed = rw (offset_placed t, ← from, is, held)

        pub heading_step : (L m : List ℕ) (at size : ℕ) → size ≡ size_with h (length D) → m ≡ spliced L at (section_bytes o (heading_with h x size))
            → OwnStep o F i (section_bytes o (written_heading P i)) at (x + length D) L m
        heading_step L m at size e w = record {
          next = end_placed;
          bytes = w ∙ ap (λ (y : SectionHeader). spliced L at (section_bytes o y)) (ap (heading_with h x) e ∙ heading_placed);
        }

  -- ---- the passes

  pub own_mono : (i n : ℕ) → i ≤ n → own_end o F i ≤ own_end o F n
  unfolding own_end
  own_mono i n h = end_mono (layout_of P) i n h

  pub headings_is : (end : ℕ) → end ≡ own_end o F (section_count o F) → aligned_to end 4 ≡ headings_at (layout_of P)
  unfolding headings_at own_end layout_of own_plan
  headings_is end e = rw e

  own_image_is : image_length (layout_of P) ≡ headings_at (layout_of P) + HEADING_SIZE * section_count o F
  unfolding own_plan
  own_image_is = image_is P o

  pub own_headings_low : own_end o F (section_count o F) ≤ headings_at (layout_of P)
  unfolding own_end own_plan
  own_headings_low = headings_behind P o

  pub own_headings_small : OwnReady o F → headings_at (layout_of P) < 268435460
  own_headings_small r = rw (← headings_is (own_end o F (section_count o F)) refl)
      (omega (arith, own_small r (section_count o F) (omega arith), aligned_high (own_end o F (section_count o F)) 4))

  front_is : written_front P (header o F) ≡ front_with (header o F) (headings_at (layout_of P)) (section_count o F)
  unfolding written_front front_with own_plan
  front_is = refl

  front_ident : length (written_front P (header o F)).e_ident ≡ 16
  unfolding written_front
  front_ident = own_ident

  module _ (clear : moved_finding P o ≡ None) where
    pub own_fine : (i : ℕ) → i < section_count o F → fails_to_move P o i ≡ false
    unfolding own_plan
    own_fine i h = none_fails P o clear i h

    pub own_turn : (L m m' : List ℕ) (i e : ℕ) → i < section_count o F → e ≡ own_end o F i → own_end o F (section_count o F) ≤ length L
        → m ≡ spliced L HEADER_END (pieces_of P o i) → m' ≡ spliced m e (placed_piece P o i) → m' ≡ spliced L HEADER_END (pieces_of P o (i + 1))
    unfolding own_end
    own_turn L m m' i e h is room before after =
        pieces_turn P o (section_count o F) own_fine L m m' i e h is (omega (arith, room, end_mono (layout_of P) (i + 1) (section_count o F) (omega (arith, h)))) before after

    object_parts_put : (L a b c d : List ℕ) (end at : ℕ) → end ≡ own_end o F (section_count o F) → at ≡ headings_at (layout_of P) → image_length (layout_of P) ≤ length L
        → a ≡ spliced L 0 (elf_bytes o (written_front P (header o F))) → b ≡ spliced a HEADER_END (pieces_of P o (section_count o F)) → c ≡ spliced b end (zeros (at - end))
        → d ≡ spliced c at (headings_of P o (section_count o F)) → d ≡ spliced L 0 (object_bytes P o (header o F))
    unfolding own_end own_plan
    object_parts_put L a b c d end at ee ea room wa wb wc wd =
        object_put P o (header o F) L a b c d front_ident own_fine room wa wb
        (wc ∙ ap (λ (x : ℕ). spliced b x (zeros (at - x))) ee ∙ ap (λ (x : ℕ). spliced b (own_end o F (section_count o F)) (zeros (x - own_end o F (section_count o F)))) ea)
        (wd ∙ ap (λ (x : ℕ). spliced c x (headings_of P o (section_count o F))) ea)

    pub own_put : (L a b c d : List ℕ) (end at many : ℕ) → end ≡ own_end o F (section_count o F) → at ≡ headings_at (layout_of P) → many ≡ section_count o F
        → image_length (layout_of P) ≤ length L → a ≡ spliced L 0 (elf_bytes o (front_with (header o F) at many))
        → b ≡ spliced a HEADER_END (pieces_of P o (section_count o F)) → c ≡ spliced b end (zeros (at - end))
        → d ≡ spliced c at (headings_of P o (section_count o F)) → d ≡ spliced L 0 (own_object o F)
    unfolding own_object
    own_put L a b c d end at many ee ea em room wa wb wc wd =
        let fa : a ≡ spliced L 0 (elf_bytes o (written_front P (header o F))) = wa ∙ ap (λ (x : ElfHeader). spliced L 0 (elf_bytes o x)) (rw (ea, em) (sym front_is)) in
        object_parts_put L a b c d end at ee ea room fa wb wc wd

    pub own_long : length (own_object o F) ≡ headings_at (layout_of P) + HEADING_SIZE * section_count o F
    unfolding own_object
    own_long = length_object P o clear (header o F) own_ident ∙ own_image_is

  -- room for the object is room for each of its parts
  pub own_room : (n : ℕ) → image_length (layout_of P) ≤ n → (HEADER_END ≤ n) × (own_end o F (section_count o F) ≤ n) × (headings_at (layout_of P) + HEADING_SIZE * section_count o F ≤ n)
  own_room n room =
      let k : headings_at (layout_of P) + HEADING_SIZE * section_count o F ≤ n = omega (arith, room, own_image_is) in
      let e : own_end o F (section_count o F) ≤ n = omega (arith, k, own_headings_low) in
      (omega (arith, e, own_first, own_mono 0 (section_count o F) (omega arith)), e, k)

  -- ---- the answer

  module _ (room : ℕ) where
    pub rewrite_clear : moved_finding P o ≡ None → room_for (own_object o F) room ≡ rewrite_answer o F room
    unfolding rewrite_answer finding_verdict if_passed
    rewrite_clear e = rw e

    pub rewrite_refused : (place : ℕ) → moved_finding P o ≡ Some place → refused STATICS COMPILED place ≡ rewrite_answer o F room
    unfolding rewrite_answer finding_verdict if_passed
    rewrite_refused place e = rw e

  module _ (clear : moved_finding P o ≡ None) (end at many : ℕ) (ends : end ≡ own_end o F (section_count o F)) (starts : at ≡ aligned_to end 4) (all : many ≡ section_count o F) where
    pub at_is : at ≡ headings_at (layout_of P)
    at_is = starts ∙ headings_is end ends

    pub long_is : at + HEADING_SIZE * many ≡ length (own_object o F)
    long_is = omega (arith, at_is, all, own_long clear)

    pub long_image : at + HEADING_SIZE * many ≡ image_length (layout_of P)
    long_image = omega (arith, at_is, all, own_image_is)

    -- the object written, or counted where there is no room for it
    pub own_written : (before after : List ℕ) → length after ≡ length before → after ≡ spliced before 0 (own_object o F)
        → Written before 0 (own_object o F) (at + HEADING_SIZE * many) after
    own_written before after l e = record { end = omega (arith, long_is); long = l; bytes = λ h. e }

    pub own_counted : (before : List ℕ) → length before < at + HEADING_SIZE * many → Written before 0 (own_object o F) (at + HEADING_SIZE * many) before
    own_counted before l = record { end = omega (arith, long_is); long = refl; bytes = λ h. absurd (omega (arith, h, l, long_is)) }
