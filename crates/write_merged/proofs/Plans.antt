-- A writing pass over any plan whose object has less than 2 ^ 32 bytes: the numbers that a step has in hand, and its part of the object. Assumes nothing.
use Rattle.std.specs.Prelude.{None, Some}
use Prim.Native.Nat.{ℕ, ◌+◌, ◌-◌, ◌*◌, ◌≤◌, ◌<◌}
use mathlib.Core.Path.{◌≡◌, refl, sym, ap, ◌∙◌}
use mathlib.Core.Bool.{Bool, true, false}
use mathlib.Core.List.{List}
use native.Mathlib.Omega.{arith}
use lib.ListN.{length, get_or, set, take, drop, length-set}
use lib.Seq.{get_or-set_same, get_or-set_other}
use lib.Dec.{ltb}
use borrow.Author.Count.{below_more}
use borrow.Author.Tests.{lt-ltb, le-ltb}
use Rattle.base_lists.specs.Ranges.{first}
use Rattle.base_lists.specs.Windows.{spliced}
use Rattle.base_lists.specs.Written.{Written}
use Rattle.base_lists.proofs.Ranges.{both, first_here, first_next, first_end}
use Rattle.base_lists.proofs.Windows.{spliced_nil}
use Rattle.base_buffers.specs.Buffers.{zeros}
use Rattle.base_fields.specs.declared.ByteOrder.{ByteOrder}
use Rattle.base_scope.specs.Elf.{SHT_MIPS_DEBUG}
use Rattle.elf_records.specs.declared.section.SectionHeader.{SectionHeader}
use Rattle.elf_records.specs.declared.header.ElfHeader.{ElfHeader}
use Rattle.elf_records.specs.Section.{section_bytes}
use Rattle.elf_records.specs.Header.{elf_bytes}
use Rattle.statics_shift.specs.Shift.{shift_fails}
use Rattle.statics_shift.proofs.Shift.{fails_other}
use Rattle.write_image.specs.Layout.{HEADER_END, HEADING_SIZE, aligned_to, start_of, end_before, headings_at, image_length}
use Rattle.write_image.proofs.Ends.{aligned_low, end_first}
use Rattle.write_object.specs.Object.{Plan, has_place, layout_of, written_offset, written_size, written_heading, written_front, fails_to_move, moved_finding, object_bytes}
use Rattle.write_object.specs.Steps.{front_with, size_with, heading_with, moved_bytes, padded_section, placed_piece, pieces_of, headings_of}
use Rattle.write_object.proofs.Writing.{next_placed, next_unplaced, padded_is, unplaced_is, headings_behind, image_is, pieces_turn, object_put}
use Rattle.write_object.proofs.Steps.{gap_keeps, copied_there, section_put}
use Rattle.write_object.proofs.Content.{none_fails, length_object}
use Rattle.write_object.proofs.Words.{end_mono}
use Rattle.write_planned.specs.Held.{SpansOver}
use Rattle.write_merged.specs.Merged.{plan_end, Sized, MergedStep}

-- a section without a place is no debug section
unplaced_debug : (h : SectionHeader) → has_place h ≡ false → h.sh_type ≡ SHT_MIPS_DEBUG → ⊥
unfolding has_place
unplaced_debug h f e = both (rw e) f

-- and a debug section has one
pub debug_placed : (h : SectionHeader) → h.sh_type ≡ SHT_MIPS_DEBUG → has_place h ≡ true
unfolding has_place
debug_placed h e = rw e

-- ---- the sizes noted

module _ (p : Plan) where
  pub sized_none : (sizes : List ℕ) → Sized p 0 sizes
  sized_none sizes = record { long = omega arith; each = λ i h. absurd (omega (arith, h)) }

  pub sized_all : (n : ℕ) (sizes : List ℕ) → n ≡ p.many → Sized p n sizes → Sized p p.many sizes
  sized_all n sizes e s = record { long = omega (arith, e, s.long); each = λ i h. s.each i (omega (arith, h, e)) }

  pub sized_more : (i n : ℕ) (sizes : List ℕ) → i < length sizes → n ≡ length (p.content i) → Sized p i sizes → Sized p (i + 1) (set sizes i n)
  sized_more i n sizes l e s =
      let k : length (set sizes i n) ≡ length sizes = length-set sizes i n in
      let before : (j : ℕ) → j < i → get_or (set sizes i n) j 0 ≡ length (p.content j) = λ j h. get_or-set_other sizes i j n 0 (λ z. omega (arith, h, z)) ∙ s.each j h in
      record {
        long = omega (arith, k, l);
        each = below_more (λ (j : ℕ). get_or (set sizes i n) j 0 ≡ length (p.content j)) i before (get_or-set_same sizes i n 0 l ∙ e);
      }

module _ (p : Plan) (o : ByteOrder) where
  pub plan_first : HEADER_END ≡ plan_end p 0
  unfolding plan_end
  plan_first = sym (end_first (layout_of p))

  pub plan_mono : (i n : ℕ) → i ≤ n → plan_end p i ≤ plan_end p n
  unfolding plan_end
  plan_mono i n h = end_mono (layout_of p) i n h

  pub plan_behind : plan_end p p.many ≤ headings_at (layout_of p)
  unfolding plan_end
  plan_behind = headings_behind p o

  pub plan_image : image_length (layout_of p) ≡ headings_at (layout_of p) + HEADING_SIZE * p.many
  plan_image = image_is p o

  -- ends lie in the object
  pub end_inside : (i : ℕ) → i ≤ p.many → plan_end p i ≤ image_length (layout_of p)
  end_inside i h = omega (arith, plan_mono i p.many h, plan_behind, plan_image)

  pub plan_headings : (end : ℕ) → end ≡ plan_end p p.many → aligned_to end 4 ≡ headings_at (layout_of p)
  unfolding headings_at plan_end layout_of
  plan_headings end e = rw e

  -- ---- section i in hand

  module _ (i end : ℕ) (from : end ≡ plan_end p i) (h : SectionHeader) (is : h ≡ p.heading i) where
    abbrev start : ℕ
    start = aligned_to end h.sh_addralign

    start_is : start ≡ start_of (layout_of p) i
    unfolding start_of layout_of plan_end
    start_is = rw (from, is)

    pub start_behind : end ≤ start
    start_behind = aligned_low end h.sh_addralign

    place_is : (b : Bool) → has_place h ≡ b → has_place (p.heading i) ≡ b
    place_is b e = ap has_place (sym is) ∙ e

    pub next_kept : has_place h ≡ false → end ≡ plan_end p (i + 1)
    unfolding plan_end
    next_kept f = from ∙ sym (next_unplaced p o i (place_is false f))

    offset_kept : has_place h ≡ false → written_offset p i ≡ h.sh_offset
    unfolding written_offset
    offset_kept f = rw (place_is false f, is)

    offset_start : has_place h ≡ true → written_offset p i ≡ start
    unfolding written_offset
    offset_start t = rw (place_is true t) (sym start_is)

    -- only debug sections move
    pub fails_still : (h.sh_type ≡ SHT_MIPS_DEBUG → ⊥) → false ≡ fails_to_move p o i
    unfolding fails_to_move
    fails_still n = fails_other o (p.content i) (p.heading i).sh_type (p.heading i).sh_offset (written_offset p i)
        (λ e. n (ap (λ (y : SectionHeader). y.sh_type) is ∙ e))

    pub section_still : has_place h ≡ false → (L index after : List ℕ) → SpansOver index after → MergedStep p i (placed_piece p o i) end end L L index after
    section_still f L index after k = record { next = next_kept f; bytes = rw (unplaced_is p o i (place_is false f)) (sym (spliced_nil L end)); spans = k }

    -- its bytes in hand
    module _ (D : List ℕ) (held : D ≡ p.content i) where
      heading_kept_is : has_place h ≡ false → heading_with h h.sh_offset (size_with h (length D)) ≡ written_heading p i
      unfolding heading_with written_heading size_with written_size
      heading_kept_is f = rw (offset_kept f, is, held)

      module _ (x : ℕ) (at-start : x ≡ start) (t : has_place h ≡ true) where
        pub next_is : x + length D ≡ plan_end p (i + 1)
        unfolding plan_end
        next_is = omega (arith, at-start, start_is, ap length held, next_placed p o i (place_is true t))

        pub fails_is : shift_fails o D h.sh_type h.sh_offset x ≡ fails_to_move p o i
        unfolding fails_to_move
        fails_is = rw (at-start, ← offset_start t, is, held)

        piece_is : padded_section o h D end x ≡ placed_piece p o i
        unfolding plan_end
        piece_is = ap (padded_section o h D end) (at-start ∙ start_is) ∙ rw (is, held, from) (padded_is p o i (place_is true t))

        pub section_step : (L m index after : List ℕ) (r : ℕ) → r ≡ x + length D → m ≡ spliced L end (padded_section o h D end x) → SpansOver index after
            → MergedStep p i (placed_piece p o i) end r L m index after
        section_step L m index after r e w k = record { next = e ∙ next_is; bytes = w ∙ ap (spliced L end) piece_is; spans = k }

        -- a section behind its zeros, from a text that was written
        module _ (L a b : List ℕ) (r : ℕ) (fine : fails_to_move p o i ≡ false) (room : plan_end p (i + 1) ≤ length L) (gap : a ≡ spliced L end (zeros (x - end)))
            (w : Written a x D r b) where
          pub written_size_is : r - x ≡ length D
          written_size_is = omega (arith, w.end)

          low : end ≤ x
          low = omega (arith, at-start, start_behind)

          pub written_room : x + length D ≤ length L
          written_room = omega (arith, next_is, room)

          still : shift_fails o D h.sh_type h.sh_offset x ≡ false
          still = fails_is ∙ fine

          copied : b ≡ spliced a x D
          copied = w.bytes (omega (arith, ap length gap, gap_keeps o h D L end x low written_room still, written_room))

          there : take (r - x) (drop x b) ≡ D
          there = ap (λ (k : ℕ). take k (drop x b)) written_size_is
              ∙ copied_there o h D L end x low written_room still b (copied ∙ ap (λ (y : List ℕ). spliced y x D) gap)

          pub written_fine : shift_fails o (take (r - x) (drop x b)) h.sh_type h.sh_offset x ≡ false
          written_fine = ap (λ (y : List ℕ). shift_fails o y h.sh_type h.sh_offset x) there ∙ still

          pub written_step : (c index after : List ℕ) → c ≡ spliced b x (moved_bytes o h.sh_type (take (r - x) (drop x b)) h.sh_offset x) → SpansOver index after
              → MergedStep p i (placed_piece p o i) end r L c index after
          written_step c index after e k =
              section_step L c index after r w.end
              (section_put o h D L end x low written_room still a b c gap copied
              (e ∙ ap (λ (n : ℕ). spliced b x (moved_bytes o h.sh_type (take n (drop x b)) h.sh_offset x)) written_size_is)) k

        heading_start_is : heading_with h x (size_with h (length D)) ≡ written_heading p i
        unfolding heading_with written_heading size_with written_size
        heading_start_is = rw (offset_start t, ← at-start, is, held)

    -- how many bytes it holds in hand
    module _ (n : ℕ) (many : n ≡ length (p.content i)) where
      pub next_sized : has_place h ≡ true → start + n ≡ plan_end p (i + 1)
      next_sized t = omega (arith, many, next_is (p.content i) refl start refl t)

      pub heading_still : (L m index after : List ℕ) (at size : ℕ) → has_place h ≡ false → size ≡ size_with h n
          → m ≡ spliced L at (section_bytes o (heading_with h h.sh_offset size)) → SpansOver index after
          → MergedStep p i (section_bytes o (written_heading p i)) at end L m index after
      heading_still L m index after at size f e w k = record {
        next = next_kept f;
        bytes = w
            ∙ ap (λ (y : SectionHeader). spliced L at (section_bytes o y))
            (ap (heading_with h h.sh_offset) (e ∙ ap (size_with h) many) ∙ heading_kept_is (p.content i) refl f);
        spans = k;
      }

      pub heading_step : (L m index after : List ℕ) (at size x : ℕ) → x ≡ start → has_place h ≡ true → size ≡ size_with h n
          → m ≡ spliced L at (section_bytes o (heading_with h x size)) → SpansOver index after
          → MergedStep p i (section_bytes o (written_heading p i)) at (x + n) L m index after
      heading_step L m index after at size x s t e w k = record {
        next = omega (arith, s, next_sized t);
        bytes = w
            ∙ ap (λ (y : SectionHeader). spliced L at (section_bytes o y))
            (ap (heading_with h x) (e ∙ ap (size_with h) many) ∙ heading_start_is (p.content i) refl x s t);
        spans = k;
      }

  -- ---- refusal 17

  finding_yes : ltb (first (fails_to_move p o) 0 p.many) p.many ≡ true → Some 0 ≡ moved_finding p o
  unfolding moved_finding
  finding_yes t = rw t

  finding_no : ltb (first (fails_to_move p o) 0 p.many) p.many ≡ false → None ≡ moved_finding p o
  unfolding moved_finding
  finding_no f = rw f

  module _ (i n : ℕ) (whole : n ≡ p.many) (before : first (fails_to_move p o) 0 n ≡ first (fails_to_move p o) i n) where
    pub fault_here : i < n → fails_to_move p o i ≡ true → Some 0 ≡ moved_finding p o
    fault_here h t =
        let e : ltb (first (fails_to_move p o) 0 n) n ≡ true = lt-ltb (first (fails_to_move p o) 0 n) n (omega (arith, h, before, first_here (fails_to_move p o) i n h t)) in
        finding_yes (ap (λ (m : ℕ). ltb (first (fails_to_move p o) 0 m) m) (sym whole) ∙ e)

    pub fault_next : i < n → fails_to_move p o i ≡ false → first (fails_to_move p o) 0 n ≡ first (fails_to_move p o) (i + 1) n
    fault_next h f = before ∙ first_next (fails_to_move p o) i n h f

    pub fault_none : n ≤ i → None ≡ moved_finding p o
    fault_none h =
        let e : ltb (first (fails_to_move p o) 0 n) n ≡ false = le-ltb (first (fails_to_move p o) 0 n) n (omega (arith, h, before, first_end (fails_to_move p o) i n h)) in
        finding_no (ap (λ (m : ℕ). ltb (first (fails_to_move p o) 0 m) m) (sym whole) ∙ e)

  -- ---- the passes

  -- room for the object is room for each of its parts
  pub plan_room : (n : ℕ) → image_length (layout_of p) ≤ n → (HEADER_END ≤ n) × (plan_end p p.many ≤ n) × (headings_at (layout_of p) + HEADING_SIZE * p.many ≤ n)
  plan_room n room =
      let k : headings_at (layout_of p) + HEADING_SIZE * p.many ≤ n = omega (arith, room, plan_image) in
      let e : plan_end p p.many ≤ n = omega (arith, k, plan_behind) in
      (omega (arith, e, plan_first, plan_mono 0 p.many (omega arith)), e, k)

  module _ (clear : moved_finding p o ≡ None) where
    pub plan_turn : (L m m' : List ℕ) (i e : ℕ) → i < p.many → e ≡ plan_end p i → plan_end p p.many ≤ length L
        → m ≡ spliced L HEADER_END (pieces_of p o i) → m' ≡ spliced m e (placed_piece p o i) → m' ≡ spliced L HEADER_END (pieces_of p o (i + 1))
    unfolding plan_end
    plan_turn L m m' i e h is room before after =
        pieces_turn p o p.many (none_fails p o clear) L m m' i e h is (omega (arith, room, end_mono (layout_of p) (i + 1) p.many (omega (arith, h)))) before after

    module _ (h : ElfHeader) (ident : length h.e_ident ≡ 16) where
      front_is : written_front p h ≡ front_with h (headings_at (layout_of p)) p.many
      unfolding written_front front_with
      front_is = refl

      front_ident : length (written_front p h).e_ident ≡ 16
      unfolding written_front
      front_ident = ident

      -- the four writes, one behind the other
      pub plan_put : (L a b c d : List ℕ) (end at many : ℕ) → end ≡ plan_end p p.many → at ≡ headings_at (layout_of p) → many ≡ p.many
          → image_length (layout_of p) ≤ length L → a ≡ spliced L 0 (elf_bytes o (front_with h at many))
          → b ≡ spliced a HEADER_END (pieces_of p o p.many) → c ≡ spliced b end (zeros (at - end))
          → d ≡ spliced c at (headings_of p o p.many) → d ≡ spliced L 0 (object_bytes p o h)
      unfolding plan_end
      plan_put L a b c d end at many ee ea em room wa wb wc wd =
          let fa : a ≡ spliced L 0 (elf_bytes o (written_front p h)) = wa ∙ ap (λ (x : ElfHeader). spliced L 0 (elf_bytes o x)) (rw (ea, em) (sym front_is)) in
          let last : ℕ = end_before (layout_of p) p.many in
          object_put p o h L a b c d front_ident (none_fails p o clear) room fa wb
          (wc ∙ ap (λ (x : ℕ). spliced b x (zeros (at - x))) ee ∙ ap (λ (x : ℕ). spliced b last (zeros (x - last))) ea)
          (wd ∙ ap (λ (x : ℕ). spliced c x (headings_of p o p.many)) ea)

      module _ (end at many : ℕ) (ends : end ≡ plan_end p p.many) (starts : at ≡ aligned_to end 4) (all : many ≡ p.many) where
        pub at_is : at ≡ headings_at (layout_of p)
        at_is = starts ∙ plan_headings end ends

        pub long_image : at + HEADING_SIZE * many ≡ image_length (layout_of p)
        long_image = omega (arith, at_is, all, plan_image)

        long_is : at + HEADING_SIZE * many ≡ length (object_bytes p o h)
        long_is = long_image ∙ sym (length_object p o clear h ident)

        -- the object written, or counted where there is no room for it
        pub plan_written : (before after : List ℕ) → length after ≡ length before → after ≡ spliced before 0 (object_bytes p o h)
            → Written before 0 (object_bytes p o h) (at + HEADING_SIZE * many) after
        plan_written before after l e = record { end = omega (arith, long_is); long = l; bytes = λ k. e }

        pub plan_counted : (before : List ℕ) → length before < at + HEADING_SIZE * many → Written before 0 (object_bytes p o h) (at + HEADING_SIZE * many) before
        plan_counted before l = record { end = omega (arith, long_is); long = refl; bytes = λ k. absurd (omega (arith, k, l, long_is)) }
