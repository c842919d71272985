-- What a section of the written object holds is as long as the plan says, so the object's parts have the lengths that its layout says. Assumes nothing.
use Rattle.std.specs.Prelude.{None, Some}
use Prim.Native.Nat.{ℕ, ◌+◌, ◌-◌, ◌*◌, ◌<◌}
use mathlib.Core.Path.{◌≡◌, refl, sym, ap, ◌∙◌}
use mathlib.Core.Bool.{Bool, true, false}
use mathlib.Core.List.{List, ◌++◌}
use native.Mathlib.Omega.{arith}
use lib.ListN.{length}
use lib.Dec.{ltb}
use borrow.Author.Tests.{lt-ltb, ltb-true}
use Rattle.base_lists.specs.Ranges.{gather, pick_list, first}
use Rattle.base_lists.proofs.Ranges.{by-test, no_some, gather_same}
use Rattle.base_lists.specs.Windows.{Within}
use Rattle.base_lists.proofs.Windows.{within_right, within_first}
use Rattle.base_buffers.specs.Buffers.{zeros}
use Rattle.base_fields.specs.declared.ByteOrder.{ByteOrder}
use Rattle.base_scope.specs.Refusals.{pick_finding}
use Rattle.elf_records.specs.declared.header.ElfHeader.{ElfHeader}
use Rattle.elf_records.specs.Header.{elf_bytes}
use Rattle.elf_records.specs.Section.{section_bytes}
use Rattle.elf_records.proofs.RoundTrip.{length_elf, length_section}
use Rattle.write_image.specs.Layout.{Layout, HEADING_SIZE, start_of, end_before, headings_at, image_length}
use Rattle.write_image.specs.Image.{piece_of, image, Fits}
use Rattle.write_image.proofs.Image.{section_there, heading_there, image_long}
use Rattle.write_object.specs.Steps.{moves_words, moved_bytes}
use Rattle.write_object.proofs.Steps.{moved_bytes_long}
use Rattle.write_object.specs.Object.{Plan, has_place, layout_of, written_offset, is_moved_debug, written_content, written_front, written_heading, fails_to_move, moved_finding, object_bytes}

not_clear : (b : Bool) → pick_finding b (Some 0) None ≡ None → b ≡ false
not_clear true e = cc
not_clear false e = refl

module _ (p : Plan) (o : ByteOrder) where
  -- what does not move holds what the plan says
  pub content_kept : (i : ℕ) → is_moved_debug p i ≡ false → written_content p o i ≡ p.content i
  unfolding written_content
  content_kept i f = rw f

  -- a section that can move has as many bytes after the move
  pub content_as_long : (i : ℕ) → fails_to_move p o i ≡ false → length (written_content p o i) ≡ length (p.content i)
  unfolding written_content is_moved_debug moved_bytes moves_words fails_to_move
  content_as_long i f = moved_bytes_long o (p.heading i).sh_type (p.content i) (p.heading i).sh_offset (written_offset p i) f

  pub none_fails : moved_finding p o ≡ None → (i : ℕ) → i < p.many → fails_to_move p o i ≡ false
  unfolding moved_finding
  none_fails clear i h = no_some (fails_to_move p o) 0 p.many i (not_clear (ltb (first (fails_to_move p o) 0 p.many) p.many) clear) (omega arith) h

  module _ (clear : moved_finding p o ≡ None) where
    pub content_long : (i : ℕ) → i < p.many → length (written_content p o i) ≡ length (p.content i)
    content_long i h = content_as_long i (none_fails clear i h)

    -- ---- the same object, from contents that have their lengths at every index

    unfoldable sized : ℕ → List ℕ
    sized i = pick_list (ltb i p.many) (written_content p o i) (p.content i)

    sized_here : (i : ℕ) → i < p.many → sized i ≡ written_content p o i
    unfolding sized
    sized_here i h = rw (lt-ltb i p.many h)

    sized_there : (i : ℕ) → ltb i p.many ≡ false → sized i ≡ p.content i
    unfolding sized
    sized_there i f = rw f

    sized_long : (i : ℕ) → length (sized i) ≡ length (p.content i)
    sized_long i = by-test (ltb i p.many)
        (λ t. ap length (sized_here i (ltb-true i p.many t)) ∙ content_long i (ltb-true i p.many t))
        (λ f. ap length (sized_there i f))

    module _ (h : ElfHeader) (ident : length h.e_ident ≡ 16) where
      abbrev l : Layout
      l = layout_of p

      abbrev front : List ℕ
      front = elf_bytes o (written_front p h)

      abbrev heading : ℕ → List ℕ
      heading i = section_bytes o (written_heading p i)

      pub ident_kept : length (written_front p h).e_ident ≡ 16
      unfolding written_front
      ident_kept = ident

      object_sized : image l front sized heading ≡ object_bytes p o h
      unfolding object_bytes image piece_of layout_of
      object_sized =
          let e : gather l.placed (piece_of l front sized heading) p.many ≡ gather l.placed (piece_of l front (written_content p o) heading) p.many
          = gather_same l.placed l.placed (piece_of l front sized heading) (piece_of l front (written_content p o) heading) p.many
          (λ i k. refl) (λ i k t. ap (λ (c : List ℕ). zeros (start_of l i - end_before l i) ++ c) (sized_here i k)) in
          ap (λ (g : List ℕ). (front ++ g) ++ (zeros (headings_at l - end_before l l.many) ++ gather (λ i. true) heading l.many)) e

      parts_fit : Fits l front sized heading
      unfolding layout_of
      parts_fit = record {
        front_long = length_elf o (written_front p h) ident_kept;
        content_long = λ i t. sized_long i;
        heading_long = λ i. length_section o (written_heading p i);
      }

      -- the object is as long as its layout says
      pub length_object : length (object_bytes p o h) ≡ image_length l
      length_object = ap length (sym object_sized) ∙ image_long l front sized heading parts_fit

      -- and its front, each of its sections and each of its section headers stand where the layout says
      pub front_within : Within front 0 (object_bytes p o h)
      unfolding object_bytes image
      front_within = within_right front _ _ 0 (within_first front _)

      pub heading_within : (i : ℕ) → i < p.many → Within (heading i) (headings_at l + HEADING_SIZE * i) (object_bytes p o h)
      unfolding layout_of
      heading_within i k = rw (← object_sized) (heading_there l front sized heading parts_fit i k)

      pub placed_offset : (i : ℕ) → has_place (p.heading i) ≡ true → written_offset p i ≡ start_of l i
      unfolding written_offset
      placed_offset i t = rw t

      pub content_within : (i : ℕ) → i < p.many → has_place (p.heading i) ≡ true → Within (written_content p o i) (written_offset p i) (object_bytes p o h)
      unfolding layout_of
      content_within i k t = rw (← object_sized, ← sized_here i k, placed_offset i t) (section_there l front sized heading parts_fit i k t)
