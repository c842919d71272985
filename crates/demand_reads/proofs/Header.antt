-- The merged object's file header is C's but for the place and the number of section headers, so it passes document 01's test, and the object states C's byte order. Assumes
-- nothing.
use Rattle.std.specs.Prelude.{None}
use Prim.Native.Nat.{ℕ}
use mathlib.Core.Path.{◌≡◌, sym, ap, ◌∙◌}
use mathlib.Core.Logic.{◌≢◌}
use mathlib.Core.Bool.{true, not}
use mathlib.Core.List.{List}
use native.Mathlib.Omega.{arith}
use lib.ListN.{length, get_or, take}
use lib.Seq.{get_or-take}
use lib.Dec.{eqb}
use borrow.Author.Tests.{ne_eqb}
use Rattle.base_fields.specs.declared.ByteOrder.{ByteOrder}
use Rattle.base_scope.proofs.Refusals.{expect_clear, expect_true}
use Rattle.elf_records.specs.declared.header.ElfHeader.{ElfHeader}
use Rattle.elf_records.proofs.Offsets.{elf_ident}
use Rattle.elf_readers.specs.Readers.{order_of, header, header_place}
use Rattle.elf_header.specs.FileHeader.{field_fault, header_fault}
use Rattle.elf_header.proofs.FileHeader.{header_long, header_fields, header_whole}
use Rattle.write_image.specs.Layout.{headings_at, image_length}
use Rattle.write_image.proofs.Ends.{end_first, headings_low}
use Rattle.write_object.specs.Object.{Plan, layout_of, written_front, moved_finding, object_bytes}
use Rattle.write_object.proofs.Own.{own_ident}
use Rattle.write_object.proofs.Words.{end_mono}
use Rattle.write_object.proofs.Content.{length_object}
use Rattle.write_object.proofs.ReadBack.{header_back, header_place_back, whole_back}

-- an object that begins as another states its byte order
ident_order : (F G : List ℕ) → take 16 F ≡ take 16 G → order_of F ≡ order_of G
unfolding order_of
ident_order F G e =
    let t : get_or (take 16 F) 5 0 ≡ get_or (take 16 G) 5 0 = ap (λ (x : List ℕ). get_or x 5 0) e in
    let d : get_or F 5 0 ≡ get_or G 5 0 = rw (get_or-take 16 F 5 0 (omega arith), get_or-take 16 G 5 0 (omega arith)) at t in
    rw d

module _ (p : Plan) (h : ElfHeader) where
  -- the fields of a written header pass where those of the other did
  front_fields : headings_at (layout_of p) ≢ 0 → field_fault h ≡ None → field_fault (written_front p h) ≡ None
  unfolding field_fault written_front
  front_fields some e =
      let a = expect_clear _ _ _ e in
      let b = expect_clear _ _ _ a.1 in
      let c = expect_clear _ _ _ b.1 in
      let d = expect_clear _ _ _ c.1 in
      let f = expect_clear _ _ _ d.1 in
      let g = expect_clear _ _ _ f.1 in
      let i = expect_clear _ _ _ g.1 in
      let j = expect_clear _ _ _ i.1 in
      let k = expect_clear _ _ _ j.1 in
      let l = expect_clear _ _ _ k.1 in
      let m = expect_clear _ _ _ l.1 in
      let n = expect_clear _ _ _ m.1 in
      let s : not (eqb (headings_at (layout_of p)) 0) ≡ true = ap not (ne_eqb (headings_at (layout_of p)) 0 some) in
      rw (
        expect_true _ _ _ a.0,
        expect_true _ _ _ b.0,
        expect_true _ _ _ c.0,
        expect_true _ _ _ d.0,
        expect_true _ _ _ f.0,
        expect_true _ _ _ g.0,
        expect_true _ _ _ i.0,
        expect_true _ _ _ j.0,
        expect_true _ _ _ k.0,
        expect_true _ _ _ s,
        expect_true _ _ _ m.0,
        expect_true _ _ _ n.0,
      )

module _ (p : Plan) (o : ByteOrder) (C : List ℕ) (clear : moved_finding p o ≡ None) where
  abbrev O : List ℕ
  O = object_bytes p o (header o C)

  -- section headers stand behind the file header
  headings_some : headings_at (layout_of p) ≢ 0
  headings_some e = omega (arith, e, end_first (layout_of p), end_mono (layout_of p) 0 (layout_of p).many (omega arith), headings_low (layout_of p))

  -- refusal 2 does not hold
  pub header_sound_lem : header_fault o C ≡ None → header_fault o O ≡ None
  header_sound_lem e =
      sym (header_whole o O (whole_back p o (header o C) (own_ident o C) clear))
      ∙ ap field_fault (header_back p o (header o C) (own_ident o C) clear)
      ∙ front_fields p (header o C) headings_some (header_fields o C e)

  -- the section headers end the object
  pub headings_end : header_place o O p.many ≡ length O
  unfolding image_length headings_at layout_of
  headings_end =
      header_place_back p o (header o C) (own_ident o C) clear p.many
      ∙ sym (length_object p o clear (header o C) (own_ident o C))

  ident_same : header_fault o C ≡ None → take 16 O ≡ take 16 C
  unfolding header written_front
  ident_same e =
      let a = elf_ident o O 0 (omega (arith, whole_back p o (header o C) (own_ident o C) clear)) in
      let b = elf_ident o C 0 (omega (arith, header_long o C e)) in
      sym a ∙ ap (λ (x : ElfHeader). x.e_ident) (header_back p o (header o C) (own_ident o C) clear) ∙ b

  -- the byte order is C's
  pub order_kept : header_fault o C ≡ None → order_of O ≡ order_of C
  order_kept e = ident_order O C (ident_same e)
