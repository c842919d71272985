-- An accepted object is big-endian, since its header says so. Assumes nothing.
use Rattle.std.specs.Prelude.{None}
use mathlib.Core.Path.{◌≡◌, sym, ap, ◌∙◌}
use mathlib.Core.List.{List}
use Prim.Native.Nat.{ℕ, ◌<◌}
use native.Mathlib.Omega.{arith}
use lib.ListN.{get_or, take}
use lib.Seq.{get_or-take}
use borrow.Author.Tests.{eqb-true}
use Rattle.base_fields.specs.declared.ByteOrder.{ByteOrder}
use Rattle.base_fields.specs.declared.ByteOrder.TheVariants.{Big}
use Rattle.elf_records.specs.declared.header.ElfHeader.{ElfHeader}
use Rattle.elf_records.proofs.Offsets.{elf_ident}
use Rattle.base_scope.proofs.Refusals.{expect_clear}
use Rattle.elf_readers.specs.Readers.{order_of, header, section_count, contents}
use Rattle.elf_readers.specs.Bounds.{Headed}
use Rattle.elf_readers.proofs.Readers.{order_big}
use Rattle.elf_header.specs.FileHeader.{field_fault}
use Rattle.elf_header.proofs.FileHeader.{header_long, header_fields}
use Rattle.elf_symbols.specs.Symbols.{symbol_strings, Table}
use Rattle.elf_check.specs.Object.{Accepted, check_of}
use Rattle.elf_check.specs.Sound.{Sound}
use Rattle.elf_check.proofs.Sound.{passed_of, accepted}

-- the sixth test of the header: EI_DATA
data_field : (h : ElfHeader) → field_fault h ≡ None → get_or h.e_ident 5 0 ≡ 2
unfolding field_fault
data_field h e =
    let a = expect_clear _ _ _ e in
    let b = expect_clear _ _ _ a.1 in
    let c = expect_clear _ _ _ b.1 in
    let d = expect_clear _ _ _ c.1 in
    let f = expect_clear _ _ _ d.1 in
    eqb-true _ _ (expect_clear _ _ _ f.1).0

module _ (F : List ℕ) (e : check_of F ≡ Accepted) where
  pub accepted_big : order_of F ≡ Big
  unfolding check_of header
  accepted_big =
      let o = order_of F in
      let p = passed_of o F e in
      let whole = header_long o F p.header in
      let i : get_or (header o F).e_ident 5 0 ≡ 2 = data_field (header o F) (header_fields o F p.header) in
      let t : get_or (take 16 F) 5 0 ≡ 2 = rw (elf_ident o F 0 (omega arith)) at i in
      let d : get_or F 5 0 ≡ 2 = rw (get_or-take 16 F 5 0 (omega arith)) at t in
      sym (order_big F (λ one. absurd (omega arith)))

  -- one order serves every accepted object
  pub accepted_in : (o : ByteOrder) → o ≡ Big → Sound o F
  accepted_in o b =
      let q : order_of F ≡ o = accepted_big ∙ sym b in
      rw q at (accepted F e)

  -- in the order that it states
  pub accepted_stated : (o : ByteOrder) → o ≡ order_of F → Sound o F
  accepted_stated o q = rw q (accepted F e)
