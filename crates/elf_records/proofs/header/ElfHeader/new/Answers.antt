-- `ElfHeader::new` meets its contract: what is read for each field is what its law of proofs/Offsets.antt names.
-- Assumes nothing.
use native.Mathlib.Omega.{arith}
use mathlib.Core.Path.{sym, ◌∙◌}
use Rattle.elf_records.proofs.Offsets.{elf_ident, elf_type, elf_machine, elf_version, elf_entry, elf_phoff, elf_shoff, elf_flags, elf_ehsize, elf_phentsize, elf_phnum, elf_shentsize, elf_shnum, elf_shstrndx}
use Rattle.elf_records.proofs.header.ElfHeader.new.Goals as goal

pub overflow_add-at-12 : goal.overflow_add-at-12
overflow_add-at-12 c = record { fits = omega (arith, c.requires, c.well_formed.1.0.0) }

pub overflow_add-at-13 : goal.overflow_add-at-13
overflow_add-at-13 c = record { fits = omega (arith, c.requires, c.well_formed.1.0.0) }

pub returns : goal.returns
returns c =
    let a = c.args.order in
    let l = c.args.s.now in
    let o = c.args.at in
    λ i. record {
      e_ident = (c.identification-e_ident.ensures ∙ sym (elf_ident a l o (omega (arith, c.requires)))) i;
      e_type = (c.read16.ensures.0 ∙ sym (elf_type a l o)) i;
      e_machine = (c.read16-2.ensures.0 ∙ sym (elf_machine a l o)) i;
      e_version = (c.read32.ensures ∙ sym (elf_version a l o)) i;
      e_entry = (c.read32-2.ensures ∙ sym (elf_entry a l o)) i;
      e_phoff = (c.read32-3.ensures ∙ sym (elf_phoff a l o)) i;
      e_shoff = (c.read32-4.ensures ∙ sym (elf_shoff a l o)) i;
      e_flags = (c.read32-5.ensures ∙ sym (elf_flags a l o)) i;
      e_ehsize = (c.read16-3.ensures.0 ∙ sym (elf_ehsize a l o)) i;
      e_phentsize = (c.read16-4.ensures.0 ∙ sym (elf_phentsize a l o)) i;
      e_phnum = (c.read16-5.ensures.0 ∙ sym (elf_phnum a l o)) i;
      e_shentsize = (c.read16-6.ensures.0 ∙ sym (elf_shentsize a l o)) i;
      e_shnum = (c.read16-7.ensures.0 ∙ sym (elf_shnum a l o)) i;
      e_shstrndx = (c.read16-8.ensures.0 ∙ sym (elf_shstrndx a l o)) i;
    }
