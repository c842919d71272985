-- Refusal 2 (document 01, "Header, 52 bytes"): the offset of the first of twelve header fields that has another value; a short file's length.
use Rattle.std.specs.Prelude.{ℕ, Bool, not, List, length, get_or, eqb, ltb, None, Some, Option}
use Rattle.base_fields.specs.declared.ByteOrder.{ByteOrder}
use Rattle.elf_records.specs.declared.header.ElfHeader.{ElfHeader}
use Rattle.base_scope.specs.Refusals.{expect, pick_finding}
use Rattle.base_scope.specs.Elf.{ELFCLASS32, ELFDATA2MSB, ET_REL, EM_MIPS}
use Rattle.elf_readers.specs.Readers.{header}

abbrev ident : ElfHeader → ℕ → ℕ
ident h k = get_or h.e_ident k 0

-- 7F 45 4C 46 hex, class, data; e_type, e_machine, e_phoff, e_shoff, e_shentsize, e_shstrndx, each with its offset
unfoldable pub field_fault : ElfHeader → Option ℕ
field_fault h =
    expect (eqb (ident h 0) 0x7F) 0
    (expect (eqb (ident h 1) 0x45) 1
    (expect (eqb (ident h 2) 0x4C) 2
    (expect (eqb (ident h 3) 0x46) 3
    (expect (eqb (ident h 4) ELFCLASS32) 4
    (expect (eqb (ident h 5) ELFDATA2MSB) 5
    (expect (eqb h.e_type ET_REL) 16
    (expect (eqb h.e_machine EM_MIPS) 18
    (expect (eqb h.e_phoff 0) 28
    (expect (not (eqb h.e_shoff 0)) 32
    (expect (eqb h.e_shentsize 40) 46
    (expect (not (eqb h.e_shstrndx 0)) 50
    None)))))))))))

unfoldable pub header_fault : ByteOrder → List ℕ → Option ℕ
header_fault o F = pick_finding (ltb (length F) 52) (Some (length F)) (field_fault (header o F))
