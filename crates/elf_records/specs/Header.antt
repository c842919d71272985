-- Elf32_Ehdr (gABI, "ELF Header"): 52 bytes.
use Rattle.std.specs.Prelude.{ℕ, ◌<◌, List, [], ◌∷◌, ◌++◌, take, get_or}
use Rattle.base_fields.specs.declared.ByteOrder.{ByteOrder}
use Rattle.base_fields.specs.Layouts.{fields_at, record_bytes}
use Rattle.elf_records.specs.declared.header.ElfHeader.{ElfHeader}

-- e_ident is 16 bytes; then come e_type .. e_shstrndx
unfoldable pub elf_layout : List ℕ
elf_layout = 1 ∷ 1 ∷ 1 ∷ 1 ∷ 1 ∷ 1 ∷ 1 ∷ 1 ∷ 1 ∷ 1 ∷ 1 ∷ 1 ∷ 1 ∷ 1 ∷ 1 ∷ 1 ∷ 2 ∷ 2 ∷ 4 ∷ 4 ∷ 4 ∷ 4 ∷ 4 ∷ 2 ∷ 2 ∷ 2 ∷ 2 ∷ 2 ∷ 2 ∷ []

unfoldable pub elf_from : List ℕ → ElfHeader
elf_from v = record {
  e_ident = take 16 v;
  e_type = get_or v 16 0;
  e_machine = get_or v 17 0;
  e_version = get_or v 18 0;
  e_entry = get_or v 19 0;
  e_phoff = get_or v 20 0;
  e_shoff = get_or v 21 0;
  e_flags = get_or v 22 0;
  e_ehsize = get_or v 23 0;
  e_phentsize = get_or v 24 0;
  e_phnum = get_or v 25 0;
  e_shentsize = get_or v 26 0;
  e_shnum = get_or v 27 0;
  e_shstrndx = get_or v 28 0;
}

unfoldable pub elf_fields : ElfHeader → List ℕ
elf_fields h = h.e_ident ++ (h.e_type ∷ h.e_machine ∷ h.e_version ∷ h.e_entry ∷ h.e_phoff ∷ h.e_shoff ∷ h.e_flags ∷ h.e_ehsize ∷ h.e_phentsize ∷ h.e_phnum ∷ h.e_shentsize ∷ h.e_shnum ∷ h.e_shstrndx ∷ [])

-- the header at o, and the bytes of a header
unfoldable pub elf_at : ByteOrder → List ℕ → ℕ → ElfHeader
elf_at order l o = elf_from (fields_at order elf_layout l o)

unfoldable pub elf_bytes : ByteOrder → ElfHeader → List ℕ
elf_bytes order h = record_bytes order elf_layout (elf_fields h)

-- the fields of two bytes hold numbers that fit
pub record HalfFields (h : ElfHeader) : Type 0 where
  pub type : h.e_type < 65536
  pub machine : h.e_machine < 65536
  pub ehsize : h.e_ehsize < 65536
  pub phentsize : h.e_phentsize < 65536
  pub phnum : h.e_phnum < 65536
  pub shentsize : h.e_shentsize < 65536
  pub shnum : h.e_shnum < 65536
  pub shstrndx : h.e_shstrndx < 65536
