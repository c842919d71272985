-- Elf32_Shdr (gABI, "Section Header"): ten words, 40 bytes.
use Rattle.std.specs.Prelude.{ℕ, List, [], ◌∷◌, get_or}
use Rattle.base_fields.specs.declared.ByteOrder.{ByteOrder}
use Rattle.base_fields.specs.Layouts.{fields_at, record_bytes}
use Rattle.elf_records.specs.declared.section.SectionHeader.{SectionHeader}

unfoldable pub section_layout : List ℕ
section_layout = 4 ∷ 4 ∷ 4 ∷ 4 ∷ 4 ∷ 4 ∷ 4 ∷ 4 ∷ 4 ∷ 4 ∷ []

unfoldable pub section_from : List ℕ → SectionHeader
section_from v = record {
  sh_name = get_or v 0 0;
  sh_type = get_or v 1 0;
  sh_flags = get_or v 2 0;
  sh_addr = get_or v 3 0;
  sh_offset = get_or v 4 0;
  sh_size = get_or v 5 0;
  sh_link = get_or v 6 0;
  sh_info = get_or v 7 0;
  sh_addralign = get_or v 8 0;
  sh_entsize = get_or v 9 0;
}

unfoldable pub section_fields : SectionHeader → List ℕ
section_fields h = h.sh_name ∷ h.sh_type ∷ h.sh_flags ∷ h.sh_addr ∷ h.sh_offset ∷ h.sh_size ∷ h.sh_link ∷ h.sh_info ∷ h.sh_addralign ∷ h.sh_entsize ∷ []

-- the header at o, and the bytes of a header
unfoldable pub section_at : ByteOrder → List ℕ → ℕ → SectionHeader
section_at order l o = section_from (fields_at order section_layout l o)

unfoldable pub section_bytes : ByteOrder → SectionHeader → List ℕ
section_bytes order h = record_bytes order section_layout (section_fields h)
