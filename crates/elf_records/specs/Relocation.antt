-- Elf32_Rel and Elf32_Rela (gABI, "Relocation"): 8 bytes, or 12 with an addend.
use Rattle.std.specs.Prelude.{ℕ, Bool, true, false, List, [], ◌∷◌, get_or, Option, None, Some}
use Rattle.base_fields.specs.declared.ByteOrder.{ByteOrder}
use Rattle.base_fields.specs.Layouts.{fields_at, record_bytes}
use Rattle.elf_records.specs.declared.relocation.RelocationEntry.{RelocationEntry}

-- of a table with addends (RELA), or with none (REL)
unfoldable pub relocation_layout : Bool → List ℕ
relocation_layout true = 4 ∷ 4 ∷ 4 ∷ []
relocation_layout false = 4 ∷ 4 ∷ []

unfoldable pub addend_of : Bool → List ℕ → Option ℕ
addend_of true v = Some (get_or v 2 0)
addend_of false v = None

unfoldable pub relocation_from : Bool → List ℕ → RelocationEntry
relocation_from rela v = record { r_offset = get_or v 0 0; r_info = get_or v 1 0; r_addend = addend_of rela v }

unfoldable pub addend_fields : Option ℕ → List ℕ
addend_fields (Some a) = a ∷ []
addend_fields None = []

unfoldable pub relocation_fields : RelocationEntry → List ℕ
relocation_fields r = r.r_offset ∷ r.r_info ∷ addend_fields r.r_addend

-- whether an entry has an addend
unfoldable pub present : Option ℕ → Bool
present (Some a) = true
present None = false

unfoldable pub has_addend : RelocationEntry → Bool
has_addend r = present r.r_addend

-- the entry at o, and the bytes of an entry
unfoldable pub relocation_at : ByteOrder → Bool → List ℕ → ℕ → RelocationEntry
relocation_at order rela l o = relocation_from rela (fields_at order (relocation_layout rela) l o)

unfoldable pub relocation_bytes : ByteOrder → RelocationEntry → List ℕ
relocation_bytes order r = record_bytes order (relocation_layout (has_addend r)) (relocation_fields r)
