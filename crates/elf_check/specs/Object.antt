-- Document 01's check of one object: refusals 2, 3, 4, 3 by name, 5 and 6, in that order.
use Rattle.std.specs.Prelude.{ℕ, List, Option, None, Some, Result, Ok, Err}
use Rattle.base_fields.specs.declared.ByteOrder.{ByteOrder}
use Rattle.base_scope.specs.Refusals.{FILE_HEADER, SECTION_HEADER, SECTION_NAME, SYMBOL_TABLE, RELOCATION_TABLE}
use Rattle.elf_readers.specs.Readers.{order_of}
use Rattle.elf_header.specs.FileHeader.{header_fault}
use Rattle.elf_sections.specs.Headers.{section_fault}
use Rattle.elf_sections.specs.Names.{name_fault, type_fault}
use Rattle.elf_symbol_faults.specs.Faults.{symbol_fault}
use Rattle.elf_relocations.specs.Relocations.{relocation_fault}
use Rattle.elf_check.specs.declared.Fault.{Fault}

-- what refuses an object: number and place
abbrev pub Checked : Type 0
Checked = Result (Unit {0}) Fault

abbrev pub Accepted : Checked
Accepted = Ok tt

abbrev pub Refused : ℕ → ℕ → Checked
Refused number place = Err (record { number = number; place = place })

-- a fault is refused under its number; else the tests after it decide
unfoldable pub refuse : ℕ → Option ℕ → Checked → Checked
refuse number None rest = rest
refuse number (Some place) rest = Refused number place

module _ (o : ByteOrder) (F : List ℕ) where
  -- symbols and relocation tables
  unfoldable pub check_tables : Checked
  check_tables =
      refuse SYMBOL_TABLE (symbol_fault o F)
      (refuse RELOCATION_TABLE (relocation_fault o F)
      Accepted)

  -- section names and the types that go by them
  unfoldable pub check_names : Checked
  check_names =
      refuse SECTION_NAME (name_fault o F)
      (refuse SECTION_HEADER (type_fault o F)
      check_tables)

  -- the file header and the section headers
  unfoldable pub check_in : Checked
  check_in =
      refuse FILE_HEADER (header_fault o F)
      (refuse SECTION_HEADER (section_fault o F)
      check_names)

-- the whole check, in the byte order that the file states
unfoldable pub check_of : List ℕ → Checked
check_of F = check_in (order_of F) F
