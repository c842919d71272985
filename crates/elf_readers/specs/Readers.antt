-- The readers of an object: its header, its sections, their contents and names (gABI, "ELF Header", "Sections", "String Table"). Every reader is
-- total, so a definition that uses one needs no bound; F is the file, o the byte order of its fields.
use Rattle.std.specs.Prelude.{ℕ, ◌+◌, ◌*◌, Bool, true, false, ◌&&◌, List, [], take, drop, get_or, eqb, ltb}
use Rattle.base_lists.specs.Ranges.{first, pick_list}
use Rattle.base_lists.specs.Strings.{same, name_at}
use Rattle.base_fields.specs.declared.ByteOrder.{ByteOrder}
use Rattle.base_fields.specs.declared.ByteOrder.TheVariants.{Big, Little}
use Rattle.elf_records.specs.declared.header.ElfHeader.{ElfHeader}
use Rattle.elf_records.specs.declared.section.SectionHeader.{SectionHeader}
use Rattle.elf_records.specs.Header.{elf_at}
use Rattle.elf_records.specs.Section.{section_at}
use Rattle.base_scope.specs.Elf.{EI_DATA, ELFDATA2LSB, SHT_STRTAB, SHT_NOBITS}
use Rattle.base_scope.specs.Codes.{code_name}

abbrev pick_order : Bool → ByteOrder → ByteOrder → ByteOrder
pick_order true a b = a
pick_order false a b = b

-- EI_DATA says the order. Document 01 accepts ELFDATA2MSB alone, so in the base a little-endian file is refused at that field.
unfoldable pub order_of : List ℕ → ByteOrder
order_of F = pick_order (eqb (get_or F EI_DATA 0) ELFDATA2LSB) Little Big

module _ (o : ByteOrder) (F : List ℕ) where
  unfoldable pub header : ElfHeader
  header = elf_at o F 0

  -- e_shnum as stored
  unfoldable pub section_count : ℕ
  section_count = header.e_shnum

  -- where section header i stands
  unfoldable pub header_place : ℕ → ℕ
  header_place i = header.e_shoff + 40 * i

  unfoldable pub section : ℕ → SectionHeader
  section i = section_at o F (header_place i)

  -- the bytes that a section holds; one of type NOBITS holds none
  unfoldable pub contents : ℕ → List ℕ
  contents i = pick_list (eqb (section i).sh_type SHT_NOBITS) [] (take (section i).sh_size (drop (section i).sh_offset F))

  -- section i is there and a string table
  unfoldable pub is_strtab : ℕ → Bool
  is_strtab i = ltb i section_count && eqb (section i).sh_type SHT_STRTAB

  -- the string table of the section names
  unfoldable pub section_strings : List ℕ
  section_strings = contents header.e_shstrndx

  unfoldable pub section_name : ℕ → List ℕ
  section_name i = name_at section_strings (section i).sh_name

  unfoldable pub has_name : List ℕ → ℕ → Bool
  has_name name i = same (section_name i) name

  -- document 01: "the" section of a name is the first, section 0 included; the section count where there is none
  unfoldable pub section_named : List ℕ → ℕ
  section_named name = first (has_name name) 0 section_count

  -- the section of a code
  unfoldable pub coded_section : ℕ → ℕ
  coded_section c = section_named (code_name c)

  -- whether there is one, and the bytes that it holds: none where there is none
  unfoldable pub has_code : ℕ → Bool
  has_code c = ltb (coded_section c) section_count

  unfoldable pub coded_contents : ℕ → List ℕ
  coded_contents c = pick_list (has_code c) (contents (coded_section c)) []
