-- Of the code: what a step of the writer writes, over the numbers that it has in hand. proofs/Steps.antt shows that these are the parts of the written object (specs/Object.antt).
use Rattle.std.specs.Prelude.{ℕ, ◌-◌, Bool, true, cond, not, ◌&&◌, List, [], ◌++◌, eqb}
use Rattle.base_lists.specs.Ranges.{gather, pick_list}
use Rattle.base_buffers.specs.Buffers.{zeros}
use Rattle.base_fields.specs.declared.ByteOrder.{ByteOrder}
use Rattle.base_scope.specs.Elf.{SHT_NOBITS, SHT_MIPS_DEBUG}
use Rattle.elf_records.specs.declared.header.ElfHeader.{ElfHeader}
use Rattle.elf_records.specs.declared.section.SectionHeader.{SectionHeader}
use Rattle.elf_records.specs.Section.{section_bytes}
use Rattle.statics_shift.specs.Shift.{moved_debug}
use Rattle.write_image.specs.Layout.{start_of, end_before}
use Rattle.write_object.specs.Object.{Plan, has_place, layout_of, written_content, written_heading}

-- a file header with another place and number of section headers
unfoldable pub front_with : ElfHeader → ℕ → ℕ → ElfHeader
front_with h shoff many = record {
  e_ident = h.e_ident;
  e_type = h.e_type;
  e_machine = h.e_machine;
  e_version = h.e_version;
  e_entry = h.e_entry;
  e_phoff = h.e_phoff;
  e_shoff = shoff;
  e_flags = h.e_flags;
  e_ehsize = h.e_ehsize;
  e_phentsize = h.e_phentsize;
  e_phnum = h.e_phnum;
  e_shentsize = h.e_shentsize;
  e_shnum = many;
  e_shstrndx = h.e_shstrndx;
}

-- a section header with another place and size of its section
unfoldable pub heading_with : SectionHeader → ℕ → ℕ → SectionHeader
heading_with h offset size = record {
  sh_name = h.sh_name;
  sh_type = h.sh_type;
  sh_flags = h.sh_flags;
  sh_addr = h.sh_addr;
  sh_offset = offset;
  sh_size = size;
  sh_link = h.sh_link;
  sh_info = h.sh_info;
  sh_addralign = h.sh_addralign;
  sh_entsize = h.sh_entsize;
}

-- sh_size of a section that holds so many bytes
unfoldable pub size_with : SectionHeader → ℕ → ℕ
size_with h bytes = cond (eqb h.sh_type SHT_NOBITS) h.sh_size bytes

-- a section of this type moves its words with it
unfoldable pub moves_words : ℕ → ℕ → ℕ → Bool
moves_words type old new = eqb type SHT_MIPS_DEBUG && not (eqb old new)

-- the bytes D of a section of this type after a move from old to new
unfoldable pub moved_bytes : ByteOrder → ℕ → List ℕ → ℕ → ℕ → List ℕ
moved_bytes o type D old new = pick_list (moves_words type old new) (moved_debug o D old new) D

-- zeros from the end of what stands before it, then the section
unfoldable pub padded_section : ByteOrder → SectionHeader → List ℕ → ℕ → ℕ → List ℕ
padded_section o h D end start = zeros (start - end) ++ moved_bytes o h.sh_type D h.sh_offset start

-- the parts of the written object: a section behind its zeros, the first n sections that have a place, and the first n section headers
module _ (p : Plan) (o : ByteOrder) where
  unfoldable pub padded_piece : ℕ → List ℕ
  padded_piece i = zeros (start_of (layout_of p) i - end_before (layout_of p) i) ++ written_content p o i

  unfoldable pub placed_piece : ℕ → List ℕ
  placed_piece i = pick_list (has_place (p.heading i)) (padded_piece i) []

  unfoldable pub pieces_of : ℕ → List ℕ
  pieces_of n = gather (λ i. has_place (p.heading i)) padded_piece n

  unfoldable pub headings_of : ℕ → List ℕ
  headings_of n = gather (λ i. true) (λ i. section_bytes o (written_heading p i)) n
