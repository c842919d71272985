-- An object that is to be written (document 01; 000, the writer): the file header of another object and any list of sections, by their headers and contents. Where sections
-- stand is the crate write_image's (specs/Layout.antt). A plan's headers have C's own sh_offset, which a section without a place keeps and a debug section moves from; new
-- sections have 0.
use Rattle.std.specs.Prelude.{ℕ, Bool, cond, not, ◌&&◌, ◌||◌, List, length, eqb, ltb, None, Some, Option}
use Rattle.base_lists.specs.Ranges.{first, pick_list}
use Rattle.base_fields.specs.declared.ByteOrder.{ByteOrder}
use Rattle.base_scope.specs.Elf.{SHT_NULL, SHT_NOBITS, SHT_MIPS_DEBUG}
use Rattle.base_scope.specs.Refusals.{pick_finding}
use Rattle.elf_records.specs.declared.header.ElfHeader.{ElfHeader}
use Rattle.elf_records.specs.declared.section.SectionHeader.{SectionHeader}
use Rattle.elf_records.specs.Header.{elf_bytes}
use Rattle.elf_records.specs.Section.{section_bytes}
use Rattle.statics_shift.specs.Shift.{moved_debug, shift_fails}
use Rattle.write_image.specs.Layout.{Layout, start_of, headings_at}
use Rattle.write_image.specs.Image.{image}

-- the sections by index: their headers, and the bytes that they hold
pub record Plan : Type 0 where
  pub many : ℕ
  pub heading : ℕ → SectionHeader
  pub content : ℕ → List ℕ

-- "NOBITS and null without a place"
unfoldable pub has_place : SectionHeader → Bool
has_place h = not (eqb h.sh_type SHT_NULL || eqb h.sh_type SHT_NOBITS)

module _ (p : Plan) where
  unfoldable pub layout_of : Layout
  layout_of = record {
    many = p.many;
    placed = λ i. has_place (p.heading i);
    size = λ i. length (p.content i);
    align = λ i. (p.heading i).sh_addralign;
  }

  -- sh_offset as written: a section without a place keeps its own
  unfoldable pub written_offset : ℕ → ℕ
  written_offset i = cond (has_place (p.heading i)) (start_of layout_of i) (p.heading i).sh_offset

  -- sh_size as written: the bytes held; NOBITS keeps its own
  unfoldable pub written_size : ℕ → ℕ
  written_size i = cond (eqb (p.heading i).sh_type SHT_NOBITS) (p.heading i).sh_size (length (p.content i))

  unfoldable pub written_heading : ℕ → SectionHeader
  written_heading i = record {
    sh_name = (p.heading i).sh_name;
    sh_type = (p.heading i).sh_type;
    sh_flags = (p.heading i).sh_flags;
    sh_addr = (p.heading i).sh_addr;
    sh_offset = written_offset i;
    sh_size = written_size i;
    sh_link = (p.heading i).sh_link;
    sh_info = (p.heading i).sh_info;
    sh_addralign = (p.heading i).sh_addralign;
    sh_entsize = (p.heading i).sh_entsize;
  }

  -- a debug section whose offset changes
  unfoldable pub is_moved_debug : ℕ → Bool
  is_moved_debug i = eqb (p.heading i).sh_type SHT_MIPS_DEBUG && not (eqb (p.heading i).sh_offset (written_offset i))

  -- its words move with it; other sections hold what the plan says
  unfoldable pub written_content : ByteOrder → ℕ → List ℕ
  written_content o i = pick_list (is_moved_debug i) (moved_debug o (p.content i) (p.heading i).sh_offset (written_offset i)) (p.content i)

  -- 17 with place 0, tested after 20: some debug section moves, and has no header to move
  unfoldable pub fails_to_move : ByteOrder → ℕ → Bool
  fails_to_move o i = shift_fails o (p.content i) (p.heading i).sh_type (p.heading i).sh_offset (written_offset i)

  unfoldable pub moved_finding : ByteOrder → Option ℕ
  moved_finding o = pick_finding (ltb (first (fails_to_move o) 0 p.many) p.many) (Some 0) None

  -- the file header: only e_shoff and e_shnum change
  unfoldable pub written_front : ElfHeader → ElfHeader
  written_front h = record {
    e_ident = h.e_ident;
    e_type = h.e_type;
    e_machine = h.e_machine;
    e_version = h.e_version;
    e_entry = h.e_entry;
    e_phoff = h.e_phoff;
    e_shoff = headings_at layout_of;
    e_flags = h.e_flags;
    e_ehsize = h.e_ehsize;
    e_phentsize = h.e_phentsize;
    e_phnum = h.e_phnum;
    e_shentsize = h.e_shentsize;
    e_shnum = p.many;
    e_shstrndx = h.e_shstrndx;
  }

  -- the written object, in the byte order and with the file header of another one
  unfoldable pub object_bytes : ByteOrder → ElfHeader → List ℕ
  object_bytes o h = image layout_of (elf_bytes o (written_front h)) (written_content o) (λ i. section_bytes o (written_heading i))
