-- Of the code, not of document 01: a section header with another sh_info.
use Rattle.std.specs.Prelude.{ℕ}
use Rattle.elf_records.specs.declared.section.SectionHeader.{SectionHeader}

unfoldable pub with_info : SectionHeader → ℕ → SectionHeader
with_info h n = record {
  sh_name = h.sh_name;
  sh_type = h.sh_type;
  sh_flags = h.sh_flags;
  sh_addr = h.sh_addr;
  sh_offset = h.sh_offset;
  sh_size = h.sh_size;
  sh_link = h.sh_link;
  sh_info = n;
  sh_addralign = h.sh_addralign;
  sh_entsize = h.sh_entsize;
}
