-- Every field is the answer of the function that its definition names. Assumes nothing.
use Rattle.elf_readers.specs.Readers.{section}
use Rattle.elf_readers.proofs.Readers.{shstrndx_at}
use Rattle.elf_records.specs.declared.section.SectionHeader.{SectionHeader}
use Rattle.elf_symbols.proofs.Symbols.{link_read}
use Rattle.elf_check.specs.View.{view_of}
use mathlib.Core.Path.{sym, ap, ◌∙◌}
use Rattle.elf_check.proofs.view_of.Goals as goal

pub returns : goal.returns
unfolding view_of
returns c =
    let a = c.args in
    let t = c.symtab_index-symtab.ensures in
    let h = c.section_at-table.ensures in
    λ k. record {
      sections = c.section_count.ensures.0 k;
      section_strings = (c.read16.ensures.0 ∙ sym (shstrndx_at a.order a.file.now)) k;
      symtab = t k;
      strtab = link_read a.order a.file.now _ _ t h k;
      locals = ap (λ (x : SectionHeader). x.sh_info) (h ∙ ap (section a.order a.file.now) t) k;
      symbols = c.symbol_table-symbols.ensures k;
      coded = c.coded_sections-coded.ensures k;
    }
