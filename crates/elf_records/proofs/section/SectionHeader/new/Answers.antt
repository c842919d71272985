-- `SectionHeader::new` meets its contract: the word that is read for each field is the one that its law of proofs/Offsets.antt names.
-- Assumes nothing.
use mathlib.Core.Path.{sym, ◌∙◌}
use Rattle.elf_records.proofs.Offsets.{section_name_lem, section_type, section_flags, section_addr, section_offset, section_size, section_link, section_info, section_addralign, section_entsize}
use Rattle.elf_records.proofs.section.SectionHeader.new.Goals as goal

pub returns : goal.returns
returns c =
    let a = c.args.order in
    let l = c.args.s.now in
    let o = c.args.at in
    λ i. record {
      sh_name = (c.read32.ensures ∙ sym (section_name_lem a l o)) i;
      sh_type = (c.read32-2.ensures ∙ sym (section_type a l o)) i;
      sh_flags = (c.read32-3.ensures ∙ sym (section_flags a l o)) i;
      sh_addr = (c.read32-4.ensures ∙ sym (section_addr a l o)) i;
      sh_offset = (c.read32-5.ensures ∙ sym (section_offset a l o)) i;
      sh_size = (c.read32-6.ensures ∙ sym (section_size a l o)) i;
      sh_link = (c.read32-7.ensures ∙ sym (section_link a l o)) i;
      sh_info = (c.read32-8.ensures ∙ sym (section_info a l o)) i;
      sh_addralign = (c.read32-9.ensures ∙ sym (section_addralign a l o)) i;
      sh_entsize = (c.read32-10.ensures ∙ sym (section_entsize a l o)) i;
    }
