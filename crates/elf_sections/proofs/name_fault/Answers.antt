-- The names' table first, then the search for a name that is not sound. Assumes nothing.
use Rattle.elf_readers.proofs.Readers.{shstrndx_at}
use Rattle.elf_sections.proofs.Names.{fault_named, fault_unnamed, strings_named}
use mathlib.Core.Path.{sym, ◌∙◌}
use Rattle.elf_sections.proofs.name_fault.Goals as goal

pub first_bad_name-bad-requires : goal.first_bad_name-bad-requires
first_bad_name-bad-requires c =
    let a = c.args in
    record { headed = c.requires; strings = strings_named a.order a.file.now _ (c.read16-strings.ensures.0 ∙ sym (shstrndx_at a.order a.file.now)) (sym c.is_strtab.ensures ∙ c.if-is_strtab.true) }

pub returns-then-is_strtab : goal.returns-then-is_strtab
returns-then-is_strtab c =
    let a = c.args in
    c.found_below.ensures ∙ fault_named a.order a.file.now _ (c.read16-strings.ensures.0 ∙ sym (shstrndx_at a.order a.file.now)) _ _ (sym c.is_strtab.ensures ∙ c.if-is_strtab.true) c.section_count-n.ensures.0 c.first_bad_name-bad.ensures

pub returns : goal.returns
returns c =
    let a = c.args in
    fault_unnamed a.order a.file.now _ (c.read16-strings.ensures.0 ∙ sym (shstrndx_at a.order a.file.now)) (sym c.is_strtab.ensures ∙ c.if-is_strtab.false)
