-- e_shstrndx is the half at 50, and names one of the sections by `Named`. Assumes nothing.
use Rattle.elf_readers.proofs.Readers.{shstrndx_at}
use Rattle.elf_readers.specs.Readers.{section_strings, contents}
use native.Mathlib.Omega.{arith}
use mathlib.Core.Path.{sym, ap, ◌∙◌}
use Rattle.elf_readers.proofs.section_strings.Goals as goal

pub contents_of-requires : goal.contents_of-requires
contents_of-requires c =
    let a = c.args in
    (c.requires.headed, omega (arith, c.requires.strings, shstrndx_at a.order a.file.now))

pub returns : goal.returns
unfolding section_strings
returns c =
    let a = c.args in
    c.contents_of.ensures ∙ ap (contents a.order a.file.now) (c.read16-i.ensures.0 ∙ sym (shstrndx_at a.order a.file.now))
