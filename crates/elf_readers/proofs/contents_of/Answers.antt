-- A section of type NOBITS has an empty part; the bytes of any other lie inside the file by `Headed`. Assumes nothing.
use native.Mathlib.Omega.{arith}
use mathlib.Core.Path.{refl, sym, ◌∙◌}
use Rattle.elf_readers.specs.Readers.{section}
use Rattle.elf_readers.proofs.Readers.{contents_none, words_part, offset_word, size_word}
use Rattle.elf_readers.proofs.contents_of.Goals as goal

pub returns-then-section_type-eq-SHT_NOBITS : goal.returns-then-section_type-eq-SHT_NOBITS
returns-then-section_type-eq-SHT_NOBITS c =
    let a = c.args in
    contents_none a.order a.file.now a.i (section a.order a.file.now a.i) refl (sym c.section_type.ensures ∙ c.if-section_type-eq-SHT_NOBITS.true)

pub slice_bounds-result-end-2 : goal.slice_bounds-result-end-2
slice_bounds-result-end-2 c =
    let a = c.args in
    let held = c.requires.0.held a.i c.requires.1 (λ n. c.if-section_type-eq-SHT_NOBITS.false (c.section_type.ensures ∙ n)) in
    omega (
      arith,
      held,
      c.header_word-from.ensures ∙ offset_word a.order a.file.now a.i,
      c.header_word.ensures ∙ size_word a.order a.file.now a.i,
    )

pub returns : goal.returns
returns c =
    let a = c.args in
    words_part a.order a.file.now a.i _ _
    (c.header_word-from.ensures ∙ offset_word a.order a.file.now a.i)
    (c.header_word.ensures ∙ size_word a.order a.file.now a.i)
    (λ n. c.if-section_type-eq-SHT_NOBITS.false (c.section_type.ensures ∙ n))
