-- A search for the first section that is not sound: none before i is. Assumes nothing.
use Rattle.base_lists.proofs.Ranges.{first_here, first_next, first_end}
use Rattle.elf_sections.specs.Headers.{bad_section}
use Rattle.elf_sections.proofs.Headers.{bad_true, bad_false}
use native.Mathlib.Omega.{arith}
use mathlib.Core.Path.{◌≡◌, refl, sym, ◌∙◌}
use Rattle.elf_sections.proofs.first_bad_section.Goals as goal

pub loop-i-init : goal.loop-i-init
loop-i-init c = refl

pub returns-then-not-is_section_sound : goal.returns-then-not-is_section_sound
returns-then-not-is_section_sound c =
    let a = c.args in
    let l = c.loop-i in
    sym (l.invariant ∙ first_here (bad_section a.order a.file.now) l.i a.n (omega arith) (bad_true a.order a.file.now l.i (sym c.is_section_sound.ensures ∙ c.if-not-is_section_sound.true)))

pub loop-i-preserved : goal.loop-i-preserved
loop-i-preserved c =
    let a = c.args in
    let l = c.loop-i in
    l.invariant ∙ first_next (bad_section a.order a.file.now) l.i a.n (omega arith) (bad_false a.order a.file.now l.i (sym c.is_section_sound.ensures ∙ c.if-not-is_section_sound.false))

pub returns : goal.returns
returns c =
    let a = c.args in
    let l = c.loop-i in
    let e : l.i ≡ a.n = omega arith in
    sym (l.invariant ∙ first_end (bad_section a.order a.file.now) l.i a.n (omega arith) ∙ e)
