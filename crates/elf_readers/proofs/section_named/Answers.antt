-- A search for the first section of the name: no section before i has it. Assumes nothing.
use Rattle.base_lists.specs.Ranges.{first}
use Rattle.base_lists.proofs.Ranges.{first_here, first_next, first_end}
use Rattle.elf_readers.specs.Readers.{has_name, section_named}
use native.Mathlib.Omega.{arith}
use mathlib.Core.Path.{◌≡◌, refl, sym, ap, ◌∙◌}
use Rattle.elf_readers.proofs.section_named.Goals as goal

pub loop-i-init : goal.loop-i-init
loop-i-init c = refl

pub has_name-requires : goal.has_name-requires
has_name-requires c = (
  c.requires.headed,
  c.header_place-at.ensures.0,
  c.section_strings-strings.ensures,
  omega arith,
)

pub returns-then-has_name : goal.returns-then-has_name
unfolding section_named
returns-then-has_name c =
    let a = c.args in
    let l = c.loop-i in
    let p = has_name a.order a.file.now a.name.now in
    let n = c.section_count-n.result in
    sym (ap (first p 0) (sym c.section_count-n.ensures.0) ∙ l.invariant ∙ first_here p l.i n (omega arith) (sym c.has_name.ensures ∙ c.if-has_name.true))

pub loop-i-preserved : goal.loop-i-preserved
loop-i-preserved c =
    let a = c.args in
    let l = c.loop-i in
    let p = has_name a.order a.file.now a.name.now in
    let n = c.section_count-n.result in
    l.invariant ∙ first_next p l.i n (omega arith) (sym c.has_name.ensures ∙ c.if-has_name.false)

pub returns : goal.returns
unfolding section_named
returns c =
    let a = c.args in
    let l = c.loop-i in
    let p = has_name a.order a.file.now a.name.now in
    let n = c.section_count-n.result in
    let e : l.i ≡ n = omega arith in
    sym (ap (first p 0) (sym c.section_count-n.ensures.0) ∙ l.invariant ∙ first_end p l.i n (omega arith) ∙ e)
