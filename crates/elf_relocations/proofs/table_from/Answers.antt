-- A search from the given section on: no section from there to i is a table for s. Assumes nothing.
use Rattle.base_lists.proofs.Ranges.{first_here, first_next, first_end}
use Rattle.elf_relocations.specs.Relocations.{relocates}
use Rattle.elf_relocations.proofs.Relocations.{table_found}
use native.Mathlib.Omega.{arith}
use mathlib.Core.Path.{◌≡◌, refl, sym, ◌∙◌}
use Rattle.elf_relocations.proofs.table_from.Goals as goal

pub loop-i-init : goal.loop-i-init
loop-i-init c = refl

pub returns-then-is_table_for : goal.returns-then-is_table_for
returns-then-is_table_for c =
    let a = c.args in
    let l = c.loop-i in
    let n = c.section_count-n in
    let here = sym c.is_table_for.ensures ∙ c.if-is_table_for.true in
    table_found a.order a.file.now a.s a.from n.result l.i n.ensures.0 (l.invariant ∙ first_here (relocates a.order a.file.now a.s) l.i n.result (omega arith) here)

pub loop-i-preserved : goal.loop-i-preserved
loop-i-preserved c =
    let a = c.args in
    let l = c.loop-i in
    let n = c.section_count-n in
    let other = sym c.is_table_for.ensures ∙ c.if-is_table_for.false in
    l.invariant ∙ first_next (relocates a.order a.file.now a.s) l.i n.result (omega arith) other

pub returns : goal.returns
returns c =
    let a = c.args in
    let l = c.loop-i in
    let n = c.section_count-n in
    let e : l.i ≡ n.result = omega arith in
    table_found a.order a.file.now a.s a.from n.result n.result n.ensures.0 (l.invariant ∙ first_end (relocates a.order a.file.now a.s) l.i n.result (omega arith) ∙ e)
