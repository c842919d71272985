-- A search for the first table that is not as it must be: no section before i is one. Assumes nothing.
use Rattle.base_lists.proofs.Ranges.{first_here, first_next, first_end}
use Rattle.elf_relocations.specs.Relocations.{bad_table}
use Rattle.elf_relocations.proofs.Relocations.{fault_at_lem, fault_none}
use native.Mathlib.Omega.{arith}
use mathlib.Core.Path.{◌≡◌, refl, sym, ◌∙◌}
use Rattle.elf_relocations.proofs.relocation_fault.Goals as goal

pub loop-i-init : goal.loop-i-init
loop-i-init c = refl

pub returns-then-is_bad_table : goal.returns-then-is_bad_table
returns-then-is_bad_table c =
    let a = c.args in
    let l = c.loop-i in
    let n = c.section_count-n in
    let bad = sym c.is_bad_table.ensures ∙ c.if-is_bad_table.true in
    fault_at_lem a.order a.file.now n.result l.i n.ensures.0 (omega arith) (l.invariant ∙ first_here (bad_table a.order a.file.now) l.i n.result (omega arith) bad)

pub loop-i-preserved : goal.loop-i-preserved
loop-i-preserved c =
    let a = c.args in
    let l = c.loop-i in
    let n = c.section_count-n in
    let good = sym c.is_bad_table.ensures ∙ c.if-is_bad_table.false in
    l.invariant ∙ first_next (bad_table a.order a.file.now) l.i n.result (omega arith) good

pub returns : goal.returns
returns c =
    let a = c.args in
    let l = c.loop-i in
    let n = c.section_count-n in
    let e : l.i ≡ n.result = omega arith in
    fault_none a.order a.file.now n.result n.ensures.0 (l.invariant ∙ first_end (bad_table a.order a.file.now) l.i n.result (omega arith) ∙ e)
