-- The array holds the sections of the first i codes. Assumes nothing.
use Rattle.elf_check.proofs.Views.{begun_none, begun_put, begun_all}
use native.Mathlib.Omega.{arith}
use mathlib.Core.Path.{sym}
use Rattle.elf_check.proofs.coded_sections.Goals as goal

pub loop-i-init : goal.loop-i-init
loop-i-init c = sym (begun_none c.args.order c.args.file.now)

pub loop-i-preserved : goal.loop-i-preserved
loop-i-preserved c =
    let a = c.args in
    let l = c.loop-i in
    begun_put a.order a.file.now l.i _ l.coded l.invariant (omega arith) c.coded_section.ensures

pub returns : goal.returns
returns c =
    let a = c.args in
    let l = c.loop-i in
    begun_all a.order a.file.now l.i l.coded l.invariant (omega arith)
