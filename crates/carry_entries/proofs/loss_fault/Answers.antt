-- The lowest of the first t sections. Assumes nothing.
use mathlib.Core.Path.{◌≡◌}
use native.Mathlib.Omega.{arith}
use Rattle.elf_check.proofs.Views.{view_count}
use Rattle.elf_readers.specs.Readers.{section_count}
use Rattle.carry_entries.specs.Code.{carrying_in}
use Rattle.carry_entries.proofs.Entries.{fault_none, fault_next, fault_end, fault_high}
use Rattle.carry_entries.proofs.loss_fault.Goals as goal

pub loop-t-init : goal.loop-t-init
loop-t-init c =
    let a = c.args in
    (omega arith, fault_none a.side.order a.file.now (carrying_in a.file.now a.side a.rows.now a.late.now a.numbers.now))

pub loss_of-best-requires : goal.loss_of-best-requires
loss_of-best-requires c =
    let loop-test = c.loop-t-test in
    let a = c.args in
    let l = c.loop-t in (
      c.requires,
      omega (arith, loop-test.true, view_count a.side.order a.file.now a.side.view c.requires.goals.viewed.is),
      fault_high a.side.order a.file.now (carrying_in a.file.now a.side a.rows.now a.late.now a.numbers.now) l.t l.best l.invariant.1,
    )

pub loop-t-preserved : goal.loop-t-preserved
loop-t-preserved c =
    let loop-test = c.loop-t-test in
    let loss-of = c.loss_of-best in
    let a = c.args in
    let l = c.loop-t in (
      omega (arith, loop-test.true),
      fault_next a.side.order a.file.now (carrying_in a.file.now a.side a.rows.now a.late.now a.numbers.now) l.t l.best _ l.invariant.1
          loss-of.ensures,
    )

pub returns : goal.returns
returns c =
    let loop-test = c.loop-t-test in
    let found_below = c.found_below in
    let a = c.args in
    let l = c.loop-t in
    let n = view_count a.side.order a.file.now a.side.view c.requires.goals.viewed.is in
    let e : l.t ≡ section_count a.side.order a.file.now = omega (arith, loop-test.false, l.invariant.0, n) in
    fault_end a.side.order a.file.now (carrying_in a.file.now a.side a.rows.now a.late.now a.numbers.now) l.t l.best l.invariant.1 e _
    found_below.ensures
