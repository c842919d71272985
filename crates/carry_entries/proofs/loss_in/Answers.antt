-- The lowest of the first k entries, or `best`. Assumes nothing.
use mathlib.Core.Path.{◌≡◌}
use native.Mathlib.Omega.{arith}
use Rattle.elf_relocations.specs.Relocations.{relocation_count}
use Rattle.carry_entries.specs.Code.{carrying_in}
use Rattle.carry_entries.proofs.Entries.{loss_none, loss_all, table_in, loss_step, table_index, table_entry}
use Rattle.carry_entries.proofs.loss_in.Goals as goal

pub table_at-table-requires : goal.table_at-table-requires
table_at-table-requires c =
    (c.requires.0.goals.viewed, c.requires.1)

pub relocation_count-n-requires : goal.relocation_count-n-requires
relocation_count-n-requires c =
    (c.requires.0.goals.viewed.named.headed, c.requires.1)

pub loop-k-init : goal.loop-k-init
loop-k-init c =
    let a = c.args in (
      omega arith,
      loss_none a.side.order a.file.now (carrying_in a.file.now a.side a.rows.now a.late.now a.numbers.now) a.t a.best,
    )

pub lower_loss-lowest-requires : goal.lower_loss-lowest-requires
lower_loss-lowest-requires c =
    let table_at = c.table_at-table in
    let relocation-count = c.relocation_count-n in
    let loop-test = c.loop-k-test in
    let a = c.args in (
      c.requires.0,
      table_in a.side.order a.file.now a.t _ table_at.ensures c.requires.1 c.requires.2,
      table_entry a.side.order a.file.now a.t _ table_at.ensures _ _ relocation-count.ensures loop-test.true,
    )

pub loop-k-preserved : goal.loop-k-preserved
loop-k-preserved c =
    let loop-test = c.loop-k-test in
    let table_at = c.table_at-table in
    let lower-loss = c.lower_loss-lowest in
    let a = c.args in
    let l = c.loop-k in (
      omega (arith, loop-test.true),
      loss_step a.side.order a.file.now (carrying_in a.file.now a.side a.rows.now a.late.now a.numbers.now) a.t a.best l.k l.lowest _
          _ (table_index a.side.order a.file.now a.t _ table_at.ensures) l.invariant.1 lower-loss.ensures,
    )

pub returns : goal.returns
returns c =
    let loop-test = c.loop-k-test in
    let relocation-count = c.relocation_count-n in
    let a = c.args in
    let l = c.loop-k in
    let e : l.k ≡ relocation_count a.side.order a.file.now a.t = omega (arith, loop-test.false, l.invariant.0, relocation-count.ensures) in
    loss_all a.side.order a.file.now (carrying_in a.file.now a.side a.rows.now a.late.now a.numbers.now) a.t a.best l.k l.lowest
    c.requires.3 l.invariant.1 e
