-- `late_rodata::write_run` meets its contract: the run at k lies inside .rodata and inside its source. Assumes nothing.
use Rattle.late_rodata.proofs.Writing.{offset_hand, run_ends, run_room, run_wrote}
use native.Mathlib.Omega.{arith}
use Rattle.late_rodata.proofs.write_run.Goals as goal

pub run_at-run-requires : goal.run_at-run-requires
run_at-run-requires c =
    let a = c.args in
    let p = c.requires in
    (offset_hand a.order a.file.now a.rodata.now a.words.now a.table.now a.late.now a.k p.0, p.1)

pub overflow_add-at : goal.overflow_add-at
overflow_add-at c =
    let p = c.requires in
    omega (arith, p.0.inside, p.2)

pub write_run_bytes-requires : goal.write_run_bytes-requires
write_run_bytes-requires c =
    let a = c.args in
    let p = c.requires in
    let r = c.run_at-run in
    let n = run_room a.order a.file.now a.rodata.now a.words.now a.table.now a.late.now a.k p.0 a.blocks p.1 r.result r.ensures in
    (run_ends a.order a.file.now a.rodata.now a.words.now a.table.now a.late.now a.k p.0 a.blocks p.1 r.result r.ensures, omega (arith, p.2, n))

pub overflow_add-result : goal.overflow_add-result
overflow_add-result c =
    let a = c.args in
    let p = c.requires in
    let r = c.run_at-run in
    omega (arith, p.0.hand.moving.small, run_room a.order a.file.now a.rodata.now a.words.now a.table.now a.late.now a.k p.0 a.blocks p.1 r.result r.ensures, c.write_run_bytes.ensures.0)

pub returns : goal.returns
returns c =
    let a = c.args in
    let p = c.requires in
    let r = c.run_at-run in
    run_wrote a.order a.file.now a.rodata.now a.words.now a.table.now a.late.now a.k p.0 a.blocks p.1 r.result r.ensures a.at _ _ _ c.write_run_bytes.ensures
