-- A descriptor that leaves the file fails; else its entries are walked from where it says. Assumes nothing.
use Rattle.statics_debug.specs.Entries.{FILE_SIZE, FILE_READ}
use Rattle.statics_walk.proofs.Walk.{file_outside, file_read}
use native.Mathlib.Omega.{arith}
use Prim.Native.Nat.{◌+◌, ◌*◌, ◌≤◌}
use lib.ListN.{length}
use Rattle.statics_walk.proofs.walk_file.Goals as goal

pub returns-then-file-at : goal.returns-then-file-at
returns-then-file-at c =
    let a = c.args in
    file_outside a.order a.file.now a.setting.head a.t a.i c.if-file-at.true a.table.now a.tally c.requires.1 c.requires.3

pub returns : goal.returns
returns c =
    let a = c.args in
    let d = c.new-d in
    let inside : a.t.descriptors + FILE_SIZE * a.i + FILE_READ ≤ length a.file.now = omega (arith, c.if-file-at.false) in
    file_read a.order a.file.now a.setting.head a.t a.i d.result inside d.ensures a.table.now _ a.tally.count _ (omega arith) c.requires.3 c.walk_entries.ensures
