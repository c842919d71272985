-- An entry outside the file is at fault, one of another type changes nothing, and a static is left to `walk_static`. Assumes nothing.
use Rattle.statics_debug.specs.Entries.{ENTRY_SIZE}
use Rattle.statics_entry.specs.Code.{passed}
use Rattle.statics_entry.proofs.Entry.{type_read, static_read, walked_outside, walked_plain}
use native.Mathlib.Omega.{arith}
use Prim.Native.Nat.{◌+◌, ◌≤◌}
use mathlib.Core.Path.{sym, ◌∙◌}
use lib.ListN.{length}
use Rattle.statics_entry.proofs.walk_entry.Goals as goal

pub returns-then-file-at : goal.returns-then-file-at
returns-then-file-at c =
    let a = c.args in
    walked_outside a.order a.file.now a.table.now a.setting.head a.base a.at a.nested a.tally c.requires.1 _ c.if-file-at.true c.stop.ensures

pub walk_static-requires : goal.walk_static-requires
walk_static-requires c =
    let a = c.args in
    let q = c.requires in
    let k = type_read a.order a.file.now a.at _ c.entry_type-kind.result c.read32-bits.ensures c.entry_type-kind.ensures in
    let t = static_read a.order a.file.now a.at _ _ k c.lists_static.ensures in
    (q.0, q.1, omega arith, q.3, sym t ∙ c.if-lists_static.true)

pub returns-then-lists_static : goal.returns-then-lists_static
returns-then-lists_static c = c.walk_static.ensures

pub returns : goal.returns
unfolding passed
returns c =
    let a = c.args in
    let k = type_read a.order a.file.now a.at _ c.entry_type-kind.result c.read32-bits.ensures c.entry_type-kind.ensures in
    let h : a.at + ENTRY_SIZE ≤ length a.file.now = omega arith in
    walked_plain a.order a.file.now a.table.now a.setting.head a.base a.at a.nested a.tally c.requires.1 _ h k (sym c.lists_static.ensures ∙ c.if-lists_static.false)
