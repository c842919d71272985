-- A header that leaves .mdebug is 17 at 0; else its tables are walked. Assumes nothing.
use Rattle.statics_walk.proofs.Walk.{part_at, debug_short, debug_read}
use native.Mathlib.Omega.{arith}
use mathlib.Core.Path.{◌∙◌}
use Rattle.statics_walk.proofs.list_debug.Goals as goal

pub contents_of-debug-requires : goal.contents_of-debug-requires
contents_of-debug-requires c = (c.requires.0, c.requires.4)

pub returns-then-debug-lt-SIZE : goal.returns-then-debug-lt-SIZE
returns-then-debug-lt-SIZE c =
    let a = c.args in
    let q = c.requires in
    let e = c.contents_of-debug.ensures ∙ part_at a.order a.file.now a.i q.3 in
    debug_short a.order a.file.now a.setting.head _ _ a.table.now e c.if-debug-lt-SIZE.true c.no_statics.ensures q.2

pub new-t-requires : goal.new-t-requires
new-t-requires c = omega arith

pub walk_files-requires : goal.walk_files-requires
walk_files-requires c = (c.requires.1, c.requires.2)

pub returns : goal.returns
returns c =
    let a = c.args in
    let q = c.requires in
    let e = c.contents_of-debug.ensures ∙ part_at a.order a.file.now a.i q.3 in
    debug_read a.order a.file.now a.setting.head _ _ _ a.table.now _ e (omega (arith, c.if-debug-lt-SIZE.false)) c.new-t.ensures c.walk_files.ensures
