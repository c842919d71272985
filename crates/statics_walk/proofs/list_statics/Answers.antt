-- Mode 0, or no .mdebug: no static is read. Else its statics. Assumes nothing.
use Rattle.base_scope.specs.Text.{text}
use Rattle.statics_walk.specs.Walk.{debug_section}
use Rattle.elf_check.proofs.Views.{view_count}
use Rattle.statics_walk.proofs.Walk.{mode_none, debug_absent, debug_there}
use native.Mathlib.Omega.{arith}
use Rattle.statics_walk.proofs.list_statics.Goals as goal

pub returns-then-mode-eq-MODE_NO : goal.returns-then-mode-eq-MODE_NO
returns-then-mode-eq-MODE_NO c =
    let a = c.args in
    mode_none a.order a.file.now a.head a.mode _ a.table.now c.if-mode-eq-MODE_NO.true c.no_statics.ensures c.requires.4

pub section_named-i-requires : goal.section_named-i-requires
section_named-i-requires c = c.requires.0

pub list_debug-requires : goal.list_debug-requires
unfolding debug_section text
list_debug-requires c =
    let a = c.args in
    let q = c.requires in
    let i = c.section_named-i in
    let n = view_count a.order a.file.now a.view q.2 in
    (q.0.headed, record { small = q.1; view = q.2; short = q.3 }, q.4, i.ensures, rw (← n) c.if-i-view.true)

pub returns-then-i-view : goal.returns-then-i-view
unfolding debug_section text
returns-then-i-view c =
    let a = c.args in
    let q = c.requires in
    let i = c.section_named-i in
    let n = view_count a.order a.file.now a.view q.2 in
    let h = rw n at c.if-i-view.true in
    debug_there a.order a.file.now a.head a.mode i.result _ a.table.now _ c.if-mode-eq-MODE_NO.false i.ensures h c.list_debug.ensures

pub returns : goal.returns
unfolding debug_section text
returns c =
    let a = c.args in
    let q = c.requires in
    let i = c.section_named-i in
    let n = view_count a.order a.file.now a.view q.2 in
    debug_absent a.order a.file.now a.head a.mode i.result _ a.table.now i.ensures (omega (arith, n, c.if-i-view.false)) c.no_statics-2.ensures q.4
