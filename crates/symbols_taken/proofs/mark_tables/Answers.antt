-- After t sections the symbols that they use are marked, over zeros. Assumes nothing.
use Rattle.base_buffers.proofs.Buffers.{length_zeros}
use Rattle.merge_inputs.proofs.of_elf_check.Views.{view_count}
use Rattle.symbols_taken.specs.Used.{is_used}
use Rattle.symbols_taken.specs.Code.{marked, used_in, used_to}
use Rattle.symbols_taken.proofs.Marks.{length_marked, marked_none, marked_then, table_zero_lem, table_next, table_all}
use native.Mathlib.Omega.{arith}
use Prim.Native.Nat.{◌+◌}
use mathlib.Core.Path.{ap, ◌∙◌}
use lib.ListN.{length}
use Rattle.symbols_taken.proofs.mark_tables.Goals as goal

pub loop-t-init : goal.loop-t-init
loop-t-init c =
    let a = c.args in
    (omega arith, marked_none (used_to a.order a.assembled.now 0) _ (table_zero_lem a.order a.assembled.now))

pub mark_table-requires : goal.mark_table-requires
mark_table-requires c =
    let a = c.args in
    let t = c.loop-t-test.true in
    (c.requires, omega (arith, view_count a.order a.assembled.now a.view c.requires.is))

pub loop-t-preserved : goal.loop-t-preserved
loop-t-preserved c =
    let a = c.args in
    let l = c.loop-t in
    let t = c.loop-t-test.true in
    (omega arith, c.mark_table.ensures ∙ marked_then (used_to a.order a.assembled.now l.t) (used_in a.order a.assembled.now l.t) (used_to a.order a.assembled.now (l.t + 1)) _ l.used l.invariant.1 (table_next a.order a.assembled.now l.t))

pub shape_of-used : goal.shape_of-used
shape_of-used c =
    let a = c.args in
    let l = c.loop-t in
    ap length l.invariant.1 ∙ length_marked (used_to a.order a.assembled.now l.t) _ ∙ ap length c.zero.ensures ∙ length_zeros (length a.used.now)

pub returns : goal.returns
returns c =
    let a = c.args in
    let l = c.loop-t in
    let t = c.loop-t-test.false in
    table_all a.order a.assembled.now l.t _ l.used (omega (arith, view_count a.order a.assembled.now a.view c.requires.is)) l.invariant.1 ∙ ap (marked (is_used a.order a.assembled.now)) c.zero.ensures
