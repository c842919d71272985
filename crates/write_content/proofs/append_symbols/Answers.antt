-- The entries are counted first, and written where they fit. Assumes nothing.
use native.Mathlib.Omega.{arith}
use Rattle.base_lists.proofs.Written.{written_copy, written_short}
use Rattle.write_content.proofs.Content.{symbols_long}
use Rattle.write_content.proofs.append_symbols.Goals as goal

pub returns-then-end-out : goal.returns-then-end-out
returns-then-end-out c =
    let v-args = c.args in
    let v-pre = c.requires in
    let v-write-symbols = c.write_symbols in
    let n = symbols_long v-args.compiled.now v-args.assembled.now v-args.statics.now v-args.marks.now v-args.rows.now v-args.list.now v-args.order.now v-args.n in
    (written_copy _ _ _ _ _ (omega (arith, n)) v-write-symbols.auto.out v-write-symbols.ensures.0, omega arith, omega (arith, v-pre.1))

pub returns-else-end-out : goal.returns-else-end-out
returns-else-end-out c =
    let v-args = c.args in
    let v-pre = c.requires in
    let v-if1 = c.if-end-out in
    let n = symbols_long v-args.compiled.now v-args.assembled.now v-args.statics.now v-args.marks.now v-args.rows.now v-args.list.now v-args.order.now v-args.n in
    (written_short _ _ _ _ (omega (arith, n)) (omega (arith, v-if1.false)), omega arith, omega (arith, v-pre.1))
