-- After k turns the first k entries stand there, one behind the other. Assumes nothing.
use mathlib.Core.Path.{refl}
use Rattle.symbols_table.proofs.Entries.{wrote_none, wrote_next, wrote_end}
use Rattle.symbols_table.proofs.write_symbols.Goals as goal

pub loop-k-init : goal.loop-k-init
loop-k-init c =
    let a = c.args in
    wrote_none a.compiled.now a.assembled.now a.statics.now a.marks.now a.rows.now a.list.now a.order.now a.n a.out.now a.at

pub loop-k-preserved : goal.loop-k-preserved
loop-k-preserved c =
    let a = c.args in
    let l = c.loop-k in
    let w = c.write in
    wrote_next a.compiled.now a.assembled.now a.statics.now a.marks.now a.rows.now a.list.now a.order.now a.n a.out.now a.at l.k l.out l.invariant c.requires.1 _ _ c.loop-k-test.true c.entry_at-e.ensures.0 w.auto.s w.ensures

pub returns : goal.returns
returns c =
    let a = c.args in
    let l = c.loop-k in
    ((wrote_end a.compiled.now a.assembled.now a.statics.now a.marks.now a.rows.now a.list.now a.order.now a.n a.out.now a.at l.k l.out l.invariant c.requires.1 c.loop-k-test.false).0, refl)
