-- `copy_spans::first_low` meets its contract: before each record none is at fault, and the end in hand is that of the section's last span. Assumes nothing.
use Rattle.copy_spans.specs.Records.{record_at}
use Rattle.copy_spans.proofs.Records.{checking_none, checking_low, checking_next, checking_end}
use Prim.Native.Nat.{◌-◌}
use Rattle.copy_spans.proofs.first_low.Goals as goal

pub loop-i-init : goal.loop-i-init
loop-i-init c = checking_none c.args.spans.now c.args.code

pub returns-then-is_low : goal.returns-then-is_low
unfolding record_at
returns-then-is_low c =
    let a = c.args in
    let l = c.loop-i in
    checking_low a.spans.now a.code l.end l.i l.invariant _ c.is_low.ensures c.if-is_low.true c.loop-i-test.true

pub loop-i-preserved : goal.loop-i-preserved
unfolding record_at
loop-i-preserved c =
    let a = c.args in
    let l = c.loop-i in
    checking_next a.spans.now a.code l.end l.i l.invariant _ _ c.is_low.ensures c.if-is_low.false c.end_behind-end.ensures c.loop-i-test.true

pub returns : goal.returns
returns c =
    let a = c.args in
    let l = c.loop-i in
    checking_end a.spans.now a.code l.end l.i l.invariant c.loop-i-test.false
