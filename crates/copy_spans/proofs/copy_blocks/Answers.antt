-- `copy_spans::copy_blocks` meets its contract: before each record none lies outside, and the section's spans among those before it are copied. Assumes nothing.
use Rattle.copy_spans.specs.Records.{record_at}
use Rattle.copy_spans.proofs.Records.{copying_none, copying_stop, copying_next, copying_end}
use Prim.Native.Nat.{◌-◌}
use mathlib.Core.Path.{◌∙◌}
use Rattle.copy_spans.proofs.copy_blocks.Goals as goal

pub loop-i-init : goal.loop-i-init
loop-i-init c =
    let a = c.args in
    copying_none a.spans.now a.code a.source.now a.section.now

pub shape_of-section-then-copy_block : goal.shape_of-section-then-copy_block
shape_of-section-then-copy_block c = c.copy_block.auto.section ∙ c.loop-i.invariant.long

pub returns-then-copy_block : goal.returns-then-copy_block
unfolding record_at
returns-then-copy_block c =
    let a = c.args in
    let l = c.loop-i in
    copying_stop a.spans.now a.code a.source.now a.section.now l.i l.section l.invariant _ _ c.copy_block.ensures c.if-copy_block.true c.loop-i-test.true

pub loop-i-preserved : goal.loop-i-preserved
unfolding record_at
loop-i-preserved c =
    let a = c.args in
    let l = c.loop-i in
    copying_next a.spans.now a.code a.source.now a.section.now l.i l.section l.invariant _ _ c.copy_block.ensures c.if-copy_block.false c.copy_block.auto.section c.loop-i-test.true

pub shape_of-section : goal.shape_of-section
shape_of-section c = c.loop-i.invariant.long

pub returns : goal.returns
returns c =
    let a = c.args in
    let l = c.loop-i in
    copying_end a.spans.now a.code a.source.now a.section.now l.i l.section l.invariant c.loop-i-test.false
