-- The search for a block with a late line, from the first block, is the search from block i on, since no block before i has one. Assumes nothing.
use Rattle.base_lists.proofs.Ranges.{first_next}
use Rattle.blocks_file.specs.Blocks.{block_count}
use Rattle.draft_text.specs.Draft.{late_at}
use Rattle.draft_text.proofs.Late.{some_late, none_late}
use native.Mathlib.Omega.{arith}
use Prim.Native.Nat.{◌≤◌, ◌<◌}
use mathlib.Core.Path.{refl, sym, ◌∙◌}
use Rattle.draft_text.proofs.is_late.Goals as goal

pub loop-i-init : goal.loop-i-init
loop-i-init c = (omega arith, refl)

pub returns-then-has_late : goal.returns-then-has_late
returns-then-has_late c =
    let a = c.args in
    let l = c.loop-i in
    let u : l.i < block_count a.file.now = omega (arith, c.requires.1, c.loop-i-test.true) in
    some_late _ a.file.now l.i u l.invariant.1 (sym c.has_late.ensures ∙ c.if-has_late.true)

pub loop-i-preserved : goal.loop-i-preserved
loop-i-preserved c =
    let a = c.args in
    let l = c.loop-i in
    let u : l.i < block_count a.file.now = omega (arith, c.requires.1, c.loop-i-test.true) in
    (omega arith, l.invariant.1 ∙ first_next (late_at _ a.file.now) l.i (block_count a.file.now) u (sym c.has_late.ensures ∙ c.if-has_late.false))

pub returns : goal.returns
returns c =
    let a = c.args in
    let l = c.loop-i in
    let u : block_count a.file.now ≤ l.i = omega (arith, c.requires.1, c.loop-i-test.false) in
    none_late _ a.file.now l.i u l.invariant.1
