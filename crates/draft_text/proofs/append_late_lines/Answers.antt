-- What is written so far are the late lines of the blocks before block i, and each block moves the end by at most the length of the block file. Assumes nothing.
use lib.Dec.{lit≤}
use Rattle.base_scope.specs.Limits.{BLOCK_LIMIT}
use Rattle.blocks_lines.proofs.Keys.{repeats_late}
use Rattle.blocks_file.specs.Blocks.{block_count}
use Rattle.blocks_file.proofs.Blocks.{count_high}
use Rattle.draft_text.proofs.Late.{late_start_lem, late_turn, late_pass, late_done}
use native.Mathlib.Omega.{arith}
use Prim.Native.Nat.{◌≤◌, ◌<◌}
use mathlib.Core.Path.{◌≡◌, sym, ◌∙◌}
use Rattle.draft_text.proofs.append_late_lines.Goals as goal
use Rattle.draft_text.proofs.append_late_lines.Goals.{then-is_live, else-is_live}

pub loop-i-init : goal.loop-i-init
loop-i-init c =
    let a = c.args in
    (omega arith, omega arith, late_start_lem _ a.file.now a.out.now a.at)

pub append_block_group-next-requires : goal.append_block_group-next-requires
append_block_group-next-requires c =
    let a = c.args in
    let p = c.requires in
    let l = c.loop-i in
    let u : l.i < block_count a.file.now = omega (arith, p.1, c.loop-i-test.true) in
    (p.0.parsed, u, lit≤ tt, repeats_late 9 (lit≤ tt) (lit≤ tt), omega (arith, p.2, l.invariant.1, u, count_high a.file.now))

pub loop-i-preserved : goal.loop-i-preserved
loop-i-preserved c =
    let a = c.args in
    let p = c.requires in
    let l = c.loop-i in
    elim c.if-is_live.branch [
      | then-is_live w ↦
          let g = w.append_block_group-next in
          let u : l.i < block_count a.file.now = omega (arith, p.1, c.loop-i-test.true) in
          let t = sym c.is_live.ensures ∙ w.if-is_live.true in
          rw (w.next-is, w.out-is) (
            omega (arith, p.1, u),
            omega (arith, g.ensures.1, l.invariant.1),
            late_turn _ a.file.now a.out.now a.at l.i l.next l.out l.invariant.2 g.result g.new.out t g.ensures.0,
          )
      | else-is_live w ↦
          let f = sym c.is_live.ensures ∙ w.if-is_live.false in
          rw (w.next-is, w.out-is) (omega arith, omega arith, late_pass _ a.file.now a.out.now a.at l.i l.next l.out l.invariant.2 f)
    ]

pub shape_of-out : goal.shape_of-out
shape_of-out c = c.loop-i.invariant.2.long

pub returns : goal.returns
returns c =
    let a = c.args in
    let p = c.requires in
    let l = c.loop-i in
    let e : l.i ≡ block_count a.file.now = omega (arith, p.1, l.invariant.0, c.loop-i-test.false) in
    let n : block_count a.file.now ≤ BLOCK_LIMIT = count_high a.file.now in
    (late_done _ a.file.now a.out.now a.at l.i l.next l.out l.invariant.2 e, omega (arith, e, n, l.invariant.1))
