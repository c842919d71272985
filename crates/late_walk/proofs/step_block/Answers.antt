-- `late_walk::step_block` meets its contract: a block that is switched off has no items, and one that is not has its dummies and its jump table. Assumes nothing.
use Rattle.base_scope.specs.Limits.{DUMMY_LIMIT, LATE_WORDS}
use Rattle.blocks_file.proofs.Table.{parsed_inside}
use Rattle.late_blocks.specs.of_blocks_items.Items.{dummy_count}
use Rattle.late_blocks.proofs.of_blocks_items.DummyLines.{dummies_in_lem, dummies_up, dummies_limit}
use Rattle.late_blocks.proofs.Items.{spot_sound, spot_unsound}
use Rattle.late_walk.proofs.Steps.{live_count, words_live, step_next, step_stop, step_off, words_off}
use mathlib.Core.Path.{◌≡◌, sym, ◌∙◌}
use Prim.Native.Nat.{◌+◌, ◌*◌, ◌≤◌}
use native.Mathlib.Omega.{arith}
use Rattle.late_walk.proofs.step_block.Goals as goal
use Rattle.late_walk.proofs.step_block.Goals.{After-dummy_count-count}

-- the count that is read is the definition's
counted : (c : After-dummy_count-count)
    → (c.dummy_count-count.result ≡ dummy_count c.args.file.now c.args.i) × (c.dummy_count-count.result ≤ DUMMY_LIMIT)
counted c =
    let a = c.args in
    let q = c.requires in
    let e = c.dummy_count-count.ensures ∙ dummies_in_lem a.file.now a.table.now q.parsed a.i q.counted in
    (e, omega (arith, e, dummies_limit a.file.now a.table.now q.parsed a.i q.counted))

pub is_live-requires : goal.is_live-requires
is_live-requires c =
    let q = c.requires in
    (q.parsed, q.placed, q.counted)

pub dummy_count-count-requires : goal.dummy_count-count-requires
dummy_count-count-requires c =
    let a = c.args in
    let q = c.requires in
    let r = parsed_inside a.file.now a.table.now q.parsed a.i q.counted in
    (r.0, r.1, dummies_up a.file.now a.table.now q.parsed a.i q.counted)

pub place_block-requires : goal.place_block-requires
place_block-requires c =
    let a = c.args in
    let q = c.requires in
    let t = sym c.is_live.ensures ∙ c.if-is_live.true in
    let n = c.dummy_count-count in
    let j = c.jump_table-bytes in
    let d = counted (goal.at.place_block-requires c).After-dummy_count-count in
    let e = live_count a.order _ a.file.now a.rodata.now a.i a.row n.result j.result t d.0 j.ensures.0 in
    (q.parsed, q.counted, d.0, q.inside, q.small, omega (arith, e, q.room), j.ensures.0)

pub overflow_mul-result : goal.overflow_mul-result
overflow_mul-result c = omega (arith, (counted (goal.at.overflow_mul-result c).After-dummy_count-count).1)

pub overflow_add-result : goal.overflow_add-result
overflow_add-result c = omega (arith, (counted (goal.at.overflow_add-result c).After-dummy_count-count).1, c.requires.offset)

pub returns-in_err-end : goal.returns-in_err-end
returns-in_err-end c =
    let a = c.args in
    let q = c.requires in
    let t = sym c.is_live.ensures ∙ c.if-is_live.true in
    let n = c.dummy_count-count in
    let j = c.jump_table-bytes in
    let d = counted (goal.at.returns-in_err-end c).After-dummy_count-count in
    let b = c.place_block in
    let h = spot_unsound a.order a.file.now a.rodata.now a.i a.row.last (n.result + 1) b.result b.ensures.0 c.in_err-end.was in (
      c.from_residual.ensures ∙ step_stop a.order _ a.file.now a.rodata.now a.i a.row n.result j.result t d.0 j.ensures.0 h,
      words_live a.order _ a.file.now a.rodata.now a.i a.row n.result j.result t d.0 j.ensures.0 a.late.now _ (LATE_WORDS + 3 * a.row.dummies) b.ensures.1,
    )

pub overflow_add-result-then-is_live : goal.overflow_add-result-then-is_live
overflow_add-result-then-is_live c = omega (arith, (counted (goal.at.overflow_add-result-then-is_live c).After-dummy_count-count).1, c.requires.offset, c.jump_table-bytes.ensures.1)

pub overflow_add-result-then-is_live-2 : goal.overflow_add-result-then-is_live-2
overflow_add-result-then-is_live-2 c = omega (arith, (counted (goal.at.overflow_add-result-then-is_live-2 c).After-dummy_count-count).1, c.requires.few)

pub returns-then-is_live : goal.returns-then-is_live
returns-then-is_live c =
    let a = c.args in
    let q = c.requires in
    let t = sym c.is_live.ensures ∙ c.if-is_live.true in
    let n = c.dummy_count-count in
    let j = c.jump_table-bytes in
    let d = counted (goal.at.returns-then-is_live c).After-dummy_count-count in
    let b = c.place_block in
    let p = c.in_ok-end.end in
    let s = spot_sound a.order a.file.now a.rodata.now a.i a.row.last (n.result + 1) p b.result b.ensures.0 c.in_ok-end.was in (
      step_next a.order _ a.file.now a.rodata.now a.i a.row n.result j.result t d.0 j.ensures.0 p s.0 s.1,
      words_live a.order _ a.file.now a.rodata.now a.i a.row n.result j.result t d.0 j.ensures.0 a.late.now _ (LATE_WORDS + 3 * a.row.dummies) b.ensures.1,
    )

pub returns : goal.returns
returns c =
    let a = c.args in
    let f = sym c.is_live.ensures ∙ c.if-is_live.false in
    (step_off a.order _ a.file.now a.rodata.now a.i a.row f, words_off a.order _ a.file.now a.rodata.now a.i a.row f a.late.now (LATE_WORDS + 3 * a.row.dummies))
