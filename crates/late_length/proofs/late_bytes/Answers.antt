-- `late_length::late_bytes` meets its contract: a block that stays on has its late words and its jump table, another has none. Assumes nothing.
use Rattle.late_length.proofs.Late.{bytes_live, bytes_off}
use Rattle.blocks_file.proofs.Table.{parsed_inside}
use Rattle.blocks_items.specs.Items.{dummy_count}
use Rattle.blocks_items.proofs.DummyLines.{dummies_in_lem, dummies_up, dummies_limit}
use Rattle.base_scope.specs.Limits.{DUMMY_LIMIT}
use Prim.Native.Nat.{◌≤◌}
use native.Mathlib.Omega.{arith}
use mathlib.Core.Path.{◌≡◌, sym, ◌∙◌}
use Rattle.late_length.proofs.late_bytes.Goals as goal
use Rattle.late_length.proofs.late_bytes.Goals.{After-dummy_count}

-- the count that is read is the definition's
counted : (c : After-dummy_count) → (c.dummy_count.result ≡ dummy_count c.args.file.now c.args.i) × (c.dummy_count.result ≤ DUMMY_LIMIT)
counted c =
    let a = c.args in
    let q = c.requires in
    let e = c.dummy_count.ensures ∙ dummies_in_lem a.file.now a.table.now q.0 a.i q.2 in
    (e, omega (arith, e, dummies_limit a.file.now a.table.now q.0 a.i q.2))

pub dummy_count-requires : goal.dummy_count-requires
dummy_count-requires c =
    let a = c.args in
    let q = c.requires in
    let r = parsed_inside a.file.now a.table.now q.0 a.i q.2 in
    (r.0, r.1, dummies_up a.file.now a.table.now q.0 a.i q.2)

pub overflow_mul-result : goal.overflow_mul-result
overflow_mul-result c = omega (arith, (counted (goal.at.overflow_mul-result c).After-dummy_count).1)

pub overflow_add-result : goal.overflow_add-result
overflow_add-result c = omega (arith, (counted (goal.at.overflow_add-result c).After-dummy_count).1, c.jump_table-jumps.ensures.1)

pub returns-then-is_live : goal.returns-then-is_live
returns-then-is_live c =
    let a = c.args in
    let t = sym c.is_live.ensures ∙ c.if-is_live.true in
    let j = c.jump_table-jumps.ensures in
    let d = counted (goal.at.returns-then-is_live c).After-dummy_count in
    (rw (d.0, j.0) (sym (bytes_live _ a.file.now a.i t)), omega (arith, d.1, j.1))

pub returns : goal.returns
returns c =
    let a = c.args in
    let f = sym c.is_live.ensures ∙ c.if-is_live.false in
    (sym (bytes_off _ a.file.now a.i f), omega arith)
