-- `blocks_places::span_value` meets its contract: the line of a code in its block starts where the table of blocks says, and ends in front of the LF behind which the next
-- group starts. Assumes nothing.
use Rattle.blocks_file.proofs.Table.{parsed_inside}
use Rattle.blocks_places.proofs.Lines.{line_inside, line_part}
use Prim.Native.Nat.{◌+◌, ◌-◌, ◌≤◌}
use lib.ListN.{length}
use native.Mathlib.Omega.{arith}
use Rattle.blocks_places.proofs.span_value.Goals as goal
use Rattle.blocks_places.proofs.span_value.Goals.{After-key_length}

-- the value lies between its key and its LF
bounds : (c : After-key_length) → (c.group_start-at.result + c.key_length.result ≤ c.group_start-next.result - 1)
    × (c.group_start-next.result - 1 ≤ length c.args.file.now) × (1 ≤ c.group_start-next.result)
bounds c =
    let a = c.args in
    line_inside a.file.now a.table.now c.requires.0 a.j _ _ _ c.requires.1 c.line_block-i.ensures
    c.line_code-k.ensures.0 c.group_start-at.ensures.0 _ _ c.group_start-next.ensures.0 c.key_length.ensures

pub group_start-at-requires : goal.group_start-at-requires
group_start-at-requires c =
    let r = parsed_inside c.args.file.now c.args.table.now c.requires.0 c.line_block-i.result (omega arith) in
    (r.0, r.1, omega arith)

pub group_start-next-requires : goal.group_start-next-requires
group_start-next-requires c =
    let r = parsed_inside c.args.file.now c.args.table.now c.requires.0 c.line_block-i.result (omega arith) in
    (r.0, r.1, omega arith)

pub overflow_add-from : goal.overflow_add-from
overflow_add-from c = omega (arith, bounds (goal.at.overflow_add-from c).After-key_length)

pub overflow_sub-to : goal.overflow_sub-to
overflow_sub-to c = omega (arith, bounds (goal.at.overflow_sub-to c).After-key_length)

pub slice_bounds-result-count : goal.slice_bounds-result-count
slice_bounds-result-count c = omega (arith, bounds (goal.at.slice_bounds-result-count c).After-key_length)

pub slice_bounds-result-start : goal.slice_bounds-result-start
slice_bounds-result-start c = omega (arith, bounds (goal.at.slice_bounds-result-start c).After-key_length)

pub slice_bounds-result-end : goal.slice_bounds-result-end
slice_bounds-result-end c = omega (arith, bounds (goal.at.slice_bounds-result-end c).After-key_length)

pub returns : goal.returns
returns c =
    let a = c.args in
    line_part a.file.now a.table.now c.requires.0 a.j _ _ _ c.requires.1 c.line_block-i.ensures
    c.line_code-k.ensures.0 c.group_start-at.ensures.0 _ _ c.group_start-next.ensures.0 c.key_length.ensures
