-- The table has where the group starts and where the next one does, and between them stand its lines. Assumes nothing.
use Rattle.base_lists.proofs.Written.{written_as}
use Rattle.blocks_file.proofs.Table.{group_in_lem, parsed_inside}
use Rattle.blocks_file.specs.Blocks.{group_at, block_at}
use Rattle.draft_lines.specs.Lines.{group_lines}
use Rattle.draft_text.proofs.Text.{block_group_from, block_group_to, block_group_short}
use native.Mathlib.Omega.{arith}
use Prim.Native.Nat.{◌+◌}
use mathlib.Core.Path.{◌≡◌, ap, ◌∙◌}
use Rattle.draft_text.proofs.append_block_group.Goals as goal

pub group_start-from-requires : goal.group_start-from-requires
group_start-from-requires c =
    let a = c.args in
    let p = c.requires in
    let q = parsed_inside a.file.now a.table.now p.0 a.i p.1 in
    (q.0, q.1, omega (arith, p.2))

pub group_start-to-requires : goal.group_start-to-requires
group_start-to-requires c =
    let a = c.args in
    let p = c.requires in
    let q = parsed_inside a.file.now a.table.now p.0 a.i p.1 in
    (q.0, q.1, omega (arith, p.2))

pub append_group-requires : goal.append_group-requires
append_group-requires c =
    let a = c.args in
    let p = c.requires in
    let from = c.group_start-from in
    let to = c.group_start-to in
    let e : from.result ≡ group_at a.file.now (block_at a.file.now a.i) a.k =
    from.ensures.0 ∙ group_in_lem a.file.now a.table.now p.0 a.i a.k p.1 (omega (arith, p.2)) in
    let f : to.result ≡ group_at a.file.now (block_at a.file.now a.i) (a.k + 1) =
    to.ensures.0 ∙ group_in_lem a.file.now a.table.now p.0 a.i (a.k + 1) p.1 (omega (arith, p.2)) in (
      omega (arith, p.4, p.0.small),
      p.2,
      block_group_from a.file.now a.i a.k from.result to.result p.1 p.2 e,
      block_group_to a.file.now a.i a.k from.result to.result p.1 p.2 e p.3 f,
    )

pub returns : goal.returns
returns c =
    let a = c.args in
    let p = c.requires in
    let from = c.group_start-from in
    let g = c.append_group in
    let e : from.result ≡ group_at a.file.now (block_at a.file.now a.i) a.k =
    from.ensures.0 ∙ group_in_lem a.file.now a.table.now p.0 a.i a.k p.1 (omega (arith, p.2)) in (
      written_as _ _ _ _ _ _ (ap (group_lines a.file.now a.k) e) g.ensures,
      omega (arith, g.ensures.end, p.0.small, block_group_short a.file.now a.i a.k from.result from.result p.1 p.2 e),
    )
