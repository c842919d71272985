-- `blocks_file::read_blocks` meets its contract: after i turns the rows of i blocks stand in the table and block i starts at `at`. A turn ends the loop at
-- the limit or at a faulty group, where no further block is counted, and else writes one row more. Assumes nothing.
use Rattle.blocks_file.specs.Blocks.{group_at, faulty_group}
use Rattle.blocks_file.specs.Table.{bad_line, Reading}
use Rattle.blocks_file.proofs.Blocks.{group_inside, faulty_high}
use Rattle.blocks_file.proofs.Table.{length_groups, filled_none, filled_end, filled_limit, filled_faulty, filled_next}
use native.Mathlib.Omega.{arith}
use mathlib.Core.Path.{◌≡◌, ap, ◌∙◌}
use lib.ListN.{length, get_or}
use Rattle.blocks_file.proofs.read_blocks.Goals as goal

pub loop-at-init : goal.loop-at-init
loop-at-init c =
    let a = c.args in
    filled_none a.file.now a.table.now

pub returns-then-i-eq-BLOCK_LIMIT : goal.returns-then-i-eq-BLOCK_LIMIT
returns-then-i-eq-BLOCK_LIMIT c =
    let a = c.args in
    let l = c.loop-at in
    let r : Reading a.file.now (bad_line a.file.now l.at l.i) a.table.now l.table =
    filled_limit a.file.now a.table.now l.i l.at l.table l.invariant (omega arith) c.if-i-eq-BLOCK_LIMIT.true in
    rw c.bad_line.ensures r

pub bad_line-requires-then-k-lt-GROUPS : goal.bad_line-requires-then-k-lt-GROUPS
bad_line-requires-then-k-lt-GROUPS c =
    let a = c.args in
    let l = c.loop-at in
    let g = c.read_groups-read in
    let k = g.result.faulty in
    let f : k ≡ faulty_group a.file.now l.at = g.ensures.faulty in
    let e : get_or g.result.starts k 0 ≡ group_at a.file.now l.at k = g.ensures.start k (omega arith) in
    omega (arith, e, group_inside a.file.now l.at k (omega arith) (omega arith))

pub returns-then-k-lt-GROUPS : goal.returns-then-k-lt-GROUPS
returns-then-k-lt-GROUPS c =
    let a = c.args in
    let l = c.loop-at in
    let g = c.read_groups-read in
    let k = g.result.faulty in
    let f : k ≡ faulty_group a.file.now l.at = g.ensures.faulty in
    let e : get_or g.result.starts k 0 ≡ group_at a.file.now l.at k = g.ensures.start k (omega arith) in
    let r : Reading a.file.now (bad_line a.file.now (group_at a.file.now l.at k) l.i) a.table.now l.table =
    filled_faulty a.file.now a.table.now l.i l.at l.table l.invariant k f (omega arith) c.if-i-eq-BLOCK_LIMIT.false c.if-k-lt-GROUPS.true in
    rw (c.bad_line-then-k-lt-GROUPS.ensures, e) r

pub write_words-requires : goal.write_words-requires
write_words-requires c =
    let a = c.args in
    let l = c.loop-at in
    let g = c.read_groups-read in
    let f : g.result.faulty ≡ faulty_group a.file.now l.at = g.ensures.faulty in
    let m = c.if-k-lt-GROUPS.false in
    let u : faulty_group a.file.now l.at ≡ 11 = omega (arith, faulty_high a.file.now l.at) in
    let n : length g.result.starts ≡ 12 = ap length (g.ensures.whole u) ∙ length_groups a.file.now l.at in
    omega (arith, n)

pub loop-at-preserved : goal.loop-at-preserved
loop-at-preserved c =
    let a = c.args in
    let l = c.loop-at in
    let g = c.read_groups-read in
    let k = g.result.faulty in
    let f : k ≡ faulty_group a.file.now l.at = g.ensures.faulty in
    let d = c.if-i-eq-BLOCK_LIMIT.false in
    let m = c.if-k-lt-GROUPS.false in
    let u : faulty_group a.file.now l.at ≡ 11 = omega (arith, faulty_high a.file.now l.at) in
    let e : get_or g.result.starts 11 0 ≡ group_at a.file.now l.at 11 = g.ensures.start 11 (omega arith) in
    let n = filled_next a.file.now a.table.now l.i l.at l.table l.invariant k g.result.starts f (omega arith) d m (omega arith) (g.ensures.whole u) in
    rw (e, c.write_words.ensures) n

pub returns : goal.returns
returns c =
    let a = c.args in
    let l = c.loop-at in
    filled_end a.file.now a.table.now l.i l.at l.table l.invariant (omega arith)
