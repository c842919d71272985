-- `late_blocks::place_block` meets its contract: where the dummies are placed, the jump table is the block's last item; where one is lost, so is the block. Assumes
-- nothing.
use Rattle.late_blocks.proofs.Items.{spot_sound, spot_unsound, sound_inside, block_table_lem, block_lost}
use mathlib.Core.Path.{◌∙◌}
use native.Mathlib.Omega.{arith}
use Rattle.late_blocks.proofs.place_block.Goals as goal

pub returns-in_err-end : goal.returns-in_err-end
returns-in_err-end c =
    let a = c.args in
    let d = c.place_dummies in
    let h = spot_unsound a.order a.file.now a.rodata.now a.i a.last a.count d.result d.ensures.0 c.in_err-end.was in
    (c.from_residual.ensures ∙ block_lost a.order a.file.now a.rodata.now a.i a.last a.count h, d.ensures.1)

pub table_spot-requires : goal.table_spot-requires
table_spot-requires c =
    let a = c.args in
    let q = c.requires in
    let d = c.place_dummies in
    let p = c.in_ok-end.end in
    let t = spot_sound a.order a.file.now a.rodata.now a.i a.last a.count p d.result d.ensures.0 c.in_ok-end.was in
    omega (arith, t.1, sound_inside a.order a.file.now a.rodata.now a.i a.last a.count q.3 t.0)

pub returns : goal.returns
returns c =
    let a = c.args in
    let q = c.requires in
    let d = c.place_dummies in
    let p = c.in_ok-end.end in
    let t = spot_sound a.order a.file.now a.rodata.now a.i a.last a.count p d.result d.ensures.0 c.in_ok-end.was in
    (c.table_spot.ensures ∙ block_table_lem a.order a.file.now a.rodata.now a.i a.last a.count a.bytes p q.2 q.6 t.0 t.1, d.ensures.1)
