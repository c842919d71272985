-- After so many blocks bit 0 is set where one of these that stays on has the glabel. Assumes nothing.
use Rattle.blocks_places.specs.Lines.{line_count}
use Rattle.blocks_places.specs.Table.{places_in}
use Rattle.symbols_glabels.proofs.Groups.{is_glabel_below, blocks_none, blocks_next, blocks_end}
use Rattle.symbols_glabels.proofs.Marks.{uniform_marked}
use native.Mathlib.Omega.{arith}
use Rattle.symbols_glabels.proofs.mark_live.Goals as goal

pub loop-block-init : goal.loop-block-init
loop-block-init c =
    let a = c.args in
    (omega arith, blocks_none (places_in a.places.now (line_count a.file.now)) a.file.now a.order a.assembled.now a.marks.now)

pub mark_block-requires : goal.mark_block-requires
mark_block-requires c =
    let a = c.args in
    let l = c.loop-block in
    (c.requires.0, omega (arith, c.requires.1), uniform_marked a.order a.assembled.now (λ name. is_glabel_below (places_in a.places.now (line_count a.file.now)) a.file.now name l.block) 0 a.marks.now l.marks c.requires.2 l.invariant.1)

pub loop-block-preserved : goal.loop-block-preserved
loop-block-preserved c =
    let a = c.args in
    let l = c.loop-block in
    (omega arith, blocks_next (places_in a.places.now (line_count a.file.now)) a.file.now a.order a.assembled.now a.marks.now l.marks _ l.block l.invariant.1 c.mark_block.ensures)

pub shape_of-marks : goal.shape_of-marks
shape_of-marks c = c.loop-block.invariant.1.long

pub returns : goal.returns
returns c =
    let a = c.args in
    let l = c.loop-block in
    blocks_end (places_in a.places.now (line_count a.file.now)) a.file.now a.order a.assembled.now a.marks.now l.marks l.block (omega (arith, c.requires.1)) l.invariant.1
