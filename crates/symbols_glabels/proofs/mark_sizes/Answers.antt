-- After i blocks each word is twice what these give: the last block that gives a size wins. Assumes nothing.
use Rattle.blocks_places.specs.Lines.{line_count}
use Rattle.blocks_places.specs.Table.{places_in}
use Rattle.symbols_glabels.specs.Words.{size_below}
use Rattle.symbols_glabels.proofs.Marks.{uniform_holds}
use Rattle.symbols_glabels.proofs.Words.{sizes_none, sizes_next, sizes_end}
use native.Mathlib.Omega.{arith}
use Rattle.symbols_glabels.proofs.mark_sizes.Goals as goal

pub loop-i-init : goal.loop-i-init
loop-i-init c =
    let a = c.args in
    (omega arith, sizes_none (places_in a.places.now (line_count a.file.now)) a.file.now a.order a.assembled.now a.marks.now c.requires.3)

pub mark_size-requires : goal.mark_size-requires
mark_size-requires c =
    let a = c.args in
    let l = c.loop-i in
    (c.requires.0, omega (arith, c.requires.1), uniform_holds a.order a.assembled.now (λ name. size_below (places_in a.places.now (line_count a.file.now)) a.file.now name l.i) a.marks.now l.marks c.requires.2 l.invariant.1)

pub loop-i-preserved : goal.loop-i-preserved
loop-i-preserved c =
    let a = c.args in
    let l = c.loop-i in
    (omega arith, sizes_next (places_in a.places.now (line_count a.file.now)) a.file.now a.order a.assembled.now a.marks.now l.marks _ l.i l.invariant.1 c.mark_size.ensures)

pub shape_of-marks : goal.shape_of-marks
shape_of-marks c = c.loop-i.invariant.1.long

pub returns : goal.returns
returns c =
    let a = c.args in
    let l = c.loop-i in
    sizes_end (places_in a.places.now (line_count a.file.now)) a.file.now a.order a.assembled.now a.marks.now l.marks l.i (omega (arith, c.requires.1)) l.invariant.1
