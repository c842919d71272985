-- `copy_spans::splice_section` meets its contract: the list is that of the block file, none of its places is at fault, and none of its spans lies outside. Assumes nothing.
use Rattle.blocks_places.specs.Table.{places_in}
use Rattle.blocks_places.specs.Lines.{line_count}
use lib.Seq.{length-take-le}
use Rattle.copy_spans.proofs.Records.{filled_few, clear_few, section_copied}
use native.Mathlib.Omega.{arith}
use Prim.Native.Nat.{◌≤◌}
use mathlib.Core.Path.{sym}
use lib.ListN.{length}
use Rattle.copy_spans.proofs.splice_section.Goals as goal

pub slice_bounds-first_low-end : goal.slice_bounds-first_low-end
slice_bounds-first_low-end c =
    let a = c.args in
    let f = c.fill_spans-n in
    let n = f.result in
    let d = f.new.spans in
    let k : n ≤ length d = omega (arith, filled_few (places_in a.places.now (line_count a.file.now)) a.file.now n d f.ensures, f.auto.spans, c.requires.4) in
    k

pub slice_bounds-first_low-end-2 : goal.slice_bounds-first_low-end-2
slice_bounds-first_low-end-2 c =
    let a = c.args in
    let f = c.fill_spans-n in
    let n = f.result in
    let d = f.new.spans in
    let k : n ≤ length d = omega (arith, filled_few (places_in a.places.now (line_count a.file.now)) a.file.now n d f.ensures, f.auto.spans, c.requires.4) in
    sym (length-take-le n d k)

pub slice_bounds-copy_blocks-end : goal.slice_bounds-copy_blocks-end
slice_bounds-copy_blocks-end c =
    let a = c.args in
    let f = c.fill_spans-n in
    let n = f.result in
    let d = f.new.spans in
    let k : n ≤ length d = omega (arith, filled_few (places_in a.places.now (line_count a.file.now)) a.file.now n d f.ensures, f.auto.spans, c.requires.4) in
    omega (arith, clear_few d n a.code _ k c.first_low-clear.ensures)

pub slice_bounds-copy_blocks-end-2 : goal.slice_bounds-copy_blocks-end-2
slice_bounds-copy_blocks-end-2 c =
    let a = c.args in
    let f = c.fill_spans-n in
    let n = f.result in
    let d = f.new.spans in
    let k : n ≤ length d = omega (arith, filled_few (places_in a.places.now (line_count a.file.now)) a.file.now n d f.ensures, f.auto.spans, c.requires.4) in
    let l : c.first_low-clear.result ≤ length d = omega (arith, clear_few d n a.code _ k c.first_low-clear.ensures) in
    sym (length-take-le _ d l)

pub returns : goal.returns
returns c =
    let a = c.args in
    section_copied (places_in a.places.now (line_count a.file.now)) a.file.now a.code a.source.now a.section.now c.requires.0.fitting c.requires.2 c.requires.3 _ _ _ c.fill_spans-n.ensures c.first_low-clear.ensures _ _ c.copy_blocks.ensures
