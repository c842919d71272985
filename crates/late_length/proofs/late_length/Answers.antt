-- `late_length::late_length` meets its contract: after i turns n is the sum over the first i blocks, each at most so many. Assumes nothing.
use Rattle.blocks_items.specs.Items.{late_bytes, late_length}
use Rattle.blocks_places.specs.Lines.{line_count}
use Rattle.blocks_places.specs.Table.{places_in}
use Rattle.blocks_file.proofs.Blocks.{count_high}
use Rattle.blocks_file.specs.Blocks.{block_count}
use Rattle.base_lists.proofs.Ranges.{sum_zero, sum_next}
use Rattle.base_lists.specs.Ranges.{sum}
use native.Mathlib.Omega.{arith}
use mathlib.Core.Path.{◌≡◌, sym, ap, ◌∙◌}
use Rattle.late_length.proofs.late_length.Goals as goal

pub loop-i-init : goal.loop-i-init
loop-i-init c =
    let a = c.args in
    (omega arith, sym (sum_zero (late_bytes (places_in a.places.now (line_count a.file.now)) a.file.now)), omega arith)

pub overflow_add-n : goal.overflow_add-n
overflow_add-n c = omega (arith, count_high c.args.file.now, c.late_bytes-n.ensures.1)

pub loop-i-preserved : goal.loop-i-preserved
loop-i-preserved c =
    let a = c.args in
    let l = c.loop-i in
    let b = c.late_bytes-n.ensures in
    (omega arith, rw (l.invariant.1, b.0) (sym (sum_next (late_bytes (places_in a.places.now (line_count a.file.now)) a.file.now) l.i)), omega (arith, b.1))

pub returns : goal.returns
unfolding late_length
returns c =
    let a = c.args in
    let l = c.loop-i in
    let e : l.i ≡ block_count a.file.now = omega arith in
    (l.invariant.1 ∙ ap (sum (late_bytes (places_in a.places.now (line_count a.file.now)) a.file.now)) e, omega (arith, count_high a.file.now))
