-- `merge_labels::label_fault` meets its contract: before each turn the search goes on as from the first line. Assumes nothing.
use Rattle.std.specs.Prelude.{Some}
use Rattle.base_lists.proofs.Ranges.{first_next}
use Rattle.blocks_file.proofs.Blocks.{count_high}
use Rattle.blocks_places.specs.Lines.{line_count}
use Rattle.blocks_places.specs.Table.{places_in}
use Rattle.merge_labels.specs.Labels.{is_mislabelled, mislabelled_at}
use Rattle.merge_labels.proofs.Labels.{fault_here, fault_none}
use Prim.Native.Nat.{◌≤◌, ◌<◌}
use mathlib.Core.Path.{refl, sym, ap, ◌∙◌}
use native.Mathlib.Omega.{arith}
use Rattle.merge_labels.proofs.label_fault.Goals as goal

pub loop-j-init : goal.loop-j-init
unfolding mislabelled_at
loop-j-init c = (omega arith, refl)

pub overflow_mul-j-end : goal.overflow_mul-j-end
overflow_mul-j-end c = omega (arith, count_high c.args.file.now)

pub is_mislabelled-requires : goal.is_mislabelled-requires
is_mislabelled-requires c =
    let a = c.args in
    let l = c.loop-j in
    let h : l.j < line_count a.file.now = omega arith in
    (c.requires.0, c.requires.1, h, c.requires.3)

pub returns-then-is_mislabelled : goal.returns-then-is_mislabelled
returns-then-is_mislabelled c =
    let a = c.args in
    let P = places_in a.places.now (line_count a.file.now) in
    let l = c.loop-j in
    let h : l.j < line_count a.file.now = omega arith in
    ap Some c.line_block.ensures ∙ fault_here a.order a.assembled.now P a.file.now l.j l.invariant.1 h (sym c.is_mislabelled.ensures ∙ c.if-is_mislabelled.true)

pub loop-j-preserved : goal.loop-j-preserved
loop-j-preserved c =
    let a = c.args in
    let P = places_in a.places.now (line_count a.file.now) in
    let l = c.loop-j in
    let h : l.j < line_count a.file.now = omega arith in
    (omega arith, l.invariant.1 ∙ first_next (is_mislabelled a.order a.assembled.now P a.file.now) l.j (line_count a.file.now) h (sym c.is_mislabelled.ensures ∙ c.if-is_mislabelled.false))

pub returns : goal.returns
returns c =
    let a = c.args in
    let P = places_in a.places.now (line_count a.file.now) in
    let l = c.loop-j in
    let h : line_count a.file.now ≤ l.j = omega arith in
    fault_none a.order a.assembled.now P a.file.now l.j l.invariant.1 h
