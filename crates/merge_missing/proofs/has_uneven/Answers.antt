-- `merge_missing::has_uneven` meets its contract: before each turn the search goes on as from the first line. Assumes nothing.
use Rattle.base_lists.proofs.Ranges.{first_next}
use Rattle.blocks_file.proofs.Blocks.{count_high}
use Rattle.blocks_places.specs.Lines.{line_count}
use Rattle.blocks_places.specs.Table.{places_in}
use Rattle.merge_missing.specs.Missing.{is_uneven}
use Rattle.merge_missing.proofs.Ends.{uneven_here, uneven_none, uneven_kept}
use Prim.Native.Nat.{◌≤◌, ◌<◌}
use mathlib.Core.Path.{refl, sym, ◌∙◌}
use native.Mathlib.Omega.{arith}
use Rattle.merge_missing.proofs.has_uneven.Goals as goal

pub loop-j-init : goal.loop-j-init
loop-j-init c = (omega arith, refl)

pub overflow_mul-j-end : goal.overflow_mul-j-end
overflow_mul-j-end c = omega (arith, count_high c.args.file.now)

pub is_uneven-requires : goal.is_uneven-requires
is_uneven-requires c =
    let a = c.args in
    let P = places_in a.places.now (line_count a.file.now) in
    let l = c.loop-j in
    let h : l.j < line_count a.file.now = omega arith in
    (c.requires.0, h)

pub returns-then-is_uneven : goal.returns-then-is_uneven
returns-then-is_uneven c =
    let a = c.args in
    let P = places_in a.places.now (line_count a.file.now) in
    let l = c.loop-j in
    let h : l.j < line_count a.file.now = omega arith in
    uneven_here P a.file.now a.code l.j (sym c.leaves_out.ensures ∙ c.if-leaves_out.true) h (sym c.is_uneven.ensures ∙ c.if-is_uneven.true)

pub loop-j-preserved : goal.loop-j-preserved
loop-j-preserved c =
    let a = c.args in
    let P = places_in a.places.now (line_count a.file.now) in
    let l = c.loop-j in
    let h : l.j < line_count a.file.now = omega arith in
    (omega arith, l.invariant.1 ∙ first_next (is_uneven P a.file.now a.code) l.j (line_count a.file.now) h (sym c.is_uneven.ensures ∙ c.if-is_uneven.false))

pub returns-after-loop-j : goal.returns-after-loop-j
returns-after-loop-j c =
    let a = c.args in
    let P = places_in a.places.now (line_count a.file.now) in
    let l = c.loop-j in
    let h : line_count a.file.now ≤ l.j = omega arith in
    uneven_none P a.file.now a.code l.j (sym c.leaves_out.ensures ∙ c.if-leaves_out.true) h l.invariant.1

pub returns-else-leaves_out : goal.returns-else-leaves_out
returns-else-leaves_out c =
    let a = c.args in
    let P = places_in a.places.now (line_count a.file.now) in
    uneven_kept P a.file.now a.code (sym c.leaves_out.ensures ∙ c.if-leaves_out.false)
