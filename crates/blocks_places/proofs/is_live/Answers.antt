-- `blocks_places::is_live` meets its contract: no line of the block before j has a label and no span. Assumes nothing.
use Rattle.base_lists.proofs.Ranges.{first_end}
use Rattle.base_scope.specs.Codes.{first_line}
use Rattle.blocks_file.proofs.Blocks.{count_high}
use Rattle.blocks_places.specs.Lines.{line_count}
use Rattle.blocks_places.specs.Places.{untaken}
use Rattle.blocks_places.specs.Table.{places_in}
use Rattle.blocks_places.proofs.Places.{untaken_yes, untaken_taken, untaken_plain, clear_after, live_clear, live_not}
use Rattle.blocks_places.proofs.Walk.{taken_row_lem}
use native.Mathlib.Omega.{arith}
use Prim.Native.Nat.{◌+◌, ◌<◌}
use mathlib.Core.Path.{◌≡◌, sym, ◌∙◌}
use Rattle.blocks_places.proofs.is_live.Goals as goal
use Rattle.blocks_places.proofs.is_live.Goals.{then-is_labelled+else-not-is_taken, else-is_labelled}

pub loop-j-init : goal.loop-j-init
loop-j-init c =
    let a = c.args in
    (omega arith, omega arith, first_end (untaken (places_in a.places.now (line_count a.file.now)) a.file.now) (first_line a.i) (first_line a.i) (omega arith))

pub overflow_add-j-end : goal.overflow_add-j-end
overflow_add-j-end c = omega (arith, count_high c.args.file.now)

pub overflow_mul-j-end : goal.overflow_mul-j-end
overflow_mul-j-end c = omega (arith, count_high c.args.file.now)

pub is_taken-requires : goal.is_taken-requires
is_taken-requires c = (omega arith, omega (arith, count_high c.args.file.now))

pub returns-then-not-is_taken : goal.returns-then-not-is_taken
returns-then-not-is_taken c =
    let a = c.args in
    let l = c.loop-j in
    let P = places_in a.places.now (line_count a.file.now) in
    let s = sym c.is_labelled.ensures ∙ c.if-is_labelled.true in
    let f = taken_row_lem a.places.now (line_count a.file.now) l.j (omega arith) ∙ sym c.is_taken.ensures ∙ c.if-not-is_taken.true in
    let u : l.j < first_line (a.i + 1) = omega arith in
    sym (live_not P a.file.now a.i l.j l.invariant.0 u (untaken_yes P a.file.now l.j s f))

pub loop-j-preserved : goal.loop-j-preserved
loop-j-preserved c =
    let a = c.args in
    let l = c.loop-j in
    let P = places_in a.places.now (line_count a.file.now) in
    elim c.if-is_labelled.branch [
      | then-is_labelled+else-not-is_taken w ↦
          let t = taken_row_lem a.places.now (line_count a.file.now) l.j (omega arith) ∙ sym w.is_taken.ensures ∙ w.if-not-is_taken.false in
          (omega arith, omega arith, clear_after P a.file.now (first_line a.i) l.j l.invariant.0 l.invariant.2 (untaken_taken P a.file.now l.j t))
      | else-is_labelled w ↦
          let f = sym c.is_labelled.ensures ∙ w.if-is_labelled.false in
          (omega arith, omega arith, clear_after P a.file.now (first_line a.i) l.j l.invariant.0 l.invariant.2 (untaken_plain P a.file.now l.j f))
    ]

pub returns : goal.returns
returns c =
    let a = c.args in
    let l = c.loop-j in
    let P = places_in a.places.now (line_count a.file.now) in
    let e : l.j ≡ first_line (a.i + 1) = omega arith in
    sym (live_clear P a.file.now a.i (rw e at l.invariant.2))
