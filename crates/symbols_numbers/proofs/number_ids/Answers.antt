-- After p turns every id has its number by the first p positions; at the end these are all. Assumes nothing.
use mathlib.Core.Path.{refl, ◌∙◌}
use native.Mathlib.Omega.{arith}
use Rattle.symbols_numbers.proofs.Counts.{next_none, next_moved, next_at}
use Rattle.symbols_numbers.proofs.Numbers.{room_same, numbered_none, numbered_next, numbered_end, turn_room}
use Rattle.symbols_numbers.proofs.number_ids.Goals as goal

pub loop-p-init : goal.loop-p-init
loop-p-init c = (
  refl,
  next_none _ _ _ _ _ c.requires.2,
  numbered_none _ _ _ _ _ _ c.zero.ensures,
)

pub result_group-g-requires : goal.result_group-g-requires
result_group-g-requires c =
    (c.requires.0.held _ c.loop-p-test.true).own

pub bounds-next-g : goal.bounds-next-g
bounds-next-g c = omega (arith, c.loop-p.invariant.1.long, c.result_group-g.ensures)

pub number_position-requires : goal.number_position-requires
number_position-requires c =
    let l = c.loop-p in
    let g = c.result_group-g in
    let n = next_at _ _ _ _ _ _ l.invariant.1 _ g.ensures.0 g.ensures.1 in
    let r = room_same _ _ _ _ (l.invariant.0 ∙ c.zero.auto.s) c.requires.3 in (
      turn_room _ _ _ _ _ _ c.requires.0 c.requires.1 r c.loop-p-test.true,
      omega (arith, c.requires.0.few, n.small),
    )

pub bounds-next-g-in-loop-p : goal.bounds-next-g-in-loop-p
bounds-next-g-in-loop-p c = omega (arith, c.loop-p.invariant.1.long, c.result_group-g.ensures)

pub loop-p-preserved : goal.loop-p-preserved
loop-p-preserved c =
    let l = c.loop-p in
    let g = c.result_group-g in
    let o = c.number_position in
    let h = c.loop-p-test.true in
    let n = next_at _ _ _ _ _ _ l.invariant.1 _ g.ensures.0 g.ensures.1 in
    let r = room_same _ _ _ _ (l.invariant.0 ∙ c.zero.auto.s) c.requires.3 in (
      o.auto.numbers ∙ l.invariant.0,
      next_moved _ _ _ _ _ _ l.invariant.1 _ g.ensures.0 g.ensures.1 _ o.ensures.next_is h,
      numbered_next _ _ _ _ c.requires.1 _ _ _ l.invariant.2 h r n.is _ _ o.ensures,
    )

pub returns : goal.returns
returns c =
    let l = c.loop-p in
    numbered_end _ _ _ _ _ _ l.invariant.1.few c.loop-p-test.false l.invariant.2
