-- After p turns each holder below p stands at its place; at the end these are all. Assumes nothing.
use mathlib.Core.Path.{refl, ◌∙◌}
use native.Mathlib.Omega.{arith}
use Rattle.symbols_numbers.proofs.Counts.{next_none, next_moved, next_at}
use Rattle.symbols_numbers.proofs.Order.{ordering_none, ordering_next, ordering_end}
use Rattle.symbols_numbers.proofs.order_positions.Goals as goal

pub loop-p-init : goal.loop-p-init
loop-p-init c =
    (refl, next_none _ _ _ _ _ c.requires.1, ordering_none _ _ _ _ _)

pub result_group-g-requires : goal.result_group-g-requires
result_group-g-requires c =
    (c.requires.0.held _ c.loop-p-test.true).own

pub bounds-next-g : goal.bounds-next-g
bounds-next-g c = omega (arith, c.loop-p.invariant.1.long, c.result_group-g.ensures)

pub order_position-requires : goal.order_position-requires
order_position-requires c =
    let l = c.loop-p in
    let g = c.result_group-g in
    let h = c.loop-p-test.true in
    let n = next_at _ _ _ _ _ _ l.invariant.1 _ g.ensures.0 g.ensures.1 in (
      (c.requires.0.held _ h).inside,
      omega (arith, c.requires.0.few),
      λ t. omega (arith, c.requires.2, l.invariant.0, n.low h t),
      omega (arith, c.requires.0.few, n.small),
    )

pub bounds-next-g-in-loop-p : goal.bounds-next-g-in-loop-p
bounds-next-g-in-loop-p c = omega (arith, c.loop-p.invariant.1.long, c.result_group-g.ensures)

pub loop-p-preserved : goal.loop-p-preserved
loop-p-preserved c =
    let l = c.loop-p in
    let g = c.result_group-g in
    let o = c.order_position in
    let h = c.loop-p-test.true in
    let n = next_at _ _ _ _ _ _ l.invariant.1 _ g.ensures.0 g.ensures.1 in (
      o.auto.order ∙ l.invariant.0,
      next_moved _ _ _ _ _ _ l.invariant.1 _ g.ensures.0 g.ensures.1 _ o.ensures.next_is h,
      ordering_next _ _ _ _ _ _ l.invariant.2 _ _ _ n.is h (λ t. omega (arith, c.requires.2, l.invariant.0, n.low h t)) o.ensures,
    )

pub returns : goal.returns
returns c =
    let l = c.loop-p in
    ordering_end _ _ _ _ _ _ l.invariant.2 c.loop-p-test.false
