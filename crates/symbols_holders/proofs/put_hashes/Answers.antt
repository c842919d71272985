-- After k turns the first k items have the hashes of their positions. Assumes nothing.
use mathlib.Core.Path.{◌≡◌, refl, ◌∙◌}
use native.Mathlib.Omega.{arith}
use Rattle.symbols_holders.proofs.Tables.{known_kept, hashed_none, hashed_next}
use Rattle.symbols_holders.proofs.put_hashes.Goals as goal

pub loop-k-init : goal.loop-k-init
loop-k-init c =
    (omega arith, refl, hashed_none _ _ _, c.requires.4)

pub put_hash-requires : goal.put_hash-requires
put_hash-requires c =
    let l = c.loop-k in
    let b = c.requires in
    let h = b.1 l.k c.loop-k-test.true in
    (b.0, record { item = omega (arith, b.2, b.3.long, l.invariant.1); word = h.0; id = h.1 }, l.invariant.3)

pub loop-k-preserved : goal.loop-k-preserved
loop-k-preserved c =
    let l = c.loop-k in
    let a = c.args in
    let q = c.requires in
    let w = c.put_hash in (
      omega arith,
      w.auto.index ∙ l.invariant.1,
      hashed_next _ _ l.index _ l.k (omega (arith, q.2, q.3.long, l.invariant.1)) w.ensures l.invariant.2,
      known_kept a.order a.assembled.now l.index _ a.known l.k _ (omega (arith, q.2, c.loop-k-test.true)) w.ensures l.invariant.3,
    )

pub returns : goal.returns
returns c =
    let l = c.loop-k in
    let e : l.k ≡ c.args.m = omega arith in
    rw e at l.invariant.2
