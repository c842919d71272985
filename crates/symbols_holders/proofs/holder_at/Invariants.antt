use Prim.Native.Nat.{◌-◌}
use Rattle.symbols_holders.proofs.Holders.{Walked}
use Rattle.symbols_holders.proofs.holder_at.Given as goal

abbrev pub invariant-loop-k : goal.invariant-loop-k
invariant-loop-k l = Walked l.order l.compiled l.assembled l.statics l.sources l.rows l.index l.p l.k

abbrev pub decreases-loop-k : goal.decreases-loop-k
decreases-loop-k l = l.p - l.k
