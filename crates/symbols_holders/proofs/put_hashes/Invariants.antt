use Prim.Native.Nat.{◌≤◌}
use mathlib.Core.Path.{◌≡◌}
use lib.ListN.{length}
use Rattle.symbols_holders.specs.Ready.{id_name, KnownHashes, Hashed}
use Rattle.symbols_holders.proofs.put_hashes.Given as goal

abbrev pub invariant-loop-k : goal.invariant-loop-k
invariant-loop-k l = (l.k ≤ l.m) × (length l.index ≡ length l.initial.index) × Hashed (id_name l.order l.compiled l.assembled l.statics l.sources) l.list l.index l.k × KnownHashes l.order l.assembled l.known l.index
