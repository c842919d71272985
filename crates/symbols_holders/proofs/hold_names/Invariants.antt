use Prim.Native.Nat.{◌≤◌}
use mathlib.Core.Path.{◌≡◌}
use lib.ListN.{length}
use Rattle.symbols_holders.specs.Ready.{symbols_in, NamesHeld}
use Rattle.symbols_holders.proofs.hold_names.Given as goal

abbrev pub invariant-loop-p : goal.invariant-loop-p
invariant-loop-p l =
    (l.p ≤ l.m) × (length l.holders ≡ length l.initial.holders) × NamesHeld (symbols_in l.order l.compiled l.assembled l.statics l.sources l.rows) l.p l.initial.holders l.holders
