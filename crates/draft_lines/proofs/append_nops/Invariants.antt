use Rattle.draft_lines.specs.Lines.{nop_lines}
use Rattle.base_lists.specs.Written.{Written}
use Prim.Native.Nat.{◌+◌, ◌*◌, ◌≤◌}
use mathlib.Core.Path.{◌≡◌}
use Rattle.draft_lines.proofs.append_nops.Given as goal

abbrev pub invariant-loop : goal.invariant-loop
invariant-loop l = (l.counter ≤ l.n) × (l.here ≡ l.at + 4 * l.counter) × Written l.initial.out l.at (nop_lines l.counter) l.here l.out
