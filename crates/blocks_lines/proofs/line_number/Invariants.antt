use Rattle.base_lists.specs.Ranges.{count}
use Rattle.blocks_lines.specs.Lines.{feed_at}
use Prim.Native.Nat.{◌+◌, ◌≤◌}
use mathlib.Core.Path.{◌≡◌}
use Rattle.blocks_lines.proofs.line_number.Given as goal

abbrev pub invariant-loop-i : goal.invariant-loop-i
invariant-loop-i l = (l.i ≤ l.at) × (l.n ≡ count (feed_at l.file) l.i + 1)
