use Rattle.blocks_file.specs.Blocks.{skip}
use Rattle.draft_lines.specs.Lines.{group_lines}
use Rattle.base_lists.specs.Written.{Written}
use Prim.Native.Nat.{ℕ, ◌+◌, ◌-◌, ◌≤◌}
use mathlib.Core.Path.{◌≡◌}
use mathlib.Core.List.{List, ◌++◌}
use lib.ListN.{length}
use Rattle.draft_lines.proofs.append_group.Given as goal

abbrev pub invariant-loop-i : goal.invariant-loop-i
invariant-loop-i l =
    (l.i ≤ length l.file) × (l.to ≡ skip l.file l.k l.i) × (l.end + l.from ≤ l.at + l.i) × (s : List ℕ) × Written l.initial.out l.at s l.end l.out × (group_lines l.file l.k l.from ≡ s ++ group_lines l.file l.k l.i)

abbrev pub decreases-loop-i : goal.decreases-loop-i
decreases-loop-i l = length l.file - l.i
