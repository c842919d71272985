use Rattle.late_blocks.proofs.Items.{PlacingDummies}
use Rattle.late_blocks.proofs.place_dummies.Given as goal

abbrev pub invariant-loop-k : goal.invariant-loop-k
invariant-loop-k l =
    PlacingDummies l.order l.file l.rodata l.i l.last l.count l.initial.late l.at l.k l.here l.late
