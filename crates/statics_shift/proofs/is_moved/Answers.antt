-- The count stands in front of its offset. Assumes nothing.
use Rattle.statics_shift.proofs.Shift.{offset_low, moves_offset, moves_other}
use native.Mathlib.Omega.{arith}
use Rattle.statics_shift.proofs.is_moved.Goals as goal

pub overflow_sub-result : goal.overflow_sub-result
overflow_sub-result c = omega (arith, offset_low c.args.i _ c.is_offset.ensures c.if-is_offset.true)

pub bounds-words-i : goal.bounds-words-i
bounds-words-i c = omega (arith, c.requires.0, c.requires.1)

pub returns-then-is_offset : goal.returns-then-is_offset
returns-then-is_offset c = moves_offset c.args.words.now c.args.i _ c.is_offset.ensures c.if-is_offset.true

pub returns : goal.returns
returns c = moves_other c.args.words.now c.args.i _ c.is_offset.ensures c.if-is_offset.false
