-- 96 bytes, then the magic. Assumes nothing.
use Rattle.statics_shift.proofs.Shift.{header_short, header_read}
use native.Mathlib.Omega.{arith}
use Rattle.statics_shift.proofs.has_header.Goals as goal

pub returns-then-debug-lt-SIZE : goal.returns-then-debug-lt-SIZE
returns-then-debug-lt-SIZE c = header_short c.args.order c.args.debug.now c.if-debug-lt-SIZE.true

pub returns : goal.returns
returns c = header_read c.args.order c.args.debug.now _ (omega (arith, c.if-debug-lt-SIZE.false)) c.read16.ensures.0
