-- By the mode. Assumes nothing.
use Rattle.statics_names.proofs.Names.{binding_local, binding_other}
use native.Mathlib.Omega.{arith}
use Rattle.statics_names.proofs.static_binding.Goals as goal

pub returns-then-mode-eq-MODE_LOCAL : goal.returns-then-mode-eq-MODE_LOCAL
returns-then-mode-eq-MODE_LOCAL c = (binding_local c.args.mode c.if-mode-eq-MODE_LOCAL.true, omega arith)

pub returns : goal.returns
returns c = (binding_other c.args.mode c.if-mode-eq-MODE_LOCAL.false, omega arith)
