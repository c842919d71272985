-- The list has one number. Assumes nothing.
use Rattle.statics_debug.specs.Entries.{closes_scope, among}
use mathlib.Core.Path.{sym}
use mathlib.Core.Bool.{or-false}
use Rattle.statics_debug.proofs.closes_scope.Goals as goal

pub returns : goal.returns
unfolding closes_scope among
returns c = sym (or-false _)
