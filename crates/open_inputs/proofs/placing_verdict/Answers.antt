-- Lines that are placed pass; a fault is refused. Assumes nothing.
use Rattle.open_inputs.specs.Open.{placing_verdict}
use Rattle.open_inputs.proofs.Order.{placing_placed}
use mathlib.Core.Path.{sym, ap, ◌∙◌}
use Rattle.open_inputs.proofs.placing_verdict.Goals as goal

pub returns-in-Ok : goal.returns-in-Ok
returns-in-Ok c = placing_placed _ c.in-Ok.is

pub returns-in-Err : goal.returns-in-Err
returns-in-Err c = sym c.place_refusal.ensures ∙ ap placing_verdict (sym c.in-Err.is)
