-- After i turns it is where the first i sections end. Assumes nothing.
use Rattle.write_object.proofs.Own.{own_first}
use Rattle.write_object.specs.Own.{own_end}
use native.Mathlib.Omega.{arith}
use mathlib.Core.Path.{◌≡◌, sym, ap, ◌∙◌}
use Rattle.write_object.proofs.own_end.Goals as goal

pub loop-i-init : goal.loop-i-init
loop-i-init c =
    let a = c.args in
    (omega arith, sym (own_first a.order a.file.now))

pub end_after-end-requires : goal.end_after-end-requires
end_after-end-requires c = record { ready = c.requires; below = omega arith; from = c.loop-i.invariant.1 }

pub loop-i-preserved : goal.loop-i-preserved
loop-i-preserved c = (omega arith, c.end_after-end.ensures)

pub returns : goal.returns
returns c =
    let a = c.args in
    let l = c.loop-i in
    let e : l.i ≡ c.section_count-n.result = omega arith in
    l.invariant.1 ∙ ap (own_end a.order a.file.now) (e ∙ c.section_count-n.ensures.0)
