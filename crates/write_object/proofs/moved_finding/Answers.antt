-- A search for a section that cannot move: none before i is one. Assumes nothing.
use Rattle.write_object.proofs.Own.{own_first, finding_here, finding_next, finding_none}
use native.Mathlib.Omega.{arith}
use mathlib.Core.Path.{refl, sym, ◌∙◌}
use Rattle.write_object.proofs.moved_finding.Goals as goal

pub loop-i-init : goal.loop-i-init
loop-i-init c =
    let a = c.args in
    (omega arith, sym (own_first a.order a.file.now), refl)

pub fails_at-requires : goal.fails_at-requires
fails_at-requires c = record { ready = c.requires; below = omega arith; from = c.loop-i.invariant.1 }

pub returns-then-fails_at : goal.returns-then-fails_at
returns-then-fails_at c =
    let a = c.args in
    let l = c.loop-i in
    finding_here a.order a.file.now l.i _ c.section_count-n.ensures.0 l.invariant.2 (omega arith) (sym c.fails_at.ensures ∙ c.if-fails_at.true)

pub end_after-end-requires : goal.end_after-end-requires
end_after-end-requires c = record { ready = c.requires; below = omega arith; from = c.loop-i.invariant.1 }

pub loop-i-preserved : goal.loop-i-preserved
loop-i-preserved c =
    let a = c.args in
    let l = c.loop-i in
    (omega arith, c.end_after-end.ensures, finding_next a.order a.file.now l.i _ c.section_count-n.ensures.0 l.invariant.2 (omega arith) (sym c.fails_at.ensures ∙ c.if-fails_at.false))

pub returns : goal.returns
returns c =
    let a = c.args in
    let l = c.loop-i in
    finding_none a.order a.file.now l.i _ c.section_count-n.ensures.0 l.invariant.2 (omega arith)
