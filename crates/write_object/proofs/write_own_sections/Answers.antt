-- After i turns the first i sections that have a place are written, one behind the other. Assumes nothing.
use Rattle.write_object.proofs.Own.{own_first, own_mono, own_fine, own_turn}
use Rattle.write_object.proofs.Writing.{pieces_start}
use Rattle.write_object.specs.Own.{own_plan}
use Rattle.write_object.specs.Steps.{pieces_of}
use Rattle.write_image.specs.Layout.{HEADER_END}
use Rattle.base_lists.specs.Windows.{spliced}
use Rattle.elf_readers.specs.Readers.{section_count}
use native.Mathlib.Omega.{arith}
use Prim.Native.Nat.{ℕ, ◌+◌}
use mathlib.Core.Path.{◌≡◌, refl, sym, ap, ◌∙◌}
use Rattle.write_object.proofs.write_own_sections.Goals as goal

pub loop-i-init : goal.loop-i-init
loop-i-init c =
    let a = c.args in
    (omega arith, sym (own_first a.order a.file.now), refl, pieces_start (own_plan a.order a.file.now) a.order a.out.now)

pub write_own_section-end-requires : goal.write_own_section-end-requires
write_own_section-end-requires c =
    let a = c.args in
    let l = c.loop-i in
    let n = c.section_count-n.ensures.0 in (
      record { ready = c.requires.0; below = omega (arith, n); from = l.invariant.1 },
      own_fine a.order a.file.now c.requires.1 l.i (omega (arith, n)),
      omega (arith, l.invariant.2, c.requires.2, own_mono a.order a.file.now (l.i + 1) (section_count a.order a.file.now) (omega (arith, n))),
    )

pub loop-i-preserved : goal.loop-i-preserved
loop-i-preserved c =
    let a = c.args in
    let l = c.loop-i in
    let w = c.write_own_section-end in (
      omega arith,
      w.ensures.next,
      w.auto.out ∙ l.invariant.2,
      own_turn a.order a.file.now c.requires.1 a.out.now _ _ l.i l.end (omega (arith, c.section_count-n.ensures.0)) l.invariant.1 c.requires.2 l.invariant.3 w.ensures.bytes,
    )

pub returns : goal.returns
returns c =
    let a = c.args in
    let l = c.loop-i in
    let e : l.i ≡ c.section_count-n.result = omega arith in
    l.invariant.3 ∙ ap (λ (k : ℕ). spliced a.out.now HEADER_END (pieces_of (own_plan a.order a.file.now) a.order k)) (e ∙ c.section_count-n.ensures.0)
