-- Zeros, the bytes, and their move stand behind one another. Assumes nothing.
use Rattle.base_lists.specs.Windows.{spliced}
use Rattle.statics_shift.specs.Shift.{shift_fails}
use Rattle.write_object.proofs.Steps.{copied_there, section_put}
use native.Mathlib.Omega.{arith}
use Prim.Native.Nat.{ℕ}
use mathlib.Core.Path.{ap, ◌∙◌}
use mathlib.Core.List.{List}
use Rattle.write_object.proofs.write_section.Goals as goal

pub move_section-requires : goal.move_section-requires
move_section-requires c =
    let a = c.args in
    let p = c.requires in
    let b-is = c.write_bytes.ensures ∙ ap (λ (x : List ℕ). spliced x a.start a.content.now) c.write_gap.ensures in
    let same = copied_there a.order a.h a.content.now a.out.now a.end a.start p.0 p.1 p.3 _ b-is in
    (omega (arith, p, c.write_bytes.auto, c.write_gap.auto), ap (λ (x : List ℕ). shift_fails a.order x a.h.sh_type a.h.sh_offset a.start) same ∙ p.3)

pub returns : goal.returns
returns c =
    let a = c.args in
    let p = c.requires in
    section_put a.order a.h a.content.now a.out.now a.end a.start p.0 p.1 p.3 _ _ _ c.write_gap.ensures c.write_bytes.ensures c.move_section.ensures
