-- The lowest clash of the first t tables. Assumes nothing.
use Rattle.base_lists.specs.Ranges.{least}
use Rattle.base_lists.proofs.Ranges.{least_zero}
use Rattle.elf_readers.specs.Readers.{section_count}
use Rattle.symbols_taken.proofs.of_elf_check.Views.{view_count}
use Rattle.carry_clash.specs.Clash.{joined_section, is_misjoined}
use Rattle.carry_clash.proofs.Joined.{least_step}
use native.Mathlib.Omega.{arith}
use Prim.Native.Nat.{ℕ}
use mathlib.Core.Path.{◌≡◌, sym, ap, ◌∙◌}
use Rattle.carry_clash.proofs.first_clash.Goals as goal

pub loop-t-init : goal.loop-t-init
loop-t-init c =
    let a = c.args in
    (omega arith, view_count a.order a.compiled.now a.target c.requires.0.is ∙ sym (least_zero _ _ _))

pub clash_of-at-requires : goal.clash_of-at-requires
clash_of-at-requires c =
    let a = c.args in
    (c.requires.0, c.requires.1, c.requires.2, omega (arith, c.loop-t-test.true, view_count a.order a.assembled.now a.source c.requires.1.is))

pub loop-t-preserved : goal.loop-t-preserved
loop-t-preserved c =
    let a = c.args in
    let l = c.loop-t in
    (omega (arith, c.loop-t-test.true), least_step a.order a.compiled.now a.assembled.now a.stay l.t l.best l.invariant.1 _ c.clash_of-at.ensures _ c.lower-best.ensures)

pub returns : goal.returns
returns c =
    let a = c.args in
    let l = c.loop-t in
    let n = view_count a.order a.assembled.now a.source c.requires.1.is in
    let e : l.t ≡ section_count a.order a.assembled.now = omega (arith, c.loop-t-test.false, l.invariant.0, n) in
    l.invariant.1 ∙ ap (λ (k : ℕ). least (joined_section a.order a.compiled.now a.assembled.now) (is_misjoined a.order a.compiled.now a.assembled.now a.stay) (section_count a.order a.compiled.now) k) e
