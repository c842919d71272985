-- After j entries the symbols that they use are marked. Assumes nothing.
use Rattle.symbols_taken.specs.Code.{used_below}
use Rattle.symbols_taken.proofs.Sections.{table_kind}
use Rattle.symbols_taken.proofs.Marks.{length_marked, marked_none, marked_then, marked_info, entry_zero, entry_next, entry_all, entry_inside_lem}
use native.Mathlib.Omega.{arith}
use Prim.Native.Nat.{◌+◌}
use mathlib.Core.Path.{ap, ◌∙◌}
use lib.ListN.{length}
use Rattle.elf_records.specs.declared.section.SectionHeader.{SectionHeader}
use Rattle.elf_relocations.specs.Relocations.{Listed}
use Rattle.symbols_taken.proofs.mark_entries.Goals as goal
use Rattle.symbols_taken.proofs.mark_entries.Goals.{In-loop-j}

listed : (c : In-loop-j) → Listed c.args.order c.args.assembled.now c.args.t c.loop-j.j
listed c =
    let a = c.args in
    record { table = c.requires.1; kind = table_kind a.order a.assembled.now a.t c.requires.2; entry = omega (arith, c.loop-j-test.true, c.relocation_count-n.ensures) }

pub loop-j-init : goal.loop-j-init
loop-j-init c =
    let a = c.args in
    (omega arith, marked_none (used_below a.order a.assembled.now a.t 0) a.used.now (entry_zero a.order a.assembled.now a.t))

pub overflow_mul-size : goal.overflow_mul-size
overflow_mul-size c =
    let a = c.args in
    let h = entry_inside_lem a.order a.assembled.now a.t c.loop-j.j _ _ (ap (λ (x : SectionHeader). x.sh_offset) c.section_at-h.ensures) c.entry_size-size.ensures.0 c.requires.0 (listed (goal.at.overflow_mul-size c).In-loop-j) in
    record { fits = omega (arith, h) }

pub overflow_add-at : goal.overflow_add-at
overflow_add-at c =
    let a = c.args in
    let h = entry_inside_lem a.order a.assembled.now a.t c.loop-j.j _ _ (ap (λ (x : SectionHeader). x.sh_offset) c.section_at-h.ensures) c.entry_size-size.ensures.0 c.requires.0 (listed (goal.at.overflow_add-at c).In-loop-j) in
    record { fits = omega (arith, h) }

pub overflow_add-at-in-loop-j : goal.overflow_add-at-in-loop-j
overflow_add-at-in-loop-j c =
    let a = c.args in
    let h = entry_inside_lem a.order a.assembled.now a.t c.loop-j.j _ _ (ap (λ (x : SectionHeader). x.sh_offset) c.section_at-h.ensures) c.entry_size-size.ensures.0 c.requires.0 (listed (goal.at.overflow_add-at-in-loop-j c).In-loop-j) in
    record { fits = omega (arith, h, c.entry_size-size.ensures.1) }

pub read32-info-requires : goal.read32-info-requires
read32-info-requires c =
    let a = c.args in
    let h = entry_inside_lem a.order a.assembled.now a.t c.loop-j.j _ _ (ap (λ (x : SectionHeader). x.sh_offset) c.section_at-h.ensures) c.entry_size-size.ensures.0 c.requires.0 (listed (goal.at.read32-info-requires c).In-loop-j) in
    omega (arith, h, c.entry_size-size.ensures.1)

pub loop-j-preserved : goal.loop-j-preserved
loop-j-preserved c =
    let a = c.args in
    let l = c.loop-j in
    let e = marked_info a.order a.assembled.now a.t l.j _ _ (ap (λ (x : SectionHeader). x.sh_offset) c.section_at-h.ensures) c.entry_size-size.ensures.0 _
    c.read32-info.ensures l.used in
    (omega (arith, c.loop-j-test.true), c.mark_symbol.ensures ∙ e ∙ marked_then (used_below a.order a.assembled.now a.t l.j) _ (used_below a.order a.assembled.now a.t (l.j + 1)) a.used.now l.used l.invariant.1 (entry_next a.order a.assembled.now a.t c.requires.2 l.j))

pub shape_of-used : goal.shape_of-used
shape_of-used c =
    let a = c.args in
    let l = c.loop-j in
    ap length l.invariant.1 ∙ length_marked (used_below a.order a.assembled.now a.t l.j) a.used.now

pub returns : goal.returns
returns c =
    let a = c.args in
    let l = c.loop-j in
    entry_all a.order a.assembled.now a.t l.j a.used.now l.used (omega (arith, c.loop-j-test.false, l.invariant.0, c.relocation_count-n.ensures)) l.invariant.1
