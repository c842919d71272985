-- An index that is a section's goes by its code, any other stays. Assumes nothing.
use Rattle.symbols_fill.proofs.Places.{place_moved, place_kept, index_lt}
use Rattle.elf_symbols.proofs.Symbols.{table_at}
use Rattle.elf_check.proofs.Views.{view_table}
use Rattle.symbols_holders.proofs.of_symbols_taken.Faults.{target_low}
use native.Mathlib.Omega.{arith}
use mathlib.Core.Path.{sym, ◌∙◌}
use Rattle.symbols_fill.proofs.place_a.Goals as goal

pub symbol_at-entry-requires : goal.symbol_at-entry-requires
symbol_at-entry-requires c =
    let a = c.args in
    let q = c.requires in
    let t = view_table a.filling.inputs.order a.assembled.now a.filling.inputs.assembled q.viewed.is q.viewed.tabled in
    (q.viewed.tabled, table_at a.filling.inputs.order a.assembled.now a.filling.inputs.assembled.symbols t, q.below)

pub code_section-section-requires : goal.code_section-section-requires
code_section-section-requires c =
    let e = c.target_code.ensures in
    let d = c.code_of-code in
    let h = target_low d.result d.ensures.1 d.ensures.2 in
    (c.requires.small, rw e h.0, rw e h.1)

pub returns-then-is_placed : goal.returns-then-is_placed
returns-then-is_placed c =
    let a = c.args in
    let placed = sym c.is_placed.ensures ∙ c.if-is_placed.true in (
      place_moved a.assembled.now a.late.now a.filling a.k _ _ c.symbol_at-entry.ensures c.binding_of-binding.ensures _ _ _ _ placed
          c.code_of-code.ensures.0 c.target_code.ensures c.code_section-section.ensures.0 c.late_value-value.ensures,
      (omega (arith, c.binding_of-binding.ensures), c.code_section-section.ensures.1),
    )

pub returns : goal.returns
returns c =
    let a = c.args in
    let placed = sym c.is_placed.ensures ∙ c.if-is_placed.false in (
      place_kept a.assembled.now a.late.now a.filling a.k _ _ c.symbol_at-entry.ensures c.binding_of-binding.ensures placed,
      (
        omega (arith, c.binding_of-binding.ensures),
        index_lt a.filling.inputs.order a.assembled.now a.k _ c.symbol_at-entry.ensures (λ i. omega (arith, c.type_inv.assembled i)),
      ),
    )
