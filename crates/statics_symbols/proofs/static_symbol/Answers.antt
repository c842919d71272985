-- The six fields; type and binding are joined into st_info. Assumes nothing.
use Rattle.base_packed.specs.Packed.{symbol_info}
use Rattle.statics_table.specs.Statics.{static_binding}
use Rattle.statics_symbols.specs.Entries.{symbol_of_static}
use Prim.Native.Nat.{ℕ, ◌+◌}
use mathlib.Core.Path.{ap, ◌∙◌}
use Rattle.statics_symbols.proofs.static_symbol.Goals as goal

pub returns : goal.returns
unfolding symbol_of_static
returns c =
    let a = c.args in
    let kind = c.static_type-kind in
    let info = c.symbol_info.ensures ∙ ap (λ (x : ℕ). symbol_info x kind.result) c.static_binding-binding.ensures.0
    ∙ ap (symbol_info (static_binding a.mode)) kind.ensures.0 in
    λ k. record {
      st_name = a.base + a.s.offset;
      st_value = a.s.value;
      st_size = 0;
      st_info = info k;
      st_other = 0;
      st_shndx = a.section;
    }
