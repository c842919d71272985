-- The six fields; binding and type are joined into st_info. Assumes nothing.
use Rattle.base_packed.specs.Packed.{binding_of, symbol_info}
use Rattle.symbols_entries.specs.Entries.{type_by, moved_entry}
use Prim.Native.Nat.{ℕ, ◌+◌}
use mathlib.Core.Path.{ap, ◌∙◌}
use Rattle.symbols_entries.proofs.moved_entry.Goals as goal

pub returns : goal.returns
unfolding moved_entry
returns c =
    let a = c.args in
    let kind = c.glabel_type-kind in
    let info = c.symbol_info.ensures ∙ ap (λ (x : ℕ). symbol_info x kind.result) c.binding_of-binding.ensures
    ∙ ap (symbol_info (binding_of a.e.st_info)) (kind.ensures.0 ∙ ap (type_by a.word) c.type_of.ensures) in
    λ k. record {
      st_name = a.e.st_name + a.base;
      st_value = a.value;
      st_size = c.glabel_size.ensures k;
      st_info = info k;
      st_other = a.e.st_other;
      st_shndx = a.section;
    }
