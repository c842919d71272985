-- The six fields; binding and type are joined into st_info. Assumes nothing.
use Rattle.base_packed.specs.Packed.{binding_of, symbol_info}
use Rattle.symbols_entries.specs.Entries.{finished_as}
use Prim.Native.Nat.{ℕ}
use mathlib.Core.Path.{ap, ◌∙◌}
use Rattle.symbols_entries.proofs.finish.Goals as goal

pub returns : goal.returns
unfolding finished_as
returns c =
    let a = c.args in
    let kind = c.final_type-kind in
    let info = c.symbol_info.ensures ∙ ap (λ (x : ℕ). symbol_info x kind.result) c.binding_of-binding.ensures
    ∙ ap (symbol_info (binding_of a.e.st_info)) kind.ensures.0 in
    λ k. record {
      st_name = a.e.st_name;
      st_value = a.e.st_value;
      st_size = a.e.st_size;
      st_info = info k;
      st_other = c.visibility_of.ensures k;
      st_shndx = a.e.st_shndx;
    }
