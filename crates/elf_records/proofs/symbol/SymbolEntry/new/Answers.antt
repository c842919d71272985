-- `SymbolEntry::new` meets its contract: what is read for each field is what its law of proofs/Offsets.antt names; a byte is a number in any order.
-- Assumes nothing.
use native.Mathlib.Omega.{arith}
use Prim.Native.Nat.{◌+◌}
use mathlib.Core.Path.{sym, ◌∙◌}
use Rattle.base_fields.proofs.Numbers.{number_byte}
use Rattle.elf_records.proofs.Offsets.{symbol_name_lem, symbol_value, symbol_size, symbol_info_lem, symbol_other, symbol_shndx}
use Rattle.elf_records.proofs.symbol.SymbolEntry.new.Goals as goal

pub returns : goal.returns
returns c =
    let a = c.args.order in
    let l = c.args.s.now in
    let o = c.args.at in
    λ i. record {
      st_name = (c.read32.ensures ∙ sym (symbol_name_lem a l o)) i;
      st_value = (c.read32-2.ensures ∙ sym (symbol_value a l o)) i;
      st_size = (c.read32-3.ensures ∙ sym (symbol_size a l o)) i;
      st_info = (c.read8.ensures ∙ sym (symbol_info_lem a l o ∙ number_byte a l (o + 12) (omega arith))) i;
      st_other = (c.read8-2.ensures ∙ sym (symbol_other a l o ∙ number_byte a l (o + 13) (omega arith))) i;
      st_shndx = (c.read16.ensures.0 ∙ sym (symbol_shndx a l o)) i;
    }
