-- The symbol table of the result (document 01, "Symbols": "Entry 0, locals (by binding), the rest"; gABI, "Symbol Table": entry 0 is zeros), entry by entry and as bytes. S are
-- the statics.
use Rattle.std.specs.Prelude.{ℕ, zero, suc, true, List}
use Rattle.base_lists.specs.Ranges.{gather}
use Rattle.base_fields.specs.declared.ByteOrder.{ByteOrder}
use Rattle.elf_records.specs.declared.symbol.SymbolEntry.{SymbolEntry}
use Rattle.elf_records.specs.Symbol.{symbol_bytes}
use Rattle.blocks_places.specs.Places.{Place}
use Rattle.statics_table.specs.declared.Static.{Static}
use Rattle.symbols_merge.specs.Merged.{merged_count, merged_at}
use Rattle.symbols_ids.specs.Ids.{entry_of, candidates}

unfoldable pub null_entry : SymbolEntry
null_entry = record { st_name = 0; st_value = 0; st_size = 0; st_info = 0; st_other = 0; st_shndx = 0 }

module _ (o : ByteOrder) (C A : List ℕ) (P : List Place) (B : List ℕ) (mode : ℕ) (S : List Static) where
  -- entry k: from 1 on that of the candidate whose symbol it is
  unfoldable pub result_entry : ℕ → SymbolEntry
  result_entry zero = null_entry
  result_entry (suc k) = entry_of o C A P B mode S (merged_at (candidates o C A P B mode S) (suc k))

  unfoldable pub result_symbols : List ℕ
  result_symbols = gather (λ k. true) (λ k. symbol_bytes o (result_entry k)) (merged_count (candidates o C A P B mode S))
