-- The name of a symbol as the result writes it (document 01, "Symbols": "for a static, the name before mode 3 puts path and colon in front"): C's and A's have their own. S are
-- the statics.
use Rattle.std.specs.Prelude.{ℕ, List}
use Rattle.base_fields.specs.declared.ByteOrder.{ByteOrder}
use Rattle.elf_symbols.specs.Symbols.{symbol_name}
use Rattle.statics_table.specs.declared.Static.{Static}
use Rattle.statics_table.specs.Statics.{written_name}
use Rattle.statics_entry.specs.Entry.{nth}
use Rattle.carry_entries.specs.of_symbols_ids.Ids.{by_origin}

-- of id i
unfoldable pub name_written : ByteOrder → List ℕ → List ℕ → ℕ → List ℕ → List Static → ℕ → List ℕ
name_written o C A mode path S i = by_origin o C A (symbol_name o C) (symbol_name o A) (λ k. written_name mode path C (nth S k)) i
