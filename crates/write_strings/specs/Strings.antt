-- The strings of the result's symbols (document 01, "Symbols" and "Statics"; 000): C's symbol strings, then A's, then the written names of the statics S, each with its zero
-- byte. Nothing is shared or taken out.
use Rattle.std.specs.Prelude.{ℕ, true, List, [], ◌∷◌, ◌++◌, length}
use Rattle.base_lists.specs.Ranges.{gather}
use Rattle.base_fields.specs.declared.ByteOrder.{ByteOrder}
use Rattle.elf_symbols.specs.Symbols.{symbol_strings}
use Rattle.statics_table.specs.declared.Static.{Static}
use Rattle.statics_table.specs.Statics.{written_name}
use Rattle.statics_entry.specs.Entry.{nth}

-- a name and its zero byte
unfoldable pub zero_ended : List ℕ → List ℕ
zero_ended name = name ++ (0 ∷ [])

module _ (mode : ℕ) (path C : List ℕ) where
  -- the string of a static, and those of n statics, f k the k-th
  unfoldable pub static_string : Static → List ℕ
  static_string s = zero_ended (written_name mode path C s)

  unfoldable pub strings_below : (ℕ → Static) → ℕ → List ℕ
  strings_below f n = gather (λ k. true) (λ k. static_string (f k)) n

unfoldable pub result_strings : ByteOrder → List ℕ → List ℕ → ℕ → List ℕ → List Static → List ℕ
result_strings o C A mode path S = symbol_strings o C ++ (symbol_strings o A ++ strings_below mode path C (nth S) (length S))
