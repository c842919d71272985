-- Of the code, not of document 01: the symbols of an object by the hashes of their names.
use Rattle.std.specs.Prelude.{ℕ, ◌<◌, ◌≡◌, List}
use Rattle.base_fields.specs.declared.ByteOrder.{ByteOrder}
use Rattle.base_scope.specs.Limits.{SYMBOL_LIMIT}
use Rattle.base_index.specs.Index.{hash_of, hash_in, Indexed}
use Rattle.elf_symbols.specs.Symbols.{symbol_count, symbol_name}

pub record SymbolIndex (o : ByteOrder) (F index : List ℕ) : Type 0 where
  pub indexed : Indexed SYMBOL_LIMIT index (symbol_count o F)
  pub hashes : (k : ℕ) → k < symbol_count o F → hash_in index k ≡ hash_of (symbol_name o F k)
