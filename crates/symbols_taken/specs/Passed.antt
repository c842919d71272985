-- What 15 and 16 leave true of A's symbols (document 01's table), over C, A, and the places P of the block file B alone. proofs/Passed.antt derives it.
use Rattle.std.specs.Prelude.{ℕ, ◌<◌, ◌≡◌, ◌⊎◌, ◌≢◌, true, false, List}
use Rattle.base_fields.specs.declared.ByteOrder.{ByteOrder}
use Rattle.base_scope.specs.Elf.{SHN_UNDEF, SHN_ABS}
use Rattle.base_scope.specs.Codes.{LATE_RODATA, target_code}
use Rattle.elf_readers.specs.Readers.{has_code}
use Rattle.elf_symbols.specs.Symbols.{symbol_count, symbol}
use Rattle.merge_inputs.specs.of_blocks_places.Places.{Place}
use Rattle.late_lookups.specs.of_late_moves.Moved.{is_moved}
use Rattle.merge_labels.specs.Labels.{late_start}
use Rattle.symbols_taken.specs.Used.{is_source, is_used}
use Rattle.symbols_taken.specs.Taken.{is_helper, is_taken_a, symbol_code}

-- a symbol's section has a place in C: it is one of A's five, and C has its target
pub record Targeted (o : ByteOrder) (C A : List ℕ) (k : ℕ) : Type 0 where
  pub source : is_source o A (symbol o A k).st_shndx ≡ true
  pub target : has_code o C (target_code (symbol_code o A k)) ≡ true

pub record TakenPassed (o : ByteOrder) (C A : List ℕ) (P : List Place) (B : List ℕ) : Type 0 where
  -- 15: a taken symbol is undefined, absolute, or has a target; no used name begins `_asmpp_`
  pub placed : (k : ℕ) → k < symbol_count o A → is_taken_a o A k ≡ true
      → ((symbol o A k).st_shndx ≡ SHN_UNDEF) ⊎ (((symbol o A k).st_shndx ≡ SHN_ABS) ⊎ Targeted o C A k)
  pub plain : (k : ℕ) → k < symbol_count o A → is_used o A k ≡ true → is_helper o A k ≡ false
  -- 16: a taken symbol of .late_rodata is moved, and its value is not 0
  pub moved : (k : ℕ) → k < symbol_count o A → is_taken_a o A k ≡ true → symbol_code o A k ≡ LATE_RODATA → is_moved P B (late_start o A) (symbol o A k).st_value ≡ true
  pub valued : (k : ℕ) → k < symbol_count o A → is_taken_a o A k ≡ true → symbol_code o A k ≡ LATE_RODATA → (symbol o A k).st_value ≢ 0
