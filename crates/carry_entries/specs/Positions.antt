-- The positions of a table's entries that are kept, and of those that are left out, each in old order (document 01, "Carrying"). proofs/Positions.antt says that they are
-- together all positions, each once.
use Rattle.std.specs.Prelude.{ℕ, ◌<◌, ◌≡◌, not, List, length, get_or}
use Rattle.base_lists.specs.Ranges.{select}
use Rattle.base_fields.specs.declared.ByteOrder.{ByteOrder}
use Rattle.elf_relocations.specs.Relocations.{relocation_count}
use Rattle.carry_entries.specs.Entries.{Carrying, is_kept}

module _ (o : ByteOrder) (F : List ℕ) (w : Carrying) (t : ℕ) where
  unfoldable pub kept_positions : List ℕ
  kept_positions = select (is_kept o F w t) (λ k. k) (relocation_count o F t)

  unfoldable pub left_positions : List ℕ
  left_positions = select (λ k. not (is_kept o F w t k)) (λ k. k) (relocation_count o F t)

-- k stands somewhere in l
abbrev pub StandsIn : ℕ → List ℕ → Type 0
StandsIn k l = (i : ℕ) × (i < length l) × (get_or l i 0 ≡ k)

-- l in old order, none twice
abbrev pub Climbs : List ℕ → Type 0
Climbs l = (i j : ℕ) → i < j → j < length l → get_or l i 0 < get_or l j 0
