-- The entries of the merged object's relocation tables as lists (document 01, "Carrying": "Each table holds C's kept entries, then A's"). P are the places of the lines of the
-- block file B.
use Rattle.std.specs.Prelude.{ℕ, List, [], ◌++◌, length, eqb, ltb}
use Rattle.base_lists.specs.Ranges.{gather, select, pick_list}
use Rattle.base_fields.specs.declared.ByteOrder.{ByteOrder}
use Rattle.elf_records.specs.declared.relocation.RelocationEntry.{RelocationEntry}
use Rattle.elf_relocations.specs.Relocations.{relocation_count}
use Rattle.blocks_places.specs.Places.{Place}
use Rattle.statics_table.specs.Statics.{name_head}
use Rattle.merge_kept.specs.Kept.{kept}
use Rattle.carry_entries.specs.Entries.{Carrying, is_kept, carried_entry}
use Rattle.carry_entries.specs.Carried.{carrying_c, carrying_a}
use Rattle.carry_homes.specs.Homes.{carried_count, carried_table, home_of}

-- the entries that table t of an object F brings, in old order
unfoldable pub kept_entries : ByteOrder → List ℕ → Carrying → ℕ → List RelocationEntry
kept_entries o F w t = select (is_kept o F w t) (carried_entry o F w t) (relocation_count o F t)

module _ (o : ByteOrder) (C A : List ℕ) (P : List Place) (B path : List ℕ) (flag mode : ℕ) where
  -- those of A's tables that join section i, in the order of carrying
  unfoldable pub joined_entries : ℕ → List RelocationEntry
  joined_entries i =
      gather (λ j. eqb (home_of o C A (kept o C flag) j) i)
      (λ j. kept_entries o A (carrying_a o C A P B mode (length (name_head mode path))) (carried_table o A j))
      (carried_count o A)

  -- the entries of table i of the merged object
  unfoldable pub table_entries : ℕ → List RelocationEntry
  table_entries i = pick_list (ltb i (kept o C flag)) (kept_entries o C (carrying_c o C A P B mode (length (name_head mode path))) i) [] ++ joined_entries i
