-- The two tables of a buffer: that of the blocks, then the index of C's names; each stands where it was written. Assumes nothing.
use Prim.Native.Nat.{ℕ, ◌≤◌}
use mathlib.Core.Path.{◌≡◌, refl, ap, ◌∙◌}
use mathlib.Core.List.{List}
use native.Mathlib.Omega.{arith}
use lib.ListN.{length}
use Rattle.base_buffers.specs.Parts.{part_at, KeptBefore}
use Rattle.base_buffers.proofs.Parts.{lent, put_back, part_lent, part_long, put_table, put_kept, kept_part}
use Rattle.base_fields.specs.declared.ByteOrder.{ByteOrder}
use Rattle.base_scope.specs.Limits.{FILE_LIMIT, SYMBOL_LIMIT, BLOCK_TABLE, SYMBOL_INDEX, OPEN_TABLE}
use Rattle.base_index.specs.Index.{Room}
use Rattle.elf_index.specs.Index.{SymbolIndex}
use Rattle.blocks_file.specs.declared.BlockFile.{BlockFile}
use Rattle.blocks_file.specs.Table.{Parsed, Reading}
use Rattle.blocks_file.proofs.Table.{parsed_of}

module _ (from to : ℕ) (table : List ℕ) (starts : from ≡ 0) (ends : to ≡ BLOCK_TABLE) (room : OPEN_TABLE ≤ length table) where
  pub rows_put : (B : List ℕ) (r : BlockFile) (part : List ℕ) → length part ≡ length (lent from to table) → Reading B r (lent from to table) part
      → Reading B r (part_at 0 BLOCK_TABLE table) (part_at 0 BLOCK_TABLE (put_back from to table part))
  rows_put B r part same w =
      rw (
        put_table 0 BLOCK_TABLE from to table part (put_back from to table part) starts ends (omega (arith, room)) same refl,
        ← part_lent 0 BLOCK_TABLE from to table starts ends,
      ) w

module _ (from to : ℕ) (table : List ℕ) (starts : from ≡ BLOCK_TABLE) (ends : to ≡ OPEN_TABLE) (room : OPEN_TABLE ≤ length table) where
  pub index_room : Room SYMBOL_LIMIT (lent from to table)
  index_room =
      let e = ap length (part_lent BLOCK_TABLE SYMBOL_INDEX from to table starts ends) ∙ part_long BLOCK_TABLE SYMBOL_INDEX table room in
      record { few = omega arith; long = omega (arith, e) }

  pub index_put : (o : ByteOrder) (C part : List ℕ) → length part ≡ length (lent from to table) → SymbolIndex o C part
      → SymbolIndex o C (part_at BLOCK_TABLE SYMBOL_INDEX (put_back from to table part)) × KeptBefore BLOCK_TABLE table (put_back from to table part)
  index_put o C part same w = (
    rw (put_table BLOCK_TABLE SYMBOL_INDEX from to table part (put_back from to table part) starts ends room same refl) w,
    put_kept BLOCK_TABLE SYMBOL_INDEX from to table part (put_back from to table part) starts ends room same refl,
  )

-- the table of blocks in hand: as it was read, and as it stays
pub parsed_rows : (B : List ℕ) (r : BlockFile) (before after : List ℕ) → length B ≤ FILE_LIMIT → OPEN_TABLE ≤ length before
    → Reading B r (part_at 0 BLOCK_TABLE before) (part_at 0 BLOCK_TABLE after) → Parsed B (part_at 0 BLOCK_TABLE after)
parsed_rows B r before after small room w =
    parsed_of B (part_at 0 BLOCK_TABLE before) (part_at 0 BLOCK_TABLE after) small (omega (arith, part_long 0 BLOCK_TABLE before (omega (arith, room)))) w.table

pub parsed_kept : (B before after : List ℕ) → KeptBefore BLOCK_TABLE before after → Parsed B (part_at 0 BLOCK_TABLE before) → Parsed B (part_at 0 BLOCK_TABLE after)
parsed_kept B before after k x = rw (kept_part BLOCK_TABLE before after k 0 BLOCK_TABLE (omega arith)) x
