-- Of the code, not of document 01: what a table of the result holds, by the tables in hand: rows of .text's spans, the late step, the numbers N of the ids, and the homes of
-- A's tables.
use Rattle.std.specs.Prelude.{ℕ, ◌≤◌, ◌<◌, ◌≡◌, true, List, [], length, ltb}
use Rattle.base_lists.specs.Ranges.{pick_list}
use Rattle.base_scope.specs.Limits.{FILE_LIMIT}
use Rattle.elf_readers.specs.Readers.{section_count}
use Rattle.elf_relocations.specs.Relocations.{is_table}
use Rattle.write_plan.specs.of_merge_sections.declared.Stage.{Stage}
use Rattle.carry_stage.specs.of_carry_entries.Entries.{carried_bytes}
use Rattle.carry_stage.specs.of_carry_entries.Code.{carrying_in, EntriesRead}
use Rattle.carry_stage.specs.declared.Carry.{Carry}
use Rattle.carry_stage.specs.Carry.{side_of_c, side_of_a}
use Rattle.write_tables.specs.Tables.{joined_in, TableRows}

-- C's entries, where section i is one that stays
unfoldable pub kept_table_in : List ℕ → Stage → Carry → List ℕ → List ℕ → List ℕ → ℕ → List ℕ
kept_table_in C s k rows late N i = pick_list (ltb i k.stay) (carried_bytes s.inputs.order C (carrying_in C (side_of_c s k) rows late N) i) []

-- those of A's tables that join it
unfoldable pub joined_table_in : List ℕ → Stage → Carry → List ℕ → List ℕ → List ℕ → List ℕ → ℕ → List ℕ
joined_table_in A s k rows late N homes i = joined_in homes (carried_bytes s.inputs.order A (carrying_in A (side_of_a s k) rows late N)) i k.homes.tables

-- they can be read, C's where section i is one of its tables
pub record KeptRead (C : List ℕ) (s : Stage) (k : Carry) (rows late N : List ℕ) (i : ℕ) : Type 0 where
  pub entries : EntriesRead C (side_of_c s k) rows late N
  pub below : i < k.stay → i < section_count s.inputs.order C
  pub kind : i < k.stay → is_table s.inputs.order C i ≡ true
  pub small : length C ≤ FILE_LIMIT

pub record JoinedRead (A : List ℕ) (s : Stage) (k : Carry) (rows late N homes : List ℕ) : Type 0 where
  pub entries : EntriesRead A (side_of_a s k) rows late N
  pub tables : TableRows s.inputs.order A homes k.homes.tables
  pub small : length A ≤ FILE_LIMIT
