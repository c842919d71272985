-- Of the code, not of document 01: the entries of A's tables that join a section of the result, by the rows of their homes (crate carry_homes, specs/Code.antt). `bytes` are
-- those that A's table t brings.
use Rattle.std.specs.Prelude.{ℕ, ◌*◌, ◌≤◌, ◌<◌, ◌≡◌, true, List, [], length, eqb}
use Rattle.base_lists.specs.Ranges.{gather, pick_list}
use Rattle.base_fields.specs.declared.ByteOrder.{ByteOrder}
use Rattle.elf_readers.specs.Readers.{section_count}
use Rattle.elf_relocations.specs.Relocations.{is_table}
use Rattle.carry_homes.specs.Code.{HOME_ROW, HOME_TABLE, listed_table, home_in}

module _ (homes : List ℕ) (bytes : ℕ → List ℕ) (i : ℕ) where
  -- what row j brings to section i
  unfoldable pub brought_by : ℕ → List ℕ
  brought_by j = pick_list (eqb (home_in homes j) i) (bytes (listed_table homes j)) []

  -- and the first n rows
  unfoldable pub joined_in : ℕ → List ℕ
  joined_in n = gather (λ j. eqb (home_in homes j) i) (λ j. bytes (listed_table homes j)) n

-- the first n rows have tables of A
pub record TableRows (o : ByteOrder) (A homes : List ℕ) (n : ℕ) : Type 0 where
  pub few : HOME_ROW * n ≤ HOME_TABLE
  pub long : HOME_ROW * n ≤ length homes
  pub below : (j : ℕ) → j < n → listed_table homes j < section_count o A
  pub kind : (j : ℕ) → j < n → is_table o A (listed_table homes j) ≡ true
