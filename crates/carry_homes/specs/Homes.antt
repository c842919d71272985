-- Which of A's relocation tables are carried, in which order, and the section of the result that each joins (document 01, "Carrying"; 000). C is the compiled object, A the
-- assembled one; `stay` is how many of C's sections stay.
use Rattle.std.specs.Prelude.{ℕ, ◌+◌, ◌-◌, Bool, cond, not, ◌&&◌, List, length, get_or, eqb, ltb}
use Rattle.base_lists.specs.Ranges.{count, select, gather}
use Rattle.base_lists.specs.Strings.{same}
use Rattle.base_fields.specs.declared.ByteOrder.{ByteOrder}
use Rattle.base_groups.specs.Groups.{grouped}
use Rattle.base_groups.specs.Holders.{holder, is_holder}
use Rattle.base_scope.specs.Codes.{TEXT, DATA, LATE_RODATA, target_code}
use Rattle.elf_readers.specs.Readers.{section_count}
use Rattle.elf_relocations.specs.Relocations.{is_rela}
use Rattle.carry_clash.specs.Clash.{joined_name, carried_code, is_carried, joined_section}

-- 000 takes A's sections in the order .data, .text, .rodata, .bss, .late_rodata: the place of a code in it
unfoldable pub carried_rank : ℕ → ℕ
carried_rank c = cond (eqb c DATA) 0 (cond (eqb c TEXT) 1 (c - 1))

abbrev pub CARRIED_RANKS : ℕ
CARRIED_RANKS = LATE_RODATA

module _ (o : ByteOrder) (A : List ℕ) where
  -- the carried tables in that order; tables of one section by index
  unfoldable pub carried_tables : List ℕ
  carried_tables = grouped (is_carried o A) (λ t. carried_rank (carried_code o A t)) (section_count o A) CARRIED_RANKS

  unfoldable pub carried_count : ℕ
  carried_count = length carried_tables

  unfoldable pub carried_table : ℕ → ℕ
  carried_table j = get_or carried_tables j 0

  -- the name of the table that the j-th of them joins: .rel or .rela, and C's section (.rodata for .late_rodata)
  unfoldable pub home_name : ℕ → List ℕ
  home_name j = joined_name (is_rela o A (carried_table j)) (target_code (carried_code o A (carried_table j)))

  unfoldable pub same_home : ℕ → ℕ → Bool
  same_home i j = same (home_name i) (home_name j)

module _ (o : ByteOrder) (C A : List ℕ) (stay : ℕ) where
  -- some section of C that stays has the name
  unfoldable pub has_home : ℕ → Bool
  has_home j = ltb (joined_section o C A (carried_table o A j)) stay

  -- the j-th carried table opens a new section: it is the first of a name that no section has
  unfoldable pub opens_home : ℕ → Bool
  opens_home j = not (has_home j) && is_holder (same_home o A) (carried_count o A) j

  -- how many new sections there are, and which carried table opens the i-th: new sections stand in order of first use, behind those that stay
  unfoldable pub new_count : ℕ
  new_count = count opens_home (carried_count o A)

  unfoldable pub new_tables : List ℕ
  new_tables = select opens_home (λ j. j) (carried_count o A)

  unfoldable pub opened_by : ℕ → ℕ
  opened_by i = get_or new_tables i 0

  unfoldable pub new_name : ℕ → List ℕ
  new_name i = home_name o A (opened_by i)

  -- the section of the result that the j-th carried table joins
  unfoldable pub home_of : ℕ → ℕ
  home_of j =
      cond (has_home j)
      (joined_section o C A (carried_table o A j))
      (stay + count opens_home (holder (same_home o A) (carried_count o A) j))

  -- the bytes of the tables that join section i, in order: `bytes` are those of A's table t
  unfoldable pub joined_bytes : (ℕ → List ℕ) → ℕ → List ℕ
  joined_bytes bytes i = gather (λ j. eqb (home_of j) i) (λ j. bytes (carried_table o A j)) (carried_count o A)
