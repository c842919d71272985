-- The entries of an object's relocation tables as they stand in the result (document 01, "Carrying"): some are left out; the others stay in old order, at their place, with the
-- number of their symbol in the result and their own kind and addend. And refusal 20. F is the object, o its byte order.
use Rattle.std.specs.Prelude.{ℕ, ◌^◌, Bool, true, false, not, ◌&&◌, ◌||◌, List, None, Some, Option}
use Rattle.base_lists.specs.Ranges.{least, count, gather}
use Rattle.base_fields.specs.declared.ByteOrder.{ByteOrder}
use Rattle.base_packed.specs.Packed.{symbol_of, kind_of, relocation_info}
use Rattle.base_scope.specs.Refusals.{found_below}
use Rattle.elf_records.specs.declared.relocation.RelocationEntry.{RelocationEntry}
use Rattle.elf_records.specs.Relocation.{relocation_bytes}
use Rattle.elf_readers.specs.Readers.{section_count, section}
use Rattle.elf_relocations.specs.Relocations.{relocation_count, relocation}
use Rattle.carry_clash.specs.of_symbols_taken.Used.{code_of}
use Rattle.base_packed.specs.declared.MergedSymbol.{MergedSymbol}
use Rattle.carry_entries.specs.declared.Goal.{Goal}
use Rattle.carry_entries.specs.declared.Goal.TheVariants.{To, LeftOut, Unmoved}

-- where an entry goes: to a place, nowhere since its word is written anew, or nowhere since its late word is not moved
unfoldable pub is_left_out : Goal → Bool
is_left_out LeftOut = true
is_left_out (To x) = false
is_left_out Unmoved = false

unfoldable pub is_stuck : Goal → Bool
is_stuck Unmoved = true
is_stuck (To x) = false
is_stuck LeftOut = false

unfoldable pub goal_place : Goal → ℕ
goal_place (To x) = x
goal_place LeftOut = 0
goal_place Unmoved = 0

-- what a symbol becomes: its number in the result, where it is in it
unfoldable pub is_in_result : Option MergedSymbol → Bool
is_in_result (Some n) = true
is_in_result None = false

unfoldable pub new_number : Option MergedSymbol → ℕ
new_number (Some n) = n.0
new_number None = 0

-- how an object's entries are carried: by which tables; where an entry for the section of a code goes, by its offset; and what a symbol becomes
pub record Carrying : Type 0 where
  pub tables : ℕ → Bool
  pub goal : ℕ → ℕ → Goal
  pub new : ℕ → Option MergedSymbol

-- offsets are below
abbrev pub OFFSETS : ℕ
OFFSETS = 2 ^ 32

module _ (o : ByteOrder) (F : List ℕ) (w : Carrying) where
  -- entry k of table t: where it goes, and its symbol
  unfoldable pub entry_goal : ℕ → ℕ → Goal
  entry_goal t k = w.goal (code_of o F (section o F t).sh_info) (relocation o F t k).r_offset

  unfoldable pub entry_symbol : ℕ → ℕ → Option MergedSymbol
  entry_symbol t k = w.new (symbol_of (relocation o F t k).r_info)

  unfoldable pub is_kept : ℕ → ℕ → Bool
  is_kept t k = not (is_left_out (entry_goal t k))

  -- it in the result
  unfoldable pub carried_entry : ℕ → ℕ → RelocationEntry
  carried_entry t k = record {
    r_offset = goal_place (entry_goal t k);
    r_info = relocation_info (new_number (entry_symbol t k)) (kind_of (relocation o F t k).r_info);
    r_addend = (relocation o F t k).r_addend;
  }

  -- what table t brings: how many entries, and their bytes
  unfoldable pub kept_count : ℕ → ℕ
  kept_count t = count (is_kept t) (relocation_count o F t)

  unfoldable pub carried_bytes : ℕ → List ℕ
  carried_bytes t = gather (is_kept t) (λ k. relocation_bytes o (carried_entry t k)) (relocation_count o F t)

  -- 20: "relocation's symbol is not in the result, or late offset not moved"; its place is the lowest offset, as stored
  unfoldable pub is_lost : ℕ → ℕ → Bool
  is_lost t k = is_kept t k && (is_stuck (entry_goal t k) || not (is_in_result (entry_symbol t k)))

  unfoldable pub loss_in : ℕ → ℕ
  loss_in t = least (λ k. (relocation o F t k).r_offset) (is_lost t) OFFSETS (relocation_count o F t)

  unfoldable pub loss_at : ℕ
  loss_at = least loss_in w.tables OFFSETS (section_count o F)

  unfoldable pub loss_finding : Option ℕ
  loss_finding = found_below OFFSETS loss_at
