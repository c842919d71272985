-- An entry as it is carried: at its goal, with its addend and its kind. Assumes nothing.
use Prim.Native.Nat.{ℕ}
use mathlib.Core.Path.{◌≡◌, refl}
use mathlib.Core.List.{List}
use native.Mathlib.Omega.{arith}
use Rattle.base_packed.specs.Packed.{kind_of}
use Rattle.base_packed.proofs.Packed.{kind_join}
use Rattle.base_fields.specs.declared.ByteOrder.{ByteOrder}
use Rattle.elf_relocations.specs.Relocations.{relocation}
use Rattle.demand_clauses.specs.of_carry_entries.Entries.{Carrying, goal_place, new_number, entry_goal, entry_symbol, carried_entry}

module _ (o : ByteOrder) (F : List ℕ) (w : Carrying) (t k : ℕ) where
  pub carried_offset : (carried_entry o F w t k).r_offset ≡ goal_place (entry_goal o F w t k)
  unfolding carried_entry
  carried_offset = refl

  pub carried_addend : (carried_entry o F w t k).r_addend ≡ (relocation o F t k).r_addend
  unfolding carried_entry
  carried_addend = refl

  pub carried_kind : kind_of (carried_entry o F w t k).r_info ≡ kind_of (relocation o F t k).r_info
  unfolding carried_entry
  carried_kind =
      let x : ℕ = (relocation o F t k).r_info in
      kind_join (new_number (entry_symbol o F w t k)) (kind_of x) (omega arith)
