-- The entries of one file of the debug section (document 01, "Statics"). C is the compiled object; the file's entries start at s and its names at b, and L
-- are the statics of the files before it.
use Rattle.std.specs.Prelude.{ℕ, zero, suc, ◌+◌, ◌*◌, Bool, not, ◌||◌, List, eqb, ltb}
use Rattle.base_lists.specs.Ranges.{first, count}
use Rattle.base_fields.specs.declared.ByteOrder.{ByteOrder}
use Rattle.statics_debug.specs.Entries.{ENTRY_SIZE, opens_scope, closes_scope}
use Rattle.statics_table.specs.declared.Static.{Static}
use Rattle.statics_entry.specs.Entry.{type_at, entry_fault, list_after}

-- entry j
unfoldable pub entry_place : ℕ → ℕ → ℕ
entry_place s j = s + ENTRY_SIZE * j

module _ (o : ByteOrder) (C : List ℕ) (s : ℕ) where
  -- how many of the first j entries open a scope, and how many close one. The level is their difference, which may go below zero.
  unfoldable pub opened : ℕ → ℕ
  opened j = count (λ k. opens_scope (type_at o C (entry_place s k))) j

  unfoldable pub closed : ℕ → ℕ
  closed j = count (λ k. closes_scope (type_at o C (entry_place s k))) j

  -- entry j stands above level 1
  unfoldable pub nested : ℕ → Bool
  nested j = ltb (closed j + 1) (opened j)

  -- the level is 0 after n entries
  unfoldable pub balanced : ℕ → Bool
  balanced n = eqb (opened n) (closed n)

module _ (o : ByteOrder) (C : List ℕ) (head s b : ℕ) (L : List Static) where
  -- the statics after j entries
  unfoldable pub listed_in : ℕ → List Static
  listed_in zero = L
  listed_in (suc j) = list_after o C head (listed_in j) b (entry_place s j) (nested o C s j)

  -- refusal 17 inside entry j
  unfoldable pub fault_in : ℕ → Bool
  fault_in j = entry_fault o C (listed_in j) b (entry_place s j)

  -- how many of n entries are completed: those before the first fault, or all
  unfoldable pub completed_in : ℕ → ℕ
  completed_in n = first fault_in 0 n

  -- the file fails: inside an entry, or its level does not end at 0
  unfoldable pub fails_in : ℕ → Bool
  fails_in n = ltb (completed_in n) n || not (balanced o C s n)
