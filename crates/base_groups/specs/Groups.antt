-- A stable order: of the indices below n those that are kept, one group behind the other, and within a group as before. Document 01, "Symbols", asks it twice: "Defined ones
-- move before undefined, order kept", and "Entry 0, locals (by binding), the rest; `_gp_disp` last in its group".
use Rattle.std.specs.Prelude.{ℕ, ◌+◌, Bool, true, ◌&&◌, List, length, eqb}
use Rattle.base_lists.specs.Ranges.{count, gather, select}

module _ (keep : ℕ → Bool) (group : ℕ → ℕ) (n : ℕ) where
  -- index i is kept, in group g
  unfoldable pub in_group : ℕ → ℕ → Bool
  in_group g i = keep i && eqb (group i) g

  -- the indices of group g
  unfoldable pub of_group : ℕ → List ℕ
  of_group g = select (in_group g) (λ i. i) n

  -- those of the groups below k
  unfoldable pub grouped : ℕ → List ℕ
  grouped k = gather (λ g. true) of_group k

  -- where index i stands among them: behind all lower groups, and behind those of its own group before it
  unfoldable pub grouped_place : ℕ → ℕ
  grouped_place i = length (grouped (group i)) + count (in_group (group i)) i
