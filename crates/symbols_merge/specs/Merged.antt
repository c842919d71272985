-- The symbol table of the result (document 01, "Symbols": "Entry 0, locals (by binding), the rest; `_gp_disp` last in its group"): which of the list's symbols it holds, in
-- which order, and the number that each candidate has in it.
use Rattle.std.specs.Prelude.{ℕ, ◌+◌, ◌-◌, Bool, cond, List, length, get_or}
use Rattle.base_groups.specs.Groups.{grouped, grouped_place}
use Rattle.base_groups.specs.Holders.{is_holder}
use Rattle.symbols_merge.specs.Candidates.{Candidates, is_local, is_gp_disp}
use Rattle.symbols_merge.specs.Listed.{listed, position, listed_at, is_alike, holder_of}

-- locals, a local `_gp_disp`, the rest, another `_gp_disp`; the first two groups are local
abbrev pub RESULT_GROUPS : ℕ
RESULT_GROUPS = 4

abbrev pub LOCAL_GROUPS : ℕ
LOCAL_GROUPS = 2

module _ (s : Candidates) where
  unfoldable pub result_group : ℕ → ℕ
  result_group i = cond (is_local s i) 0 LOCAL_GROUPS + cond (is_gp_disp s i) 1 0

  -- a position is in the result where it holds its name
  unfoldable pub is_merged : ℕ → Bool
  is_merged p = is_holder (is_alike s) (length (listed s)) p

  unfoldable pub group_at_position : ℕ → ℕ
  group_at_position p = result_group (listed_at s p)

  -- the positions in the result, in its order, behind entry 0
  unfoldable pub merged : List ℕ
  merged = grouped is_merged group_at_position (length (listed s)) RESULT_GROUPS

  -- entries of the result, entry 0 counted; and those of them that are local, as sh_info says
  unfoldable pub merged_count : ℕ
  merged_count = length merged + 1

  unfoldable pub local_count : ℕ
  local_count = length (grouped is_merged group_at_position (length (listed s)) LOCAL_GROUPS) + 1

  -- the candidate whose symbol is entry k of the result, from 1 on
  unfoldable pub merged_at : ℕ → ℕ
  merged_at k = listed_at s (get_or merged (k - 1) 0)

  -- the candidate that holds candidate i's name, and the entry of the result that is i's
  unfoldable pub held_by : ℕ → ℕ
  held_by i = listed_at s (holder_of s (position s i))

  unfoldable pub number_of : ℕ → ℕ
  number_of i = grouped_place is_merged group_at_position (length (listed s)) (holder_of s (position s i)) + 1
