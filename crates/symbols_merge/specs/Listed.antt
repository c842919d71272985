-- The list of symbols (document 01, "Symbols": "Defined ones move before undefined, order kept (positions count from 0 here; 19's is the later holder)"), and refusals 18
-- and 19, whose places are positions in it.
use Rattle.std.specs.Prelude.{ℕ, Bool, cond, not, ◌&&◌, ◌||◌, List, length, get_or, eqb}
use Rattle.base_lists.specs.Ranges.{first}
use Rattle.base_lists.specs.Strings.{same}
use Rattle.base_groups.specs.Groups.{grouped, grouped_place}
use Rattle.base_groups.specs.Holders.{holder}
use Rattle.base_scope.specs.Refusals.{LOOSE_SYMBOL, NAME_TWICE, found_below}
use Rattle.base_answers.specs.Answers.{NONE}
use Rattle.base_answers.specs.Verdicts.{Verdict, also, finding_verdict}
use Rattle.symbols_merge.specs.Candidates.{Candidates, is_defined, is_unnamed, is_local}

module _ (s : Candidates) where
  -- defined ones are the first of two groups
  unfoldable pub list_group : ℕ → ℕ
  list_group i = cond (is_defined s i) 0 1

  unfoldable pub listed : List ℕ
  listed = grouped s.taken list_group s.many 2

  -- the position of a candidate, and the candidate at a position
  unfoldable pub position : ℕ → ℕ
  position i = grouped_place s.taken list_group s.many i

  unfoldable pub listed_at : ℕ → ℕ
  listed_at p = get_or listed p 0

  -- "Equal non-empty working names merge, binding ignored": two positions are of one symbol
  unfoldable pub is_alike : ℕ → ℕ → Bool
  is_alike p q = cond (is_unnamed s (listed_at p)) (eqb p q) (same (s.name (listed_at p)) (s.name (listed_at q)))

  -- the first position of a name holds it; an unnamed symbol holds itself
  unfoldable pub holder_of : ℕ → ℕ
  holder_of p = holder is_alike (length listed) p

  -- 18: "local undefined, or unnamed not local"
  unfoldable pub is_loose : ℕ → Bool
  is_loose p = (is_local s (listed_at p) && not (is_defined s (listed_at p))) || (is_unnamed s (listed_at p) && not (is_local s (listed_at p)))

  -- 19: "name defined at two places": it is defined, and not where its holder is
  unfoldable pub is_elsewhere : ℕ → Bool
  is_elsewhere p =
      is_defined s (listed_at p)
      && not (eqb (s.section (listed_at p)) (s.section (listed_at (holder_of p))) && eqb (s.value (listed_at p)) (s.value (listed_at (holder_of p))))

  unfoldable pub symbols_verdict : Verdict
  symbols_verdict =
      also (finding_verdict LOOSE_SYMBOL NONE (found_below (length listed) (first is_loose 0 (length listed))))
      (finding_verdict NAME_TWICE NONE (found_below (length listed) (first is_elsewhere 0 (length listed))))
