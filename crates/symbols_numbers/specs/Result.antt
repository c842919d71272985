-- Of the code, not of document 01: the order of the result and the numbers of the candidates s in hand, as numbers of a table each, and what an object's symbol becomes.
use Rattle.std.specs.Prelude.{ℕ, ◌+◌, ◌*◌, ◌≤◌, ◌<◌, ◌≡◌, cond, ◌&&◌, List, length, get_or, ltb, None, Some, Option}
use Rattle.symbols_merge.specs.Candidates.{Candidates}
use Rattle.symbols_merge.specs.Merged.{RESULT_GROUPS, LOCAL_GROUPS, merged, merged_count, local_count, number_of}
use Rattle.symbols_rows.specs.Rows.{half_in, halves_in}
use Rattle.base_packed.specs.declared.MergedSymbol.{MergedSymbol}
use Rattle.symbols_numbers.specs.Numbers.{pick_symbol}

module _ (s : Candidates) where
  -- the starts of the groups in hand: with entry 0, how many entries of the result are local, and how many there are
  pub record StartsOf (starts : List ℕ) : Type 0 where
    pub locals : get_or starts LOCAL_GROUPS 0 + 1 ≡ local_count s
    pub all : get_or starts RESULT_GROUPS 0 + 1 ≡ merged_count s

  -- the order in hand: entry k of the result, from 1 on, is the position in word k - 1
  pub record OrderOf (O : List ℕ) : Type 0 where
    pub long : 2 * length (merged s) ≤ length O
    pub is : halves_in O (length (merged s)) ≡ merged s

  -- the numbers in hand: 0 where a candidate is not taken
  pub record NumbersOf (N : List ℕ) : Type 0 where
    pub long : 2 * s.many ≤ length N
    pub is : (i : ℕ) → i < s.many → half_in N i ≡ cond (s.taken i) (number_of s i) 0

  -- what becomes of symbol k of an object whose `many` symbols are the candidates from `from` on
  unfoldable pub new_of : ℕ → ℕ → ℕ → Option MergedSymbol
  new_of from many k = pick_symbol (ltb k many && s.taken (from + k)) (Some (record { 0 = number_of s (from + k) })) None
