-- Of the code, not of document 01: the order of the result's symbols and the number of each id, by the tables T of id rows, L of positions and H of holders
-- (`symbols_rows`, specs/Rows.antt). What these are of the candidates is in proofs/Result.antt.
use Rattle.std.specs.Prelude.{ℕ, zero, suc, ◌+◌, ◌*◌, ◌≤◌, ◌<◌, ◌≡◌, Bool, true, false, cond, List, length, ltb, eqb, None, Some, Option}
use Rattle.base_lists.specs.Ranges.{count, select}
use Rattle.base_lists.specs.Windows.{spliced}
use Rattle.base_fields.specs.declared.ByteOrder.TheVariants.{Big}
use Rattle.base_fields.specs.Numbers.{encoded}
use Rattle.base_scope.specs.Elf.{STB_LOCAL}
use Rattle.base_scope.specs.Limits.{ID_LIMIT}
use Rattle.base_groups.specs.Groups.{in_group, grouped, grouped_place}
use Rattle.symbols_merge.specs.Merged.{RESULT_GROUPS, LOCAL_GROUPS}
use Rattle.symbols_rows.specs.Rows.{half_in, result_group_in}
use Rattle.symbols_rows.specs.Steps.{Holders}
use Rattle.base_packed.specs.declared.MergedSymbol.{MergedSymbol}

-- the first group of a binding
unfoldable pub binding_group : ℕ → ℕ
binding_group binding = cond (eqb binding STB_LOCAL) 0 LOCAL_GROUPS

-- position p holds its name
unfoldable pub holds_in : List ℕ → ℕ → Bool
holds_in H p = eqb (half_in H p) p

-- m positions in hand, their rows and their holders
pub record Tables (T L H : List ℕ) (m : ℕ) : Type 0 where
  pub few : m ≤ ID_LIMIT
  pub held : Holders T L H m

-- no id stands twice; a holder holds itself, and stands at the position that it holds or before it
pub record HoldersFirst (L H : List ℕ) (m : ℕ) : Type 0 where
  pub once : (p q : ℕ) → p < m → q < m → half_in L p ≡ half_in L q → p ≡ q
  pub early : (p : ℕ) → p < m → half_in H p ≤ p
  pub itself : (p : ℕ) → p < m → half_in H (half_in H p) ≡ half_in H p

-- N has a number for the id of each of m positions
pub record IdRoom (L : List ℕ) (m : ℕ) (N : List ℕ) : Type 0 where
  pub word : (p : ℕ) → p < m → 2 * half_in L p + 2 ≤ length N

-- how many of a group there are behind position p, if `before` come before it
abbrev pub count_behind : List ℕ → ℕ → ℕ → ℕ
count_behind H p before = before + cond (holds_in H p) 1 0

-- position p's turn in the order: it goes to `place` where it holds its name
pub record OrderedAt (H : List ℕ) (p place next : ℕ) (before after : List ℕ) : Type 0 where
  pub next_is : next ≡ count_behind H p place
  pub put : holds_in H p ≡ true → after ≡ spliced before (2 * place) (encoded Big 2 p)
  pub kept : holds_in H p ≡ false → after ≡ before

-- the number of position p by N, which has those of the positions before it; `place` is where the next of its group goes
unfoldable pub number_on : List ℕ → List ℕ → ℕ → ℕ → List ℕ → ℕ
number_on L H p place N = cond (holds_in H p) (place + 1) (half_in N (half_in L (half_in H p)))

-- position p, its holder, and the numbers of both
pub record NumberRoom (L H : List ℕ) (p : ℕ) (N : List ℕ) : Type 0 where
  pub position : 2 * p + 2 ≤ length L
  pub holder : 2 * p + 2 ≤ length H
  pub held : 2 * half_in H p + 2 ≤ length L
  pub word : 2 * half_in L p + 2 ≤ length N
  pub held_word : 2 * half_in L (half_in H p) + 2 ≤ length N

-- position p's turn in the numbering: its id gets its number
pub record NumberedAt (L H : List ℕ) (p place next : ℕ) (before after : List ℕ) : Type 0 where
  pub next_is : next ≡ count_behind H p place
  pub put : after ≡ spliced before (2 * half_in L p) (encoded Big 2 (number_on L H p place before))

module _ (T L H : List ℕ) (m : ℕ) where
  -- the positions of the groups below k, in the order of the result
  unfoldable pub order_in : ℕ → List ℕ
  order_in k = grouped (holds_in H) (result_group_in T L) m k

  -- how many of the first p positions are in group g of the result
  unfoldable pub group_count : ℕ → ℕ → ℕ
  group_count p g = count (in_group (holds_in H) (result_group_in T L) m g) p

  unfoldable pub group_counts : List ℕ
  group_counts = select (λ g. true) (group_count m) RESULT_GROUPS

  -- entry k: how many symbols the groups below k have
  unfoldable pub group_starts : List ℕ
  group_starts = select (λ k. true) (λ k. length (order_in k)) (RESULT_GROUPS + 1)

  -- the number of position p: its holder's place, entry 0 counted
  unfoldable pub number_at : ℕ → ℕ
  number_at p = grouped_place (holds_in H) (result_group_in T L) m (half_in H p) + 1

  -- the number of id i by the first k positions: 0 where it stands at none of them
  unfoldable pub number_by : ℕ → ℕ → ℕ
  number_by i zero = 0
  number_by i (suc k) = cond (eqb (half_in L k) i) (number_at k) (number_by i k)

  -- N has the numbers of the ids by the first k positions
  pub record IdsNumbered (k : ℕ) (N : List ℕ) : Type 0 where
    pub word : (i : ℕ) → 2 * i + 2 ≤ length N → half_in N i ≡ number_by i k

-- the symbol of a number
unfoldable pub new_symbol : ℕ → Option MergedSymbol
new_symbol zero = None
new_symbol (suc x) = Some (record { 0 = suc x })

abbrev pub pick_symbol : Bool → Option MergedSymbol → Option MergedSymbol → Option MergedSymbol
pick_symbol true a b = a
pick_symbol false a b = b

-- what symbol k of an object becomes, whose `many` symbols have the ids from `from` on
unfoldable pub new_in : List ℕ → ℕ → ℕ → ℕ → Option MergedSymbol
new_in N from many k = pick_symbol (ltb k many) (new_symbol (half_in N (from + k))) None
