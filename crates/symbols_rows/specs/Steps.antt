-- Of the code, not of document 01: what listing the ids of n rows leaves, group by group, and the verdict of 18 and 19 by the tables.
use Rattle.std.specs.Prelude.{ℕ, ◌+◌, ◌*◌, ◌≤◌, ◌<◌, ◌≡◌, Bool, cond, not, ◌&&◌, List, [], length, eqb}
use Rattle.base_lists.specs.Ranges.{first, select}
use Rattle.base_lists.specs.Records.{flat}
use Rattle.base_lists.specs.Windows.{spliced}
use Rattle.base_fields.specs.declared.ByteOrder.TheVariants.{Big}
use Rattle.base_fields.specs.Numbers.{encoded}
use Rattle.base_scope.specs.Elf.{SHN_UNDEF}
use Rattle.base_scope.specs.Refusals.{LOOSE_SYMBOL, NAME_TWICE, found_below}
use Rattle.base_scope.specs.Limits.{ID_ROW}
use Rattle.base_answers.specs.Answers.{NONE}
use Rattle.base_answers.specs.Verdicts.{Verdict, also, finding_verdict}
use Rattle.symbols_merge.specs.Listed.{listed}
use Rattle.symbols_rows.specs.Rows.{id_taken, id_section, candidates_in, half_in, loose_in, elsewhere_in}

-- the group in the list of an id of this section
unfoldable pub section_group : ℕ → ℕ
section_group section = cond (not (eqb section SHN_UNDEF)) 0 1

module _ (T : List ℕ) where
  -- whether id i is taken and of group g, and the ids of group g below n
  unfoldable pub in_list : ℕ → ℕ → Bool
  in_list g i = id_taken T i && eqb (section_group (id_section T i)) g

  unfoldable pub ids_of : ℕ → ℕ → List ℕ
  ids_of n g = select (in_list g) (λ i. i) n

  -- the list: names play no part in it
  unfoldable pub ids_listed : ℕ → List ℕ
  ids_listed n = listed (candidates_in T n (λ i. []))

-- some ids written behind m ids: r stand there then
pub record Listing (ids : List ℕ) (m r : ℕ) (before after : List ℕ) : Type 0 where
  pub many : r ≡ m + length ids
  pub words : after ≡ spliced before (2 * m) (flat (encoded Big 2) ids)

-- position p of the list is in hand, and so is the row of its id
pub record Position (T L : List ℕ) (p : ℕ) : Type 0 where
  pub inside : 2 * p + 2 ≤ length L
  pub row : ID_ROW * half_in L p + ID_ROW ≤ length T

-- and so is its holder
pub record Held (T L H : List ℕ) (p : ℕ) : Type 0 where
  pub own : Position T L p
  pub inside : 2 * p + 2 ≤ length H
  pub holder : Position T L (half_in H p)

-- m positions in hand, and their holders
abbrev pub Positions : List ℕ → List ℕ → ℕ → Type 0
Positions T L m = (p : ℕ) → p < m → Position T L p

abbrev pub Holders : List ℕ → List ℕ → List ℕ → ℕ → Type 0
Holders T L H m = (p : ℕ) → p < m → Held T L H p

-- 18, then 19
unfoldable pub verdict_in : List ℕ → List ℕ → List ℕ → ℕ → Verdict
verdict_in T L H m =
    also (finding_verdict LOOSE_SYMBOL NONE (found_below m (first (loose_in T L) 0 m)))
    (finding_verdict NAME_TWICE NONE (found_below m (first (elsewhere_in T L H) 0 m)))
