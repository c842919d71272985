-- Of the code, not of document 01: the homes in hand. A row of two words for each carried table, in their order: its index in A, and the section of the result that it joins.
use Rattle.std.specs.Prelude.{ℕ, ◌+◌, ◌*◌, ◌≤◌, ◌<◌, ◌≡◌, Bool, cond, not, ◌&&◌, List, length, eqb}
use Rattle.base_lists.specs.Ranges.{first, count, pick_list}
use Rattle.base_fields.specs.declared.ByteOrder.{ByteOrder}
use Rattle.base_fields.specs.declared.ByteOrder.TheVariants.{Big}
use Rattle.base_fields.specs.Numbers.{number}
use Rattle.base_scope.specs.Text.{text}
use Rattle.base_scope.specs.Codes.{target_code}
use Rattle.base_groups.specs.Groups.{in_group, grouped}
use Rattle.elf_readers.specs.Readers.{section_count}
use Rattle.elf_relocations.specs.Relocations.{is_rela}
use Rattle.carry_clash.specs.Clash.{carried_code, is_carried}
use Rattle.carry_homes.specs.declared.Homes.{Homes}
use Rattle.carry_homes.specs.declared.TableName.{TableName}
use Rattle.carry_homes.specs.Homes.{carried_rank, carried_count, carried_table, opens_home, new_count, home_of}

-- the bytes of a row
abbrev pub HOME_ROW : ℕ
HOME_ROW = 8

-- a row for each section that an object may have
abbrev pub HOME_TABLE : ℕ
HOME_TABLE = 1024

module _ (rows : List ℕ) where
  -- the words of row j
  unfoldable pub listed_table : ℕ → ℕ
  listed_table j = number Big 4 rows (HOME_ROW * j)

  unfoldable pub home_in : ℕ → ℕ
  home_in j = number Big 4 rows (HOME_ROW * j + 4)

  -- the first of n rows whose home is the i-th behind `stay` sections
  unfoldable pub opened_in : ℕ → ℕ → ℕ → ℕ
  opened_in n stay i = first (λ j. eqb (home_in j) (stay + i)) 0 n

-- the first n carried tables are listed
pub record TablesListed (o : ByteOrder) (A : List ℕ) (n : ℕ) (rows : List ℕ) : Type 0 where
  pub few : HOME_ROW * n ≤ length rows
  pub is : (j : ℕ) → j < n → listed_table rows j ≡ carried_table o A j

-- and the first n have their homes
pub record HomesListed (o : ByteOrder) (C A : List ℕ) (stay n : ℕ) (rows : List ℕ) : Type 0 where
  pub tables : TablesListed o A (carried_count o A) rows
  pub is : (j : ℕ) → j < n → home_in rows j ≡ home_of o C A stay j

module _ (o : ByteOrder) (A : List ℕ) where
  -- section t is carried, and of rank g
  unfoldable pub in_rank : ℕ → ℕ → Bool
  in_rank g t = in_group (is_carried o A) (λ t. carried_rank (carried_code o A t)) (section_count o A) g t

  -- how many carried tables there are of the ranks below g, and of rank g below section t
  unfoldable pub ranked_count : ℕ → ℕ → ℕ
  ranked_count g t = length (grouped (is_carried o A) (λ t. carried_rank (carried_code o A t)) (section_count o A) g) + count (in_rank g) t

  -- these m are listed
  pub record RanksListed (g t m : ℕ) (rows : List ℕ) : Type 0 where
    pub many : m ≡ ranked_count g t
    pub listed : TablesListed o A m rows

  -- what the name of the section that the j-th carried table joins is made of
  unfoldable pub home_key : ℕ → TableName
  home_key j = record { rela = is_rela o A (carried_table o A j); code = target_code (carried_code o A (carried_table o A j)) }

-- what the name of a table begins with
unfoldable pub kind_name : Bool → List ℕ
kind_name rela = pick_list rela (text ".rela") (text ".rel")

-- whether two names are the same
unfoldable pub same_key : TableName → TableName → Bool
same_key a b = eqb a.code b.code && cond a.rela b.rela (not b.rela)

module _ (o : ByteOrder) (C A : List ℕ) (stay : ℕ) where
  -- the first j carried tables have their homes, and open m new sections
  pub record HomesTo (j m : ℕ) (rows : List ℕ) : Type 0 where
    pub opened : m ≡ count (opens_home o C A stay) j
    pub listed : HomesListed o C A stay j rows

  -- all have theirs
  pub record HomesFound (found : Homes) (rows : List ℕ) : Type 0 where
    pub tables : found.tables ≡ carried_count o A
    pub opened : found.opened ≡ new_count o C A stay
    pub listed : HomesListed o C A stay (carried_count o A) rows
