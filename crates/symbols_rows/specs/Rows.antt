-- Of the code, not of document 01: the tables of the symbol merge. T has a row of two words for each id: what it is with its section, and its value; L has a word for each
-- position of the list: its id; H has a word for each position: the position that holds its name.
use Rattle.std.specs.Prelude.{ℕ, ◌+◌, ◌*◌, ◌/◌, ◌%◌, ◌≤◌, ◌<◌, ◌≡◌, Bool, true, cond, not, ◌&&◌, ◌||◌, List, [], ◌∷◌, length, eqb}
use Rattle.base_lists.specs.Ranges.{select}
use Rattle.base_lists.specs.Records.{flat}
use Rattle.base_fields.specs.declared.ByteOrder.TheVariants.{Big}
use Rattle.base_fields.specs.Numbers.{number, encoded}
use Rattle.base_scope.specs.Elf.{SHN_UNDEF, STB_LOCAL}
use Rattle.base_scope.specs.Limits.{ID_LIMIT, ID_ROW}
use Rattle.symbols_merge.specs.Candidates.{Candidates, is_unnamed, is_gp_disp}
use Rattle.symbols_merge.specs.Listed.{listed, holder_of}
use Rattle.symbols_rows.specs.declared.IdRow.{IdRow}

-- what an id is, as one word: whether it is taken, unnamed, `_gp_disp`, its binding and its section
unfoldable pub kind_word : Bool → Bool → Bool → ℕ → ℕ → ℕ
kind_word taken unnamed gp binding section = cond taken 1 0 + cond unnamed 2 0 + cond gp 4 0 + 8 * binding + 128 * section

-- a binding is four bits of st_info, a section index one half
abbrev pub Fits : ℕ → ℕ → Type 0
Fits binding section = (binding < 16) × (section < 65536)

module _ (T : List ℕ) where
  unfoldable pub id_kind : ℕ → ℕ
  id_kind i = number Big 4 T (ID_ROW * i)

  unfoldable pub id_taken : ℕ → Bool
  id_taken i = eqb (id_kind i % 2) 1

  unfoldable pub id_unnamed : ℕ → Bool
  id_unnamed i = eqb (id_kind i / 2 % 2) 1

  unfoldable pub id_gp_disp : ℕ → Bool
  id_gp_disp i = eqb (id_kind i / 4 % 2) 1

  unfoldable pub id_binding : ℕ → ℕ
  id_binding i = id_kind i / 8 % 16

  unfoldable pub id_section : ℕ → ℕ
  id_section i = id_kind i / 128

  unfoldable pub id_value : ℕ → ℕ
  id_value i = number Big 4 T (ID_ROW * i + 4)

  -- row i
  unfoldable pub id_row : ℕ → IdRow
  id_row i = record {
    taken = id_taken i;
    unnamed = id_unnamed i;
    gp_disp = id_gp_disp i;
    binding = id_binding i;
    section = id_section i;
    value = id_value i;
  }

  -- the candidates that n rows tell of; their names stand elsewhere
  unfoldable pub candidates_in : ℕ → (ℕ → List ℕ) → Candidates
  candidates_in n name = record { many = n; taken = id_taken; name = name; section = id_section; value = id_value; binding = id_binding }

  -- n rows in hand, of these names; the row of an id that is not taken says nothing of its name
  pub record RowsOf (n : ℕ) (name : ℕ → List ℕ) : Type 0 where
    pub few : n ≤ ID_LIMIT
    pub long : ID_ROW * n ≤ length T
    pub unnamed : (i : ℕ) → i < n → id_taken i ≡ true → id_unnamed i ≡ is_unnamed (candidates_in n name) i
    pub gp_disp : (i : ℕ) → i < n → id_taken i ≡ true → id_gp_disp i ≡ is_gp_disp (candidates_in n name) i

-- the bytes of a row
unfoldable pub id_row_bytes : IdRow → List ℕ
id_row_bytes row = flat (encoded Big 4) (kind_word row.taken row.unnamed row.gp_disp row.binding row.section ∷ row.value ∷ [])

-- number p of a table of two bytes for each, and its first m numbers
unfoldable pub half_in : List ℕ → ℕ → ℕ
half_in L p = number Big 2 L (2 * p)

unfoldable pub halves_in : List ℕ → ℕ → List ℕ
halves_in L m = select (λ p. true) (half_in L) m

-- the list in hand: m positions
pub record ListOf (s : Candidates) (L : List ℕ) (m : ℕ) : Type 0 where
  pub long : 2 * m ≤ length L
  pub is : halves_in L m ≡ listed s

-- the holders in hand
pub record HoldersOf (s : Candidates) (H : List ℕ) (m : ℕ) : Type 0 where
  pub long : 2 * m ≤ length H
  pub is : (p : ℕ) → p < m → half_in H p ≡ holder_of s p

-- at position p, by the tables
module _ (T L : List ℕ) where
  -- 18
  unfoldable pub loose_in : ℕ → Bool
  loose_in p =
      (eqb (id_binding T (half_in L p)) STB_LOCAL && eqb (id_section T (half_in L p)) SHN_UNDEF)
      || (id_unnamed T (half_in L p) && not (eqb (id_binding T (half_in L p)) STB_LOCAL))

  -- the group in the result
  unfoldable pub result_group_in : ℕ → ℕ
  result_group_in p = cond (eqb (id_binding T (half_in L p)) STB_LOCAL) 0 2 + cond (id_gp_disp T (half_in L p)) 1 0

  module _ (H : List ℕ) where
    -- 19
    unfoldable pub elsewhere_in : ℕ → Bool
    elsewhere_in p =
        not (eqb (id_section T (half_in L p)) SHN_UNDEF)
        && not (eqb (id_section T (half_in L p)) (id_section T (half_in L (half_in H p))) && eqb (id_value T (half_in L p)) (id_value T (half_in L (half_in H p))))
