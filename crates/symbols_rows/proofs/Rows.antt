-- A row that was written is read back, and every other row stays: the two words of a row stand one behind the other, and the kind word has a bit for each of three tests in
-- front of the binding and the section. Assumes nothing.
use Prim.Native.Nat.{ℕ, ◌+◌, ◌*◌, ◌/◌, ◌%◌, ◌≤◌, ◌<◌}
use mathlib.Core.Path.{◌≡◌, ap, ◌∙◌}
use mathlib.Core.Logic.{◌≢◌, inl, inr}
use mathlib.Core.Bool.{Bool, true, false, cond}
use mathlib.Core.List.{List, [], ◌∷◌}
use native.Mathlib.Omega.{arith}
use lib.ListN.{length, get_or}
use lib.Dec.{eqb}
use borrow.Author.Tests.{eq-eqb, ne_eqb}
use Rattle.base_lists.specs.Records.{flat}
use Rattle.base_lists.specs.Windows.{Within, spliced}
use Rattle.base_lists.proofs.Ranges.{by-lt, select_all_is}
use Rattle.base_lists.proofs.Windows.{within_at, within_within, within_spliced, length_spliced}
use Rattle.base_lists.proofs.Records.{length_flat, within_flat}
use Rattle.base_fields.specs.declared.ByteOrder.TheVariants.{Big}
use Rattle.base_fields.specs.Numbers.{number, encoded}
use Rattle.base_fields.proofs.Numbers.{length_encoded, within_number, number_outside}
use Rattle.base_scope.specs.Limits.{ID_ROW}
use Rattle.symbols_rows.specs.declared.IdRow.{IdRow}
use Rattle.symbols_rows.specs.Rows.{kind_word, id_kind, id_taken, id_unnamed, id_gp_disp, id_binding, id_section, id_value, id_row, id_row_bytes, half_in, halves_in}

-- ---- the kind word

abbrev bit : Bool → ℕ
bit b = cond b 1 0

bit_le : (b : Bool) → bit b ≤ 1
bit_le true = omega arith
bit_le false = omega arith

bit_test : (b : Bool) (x : ℕ) → x ≡ bit b → eqb x 1 ≡ b
bit_test true x e = eq-eqb x 1 e
bit_test false x e = ne_eqb x 1 (λ f. absurd (omega arith))

wide_bit : (b : Bool) (k : ℕ) → cond b k 0 ≡ k * bit b
wide_bit true k = omega arith
wide_bit false k = omega arith

module _ (a b c : Bool) (x s k : ℕ) (is : k ≡ kind_word a b c x s) where
  kind_parts : k ≡ bit a + 2 * bit b + 4 * bit c + 8 * x + 128 * s
  unfolding kind_word
  kind_parts = is ∙ rw (wide_bit b 2, wide_bit c 4)

  kind_taken : eqb (k % 2) 1 ≡ a
  kind_taken = bit_test a (k % 2) (omega (arith, kind_parts, bit_le a))

  kind_unnamed : eqb (k / 2 % 2) 1 ≡ b
  kind_unnamed = bit_test b (k / 2 % 2) (omega (arith, kind_parts, bit_le a, bit_le b))

  kind_gp : eqb (k / 4 % 2) 1 ≡ c
  kind_gp = bit_test c (k / 4 % 2) (omega (arith, kind_parts, bit_le a, bit_le b, bit_le c))

  kind_binding : x < 16 → k / 8 % 16 ≡ x
  kind_binding h = omega (arith, h, kind_parts, bit_le a, bit_le b, bit_le c)

  kind_section : x < 16 → k / 128 ≡ s
  kind_section h = omega (arith, h, kind_parts, bit_le a, bit_le b, bit_le c)

-- ---- rows

pub length_row : (row : IdRow) → length (id_row_bytes row) ≡ ID_ROW
unfolding id_row_bytes
length_row row = length_flat (encoded Big 4) 4 (length_encoded Big 4) _

-- the fields of row i of a table
pub record IsRow (T : List ℕ) (i : ℕ) (row : IdRow) : Type 0 where
  pub taken : id_taken T i ≡ row.taken
  pub unnamed : id_unnamed T i ≡ row.unnamed
  pub gp_disp : id_gp_disp T i ≡ row.gp_disp
  pub binding : id_binding T i ≡ row.binding
  pub section : id_section T i ≡ row.section
  pub value : id_value T i ≡ row.value

pub row_fields : (T : List ℕ) (i : ℕ) (row : IdRow) → id_row T i ≡ row → IsRow T i row
unfolding id_row
row_fields T i row e = record {
  taken = ap (λ (r : IdRow). r.taken) e;
  unnamed = ap (λ (r : IdRow). r.unnamed) e;
  gp_disp = ap (λ (r : IdRow). r.gp_disp) e;
  binding = ap (λ (r : IdRow). r.binding) e;
  section = ap (λ (r : IdRow). r.section) e;
  value = ap (λ (r : IdRow). r.value) e;
}

-- a row that stands in a table
module _ (row : IdRow) (small : row.binding < 16) (i : ℕ) (T : List ℕ) (w : Within (id_row_bytes row) (ID_ROW * i) T) where
  abbrev words : List ℕ
  words = kind_word row.taken row.unnamed row.gp_disp row.binding row.section ∷ row.value ∷ []

  within_word : (k : ℕ) → k < 2 → Within (encoded Big 4 (get_or words k 0)) (4 * k) (id_row_bytes row)
  unfolding id_row_bytes
  within_word k h = within_flat (encoded Big 4) 4 (length_encoded Big 4) words k 0 h

  word_at_lem : (k : ℕ) → k < 2 → number Big 4 T (ID_ROW * i + 4 * k) ≡ get_or words k 0
  word_at_lem k h = within_number Big 3 _ (ID_ROW * i + 4 * k) T (within_within _ (id_row_bytes row) T (ID_ROW * i) (4 * k) (within_word k h) w)

  pub row_read : id_row T i ≡ row
  unfolding id_row id_taken id_unnamed id_gp_disp id_binding id_kind id_section id_value
  row_read =
      let z : ID_ROW * i ≡ ID_ROW * i + 4 * 0 = omega arith in
      let k : number Big 4 T (ID_ROW * i) ≡ kind_word row.taken row.unnamed row.gp_disp row.binding row.section = ap (number Big 4 T) z ∙ word_at_lem 0 (omega arith) in
      let a = kind_taken row.taken row.unnamed row.gp_disp row.binding row.section (number Big 4 T (ID_ROW * i)) k in
      let b = kind_unnamed row.taken row.unnamed row.gp_disp row.binding row.section (number Big 4 T (ID_ROW * i)) k in
      let c = kind_gp row.taken row.unnamed row.gp_disp row.binding row.section (number Big 4 T (ID_ROW * i)) k in
      let d = kind_binding row.taken row.unnamed row.gp_disp row.binding row.section (number Big 4 T (ID_ROW * i)) k small in
      let s = kind_section row.taken row.unnamed row.gp_disp row.binding row.section (number Big 4 T (ID_ROW * i)) k small in
      let v : number Big 4 T (ID_ROW * i + 4) ≡ row.value = word_at_lem 1 (omega arith) in
      λ j. record { taken = a j; unnamed = b j; gp_disp = c j; binding = d j; section = s j; value = v j }

-- row i is written
module _ (T : List ℕ) (i : ℕ) (row : IdRow) (fits : ID_ROW * i + ID_ROW ≤ length T) where
  abbrev after : List ℕ
  after = spliced T (ID_ROW * i) (id_row_bytes row)

  inside : ID_ROW * i + length (id_row_bytes row) ≤ length T
  inside = rw (length_row row) fits

  pub written_long : length after ≡ length T
  written_long = length_spliced T (ID_ROW * i) (id_row_bytes row) inside

  pub written_same : row.binding < 16 → id_row after i ≡ row
  written_same small = row_read row small i after (within_spliced T (ID_ROW * i) (id_row_bytes row) inside)

  word_other : (j p : ℕ) → j ≢ i → ID_ROW * j ≤ p → p + 4 ≤ ID_ROW * j + ID_ROW → number Big 4 after p ≡ number Big 4 T p
  word_other j p d l h = number_outside Big 4 p T (ID_ROW * i) (id_row_bytes row) inside
      (rw (length_row row) (by-lt j i (λ u. inl (omega arith)) (λ u. inr (omega arith))))

  pub written_other : (j : ℕ) → j ≢ i → id_row after j ≡ id_row T j
  unfolding id_row id_taken id_unnamed id_gp_disp id_binding id_kind id_section id_value
  written_other j d =
      rw (word_other j (ID_ROW * j) d (omega arith) (omega arith), word_other j (ID_ROW * j + 4) d (omega arith) (omega arith))

-- the first i rows are those that f gives
abbrev pub Filled : (ℕ → IdRow) → List ℕ → ℕ → Type 0
Filled f T i = (j : ℕ) → j < i → id_row T j ≡ f j

-- ---- words

-- words that stand at the front of a table are read back
pub words_read : (xs T : List ℕ) → Within (flat (encoded Big 2) xs) 0 T → halves_in T (length xs) ≡ xs
unfolding halves_in half_in
words_read xs T w = select_all_is xs (half_in T) 0 (λ p h.
    within_number Big 1 (get_or xs p 0) (2 * p) T
    (within_at (encoded Big 2 (get_or xs p 0)) T (0 + 2 * p) (2 * p) (omega arith)
    (within_within (encoded Big 2 (get_or xs p 0)) (flat (encoded Big 2) xs) T 0 (2 * p) (within_flat (encoded Big 2) 2 (length_encoded Big 2) xs p 0 h) w)))
