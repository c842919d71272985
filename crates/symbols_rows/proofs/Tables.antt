-- What the tables say of the candidates that they hold: the list's words are `listed`, every id in it has a row, every holder is a position, and 18 and 19 by the tables are
-- those of the merge. Assumes nothing.
use Prim.Native.Nat.{ℕ, ◌+◌, ◌*◌, ◌≤◌, ◌<◌}
use mathlib.Core.Path.{◌≡◌, refl, sym, ap, ◌∙◌}
use mathlib.Core.Bool.{Bool, true, false, not}
use mathlib.Core.List.{List, []}
use native.Mathlib.Omega.{arith}
use lib.ListN.{length, get_or}
use lib.Dec.{eqb}
use Rattle.base_lists.specs.Ranges.{first}
use Rattle.base_lists.specs.Records.{flat}
use Rattle.base_lists.specs.Strings.{same}
use Rattle.base_lists.specs.Windows.{Within}
use Rattle.base_lists.proofs.Ranges.{first_ext, select_all_length, select_all_at}
use Rattle.base_lists.proofs.Records.{length_flat}
use Rattle.base_lists.proofs.Windows.{within_spliced, length_spliced}
use Rattle.base_fields.specs.declared.ByteOrder.TheVariants.{Big}
use Rattle.base_fields.specs.Numbers.{encoded}
use Rattle.base_fields.proofs.Numbers.{length_encoded}
use Rattle.base_scope.specs.Limits.{ID_LIMIT, ID_ROW}
use Rattle.base_groups.proofs.Holders.{holder_lt}
use Rattle.base_scope.specs.Text.{text}
use Rattle.base_scope.specs.Elf.{SHN_UNDEF, STB_LOCAL}
use Rattle.base_scope.specs.Refusals.{found_below}
use Rattle.symbols_merge.specs.Candidates.{Candidates, is_defined, is_unnamed, is_local, is_gp_disp}
use Rattle.symbols_merge.specs.Listed.{listed, listed_at, is_alike, holder_of, is_loose, is_elsewhere, symbols_verdict}
use Rattle.symbols_merge.proofs.Names.{alike_parts}
use Rattle.symbols_merge.proofs.Merged.{listed_taken}
use Rattle.symbols_merge.proofs.Agree.{Agree}
use Rattle.symbols_rows.specs.declared.IdRow.{IdRow}
use Rattle.symbols_rows.specs.Rows.{id_taken, id_unnamed, id_binding, id_section, candidates_in, RowsOf, half_in, halves_in, ListOf, HoldersOf, loose_in, elsewhere_in}
use Rattle.symbols_rows.specs.Steps.{ids_listed, Listing, Positions, Holders, verdict_in}
use Rattle.symbols_rows.proofs.Rows.{row_fields, Filled, words_read}
use Rattle.symbols_rows.proofs.Listing.{listed_names, listed_few}

-- ---- the list

module _ (s : Candidates) (L : List ℕ) (m : ℕ) (l : ListOf s L m) where
  pub list_long : m ≡ length (listed s)
  unfolding halves_in
  list_long = sym (select_all_length (half_in L) m) ∙ ap length l.is

  pub list_at : (p : ℕ) → p < m → half_in L p ≡ listed_at s p
  unfolding halves_in listed_at
  list_at p h = sym (select_all_at (half_in L) p m 0 h) ∙ ap (λ (x : List ℕ). get_or x p 0) l.is

  pub list_taken : (p : ℕ) → p < m → (half_in L p < s.many) × (s.taken (half_in L p) ≡ true)
  list_taken p h = rw (list_at p h) (listed_taken s p (omega (arith, list_long)))

  -- each holder is a position
  pub holder_in : (H : List ℕ) → HoldersOf s H m → (p : ℕ) → p < m → half_in H p < m
  unfolding holder_of
  holder_in H h p u =
      let e : half_in H p ≡ holder_of s p = h.is p u in
      omega (arith, list_long, holder_lt (is_alike s) (length (listed s)) (alike_parts s) p (omega (arith, list_long)))

-- the list that listing leaves
module _ (T : List ℕ) (n r : ℕ) (before after : List ℕ) (room : 2 * n ≤ length before) (f : Listing (ids_listed T n) 0 r before after) where
  abbrev bytes : List ℕ
  bytes = flat (encoded Big 2) (ids_listed T n)

  bytes_fit : 2 * 0 + length bytes ≤ length before
  bytes_fit = omega (arith, length_flat (encoded Big 2) 2 (length_encoded Big 2) (ids_listed T n), listed_few T n)

  at_front : Within bytes 0 after
  at_front = rw f.words (within_spliced before (2 * 0) bytes bytes_fit)

  after_long : length after ≡ length before
  after_long = ap length f.words ∙ length_spliced before (2 * 0) bytes bytes_fit

  many : r ≡ length (ids_listed T n)
  many = omega (arith, f.many)

  pub list_of : (name : ℕ → List ℕ) → ListOf (candidates_in T n name) after r
  unfolding ids_listed
  list_of name = record {
    long = omega (arith, after_long, many, listed_few T n);
    is = ap (halves_in after) many ∙ words_read (ids_listed T n) after at_front ∙ listed_names T n (λ i. []) name;
  }

-- ---- rows of names

-- rows that were filled are of the names that their bits tell of
pub rows_of : (T : List ℕ) (n : ℕ) (name : ℕ → List ℕ) (f : ℕ → IdRow) → n ≤ ID_LIMIT → ID_ROW * n ≤ length T → Filled f T n
    → ((i : ℕ) → i < n → (f i).taken ≡ true → (f i).unnamed ≡ eqb (length (name i)) 0) → ((i : ℕ) → i < n → (f i).taken ≡ true → (f i).gp_disp ≡ same (name i) (text "_gp_disp"))
    → RowsOf T n name
unfolding is_unnamed is_gp_disp candidates_in
rows_of T n name f few long filled unnamed gp =
    let own : (i : ℕ) → i < n → id_taken T i ≡ true → (f i).taken ≡ true = λ i h t. sym (row_fields T i (f i) (filled i h)).taken ∙ t in
    record {
      few = few;
      long = long;
      unnamed = λ i h t. (row_fields T i (f i) (filled i h)).unnamed ∙ unnamed i h (own i h t);
      gp_disp = λ i h t. (row_fields T i (f i) (filled i h)).gp_disp ∙ gp i h (own i h t);
    }

-- rows filled from candidates agree with them
pub filled_agree : (T : List ℕ) (f : ℕ → IdRow) (t : Candidates) → Filled f T t.many
    → ((i : ℕ) → i < t.many → (f i).taken ≡ t.taken i) → ((i : ℕ) → i < t.many → t.taken i ≡ true → (f i).section ≡ t.section i)
    → ((i : ℕ) → i < t.many → t.taken i ≡ true → (f i).value ≡ t.value i) → ((i : ℕ) → i < t.many → t.taken i ≡ true → (f i).binding ≡ t.binding i)
    → Agree (candidates_in T t.many t.name) t
unfolding candidates_in
filled_agree T f t filled taken section value binding =
    let own : (i : ℕ) → i < t.many → id_taken T i ≡ t.taken i = λ i h. (row_fields T i (f i) (filled i h)).taken ∙ taken i h in
    record {
      many = refl;
      taken = own;
      name = λ i h u. refl;
      section = λ i h u. (row_fields T i (f i) (filled i h)).section ∙ section i h (sym (own i h) ∙ u);
      value = λ i h u. (row_fields T i (f i) (filled i h)).value ∙ value i h (sym (own i h) ∙ u);
      binding = λ i h u. (row_fields T i (f i) (filled i h)).binding ∙ binding i h (sym (own i h) ∙ u);
    }

twice : (b : Bool) → not (not b) ≡ b
twice true = refl
twice false = refl

module _ (T : List ℕ) (n : ℕ) (name : ℕ → List ℕ) (i : ℕ) where
  undefined_in : eqb (id_section T i) SHN_UNDEF ≡ not (is_defined (candidates_in T n name) i)
  unfolding is_defined candidates_in
  undefined_in = sym (twice (eqb (id_section T i) SHN_UNDEF))

  local_in : eqb (id_binding T i) STB_LOCAL ≡ is_local (candidates_in T n name) i
  unfolding is_local candidates_in
  local_in = refl

module _ (T : List ℕ) (n : ℕ) (name : ℕ → List ℕ) (R : RowsOf T n name) where
  abbrev s : Candidates
  s = candidates_in T n name

  module _ (L : List ℕ) (m : ℕ) (l : ListOf s L m) where
    id_lt : (p : ℕ) → p < m → half_in L p < n
    unfolding candidates_in
    id_lt p h = (list_taken s L m l p h).0

    pub listed_row : (p : ℕ) → p < m → id_taken T (half_in L p) ≡ true
    unfolding candidates_in
    listed_row p h = (list_taken s L m l p h).1

    pub positions_of : Positions T L m
    positions_of p h = record { inside = omega (arith, l.long); row = omega (arith, id_lt p h, R.long) }

    pub holders_of : (H : List ℕ) → HoldersOf s H m → Holders T L H m
    holders_of H h p u = record { own = positions_of p u; inside = omega (arith, h.long); holder = positions_of (half_in H p) (holder_in s L m l H h p u) }

    -- ---- 18

    pub loose_is : (p : ℕ) → p < m → loose_in T L p ≡ is_loose s p
    unfolding loose_in is_loose
    loose_is p h =
        let u : id_unnamed T (listed_at s p) ≡ is_unnamed s (listed_at s p) = rw (← list_at s L m l p h) (R.unnamed (half_in L p) (id_lt p h) (listed_row p h)) in
        rw (list_at s L m l p h, local_in T n name (listed_at s p), undefined_in T n name (listed_at s p), u)

    pub loose_found : found_below m (first (loose_in T L) 0 m) ≡ found_below (length (listed s)) (first (is_loose s) 0 (length (listed s)))
    loose_found =
        ap (found_below m) (first_ext (loose_in T L) (is_loose s) 0 m (λ p g h. loose_is p h))
        ∙ ap (λ (k : ℕ). found_below k (first (is_loose s) 0 k)) (list_long s L m l)

-- ---- 19

module _ (T : List ℕ) (n : ℕ) (name : ℕ → List ℕ) (L H : List ℕ) (m : ℕ) (l : ListOf (candidates_in T n name) L m) (h : HoldersOf (candidates_in T n name) H m) where
  abbrev c : Candidates
  c = candidates_in T n name

  pub elsewhere_is : (p : ℕ) → p < m → elsewhere_in T L H p ≡ is_elsewhere c p
  unfolding elsewhere_in is_elsewhere is_defined candidates_in
  elsewhere_is p u =
      let a : half_in L p ≡ listed_at c p = list_at c L m l p u in
      let b : half_in L (half_in H p) ≡ listed_at c (holder_of c p) = list_at c L m l (half_in H p) (holder_in c L m l H h p u) ∙ ap (listed_at c) (h.is p u) in
      rw (a, b)

  pub elsewhere_found : found_below m (first (elsewhere_in T L H) 0 m) ≡ found_below (length (listed c)) (first (is_elsewhere c) 0 (length (listed c)))
  elsewhere_found =
      ap (found_below m) (first_ext (elsewhere_in T L H) (is_elsewhere c) 0 m (λ p g u. elsewhere_is p u))
      ∙ ap (λ (k : ℕ). found_below k (first (is_elsewhere c) 0 k)) (list_long c L m l)

-- 18 and 19 by the tables are the verdict of the merge
pub verdict_is : (T : List ℕ) (n : ℕ) (name : ℕ → List ℕ) (L H : List ℕ) (m : ℕ) → RowsOf T n name → ListOf (candidates_in T n name) L m → HoldersOf (candidates_in T n name) H m
    → verdict_in T L H m ≡ symbols_verdict (candidates_in T n name)
unfolding verdict_in symbols_verdict
verdict_is T n name L H m R l h = rw (loose_found T n name R L m l, elsewhere_found T n name L H m l h)
