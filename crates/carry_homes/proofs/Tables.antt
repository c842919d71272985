-- The carried tables in their order: a turn lists one table or none behind those before it, so the turns of a rank list its tables, and the ranks are all of them. Each
-- carried table stands in the order once. Assumes nothing.
use Prim.Native.Nat.{ℕ, ◌+◌, ◌-◌, ◌*◌, ◌≤◌, ◌<◌}
use mathlib.Core.Path.{◌≡◌, refl, sym, ap, ◌∙◌}
use mathlib.Core.Bool.{Bool, true, false}
use mathlib.Core.Logic.{inl}
use mathlib.Core.List.{List}
use native.Mathlib.Nat.{add-zero}
use native.Mathlib.Omega.{arith}
use lib.ListN.{length}
use lib.Dec.{eqb, ltb}
use borrow.Author.Tests.{ltb-true, eq-eqb, ne_eqb}
use Rattle.base_lists.specs.Windows.{spliced}
use Rattle.base_lists.proofs.Ranges.{by-test, by-lt, and_parts, first_low_lem, count_zero, count_yes, count_no, count_mono}
use Rattle.base_lists.proofs.Windows.{length_spliced}
use Rattle.base_fields.specs.declared.ByteOrder.{ByteOrder}
use Rattle.base_fields.specs.declared.ByteOrder.TheVariants.{Big}
use Rattle.base_fields.specs.Numbers.{encoded}
use Rattle.base_fields.proofs.Numbers.{length_encoded, number_spliced, number_outside}
use Rattle.base_scope.specs.Codes.{TEXT, DATA, RODATA, LATE_RODATA}
use Rattle.base_scope.specs.Limits.{SECTION_LIMIT}
use Rattle.base_groups.specs.Groups.{in_group, grouped_place}
use Rattle.base_groups.proofs.Groups.{in_kept, grouped_zero, grouped_long, grouped_mono, grouped_at, place_low, place_high, place_lt, Stands, stands_at}
use Rattle.elf_records.specs.declared.section.SectionHeader.{SectionHeader}
use Rattle.elf_readers.specs.Readers.{section_count, section, coded_contents}
use Rattle.elf_relocations.specs.Relocations.{is_table}
use Rattle.elf_check.specs.declared.View.{View}
use Rattle.elf_check.specs.View.{view_of}
use Rattle.carry_clash.specs.of_symbols_taken.Used.{is_section_of, code_of, is_source, is_source_table}
use Rattle.carry_clash.specs.of_symbols_taken.Code.{code_in}
use Rattle.carry_clash.proofs.of_symbols_taken.Sections.{code_is, table_none}
use Rattle.symbols_numbers.proofs.Counts.{grouped_few}
use Rattle.carry_clash.specs.Clash.{carried_code, is_carried}
use Rattle.carry_homes.specs.Homes.{carried_rank, CARRIED_RANKS, carried_tables, carried_count, carried_table}
use Rattle.carry_homes.specs.Code.{HOME_ROW, HOME_TABLE, listed_table, TablesListed, in_rank, ranked_count, RanksListed}

-- ---- ranks

pub rank_data : (c : ℕ) → c ≡ DATA → 0 ≡ carried_rank c
unfolding carried_rank
rank_data c e = rw (eq-eqb c DATA e)

pub rank_text : (c : ℕ) → (c ≡ DATA → ⊥) → c ≡ TEXT → 1 ≡ carried_rank c
unfolding carried_rank
rank_text c d e = rw (ne_eqb c DATA d, eq-eqb c TEXT e)

pub rank_other : (c : ℕ) → (c ≡ DATA → ⊥) → (c ≡ TEXT → ⊥) → c - 1 ≡ carried_rank c
unfolding carried_rank
rank_other c d e = rw (ne_eqb c DATA d, ne_eqb c TEXT e)

rank_low : (c : ℕ) → c ≤ LATE_RODATA → carried_rank c < CARRIED_RANKS
unfolding carried_rank
rank_low c h = by-test (eqb c DATA)
    (λ t. rw t (omega arith))
    (λ f. by-test (eqb c TEXT)
    (λ t. rw (f, t) (omega arith))
    (λ g. rw (f, g) (omega arith)))

-- ---- a row written

module _ (rows : List ℕ) (m x : ℕ) (fits : HOME_ROW * m + HOME_ROW ≤ length rows) where
  within : HOME_ROW * m + length (encoded Big 4 x) ≤ length rows
  within = rw (length_encoded Big 4 x) (omega arith)

  table_long : length (spliced rows (HOME_ROW * m) (encoded Big 4 x)) ≡ length rows
  table_long = length_spliced rows (HOME_ROW * m) (encoded Big 4 x) within

  table_here : listed_table (spliced rows (HOME_ROW * m) (encoded Big 4 x)) m ≡ x
  unfolding listed_table
  table_here = number_spliced Big 3 x (HOME_ROW * m) rows (omega arith)

  table_before : (j : ℕ) → j < m → listed_table (spliced rows (HOME_ROW * m) (encoded Big 4 x)) j ≡ listed_table rows j
  unfolding listed_table
  table_before j h = number_outside Big 4 (HOME_ROW * j) rows (HOME_ROW * m) (encoded Big 4 x) within (inl (omega arith))

-- ---- the order

module _ (o : ByteOrder) (A : List ℕ) where
  abbrev rank : ℕ → ℕ
  rank t = carried_rank (carried_code o A t)

  abbrev many : ℕ
  many = section_count o A

  -- ---- the tables in it

  pub code_first : (t : ℕ) → 1 ≤ carried_code o A t
  unfolding carried_code code_of
  code_first t = first_low_lem (is_section_of o A (section o A t).sh_info) TEXT (LATE_RODATA + 1)

  pub code_last : (t : ℕ) → is_carried o A t ≡ true → carried_code o A t ≤ LATE_RODATA
  unfolding is_carried is_source_table is_source carried_code
  code_last t e =
      let a = and_parts (is_source_table o A t) (ltb 0 (length (coded_contents o A (carried_code o A t)))) e in
      let b = and_parts (is_table o A t) (is_source o A (section o A t).sh_info) a.0 in
      let c = ltb-true (code_of o A (section o A t).sh_info) (LATE_RODATA + 1) b.1 in
      omega (arith, c)

  rank_lt : (t : ℕ) → is_carried o A t ≡ true → rank t < CARRIED_RANKS
  rank_lt t e = rank_low (carried_code o A t) (code_last t e)

  -- where table t stands
  abbrev place : ℕ → ℕ
  place = grouped_place (is_carried o A) rank many

  stands : (j : ℕ) → j < carried_count o A → Stands (is_carried o A) rank many CARRIED_RANKS j
  unfolding carried_count carried_tables
  stands j h = stands_at (is_carried o A) rank many CARRIED_RANKS j h

  stands_is : (j : ℕ) (h : j < carried_count o A) → carried_table o A j ≡ (stands j h).index
  unfolding carried_table carried_tables
  stands_is j h = (stands j h).is

  pub carried_lt : (j : ℕ) → j < carried_count o A → carried_table o A j < many
  carried_lt j h = rw (stands_is j h) (stands j h).small

  pub carried_is : (j : ℕ) → j < carried_count o A → is_carried o A (carried_table o A j) ≡ true
  carried_is j h = rw (stands_is j h) (stands j h).kept

  -- "each carried table exactly once"
  pub carried_once : (i j : ℕ) → i < carried_count o A → j < carried_count o A → carried_table o A i ≡ carried_table o A j → i ≡ j
  carried_once i j h l e = sym (stands i h).there ∙ ap place (sym (stands_is i h) ∙ e ∙ stands_is j l) ∙ (stands j l).there

  pub carried_there : (t : ℕ) → t < many → is_carried o A t ≡ true → (j : ℕ) × (j < carried_count o A) × (carried_table o A j ≡ t)
  unfolding carried_count carried_table carried_tables
  carried_there t h e = (
    place t,
    place_lt (is_carried o A) rank many CARRIED_RANKS t h e (rank_lt t e),
    grouped_at (is_carried o A) rank many CARRIED_RANKS t h e (rank_lt t e),
  )

  pub carried_few : carried_count o A ≤ many
  unfolding carried_count carried_tables
  carried_few = grouped_few (is_carried o A) rank many CARRIED_RANKS

  -- a lower rank comes first, and tables of one rank come by index
  pub ranks_order : (i j : ℕ) → i < carried_count o A → j < carried_count o A → rank (carried_table o A i) < rank (carried_table o A j) → i < j
  ranks_order i j h l e =
      let a = stands i h in
      let b = stands j l in
      let f : rank a.index < rank b.index = rw (← stands_is i h, ← stands_is j l) e in
      omega (
        arith,
        a.there,
        b.there,
        place_high (is_carried o A) rank many a.index a.small a.kept,
        grouped_mono (is_carried o A) rank many (rank a.index + 1) (rank b.index) (omega (arith, f)),
        place_low (is_carried o A) rank many b.index,
      )

  place_mono : (s t : ℕ) → rank s ≡ rank t → t ≤ s → place t ≤ place s
  unfolding grouped_place
  place_mono s t e h = rw e (omega (arith, count_mono (in_group (is_carried o A) rank many (rank t)) t s h))

  pub index_order : (i j : ℕ) → i < carried_count o A → j < carried_count o A → rank (carried_table o A i) ≡ rank (carried_table o A j) → i < j
      → carried_table o A i < carried_table o A j
  index_order i j h l e k = rw (stands_is i h, stands_is j l) (by-lt (stands i h).index (stands j l).index
      (λ u. u)
      (λ u. absurd (omega (
        arith,
        k,
        (stands i h).there,
        (stands j l).there,
        place_mono (stands i h).index (stands j l).index (rw (← stands_is i h, ← stands_is j l) e) u,
      ))))

  -- entries of .late_rodata come behind those of .rodata
  pub late_behind : (i j : ℕ) → i < carried_count o A → j < carried_count o A → carried_code o A (carried_table o A i) ≡ RODATA → carried_code o A (carried_table o A j) ≡ LATE_RODATA
      → i < j
  unfolding carried_rank
  late_behind i j h l e f =
      let a : rank (carried_table o A i) ≡ 2 = ap carried_rank e in
      let b : rank (carried_table o A j) ≡ 4 = ap carried_rank f in
      ranks_order i j h l (omega (arith, a, b))

  -- ---- listing them

  pub ranked_none : (rows : List ℕ) → RanksListed o A 0 0 0 rows
  unfolding ranked_count
  ranked_none rows = record {
    many = sym (rw (grouped_zero (is_carried o A) rank many, count_zero (in_rank o A 0)));
    listed = record { few = omega arith; is = λ j h. absurd (omega arith) };
  }

  module _ (g t m : ℕ) (rows : List ℕ) (w : RanksListed o A g t m rows) where
    pub ranked_skip : (a : Bool) → a ≡ in_rank o A g t → a ≡ false → RanksListed o A g (t + 1) m rows
    unfolding ranked_count
    ranked_skip a e f = record { many = w.many ∙ rw (count_no (in_rank o A g) t (sym e ∙ f)); listed = w.listed }

    -- a table of the rank goes to its place
    module _ (h : t < many) (a : Bool) (told : a ≡ in_rank o A g t) (yes : a ≡ true) where
      e : in_rank o A g t ≡ true
      e = sym told ∙ yes

      in_parts : (is_carried o A t ≡ true) × (rank t ≡ g)
      unfolding in_rank
      in_parts = in_kept (is_carried o A) rank many g t e

      at_place : m ≡ place t
      unfolding ranked_count grouped_place in_rank
      at_place = w.many ∙ rw in_parts.1

      here_is : carried_table o A m ≡ t
      unfolding carried_table carried_tables
      here_is = rw at_place (grouped_at (is_carried o A) rank many CARRIED_RANKS t h in_parts.0 (rank_lt t in_parts.0))

      place_few : m < carried_count o A
      unfolding carried_count carried_tables
      place_few = rw at_place (place_lt (is_carried o A) rank many CARRIED_RANKS t h in_parts.0 (rank_lt t in_parts.0))

      pub ranked_room : many ≤ SECTION_LIMIT → HOME_TABLE ≤ length rows → HOME_ROW * m + HOME_ROW ≤ length rows
      ranked_room few long = omega (arith, place_few, carried_few)

      module _ (few : many ≤ SECTION_LIMIT) (long : HOME_TABLE ≤ length rows) (after : List ℕ) (put : after ≡ spliced rows (HOME_ROW * m) (encoded Big 4 t)) where
        now_is : (j : ℕ) → j < m + 1 → listed_table after j ≡ carried_table o A j
        now_is j l = rw put (by-lt j m
            (λ u. table_before rows m t (ranked_room few long) j u ∙ w.listed.is j u)
            (λ u. let q : j ≡ m = omega arith in rw q (table_here rows m t (ranked_room few long) ∙ sym here_is)))

        pub ranked_put : RanksListed o A g (t + 1) (m + 1) after
        unfolding ranked_count
        ranked_put = record {
          many = rw (count_yes (in_rank o A g) t e) (omega (arith, w.many));
          listed = record { few = rw put (omega (arith, table_long rows m t (ranked_room few long), ranked_room few long)); is = now_is };
        }

    -- the next rank
    pub ranked_over : many ≤ t → t ≤ many → RanksListed o A (g + 1) 0 m rows
    unfolding ranked_count in_rank
    ranked_over low high =
        let e : t ≡ many = omega arith in
        record {
          many =
              w.many
              ∙ rw e
              (sym (grouped_long (is_carried o A) rank many g) ∙ sym (rw (count_zero (in_group (is_carried o A) rank many (g + 1))) (add-zero _)));
          listed = w.listed;
        }

  pub ranked_end : (g m : ℕ) (rows : List ℕ) → RanksListed o A g 0 m rows → g ≡ CARRIED_RANKS → (m ≡ carried_count o A) × TablesListed o A (carried_count o A) rows
  unfolding ranked_count carried_count carried_tables
  ranked_end g m rows w e =
      let q : m ≡ carried_count o A = w.many ∙ rw (e, count_zero (in_rank o A CARRIED_RANKS)) (add-zero _) in
      (q, rw (← q) w.listed)

  -- ---- what the code reads of a table

  module _ (t : ℕ) (h : SectionHeader) (is : h ≡ section o A t) (v : View) (r : v ≡ view_of o A) (d : ℕ) (read : d ≡ code_in v h.sh_info) where
    pub code_read : d ≡ carried_code o A t
    unfolding carried_code
    code_read = read ∙ code_is o A v r h.sh_info ∙ ap (λ (x : SectionHeader). code_of o A x.sh_info) is

  module _ (g t : ℕ) (a : Bool) (e : a ≡ is_carried o A t) where
    pub rank_none : a ≡ false → false ≡ in_rank o A g t
    unfolding in_rank in_group
    rank_none f = rw (sym e ∙ f)

    pub rank_told : a ≡ true → (c : ℕ) → c ≡ carried_code o A t → (x : ℕ) → x ≡ carried_rank c → eqb x g ≡ in_rank o A g t
    unfolding in_rank in_group
    rank_told y c q x p = rw (sym e ∙ y, p, q)

  -- what is no table is not carried
  pub rank_plain : (g t : ℕ) (a : Bool) → a ≡ is_table o A t → a ≡ false → false ≡ in_rank o A g t
  unfolding is_carried
  rank_plain g t a e f = rank_none g t false (rw (← table_none o A t (sym e ∙ f))) refl
