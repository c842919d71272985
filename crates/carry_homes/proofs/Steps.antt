-- The homes in hand: a turn gives the next table its home, which is that of an earlier table of its name, or the next new section. Assumes nothing.
use Prim.Native.Nat.{ℕ, ◌+◌, ◌*◌, ◌≤◌, ◌<◌}
use mathlib.Core.Path.{◌≡◌, refl, sym, ap, ◌∙◌}
use mathlib.Core.Bool.{Bool, true, false}
use mathlib.Core.Logic.{inl, inr}
use mathlib.Core.List.{List}
use native.Mathlib.Omega.{arith}
use lib.ListN.{length}
use lib.Dec.{eqb}
use borrow.Author.Tests.{lt-ltb, le-ltb, eq-eqb, ne_eqb}
use Rattle.base_lists.specs.Ranges.{first, count}
use Rattle.base_lists.specs.Strings.{same}
use Rattle.base_lists.specs.Windows.{spliced}
use Rattle.base_lists.proofs.Ranges.{by-test, by-lt, first_here, first_next, first_end, count_zero, count_yes, count_no, count_mono, count_le}
use Rattle.base_lists.proofs.Windows.{length_spliced}
use Rattle.base_fields.specs.declared.ByteOrder.{ByteOrder}
use Rattle.base_fields.specs.declared.ByteOrder.TheVariants.{Big}
use Rattle.base_fields.specs.Numbers.{encoded}
use Rattle.base_fields.proofs.Numbers.{length_encoded, number_spliced, number_outside}
use Rattle.base_scope.specs.Codes.{LINES, target_code}
use Rattle.base_groups.specs.Holders.{holder}
use Rattle.elf_readers.specs.Readers.{section_count, section_named}
use Rattle.elf_relocations.specs.Relocations.{is_rela}
use Rattle.carry_clash.specs.Clash.{joined_name, carried_code, joined_section}
use Rattle.carry_homes.specs.declared.TableName.{TableName}
use Rattle.carry_homes.specs.Homes.{carried_count, carried_table, home_name, same_home, has_home, opens_home, new_count, home_of}
use Rattle.carry_homes.specs.Code.{HOME_ROW, listed_table, home_in, opened_in, TablesListed, HomesListed, home_key, same_key, HomesTo, HomesFound}
use Rattle.carry_homes.proofs.Tables.{carried_few}
use Rattle.carry_homes.proofs.Names.{same_names}
use Rattle.carry_homes.proofs.Joins.{home_equivalence, joined_named, goal_lines, home_there, home_new, holder_opens, holds_le, home_opened, home_lower}

-- ---- names

module _ (o : ByteOrder) (A : List ℕ) where
  -- the name in hand is that of the home
  pub key_name_lem : (j : ℕ) → joined_name (home_key o A j).rela (home_key o A j).code ≡ home_name o A j
  unfolding home_key home_name
  key_name_lem j = refl

  pub key_is : (t j c : ℕ) (r : Bool) → t ≡ carried_table o A j → c ≡ target_code (carried_code o A t) → r ≡ is_rela o A t → record { rela = r; code = c } ≡ home_key o A j
  unfolding home_key
  key_is t j c r e f g = rw (f, g, e)

  pub key_lines : (j c d : ℕ) → j < carried_count o A → c ≡ carried_code o A (carried_table o A j) → d ≡ target_code c → (1 ≤ d) × (d ≤ LINES)
  key_lines j c d h e f = rw (f, e) (goal_lines o A j h)

  -- two names in hand
  pub same_told : (j i : ℕ) (a b : TableName) (r : Bool) → a ≡ home_key o A j → b ≡ home_key o A i → 1 ≤ a.code → a.code ≤ LINES → 1 ≤ b.code → b.code ≤ LINES → r ≡ same_key a b
      → r ≡ same_home o A j i
  unfolding same_home
  same_told j i a b r ea eb al au bl bu e =
      e
      ∙ sym (same_names a b al au bl bu)
      ∙ ap (λ (x : TableName). same (joined_name x.rela x.code) (joined_name b.rela b.code)) ea
      ∙ ap (λ (x : TableName). same (joined_name (home_key o A j).rela (home_key o A j).code) (joined_name x.rela x.code)) eb
      ∙ ap (λ (x : List ℕ). same x (joined_name (home_key o A i).rela (home_key o A i).code)) (key_name_lem j)
      ∙ ap (same (home_name o A j)) (key_name_lem i)

  -- the search for the first of a name
  module _ (j i : ℕ) (h : j < carried_count o A) (so_far : first (same_home o A j) 0 (carried_count o A) ≡ first (same_home o A j) i (carried_count o A)) where
    pub held_here : i < j → (a : Bool) → a ≡ same_home o A j i → a ≡ true → i ≡ holder (same_home o A) (carried_count o A) j
    unfolding holder
    held_here l a e t = sym (so_far ∙ first_here (same_home o A j) i (carried_count o A) (omega arith) (sym e ∙ t))

    pub held_next : i < j → (a : Bool) → a ≡ same_home o A j i → a ≡ false → first (same_home o A j) 0 (carried_count o A) ≡ first (same_home o A j) (i + 1) (carried_count o A)
    held_next l a e f = so_far ∙ first_next (same_home o A j) i (carried_count o A) (omega arith) (sym e ∙ f)

    pub held_self : i ≡ j → j ≡ holder (same_home o A) (carried_count o A) j
    unfolding holder
    held_self e =
        let q : first (same_home o A j) i (carried_count o A) ≡ first (same_home o A j) j (carried_count o A) = rw e in
        sym (so_far ∙ q ∙ first_here (same_home o A j) j (carried_count o A) h ((home_equivalence o A).itself j))

-- ---- the search for the table that opens a section

module _ (rows : List ℕ) (n stay i j : ℕ) (so_far : first (λ k. eqb (home_in rows k) (stay + i)) 0 n ≡ first (λ k. eqb (home_in rows k) (stay + i)) j n) where
  abbrev test : ℕ → Bool
  test k = eqb (home_in rows k) (stay + i)

  module _ (h : j < n) (x : ℕ) (is : x ≡ home_in rows j) where
    pub opened_here : x ≡ stay + i → j ≡ opened_in rows n stay i
    unfolding opened_in
    opened_here e =
        let t : test j ≡ true = eq-eqb _ _ (sym is ∙ e) in
        sym (so_far ∙ first_here test j n h t)

    pub opened_next : (x ≡ stay + i → ⊥) → first (λ k. eqb (home_in rows k) (stay + i)) 0 n ≡ first (λ k. eqb (home_in rows k) (stay + i)) (j + 1) n
    opened_next d =
        let t : test j ≡ false = ne_eqb _ _ (λ e. d (is ∙ e)) in
        so_far ∙ first_next test j n h t

  pub opened_none : j ≡ n → n ≡ opened_in rows n stay i
  unfolding opened_in
  opened_none e = sym (so_far ∙ first_end test j n (omega arith) ∙ e)

-- ---- a home written

module _ (rows : List ℕ) (m x : ℕ) (fits : HOME_ROW * m + HOME_ROW ≤ length rows) where
  within : HOME_ROW * m + 4 + length (encoded Big 4 x) ≤ length rows
  within = rw (length_encoded Big 4 x) (omega arith)

  home_long : length (spliced rows (HOME_ROW * m + 4) (encoded Big 4 x)) ≡ length rows
  home_long = length_spliced rows (HOME_ROW * m + 4) (encoded Big 4 x) within

  home_here : home_in (spliced rows (HOME_ROW * m + 4) (encoded Big 4 x)) m ≡ x
  unfolding home_in
  home_here = number_spliced Big 3 x (HOME_ROW * m + 4) rows (omega arith)

  home_before : (j : ℕ) → j < m → home_in (spliced rows (HOME_ROW * m + 4) (encoded Big 4 x)) j ≡ home_in rows j
  unfolding home_in
  home_before j h = number_outside Big 4 (HOME_ROW * j + 4) rows (HOME_ROW * m + 4) (encoded Big 4 x) within (inl (omega arith))

  table_kept : (j : ℕ) → listed_table (spliced rows (HOME_ROW * m + 4) (encoded Big 4 x)) j ≡ listed_table rows j
  unfolding listed_table
  table_kept j =
      number_outside Big 4 (HOME_ROW * j) rows (HOME_ROW * m + 4) (encoded Big 4 x) within
      (rw (length_encoded Big 4 x) (by-lt m j (λ l. inr (omega arith)) (λ l. inl (omega arith))))

-- ---- a turn

module _ (o : ByteOrder) (C A : List ℕ) (stay : ℕ) where
  abbrev opens : ℕ → Bool
  opens = opens_home o C A stay

  pub homes_none : (rows : List ℕ) → TablesListed o A (carried_count o A) rows → HomesTo o C A stay 0 0 rows
  homes_none rows w = record { opened = sym (count_zero opens); listed = record { tables = w; is = λ j h. absurd (omega arith) } }

  module _ (j m : ℕ) (rows : List ℕ) (w : HomesTo o C A stay j m rows) where
    pub homes_end : (k : ℕ) → k ≡ carried_count o A → k ≤ j → j ≤ k → HomesFound o C A stay (record { tables = k; opened = m }) rows
    unfolding new_count
    homes_end k e l u =
        let q : j ≡ carried_count o A = omega arith in
        record { tables = e; opened = w.opened ∙ ap (count opens) q; listed = rw (← q) w.listed }

    module _ (h : j < carried_count o A) where
      pub home_room : HOME_ROW * j + HOME_ROW ≤ length rows
      home_room = omega (arith, w.listed.tables.few)

      pub opened_few : m ≤ section_count o A
      opened_few = omega (arith, w.opened, count_le opens j, carried_few o A)

      -- ---- the home

      module _ (name : TableName) (key : name ≡ home_key o A j) (x : ℕ) (found : x ≡ section_named o C (joined_name name.rela name.code)) where
        joined_is : x ≡ joined_section o C A (carried_table o A j)
        joined_is =
            found
            ∙ ap (λ (k : TableName). section_named o C (joined_name k.rela k.code)) key
            ∙ ap (section_named o C) (key_name_lem o A j)
            ∙ sym (joined_named o C A j)

        has_yes : x < stay → has_home o C A stay j ≡ true
        unfolding has_home
        has_yes l = rw (← joined_is) (lt-ltb x stay l)

        has_no : stay ≤ x → has_home o C A stay j ≡ false
        unfolding has_home
        has_no l = rw (← joined_is) (le-ltb x stay l)

        pub home_joined : x < stay → (x ≡ home_of o C A stay j) × (x ≤ stay + m)
        home_joined l = (joined_is ∙ sym (home_there o C A stay j (has_yes l)), omega arith)

        module _ (l : stay ≤ x) (k : ℕ) (held : k ≡ holder (same_home o A) (carried_count o A) j) where
          new_is : home_of o C A stay j ≡ stay + count opens k
          new_is = rw held (home_new o C A stay j (has_no l))

          held_open : opens k ≡ true
          held_open = rw held (holder_opens o C A stay j h (has_no l))

          pub home_held : k < j → (y : ℕ) → y ≡ home_in rows k → (y ≡ home_of o C A stay j) × (y ≤ stay + m)
          home_held u y e =
              let q : y ≡ stay + count opens k = e ∙ w.listed.is k u ∙ home_opened o C A stay k held_open in
              (q ∙ sym new_is, omega (arith, q, w.opened, count_mono opens k j (omega arith)))

          pub home_next : j ≤ k → (stay + m ≡ home_of o C A stay j) × (stay + m ≤ stay + m)
          home_next u =
              let q : k ≡ j = omega (arith, u, held, holds_le o C A stay j h) in
              (sym (new_is ∙ rw (q, w.opened)), omega arith)

      -- ---- its row

      module _ (x : ℕ) (is : x ≡ home_of o C A stay j) (after : List ℕ) (put : after ≡ spliced rows (HOME_ROW * j + 4) (encoded Big 4 x)) where
        tables_kept : TablesListed o A (carried_count o A) after
        tables_kept = record {
          few = rw (put, home_long rows j x home_room) w.listed.tables.few;
          is = λ i l. rw put (table_kept rows j x home_room i ∙ w.listed.tables.is i l);
        }

        homes_more : HomesListed o C A stay (j + 1) after
        homes_more = record {
          tables = tables_kept;
          is = λ i l. rw put (by-lt i j
              (λ u. home_before rows j x home_room i u ∙ w.listed.is i u)
              (λ u. let q : i ≡ j = omega arith in rw q (home_here rows j x home_room ∙ is)));
        }

        pub homes_opened : x ≡ stay + m → HomesTo o C A stay (j + 1) (m + 1) after
        homes_opened e = by-test (opens j)
            (λ t. record { opened = sym (count_yes opens j t ∙ ap (λ (k : ℕ). k + 1) (sym w.opened)); listed = homes_more })
            (λ f. absurd (omega (arith, e, is, w.opened, home_lower o C A stay j h f)))

        pub homes_joined : (x ≡ stay + m → ⊥) → HomesTo o C A stay (j + 1) m after
        homes_joined d = by-test (opens j)
            (λ t. absurd (d (is ∙ home_opened o C A stay j t ∙ ap (λ (k : ℕ). stay + k) (sym w.opened))))
            (λ f. record { opened = sym (count_no opens j f ∙ sym w.opened); listed = homes_more })
