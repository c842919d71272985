-- How long the appended pieces are, the codes of copied sections, the turns of the loop over the new sections, and that the rows of homes say their names. Assumes nothing.
use Prim.Native.Nat.{ℕ, ◌+◌, ◌*◌, ◌≤◌, ◌<◌}
use mathlib.Core.Path.{◌≡◌, refl, sym, ap, ◌∙◌}
use mathlib.Core.Bool.{Bool, true, false}
use mathlib.Core.List.{List, [], ◌∷◌, ◌++◌}
use native.Mathlib.Omega.{arith}
use lib.ListN.{length}
use Rattle.base_lists.specs.Ranges.{gather}
use Rattle.base_lists.specs.Windows.{spliced}
use Rattle.base_lists.specs.Written.{Written}
use Rattle.base_lists.proofs.Ranges.{by-lt, gather_zero, gather_yes, gather_same, gather_all_length}
use Rattle.base_lists.proofs.Written.{written_none, written_then, written_as}
use Rattle.base_fields.specs.declared.ByteOrder.{ByteOrder}
use Rattle.base_scope.specs.Text.{text}
use Rattle.base_scope.specs.Codes.{TEXT, DATA, LATE_TARGET, BSS, LINES, section_codes, code_name, holds_bytes, is_late_target}
use Rattle.base_scope.specs.Limits.{SECTION_LIMIT}
use Rattle.elf_records.specs.Symbol.{symbol_bytes}
use Rattle.elf_records.proofs.RoundTrip.{length_symbol}
use Rattle.elf_readers.specs.Readers.{section_count, coded_contents}
use Rattle.blocks_places.specs.Places.{Place}
use Rattle.blocks_spans.specs.Spans.{spans_of}
use Rattle.blocks_spans.specs.Copied.{copied}
use Rattle.symbols_table.specs.of_merge_sections.Sections.{result_section}
use Rattle.symbols_table.proofs.of_merge_sections.Sections.{section_plain}
use Rattle.symbols_table.specs.of_symbols_chain.declared.Numbering.{Numbering}
use Rattle.symbols_table.specs.Table.{entry_in, symbols_table_in}
use Rattle.carry_clash.specs.Clash.{joined_name}
use Rattle.carry_homes.specs.declared.TableName.{TableName}
use Rattle.carry_homes.specs.Homes.{carried_count, home_name, new_count, opened_by, new_name}
use Rattle.carry_homes.specs.Code.{opened_in, home_key, HomesListed}
use Rattle.carry_homes.proofs.Tables.{carried_few}
use Rattle.carry_homes.proofs.Names.{by_code}
use Rattle.carry_homes.proofs.Steps.{key_name_lem}
use Rattle.carry_homes.proofs.Joins.{new_few, opened_lt, opened_is}
use Rattle.write_strings.specs.Strings.{zero_ended}
use Rattle.write_content.specs.Content.{new_name_in, new_names_in, NewRows}

-- ---- the codes of copied sections

by-copied {ℓ} : {R : Type ℓ} (c : ℕ) → 1 ≤ c → c < BSS → (c ≡ LATE_TARGET → ⊥) → (c ≡ TEXT → R) → (c ≡ DATA → R) → R
by-copied c l u n a b = by-lt c DATA
    (λ h. a (omega arith))
    (λ h. by-lt c LATE_TARGET (λ k. b (omega arith)) (λ k. absurd (n (omega arith))))

module _ (c : ℕ) (l : 1 ≤ c) (u : c < BSS) (n : c ≡ LATE_TARGET → ⊥) where
  pub copied_holds : holds_bytes c ≡ true
  unfolding holds_bytes section_codes
  copied_holds = by-copied c l u n (λ e. rw e) (λ e. rw e)

  copied_plain : is_late_target c ≡ false
  unfolding is_late_target section_codes
  copied_plain = by-copied c l u n (λ e. rw e) (λ e. rw e)

-- what is written of a code is what becomes of its section
module _ (o : ByteOrder) (C A : List ℕ) (P : List Place) (B : List ℕ) (c : ℕ) (out : List ℕ) (at : ℕ) (after : List ℕ) where
  pub target_written : c ≡ LATE_TARGET → after ≡ spliced out at (result_section o C A P B LATE_TARGET) → after ≡ spliced out at (result_section o C A P B c)
  target_written e w = w ∙ ap (λ (x : ℕ). spliced out at (result_section o C A P B x)) (sym e)

  pub copied_written : 1 ≤ c → c < BSS → (c ≡ LATE_TARGET → ⊥) → after ≡ spliced out at (copied (spans_of P B c) (coded_contents o C c) (coded_contents o A c))
      → after ≡ spliced out at (result_section o C A P B c)
  copied_written l u n w = w ∙ ap (spliced out at) (section_plain o C A P B c (copied_plain c l u n))

-- ---- lengths

pub symbols_long : (C A T M R L O : List ℕ) (n : Numbering) → length (symbols_table_in C A T M R L O n) ≡ 16 * n.count
unfolding symbols_table_in
symbols_long C A T M R L O n =
    gather_all_length (λ k. symbol_bytes n.filling.inputs.order (entry_in C A T M R L O n k)) 16
    (λ k. length_symbol n.filling.inputs.order (entry_in C A T M R L O n k)) n.count

pub joined_short : (rela : Bool) (c : ℕ) → 1 ≤ c → c ≤ LINES → length (joined_name rela c) ≤ 12
unfolding joined_name code_name section_codes text
joined_short true c l u = by_code c l u (λ e. rw e (omega arith)) (λ e. rw e (omega arith)) (λ e. rw e (omega arith)) (λ e. rw e (omega arith))
joined_short false c l u = by_code c l u (λ e. rw e (omega arith)) (λ e. rw e (omega arith)) (λ e. rw e (omega arith)) (λ e. rw e (omega arith))

-- ---- the names of new sections

module _ (o : ByteOrder) (A homes : List ℕ) (n stay : ℕ) where
  -- the name in hand, and its zero byte
  pub name_ended : (i j : ℕ) (k : TableName) → j ≡ opened_in homes n stay i → k ≡ home_key o A j → joined_name k.rela k.code ++ (0 ∷ []) ≡ new_name_in o A homes n stay i
  unfolding new_name_in zero_ended
  name_ended i j k e f =
      ap (λ (x : TableName). joined_name x.rela x.code ++ (0 ∷ [])) f
      ∙ ap (λ (x : List ℕ). x ++ (0 ∷ [])) (key_name_lem o A j)
      ∙ ap (λ (x : ℕ). home_name o A x ++ (0 ∷ [])) e

  module _ (out : List ℕ) (at : ℕ) where
    pub names_start_lem : Written out at (new_names_in o A homes n stay 0) at out
    unfolding new_names_in
    names_start_lem = written_as out at [] _ at out (sym (gather_zero _ _)) (written_none out at)

    pub names_turn : (i r : ℕ) (p : List ℕ) (q : ℕ) (u : List ℕ) → Written out at (new_names_in o A homes n stay i) r p → Written p r (new_name_in o A homes n stay i) q u
        → Written out at (new_names_in o A homes n stay (i + 1)) q u
    unfolding new_names_in
    names_turn i r p q u a b =
        written_as out at _ _ q u (sym (gather_yes (λ j. true) (new_name_in o A homes n stay) i refl)) (written_then out at _ r p _ q u a b)

-- ---- by the homes of the carried tables

module _ (o : ByteOrder) (C A : List ℕ) (stay : ℕ) (homes : List ℕ) (w : HomesListed o C A stay (carried_count o A) homes) (n : ℕ) (rows : n ≡ carried_count o A)
    (many : ℕ) (few : many ≤ new_count o C A stay) where
  opened_here : (i : ℕ) → i < many → opened_in homes n stay i ≡ opened_by o C A stay i
  opened_here i h = ap (λ (x : ℕ). opened_in homes x stay i) rows ∙ opened_is o C A stay homes w i (omega arith)

  -- what the names need is in hand
  pub new_rows : stay ≤ SECTION_LIMIT → section_count o A ≤ SECTION_LIMIT → NewRows o A homes n stay many
  new_rows l u = record {
    tables = w.tables;
    rows = rows;
    low = l;
    few = omega (arith, new_few o C A stay, carried_few o A);
    opened = λ i h. omega (arith, opened_here i h, opened_lt o C A stay i (omega arith));
  }

  -- and they are those of the new sections
  pub new_names_are : new_names_in o A homes n stay many ≡ gather (λ i. true) (λ i. zero_ended (new_name o C A stay i)) many
  unfolding new_names_in new_name_in new_name
  new_names_are = gather_same (λ i. true) (λ i. true) (new_name_in o A homes n stay) (λ i. zero_ended (new_name o C A stay i)) many
      (λ i h. refl) (λ i h t. ap (λ (x : ℕ). zero_ended (home_name o A x)) (opened_here i h))
