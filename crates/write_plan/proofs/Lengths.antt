-- How long what the merged object's sections hold can be, under the limits of document 01. Assumes nothing.
use Prim.Native.Nat.{ℕ, zero, suc, ◌+◌, ◌*◌, ◌≤◌, ◌<◌}
use mathlib.Core.Path.{◌≡◌, refl, sym, ap, ◌∙◌}
use mathlib.Core.Logic.{◌≢◌, ◌⊎◌, inl, inr, ⊎_elim}
use mathlib.Core.Bool.{Bool, true, false, cond}
use mathlib.Core.List.{List, [], ◌∷◌, ◌++◌}
use native.Mathlib.Omega.{arith}
use lib.ListN.{length, length-append}
use lib.Dec.{eqb}
use borrow.Author.Tests.{eqb-true, ne_eqb, leb-true}
use Rattle.base_lists.specs.Ranges.{sum, gather}
use Rattle.base_lists.specs.Strings.{name_at, has_end}
use Rattle.base_lists.proofs.Ranges.{by-test, and_parts, count_le, sum_bound, gather_sum, gather_all_length}
use Rattle.base_fields.specs.declared.ByteOrder.{ByteOrder}
use Rattle.base_scope.specs.Text.{text}
use Rattle.base_scope.specs.Elf.{SHT_NOBITS}
use Rattle.base_scope.specs.Codes.{LINES, section_codes, code_name, target_code}
use Rattle.base_scope.specs.Limits.{ID_LIMIT, PATH_LIMIT, STATIC_LIMIT, STATIC_NAME_LIMIT}
use Rattle.base_text.proofs.Decimals.{decimal_short}
use Rattle.elf_records.specs.Symbol.{symbol_bytes}
use Rattle.elf_records.proofs.RoundTrip.{length_symbol}
use Rattle.elf_readers.specs.Readers.{section_count, section, contents}
use Rattle.elf_readers.proofs.Readers.{contents_short}
use Rattle.elf_symbols.specs.Symbols.{strtab, symbol_count, symbol_strings}
use Rattle.elf_relocations.specs.Relocations.{is_rela, is_table, entry_size, relocation_count}
use Rattle.elf_relocations.proofs.Relocations.{size_cases}
use Rattle.elf_check.specs.Sound.{Sound}
use Rattle.blocks_places.specs.Places.{Place}
use Rattle.statics_table.specs.declared.Static.{Static}
use Rattle.statics_table.specs.Statics.{count_tail, name_head, working_name, written_name}
use Rattle.statics_names.proofs.Names.{head_short, working_parts, written_parts}
use Rattle.statics_entry.specs.Entry.{nth, readable_name}
use Rattle.statics_walk.specs.Walk.{statics}
use Rattle.statics_walk.specs.Sound.{StaticsSound}
use Rattle.statics_walk.proofs.Sound.{statics_sound}
use Rattle.symbols_merge.specs.Listed.{listed}
use Rattle.symbols_merge.specs.Merged.{LOCAL_GROUPS, is_merged, group_at_position, merged_count, local_count}
use Rattle.symbols_numbers.proofs.Counts.{grouped_few}
use Rattle.symbols_numbers.proofs.Result.{listed_few, merged_few}
use Rattle.carry_entries.specs.of_symbols_ids.Ids.{first_a, first_static, candidates, merge_candidates}
use Rattle.carry_entries.specs.of_symbols_ids.Table.{result_entry, result_symbols}
use Rattle.carry_entries.specs.of_carry_clash.Clash.{joined_name, carried_code}
use Rattle.carry_entries.specs.Entries.{Carrying, is_kept, kept_count, carried_bytes}
use Rattle.carry_entries.proofs.Entries.{carried_long}
use Rattle.carry_homes.specs.Homes.{carried_table, home_name, new_count, opened_by, new_name}
use Rattle.carry_homes.proofs.Names.{by_code}
use Rattle.carry_homes.proofs.Joins.{goal_lines, opened_lt}
use Rattle.write_strings.specs.Strings.{zero_ended, static_string, strings_below, result_strings}
use Rattle.write_strings.proofs.Strings.{string_parts}
use Rattle.write_plan.specs.Plan.{new_names}
use Rattle.write_plan.proofs.Sections.{table_typed}

-- ---- sums

module _ (f g : ℕ → ℕ) where
  -- each term is at most w over another
  pub sum_over : (w n : ℕ) → ((i : ℕ) → i < n → f i ≤ w + g i) → sum f n ≤ w * n + sum g n
  unfolding sum
  sum_over w zero h = omega arith
  sum_over w (suc n) h = omega (arith, sum_over w n (λ i l. h i (omega arith)), h n (omega arith))

-- terms that are at most two others together
sum_plus : (f g k : ℕ → ℕ) (n : ℕ) → ((i : ℕ) → f i ≤ g i + k i) → sum f n ≤ sum g n + sum k n
unfolding sum
sum_plus f g k zero h = omega arith
sum_plus f g k (suc n) h = omega (arith, sum_plus f g k n h, h n)

-- one term only
module _ (x w : ℕ) where
  sum_before : (n : ℕ) → n ≤ x → sum (λ i. cond (eqb x i) w 0) n ≡ 0
  unfolding sum
  sum_before zero h = refl
  sum_before (suc n) h = let d : x ≢ n = λ q. omega (arith, q, h) in rw (ne_eqb x n d, sum_before n (omega arith))

  sum_one : (n : ℕ) → sum (λ i. cond (eqb x i) w 0) n ≤ w
  unfolding sum
  sum_one zero = omega arith
  sum_one (suc n) = by-test (eqb x n)
      (λ t. let e : x ≡ n = eqb-true x n t in rw (t, sum_before n (omega (arith, e))) (omega arith))
      (λ f. rw f (omega (arith, sum_one n)))

-- lists that are shared out have together the length that they have
pub shared_sum : (h : ℕ → ℕ) (b : ℕ → List ℕ) (w n m : ℕ) → ((j : ℕ) → j < n → length (b j) ≤ w) → sum (λ i. length (gather (λ j. eqb (h j) i) b n)) m ≤ w * n
unfolding gather
shared_sum h b w zero m s = omega (arith, sum_bound (λ i. 0) 0 m (λ i l. omega arith))
shared_sum h b w (suc n) m s =
    let J : ℕ → ℕ = λ i. length (gather (λ j. eqb (h j) i) b n) in
    let K : ℕ → ℕ = λ i. cond (eqb (h n) i) (length (b n)) 0 in
    let step = sum_plus (λ i. length (gather (λ j. eqb (h j) i) b (suc n))) J K m
    (λ i. by-test (eqb (h n) i)
    (λ t. rw (t, length-append) (omega arith))
    (λ f. rw f (omega arith))) in
    omega (arith, step, shared_sum h b w n m (λ j l. s j (omega arith)), sum_one (h n) (length (b n)) m, s n (omega arith))

-- ---- strings

-- a colon and ten digits
tail_short : (n : ℕ) → length (count_tail n) ≤ 11
unfolding count_tail text
tail_short n = by-test (eqb n 0)
    (λ t. rw t (omega arith))
    (λ f. rw f (omega (arith, decimal_short n)))

-- the longest string of a static: path and colon, stored name, colon and ten digits, zero byte
abbrev pub STRING_LIMIT : ℕ
STRING_LIMIT = PATH_LIMIT + 1 + STATIC_NAME_LIMIT + 11 + 1

module _ (mode : ℕ) (path C : List ℕ) (short : length path ≤ PATH_LIMIT) where
  readable_short : (start : ℕ) → readable_name C start ≡ true → length (name_at C start) ≤ STATIC_NAME_LIMIT
  unfolding readable_name
  readable_short start t = leb-true (length (name_at C start)) STATIC_NAME_LIMIT (and_parts (has_end C start) _ t).1

  string_limit : (s : Static) → readable_name C s.start ≡ true → length (static_string mode path C s) ≤ STRING_LIMIT
  string_limit s t =
      let a = ap length (sym (written_parts mode path C s)) ∙ length-append (name_head mode path) (working_name C s) in
      let b = ap length (sym (working_parts C s)) ∙ length-append (name_at C s.start) (count_tail s.number) in
      let c = ap length (sym (string_parts mode path C s)) ∙ length-append (written_name mode path C s) (0 ∷ []) in
      omega (arith, a, b, c, short, head_short mode path, tail_short s.number, readable_short s.start t)

  -- C's strings, A's and those of the statics
  pub strings_limit : (o : ByteOrder) (A : List ℕ) (S : List Static) (head : ℕ) → StaticsSound o C head S
      → length (result_strings o C A mode path S) ≤ length C + length A + STRING_LIMIT * STATIC_LIMIT
  unfolding result_strings symbol_strings strings_below
  strings_limit o A S head w =
      let f : ℕ → List ℕ = λ k. static_string mode path C (nth S k) in
      let n = gather_sum f (length S) in
      let b = sum_bound (λ k. length (f k)) STRING_LIMIT (length S) (λ k l. string_limit (nth S k) (w.each k l).name) in
      let e = length-append (contents o C (strtab o C)) (contents o A (strtab o A) ++ gather (λ k. true) f (length S)) in
      let g = length-append (contents o A (strtab o A)) (gather (λ k. true) f (length S)) in
      omega (arith, n, b, e, g, w.few, contents_short o C (strtab o C), contents_short o A (strtab o A))

-- the name of a table
name_limit : (r : Bool) (c : ℕ) → 1 ≤ c → c ≤ LINES → length (joined_name r c) ≤ 12
unfolding joined_name code_name section_codes text
name_limit true c l u = by_code c l u (λ e. rw e (omega arith)) (λ e. rw e (omega arith)) (λ e. rw e (omega arith)) (λ e. rw e (omega arith))
name_limit false c l u = by_code c l u (λ e. rw e (omega arith)) (λ e. rw e (omega arith)) (λ e. rw e (omega arith)) (λ e. rw e (omega arith))

module _ (o : ByteOrder) (C A : List ℕ) (stay : ℕ) where
  new_name_limit : (i : ℕ) → i < new_count o C A stay → length (new_name o C A stay i) ≤ 12
  unfolding new_name home_name
  new_name_limit i h =
      let j : ℕ = opened_by o C A stay i in
      let g = goal_lines o A j (opened_lt o C A stay i h) in
      name_limit (is_rela o A (carried_table o A j)) (target_code (carried_code o A (carried_table o A j))) g.0 g.1

  pub new_names_limit : (n : ℕ) → n ≤ new_count o C A stay → length (new_names o C A stay n) ≤ 13 * n
  unfolding new_names zero_ended
  new_names_limit n h =
      let f : ℕ → List ℕ = λ i. zero_ended (new_name o C A stay i) in
      omega (
        arith,
        gather_sum f n,
        sum_bound (λ i. length (f i)) 13 n (λ i l. omega (arith, length-append (new_name o C A stay i) (0 ∷ []), new_name_limit i (omega (arith, l, h)))),
      )

-- ---- tables

module _ (o : ByteOrder) (F : List ℕ) (sound : Sound o F) (w : Carrying) (t : ℕ) (there : t < section_count o F) (is : is_table o F t ≡ true) where
  table_held : (section o F t).sh_type ≢ SHT_NOBITS
  table_held = ⊎_elim (λ e. λ q. omega (arith, e, q)) (λ e. λ q. omega (arith, e, q)) (table_typed o F t is)

  kept_low : kept_count o F w t ≤ relocation_count o F t
  unfolding kept_count
  kept_low = count_le (is_kept o F w t) (relocation_count o F t)

  times_low : (n a b : ℕ) → (n ≡ 8) ⊎ (n ≡ 12) → a ≤ b → n * a ≤ n * b
  times_low n a b (inl e) h = rw e (omega arith)
  times_low n a b (inr e) h = rw e (omega arith)

  -- what a table brings is no longer than its object
  pub carried_limit : length (carried_bytes o F w t) ≤ length F
  carried_limit =
      omega (
        arith,
        carried_long o F w t,
        times_low (entry_size o F t) (kept_count o F w t) (relocation_count o F t) (size_cases o F t) kept_low,
        sound.table_bytes t there is,
        sound.named.headed.held t there table_held,
      )

-- ---- the symbol table

many_parts : (o : ByteOrder) (C A : List ℕ) (P : List Place) (B : List ℕ) (mode : ℕ) (S : List Static)
    → (candidates o C A P B mode S).many ≡ symbol_count o C + symbol_count o A + length S
unfolding candidates first_static first_a
many_parts o C A P B mode S = refl

pub symbols_limit : (o : ByteOrder) (C A : List ℕ) (P : List Place) (B : List ℕ) (mode head : ℕ) (S : List Static) → Sound o C → Sound o A → StaticsSound o C head S
    → length (result_symbols o C A P B mode S) ≤ 16 * (ID_LIMIT + 1)
unfolding result_symbols
symbols_limit o C A P B mode head S c a w =
    let s = candidates o C A P B mode S in
    let n = gather_all_length (λ k. symbol_bytes o (result_entry o C A P B mode S k)) 16 (λ k. length_symbol o (result_entry o C A P B mode S k)) (merged_count s) in
    let m : s.many ≡ symbol_count o C + symbol_count o A + length S = many_parts o C A P B mode S in
    omega (arith, n, m, merged_few s, listed_few s, c.tabled.few, a.tabled.few, w.few)

-- local ones are some of them
pub locals_limit : (o : ByteOrder) (C A : List ℕ) (P : List Place) (B : List ℕ) (mode head : ℕ) → Sound o C → Sound o A
    → local_count (merge_candidates o C A P B mode head) ≤ ID_LIMIT + 1
unfolding local_count merge_candidates
locals_limit o C A P B mode head c a =
    let S = statics o C mode head in
    let s = candidates o C A P B mode S in
    omega (
      arith,
      grouped_few (is_merged s) (group_at_position s) (length (listed s)) LOCAL_GROUPS,
      listed_few s,
      many_parts o C A P B mode S,
      c.tabled.few,
      a.tabled.few,
      (statics_sound o C mode head).few,
    )
