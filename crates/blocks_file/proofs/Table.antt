-- The laws of the table of blocks: its rows have 48 bytes each and stand one behind the other, so word k of row i is read back as the start that
-- was written; and what a turn of the loop that fills it changes. Assumes nothing.
use Rattle.std.specs.Prelude.{None, Some}
use Prim.Native.Nat.{ℕ, ◌+◌, ◌*◌, ◌≤◌, ◌<◌}
use mathlib.Core.Path.{◌≡◌, refl, sym, ap, ◌∙◌}
use mathlib.Core.Bool.{true, false, not, ◌&&◌}
use mathlib.Core.List.{List, [], ◌++◌, append-nil}
use native.Mathlib.Omega.{arith}
use lib.ListN.{length, drop, get_or, set, replicate, get_or-append}
use Rattle.base_lists.specs.Ranges.{first, select}
use Rattle.base_lists.specs.Windows.{Within, spliced}
use Rattle.base_lists.specs.Records.{flat}
use Rattle.base_lists.proofs.Ranges.{first_here, first_next, first_end, by-test, by-lt, both, gather_zero, gather_yes, select_zero, gather_all_length, select_all_at, select_all_length, select_all_put}
use Rattle.base_lists.proofs.Windows.{within_at, within_within, within_fits, within_spliced, length_spliced, spliced_nil, spliced_then, within_gather}
use Rattle.base_lists.proofs.Records.{length_flat, within_flat}
use Rattle.base_fields.specs.declared.ByteOrder.TheVariants.{Big}
use Rattle.base_fields.specs.Numbers.{number, encoded}
use Rattle.base_fields.proofs.Numbers.{length_encoded, within_number}
use Rattle.base_scope.specs.Limits.{FILE_LIMIT, BLOCK_LIMIT, BLOCK_ROW, BLOCK_TABLE}
use Rattle.blocks_lines.specs.Lines.{line_number}
use Rattle.blocks_lines.specs.Keys.{KEYS, repeats, is_key_line}
use Rattle.blocks_lines.specs.After.{line_after}
use Rattle.blocks_lines.proofs.Keys.{repeats_low}
use Rattle.blocks_lines.proofs.After.{after_line, after_zero, after_some}
use Rattle.blocks_file.specs.Blocks.{skip, group_end, group_at, is_faulty, faulty_group, block_at, stops_at, block_count, block_fault}
use Rattle.blocks_file.specs.Table.{group_after, Grouped, group_in, groups, block_row, block_table, bad_line, Parsed, Reading}
use Rattle.blocks_file.specs.declared.BlockFile.{BlockFile}
use Rattle.blocks_file.proofs.Blocks.{skip_low, group_end_many, group_end_one, group_zero, group_turn, group_grows, group_mono, faulty_start, faulty_here, faulty_next, block_zero, block_next, group_inside, faulty_high, stops_end, stops_faulty, stops_not, count_high, fault_none, fault_limit, fault_line}

module _ (B : List ℕ) where
  -- ---- rows

  pub length_groups : (a : ℕ) → length (groups B a) ≡ 12
  unfolding groups
  length_groups a = select_all_length (group_at B a) 12

  pub groups_at : (a k : ℕ) → k < 12 → get_or (groups B a) k 0 ≡ group_at B a k
  unfolding groups
  groups_at a k h = select_all_at (group_at B a) k 12 0 h

  -- the first k starts, in a row of zeros
  unfoldable pub started : ℕ → ℕ → List ℕ
  started a k = select (λ j. true) (group_at B a) k ++ drop k (replicate 12 0)

  pub started_none : (a : ℕ) → started a 0 ≡ replicate 12 0
  unfolding started
  started_none a = rw (select_zero (λ j. true) (group_at B a))

  pub started_put : (a k : ℕ) (row : List ℕ) (p : ℕ) → row ≡ started a k → p ≡ group_at B a k → k < 12 → set row k p ≡ started a (k + 1)
  unfolding started
  started_put a k row p e q h = rw q (select_all_put (group_at B a) (replicate 12 0) row k e h)

  pub started_all : (a : ℕ) → started a 12 ≡ groups B a
  unfolding started groups
  started_all a = append-nil (select (λ j. true) (group_at B a) 12)

  pub started_at : (a k j : ℕ) → j < k → get_or (started a k) j 0 ≡ group_at B a j
  unfolding started
  started_at a k j h =
      get_or-append (select (λ j. true) (group_at B a) k) (drop k (replicate 12 0)) 0 j (rw (select_all_length (group_at B a) k) h)
      ∙ select_all_at (group_at B a) j k 0 h

  pub length_row : (i : ℕ) → length (block_row B i) ≡ 48
  unfolding block_row
  length_row i =
      length_flat (encoded Big 4) 4 (length_encoded Big 4) (groups B (block_at B i)) ∙ ap (λ (n : ℕ). 4 * n) (length_groups (block_at B i))

  pub length_table : (n : ℕ) → length (block_table B n) ≡ 48 * n
  unfolding block_table
  length_table n = gather_all_length (block_row B) 48 length_row n

  pub table_zero_lem : block_table B 0 ≡ []
  unfolding block_table
  table_zero_lem = gather_zero (λ i. true) (block_row B)

  pub table_next : (n : ℕ) → block_table B (n + 1) ≡ block_table B n ++ block_row B n
  unfolding block_table
  table_next n = gather_yes (λ i. true) (block_row B) n refl

  -- row i stands at 48 * i, and word k of it 4 * k bytes further
  pub within_row : (i n : ℕ) → i < n → Within (block_row B i) (48 * i) (block_table B n)
  unfolding block_table
  within_row i n h = within_gather (λ i. true) (block_row B) i n (48 * i) (length_table i) h refl

  pub within_word : (i k : ℕ) → k < 12 → Within (encoded Big 4 (group_at B (block_at B i) k)) (4 * k) (block_row B i)
  unfolding block_row
  within_word i k h =
      rw (← groups_at (block_at B i) k h)
      (within_flat (encoded Big 4) 4 (length_encoded Big 4) (groups B (block_at B i)) k 0 (rw (length_groups (block_at B i)) h))

-- ---- the loop that reads the groups of a block

module _ (B : List ℕ) (k a n : ℕ) where
  pub after_many : repeats k ≡ true → n ≡ skip B k a → n ≡ group_after B k a
  unfolding group_after
  after_many t e = rw t e

  pub after_one : repeats k ≡ false → n ≡ line_after B k a → n ≡ group_after B k a
  unfolding group_after
  after_one f e = rw f e

  -- 0 tells a fault, but for a group that repeats at the start of the file; there is none
  after_fault : n ≡ group_after B k a → n ≡ 0 → (repeats k ≡ true → 0 < a) → (not (repeats k) && not (is_key_line B k a)) ≡ true
  unfolding group_after
  after_fault e z g = by-test (repeats k)
      (λ t. let s : n ≡ skip B k a = rw t at e in absurd (omega (arith, g t, skip_low B k a)))
      (λ f. let s : n ≡ line_after B k a = rw f at e in rw (f, after_zero B k a (sym s ∙ z)))

  after_sound : n ≡ group_after B k a → (n ≡ 0 → ⊥) → ((not (repeats k) && not (is_key_line B k a)) ≡ false) × (n ≡ group_end B k a)
  unfolding group_after
  after_sound e d = by-test (repeats k)
      (λ t. let s : n ≡ skip B k a = rw t at e in (rw t, s ∙ sym (group_end_many B k a t)))
      (λ f.
      let s : n ≡ line_after B k a = rw f at e in
      let t : is_key_line B k a ≡ true = after_some B k a (omega arith) in
      (rw (f, t), s ∙ after_line B k a t ∙ sym (group_end_one B k a f)))

-- k groups of the block at a were read, none of them faulty, and group k starts at p
pub record Sound (B : List ℕ) (a k p : ℕ) (row : List ℕ) : Type 0 where
  pub few : k ≤ KEYS
  pub place : p ≡ group_at B a k
  pub starts : row ≡ started B a k
  pub none : faulty_group B a ≡ first (is_faulty B a) k KEYS

pub sound_none : (B : List ℕ) (a : ℕ) → Sound B a 0 a (replicate 12 0)
sound_none B a = record { few = omega arith; place = sym (group_zero B a); starts = sym (started_none B a); none = faulty_start B a }

module _ (B : List ℕ) (a k p : ℕ) (row : List ℕ) (s : Sound B a k p row) where
  -- only the first group can start the file, and it does not repeat
  behind : repeats k ≡ true → 0 < p
  behind t = by-lt 0 k
      (λ h. omega (arith, s.place, group_grows B a 0 (repeats_low 0 (omega arith)), group_mono B a 1 k (omega arith)))
      (λ h. let e : k ≡ 0 = omega arith in both t (ap repeats e ∙ repeats_low 0 (omega arith)))

  pub sound_next : (n : ℕ) → k < KEYS → n ≡ group_after B k p → (n ≡ 0 → ⊥) → Sound B a (k + 1) n (set row k p)
  sound_next n h e d =
      let t = after_sound B k p n e d in
      record {
        few = omega arith;
        place = group_turn B a k p n s.place t.1;
        starts = started_put B a k row p s.starts s.place (omega arith);
        none = s.none ∙ faulty_next B a k p h s.place t.0;
      }

  pub sound_fault : (n : ℕ) → k < KEYS → n ≡ group_after B k p → n ≡ 0 → Grouped B a (record { starts = set row k p; faulty = k })
  sound_fault n h e z =
      let f : faulty_group B a ≡ k = s.none ∙ faulty_here B a k p h s.place (after_fault B k p n e z behind) in
      let u : set row k p ≡ started B a (k + 1) = started_put B a k row p s.starts s.place (omega arith) in
      record {
        faulty = sym f;
        start = λ j l. rw u (started_at B a (k + 1) j (omega arith));
        whole = λ g. absurd (omega arith);
      }

  pub sound_all : k ≡ KEYS → Grouped B a (record { starts = set row KEYS p; faulty = KEYS })
  sound_all h =
      let f : faulty_group B a ≡ KEYS = s.none ∙ first_end (is_faulty B a) k KEYS (omega arith) ∙ h in
      let v : row ≡ started B a KEYS = s.starts ∙ ap (started B a) h in
      let w : p ≡ group_at B a KEYS = s.place ∙ ap (group_at B a) h in
      let u : set row KEYS p ≡ started B a 12 = started_put B a KEYS row p v w (omega arith) in
      record {
        faulty = sym f;
        start = λ j l. rw u (started_at B a 12 j (omega arith));
        whole = λ g. u ∙ started_all B a;
      }

-- ---- a table in hand

module _ (B table : List ℕ) (p : Parsed B table) where
  pub parsed_fits : 48 * block_count B ≤ length table
  parsed_fits = omega (arith, within_fits (block_table B (block_count B)) table 0 p.rows, length_table B (block_count B))

  pub parsed_row : (i : ℕ) → i < block_count B → Within (block_row B i) (48 * i) table
  parsed_row i h =
      within_at (block_row B i) table (0 + 48 * i) (48 * i) (omega arith)
      (within_within (block_row B i) (block_table B (block_count B)) table 0 (48 * i) (within_row B i (block_count B) h) p.rows)

  pub row_at : (i k : ℕ) → i < block_count B → k < 12 → number Big 4 table (48 * i + 4 * k) ≡ group_at B (block_at B i) k
  row_at i k h l =
      within_number Big 3 (group_at B (block_at B i) k) (48 * i + 4 * k) table
      (within_within (encoded Big 4 (group_at B (block_at B i) k)) (block_row B i) table (48 * i) (4 * k) (within_word B i k l) (parsed_row i h))

  pub group_in_lem : (i k : ℕ) → i < block_count B → k ≤ KEYS → group_in table i k ≡ group_at B (block_at B i) k
  unfolding group_in
  group_in_lem i k h l = row_at i k h (omega arith)

  -- row i lies in the table
  pub parsed_inside : (i : ℕ) → i < block_count B → (BLOCK_ROW * i + BLOCK_ROW ≤ length table) × (i < BLOCK_LIMIT)
  parsed_inside i h = (omega (arith, parsed_fits), omega (arith, count_high B))

pub table_fits : (B before : List ℕ) (n : ℕ) → n ≤ BLOCK_LIMIT → BLOCK_TABLE ≤ length before → 0 + length (block_table B n) ≤ length before
table_fits B before n h l = rw (length_table B n) (omega arith)

pub parsed_of : (B before after : List ℕ) → length B ≤ FILE_LIMIT → BLOCK_TABLE ≤ length before
    → after ≡ spliced before 0 (block_table B (block_count B)) → Parsed B after
parsed_of B before after s l e = record {
  small = s;
  rows = rw e (within_spliced before 0 (block_table B (block_count B)) (table_fits B before (block_count B) (count_high B) l));
}

-- ---- the loop that fills the table

-- i blocks were read, whose rows stand in the table, and the next one starts at a
pub record Filled (B before : List ℕ) (i a : ℕ) (table : List ℕ) : Type 0 where
  pub few : i ≤ BLOCK_LIMIT
  pub inside : a ≤ length B
  pub place : a ≡ block_at B i
  pub counted : block_count B ≡ first (stops_at B) i BLOCK_LIMIT
  pub long : length table ≡ length before
  pub rows : table ≡ spliced before 0 (block_table B i)

pub filled_none : (B table : List ℕ) → Filled B table 0 0 table
unfolding block_count
filled_none B table = record {
  few = omega arith;
  inside = omega arith;
  place = sym (block_zero B);
  counted = refl;
  long = refl;
  rows = sym (ap (spliced table 0) (table_zero_lem B) ∙ spliced_nil table 0);
}

module _ (B before : List ℕ) (i a : ℕ) (table : List ℕ) (f : Filled B before i a table) where
  at_block : block_at B i ≡ a
  at_block = sym f.place

  -- the file ends: all its blocks were read
  ended_count : length B ≤ a → block_count B ≡ i
  ended_count h = f.counted ∙ by-lt i BLOCK_LIMIT
      (λ l. first_here (stops_at B) i BLOCK_LIMIT l (stops_end B i (omega (arith, at_block))))
      (λ l. first_end (stops_at B) i BLOCK_LIMIT l)

  reading : (r : BlockFile) → block_count B ≡ i → r.fault ≡ block_fault B → r.count ≡ i → Reading B r before table
  reading r e g n = record {
    fault = g;
    count = n ∙ sym e;
    table = f.rows ∙ ap (λ (k : ℕ). spliced before 0 (block_table B k)) (sym e);
  }

  pub filled_end : length B ≤ a → Reading B (record { fault = None; count = i }) before table
  filled_end h =
      let e : block_count B ≡ i = ended_count h in
      let l : length B ≤ block_at B (block_count B) = rw e (omega (arith, at_block)) in
      reading _ e (sym (fault_none B l)) refl

  -- the limit is reached and the file goes on
  pub filled_limit : a < length B → i ≡ BLOCK_LIMIT → Reading B (bad_line B a i) before table
  unfolding bad_line
  filled_limit h n =
      let e : block_count B ≡ i = f.counted ∙ first_end (stops_at B) i BLOCK_LIMIT (omega arith) in
      let s : block_at B (block_count B) ≡ a = ap (block_at B) e ∙ at_block in
      let g : block_fault B ≡ Some (line_number B a) = fault_limit B (e ∙ n) (rw s h) ∙ ap (λ (x : ℕ). Some (line_number B x)) s in
      reading _ e (sym g) refl

  -- the block at a has a faulty group
  pub filled_faulty : (k : ℕ) → k ≡ faulty_group B a → a < length B → (i ≡ BLOCK_LIMIT → ⊥) → k < KEYS
      → Reading B (bad_line B (group_at B a k) i) before table
  unfolding bad_line
  filled_faulty k q h d l =
      let u : faulty_group B (block_at B i) < KEYS = rw (at_block, ← q) l in
      let e : block_count B ≡ i = f.counted ∙ first_here (stops_at B) i BLOCK_LIMIT (omega (arith, f.few)) (stops_faulty B i (rw at_block h) u) in
      let s : block_at B (block_count B) ≡ a = ap (block_at B) e ∙ at_block in
      let g : block_fault B ≡ Some (line_number B (group_at B a k)) = fault_line B (rw e d) (rw s h) ∙ rw (s, q) in
      reading _ e (sym g) refl

  -- it has none: its row is written, and the next block is read
  pub filled_next : (k : ℕ) (row : List ℕ) → k ≡ faulty_group B a → a < length B → (i ≡ BLOCK_LIMIT → ⊥) → KEYS ≤ k → BLOCK_TABLE ≤ length before
      → row ≡ groups B a → Filled B before (i + 1) (group_at B a KEYS) (spliced table (48 * i) (flat (encoded Big 4) row))
  unfolding block_row
  filled_next k row q h d l m g =
      let w : i < BLOCK_LIMIT = omega (arith, f.few) in
      let u : faulty_group B a ≡ KEYS = omega (arith, faulty_high B a) in
      let v : faulty_group B (block_at B i) ≡ KEYS = rw at_block u in
      let y : flat (encoded Big 4) row ≡ block_row B i = rw (g, at_block) in
      let n : length (flat (encoded Big 4) row) ≡ 48 = ap length y ∙ length_row B i in
      let t : 48 * i ≡ 0 + length (block_table B i) = omega (arith, length_table B i) in
      record {
        few = omega arith;
        inside = group_inside B a KEYS (omega arith) (omega arith);
        place = ap (λ (x : ℕ). group_at B x KEYS) f.place ∙ sym (block_next B i);
        counted = f.counted ∙ first_next (stops_at B) i BLOCK_LIMIT w (stops_not B i (rw at_block h) v);
        long = length_spliced table (48 * i) (flat (encoded Big 4) row) (omega (arith, n, f.long)) ∙ f.long;
        rows = rw (f.rows, y) (spliced_then before 0 (block_table B i) (block_row B i) (48 * i) t (omega (arith, length_row B i)) ∙ rw (← table_next B i));
      }
