-- The laws of blocks: where groups and blocks start, that they stand in the file one behind the other, and what the count and the fault of a
-- block file tell. A line of a key is whole, so what follows it starts further on and not past the end; the count is a first index. Assumes nothing.
use Rattle.std.specs.Prelude.{None, Some}
use Prim.Native.Nat.{ℕ, zero, suc, ◌+◌, ◌-◌, ◌≤◌, ◌<◌}
use mathlib.Core.Path.{◌≡◌, refl, sym, ap, ◌∙◌}
use mathlib.Core.Bool.{Bool, true, false, not, ◌&&◌}
use mathlib.Core.List.{List}
use native.Mathlib.Numerals.{add-one}
use native.Mathlib.Omega.{arith}
use lib.ListN.{length}
use lib.Dec.{ltb, leb}
use borrow.Author.Tests.{lt-ltb, le-leb, lt-leb, eq-eqb, ne_eqb, ltb-false, leb-true, leb-false, not-false}
use Rattle.base_lists.specs.Ranges.{first}
use Rattle.base_lists.proofs.Ranges.{by-test, by-lt, first_is, first_high, first_here, first_next, or_parts}
use Rattle.base_scope.specs.Refusals.{pick_finding}
use Rattle.base_scope.specs.Limits.{BLOCK_LIMIT, NUMBER_LIMIT}
use Rattle.blocks_lines.specs.Lines.{next, line_number}
use Rattle.blocks_values.specs.Values.{number_sound, line_sound, jump_table_sound}
use Rattle.blocks_lines.specs.Keys.{KEYS, keys, repeats, value_sound, value_at, is_key_line}
use Rattle.blocks_lines.proofs.Lines.{end_low, end_high, end_past, whole_lt, next_low, next_high}
use Rattle.blocks_lines.proofs.Keys.{repeats_low, value_section, key_line_not, key_line_whole, key_line_sound}
use Rattle.blocks_lines.specs.After.{line_after}
use Rattle.blocks_lines.proofs.After.{after_line, after_zero, after_some}
use Rattle.blocks_file.specs.Blocks.{skip_from, skip, group_end, group_at, is_faulty, faulty_group, block_at, stops_at, block_count, fault_at, block_fault}

module _ (B : List ℕ) where
  -- ---- lines of a key

  -- they stand in the file, and so does what follows them
  pub key_past : (k a : ℕ) → length B ≤ a → is_key_line B k a ≡ false
  key_past k a h = key_line_not B k a (omega (arith, end_low B a))

  pub key_inside : (k a : ℕ) → is_key_line B k a ≡ true → a < length B
  key_inside k a t = omega (arith, end_low B a, whole_lt B a (key_line_whole B k a t))

  pub key_next : (k a : ℕ) → is_key_line B k a ≡ true → next B a ≤ length B
  key_next k a t = next_high B a (key_line_whole B k a t)

  -- ---- lines passed over

  stop : (k a n : ℕ) → is_key_line B k a ≡ false → skip_from B k a n ≡ a
  unfolding skip_from
  stop k a zero t = refl
  stop k a (suc n) t = rw t

  step : (k a n : ℕ) → is_key_line B k a ≡ true → skip_from B k a (suc n) ≡ skip_from B k (next B a) n
  unfolding skip_from
  step k a n t = rw t

  -- as many turns as bytes are left are enough
  enough : (k n m a : ℕ) → length B ≤ a + n → n ≤ m → skip_from B k a n ≡ skip_from B k a m
  enough k zero m a h l = let f : is_key_line B k a ≡ false = key_past k a (omega arith) in stop k a zero f ∙ sym (stop k a m f)
  enough k (suc n) zero a h l = absurd (omega arith)
  enough k (suc n) (suc m) a h l = by-test (is_key_line B k a)
      (λ t. step k a n t ∙ enough k n m (next B a) (omega (arith, next_low B a)) (omega arith) ∙ sym (step k a m t))
      (λ f. stop k a (suc n) f ∙ sym (stop k a (suc m) f))

  -- the two ways of a turn
  pub skip_here : (k a : ℕ) → is_key_line B k a ≡ false → skip B k a ≡ a
  unfolding skip
  skip_here k a f = stop k a (length B - a) f

  pub skip_next : (k a : ℕ) → is_key_line B k a ≡ true → skip B k a ≡ skip B k (next B a)
  unfolding skip
  skip_next k a t =
      let h : a < length B = key_inside k a t in
      let l : a < next B a = next_low B a in
      let e : length B - a ≡ suc (length B - (a + 1)) = omega arith in
      ap (skip_from B k a) e
      ∙ step k a (length B - (a + 1)) t
      ∙ sym (enough k (length B - next B a) (length B - (a + 1)) (next B a) (omega arith) (omega arith))

  pub skip_past : (k a : ℕ) → length B ≤ a → skip B k a ≡ a
  skip_past k a h = skip_here k a (key_past k a h)

  -- the same of a turn that asks where the next line starts
  pub skip_stop : (k a n : ℕ) → n ≡ line_after B k a → n ≡ 0 → skip B k a ≡ a
  skip_stop k a n e z = skip_here k a (after_zero B k a (sym e ∙ z))

  pub skip_turn : (k a n : ℕ) → n ≡ line_after B k a → (n ≡ 0 → ⊥) → (skip B k a ≡ skip B k n) × (a < n)
  skip_turn k a n e d =
      let t : is_key_line B k a ≡ true = after_some B k a (omega arith) in
      let f : n ≡ next B a = e ∙ after_line B k a t in
      (skip_next k a t ∙ ap (skip B k) (sym f), omega (arith, next_low B a))

  from_none : (k a : ℕ) → skip_from B k a zero ≡ a
  unfolding skip_from
  from_none k a = refl

  from_low : (k n a : ℕ) → a ≤ skip_from B k a n
  from_low k zero a = rw (from_none k a) (omega arith)
  from_low k (suc n) a = by-test (is_key_line B k a)
      (λ t. rw (step k a n t) (omega (arith, next_low B a, from_low k n (next B a))))
      (λ f. rw (stop k a (suc n) f) (omega arith))

  from_high : (k n a : ℕ) → a ≤ length B → skip_from B k a n ≤ length B
  unfolding skip_from
  from_high k zero a h = h
  from_high k (suc n) a h = by-test (is_key_line B k a)
      (λ t. rw t (from_high k n (next B a) (key_next k a t)))
      (λ f. rw f h)

  pub skip_low : (k a : ℕ) → a ≤ skip B k a
  unfolding skip
  skip_low k a = from_low k (length B - a) a

  pub skip_high : (k a : ℕ) → a ≤ length B → skip B k a ≤ length B
  unfolding skip
  skip_high k a h = from_high k (length B - a) a h

  -- ---- groups

  pub group_end_many : (k a : ℕ) → repeats k ≡ true → group_end B k a ≡ skip B k a
  unfolding group_end
  group_end_many k a t = rw t

  pub group_end_one : (k a : ℕ) → repeats k ≡ false → group_end B k a ≡ next B a
  unfolding group_end
  group_end_one k a f = rw f

  pub group_end_low : (k a : ℕ) → a ≤ group_end B k a
  group_end_low k a = by-test (repeats k)
      (λ t. rw (group_end_many k a t) (skip_low k a))
      (λ f. rw (group_end_one k a f) (omega (arith, next_low B a)))

  pub next_far : (a n : ℕ) → a ≤ length B + n → next B a ≤ length B + (n + 1)
  unfolding next
  next_far a n h = by-lt a (length B)
      (λ l. omega (arith, end_high B a (omega arith)))
      (λ l. rw (end_past B a l) (omega arith))

  skip_far : (k a n : ℕ) → a ≤ length B + n → skip B k a ≤ length B + (n + 1)
  skip_far k a n h = by-lt a (length B)
      (λ l. omega (arith, skip_high k a (omega arith)))
      (λ l. rw (skip_past k a l) (omega arith))

  -- past the end each group is one byte further at most
  pub group_end_far : (k a n : ℕ) → a ≤ length B + n → group_end B k a ≤ length B + (n + 1)
  group_end_far k a n h = by-test (repeats k)
      (λ t. rw (group_end_many k a t) (skip_far k a n h))
      (λ f. rw (group_end_one k a f) (next_far a n h))

  pub group_zero : (a : ℕ) → group_at B a 0 ≡ a
  unfolding group_at
  group_zero a = refl

  pub group_next : (a k : ℕ) → group_at B a (k + 1) ≡ group_end B k (group_at B a k)
  unfolding group_at
  group_next a k = rw (add-one k)

  -- a turn of a loop over the groups
  pub group_turn : (a k p q : ℕ) → p ≡ group_at B a k → q ≡ group_end B k p → q ≡ group_at B a (k + 1)
  group_turn a k p q e f = f ∙ ap (group_end B k) e ∙ sym (group_next a k)

  pub group_mono : (a j k : ℕ) → j ≤ k → group_at B a j ≤ group_at B a k
  group_mono a j zero h = let e : j ≡ 0 = omega arith in rw e (omega arith)
  group_mono a j (suc k) h = by-lt k j
      (λ g. let e : j ≡ suc k = omega arith in rw e (omega arith))
      (λ g. rw (← add-one k) (omega (arith, group_mono a j k g, group_next a k, group_end_low k (group_at B a k))))

  pub group_low : (a k : ℕ) → a ≤ group_at B a k
  group_low a k = omega (arith, group_zero a, group_mono a 0 k (omega arith))

  pub group_far : (a k : ℕ) → a ≤ length B → group_at B a k ≤ length B + k
  group_far a zero h = rw (group_zero a) (omega arith)
  group_far a (suc k) h = rw (← add-one k) (rw (group_next a k) (group_end_far k (group_at B a k) k (group_far a k h)))

  -- a group of one line is followed further on
  pub group_grows : (a k : ℕ) → repeats k ≡ false → group_at B a k < group_at B a (k + 1)
  group_grows a k f = rw (group_next a k, group_end_one k (group_at B a k) f) (next_low B (group_at B a k))

  -- ---- sound groups

  pub faulty_high : (a : ℕ) → faulty_group B a ≤ KEYS
  unfolding faulty_group
  faulty_high a = first_high (is_faulty B a) 0 KEYS (omega arith)

  -- the turns of a loop that looks for it
  faulty_is : (a k p : ℕ) (b : Bool) → p ≡ group_at B a k → (not (repeats k) && not (is_key_line B k p)) ≡ b → is_faulty B a k ≡ b
  unfolding is_faulty
  faulty_is a k p b e f = rw (← e) f

  pub faulty_start : (a : ℕ) → faulty_group B a ≡ first (is_faulty B a) 0 KEYS
  unfolding faulty_group
  faulty_start a = refl

  pub faulty_here : (a k p : ℕ) → k < KEYS → p ≡ group_at B a k → (not (repeats k) && not (is_key_line B k p)) ≡ true → first (is_faulty B a) k KEYS ≡ k
  faulty_here a k p h e f = first_here (is_faulty B a) k KEYS h (faulty_is a k p true e f)

  pub faulty_next : (a k p : ℕ) → k < KEYS → p ≡ group_at B a k → (not (repeats k) && not (is_key_line B k p)) ≡ false
      → first (is_faulty B a) k KEYS ≡ first (is_faulty B a) (k + 1) KEYS
  faulty_next a k p h e f = first_next (is_faulty B a) k KEYS h (faulty_is a k p false e f)

  -- before the first faulty group each single line is there and sound
  pub group_sound : (a k : ℕ) → k < faulty_group B a → repeats k ≡ false → is_key_line B k (group_at B a k) ≡ true
  unfolding faulty_group is_faulty
  group_sound a k h f =
      let t : is_faulty B a k ≡ false = (first_is (is_faulty B a) 0 KEYS (omega arith)).below k (omega arith) h in
      let u : not (is_key_line B k (group_at B a k)) ≡ false = rw f at t in
      not-false _ u

  -- so those groups, and the one behind them, start in the file or at its end
  pub group_inside : (a k : ℕ) → a ≤ length B → k ≤ faulty_group B a → group_at B a k ≤ length B
  group_inside a zero h l = rw (group_zero a) h
  group_inside a (suc k) h l = rw (← add-one k) (rw (group_next a k) (by-test (repeats k)
      (λ t. rw (group_end_many k (group_at B a k) t) (skip_high k (group_at B a k) (group_inside a k h (omega arith))))
      (λ f. rw (group_end_one k (group_at B a k) f) (key_next k (group_at B a k) (group_sound a k l f)))))

  -- a block with no faulty group
  pub whole_key : (a k : ℕ) → faulty_group B a ≡ KEYS → k < KEYS → repeats k ≡ false → is_key_line B k (group_at B a k) ≡ true
  whole_key a k e h f = group_sound a k (omega arith) f

  pub whole_inside : (a k : ℕ) → faulty_group B a ≡ KEYS → a ≤ length B → k ≤ KEYS → group_at B a k ≤ length B
  whole_inside a k e h l = group_inside a k h (omega arith)

  -- ---- blocks

  pub block_zero : block_at B 0 ≡ 0
  unfolding block_at
  block_zero = refl

  pub block_next : (i : ℕ) → block_at B (i + 1) ≡ group_at B (block_at B i) KEYS
  unfolding block_at
  block_next i = rw (add-one i)

  pub block_grows : (i : ℕ) → block_at B i < block_at B (i + 1)
  block_grows i =
      let a = block_at B i in
      rw (block_next i) (omega (arith, group_low a 0, group_grows a 0 (repeats_low 0 (omega arith)), group_mono a 1 KEYS (omega arith)))

  pub block_mono : (i j : ℕ) → i < j → block_at B i < block_at B j
  block_mono i zero h = absurd (omega arith)
  block_mono i (suc j) h = by-lt i j
      (λ g. rw (← add-one j) (omega (arith, block_mono i j g, block_grows j)))
      (λ g. let e : i ≡ j = omega arith in rw (e, ← add-one j) (block_grows j))

  pub block_inside : (i : ℕ) → faulty_group B (block_at B i) ≡ KEYS → block_at B i ≤ length B → block_at B (i + 1) ≤ length B
  block_inside i e h = rw (block_next i) (whole_inside (block_at B i) KEYS e h (omega arith))

  -- ---- where a block file has no block

  pub stops_end : (i : ℕ) → length B ≤ block_at B i → stops_at B i ≡ true
  unfolding stops_at
  stops_end i h = rw (le-leb _ _ h)

  pub stops_faulty : (i : ℕ) → block_at B i < length B → faulty_group B (block_at B i) < KEYS → stops_at B i ≡ true
  unfolding stops_at
  stops_faulty i h l = rw (lt-leb _ _ h, lt-ltb _ _ l)

  pub stops_not : (i : ℕ) → block_at B i < length B → faulty_group B (block_at B i) ≡ KEYS → stops_at B i ≡ false
  unfolding stops_at
  stops_not i h e = rw (lt-leb _ _ h, e)

  -- ---- the blocks that are counted

  pub count_high : block_count B ≤ BLOCK_LIMIT
  unfolding block_count
  count_high = first_high (stops_at B) 0 BLOCK_LIMIT (omega arith)

  counted : (i : ℕ) → i < block_count B → stops_at B i ≡ false
  unfolding block_count
  counted i h = (first_is (stops_at B) 0 BLOCK_LIMIT (omega arith)).below i (omega arith) h

  parts : (i : ℕ) → i < block_count B → (leb (length B) (block_at B i) ≡ false) × (ltb (faulty_group B (block_at B i)) KEYS ≡ false)
  unfolding stops_at
  parts i h = or_parts _ _ (counted i h)

  pub counted_starts : (i : ℕ) → i < block_count B → block_at B i < length B
  counted_starts i h = leb-false _ _ (parts i h).0

  pub counted_whole : (i : ℕ) → i < block_count B → faulty_group B (block_at B i) ≡ KEYS
  counted_whole i h = omega (arith, ltb-false (faulty_group B (block_at B i)) KEYS (parts i h).1, faulty_high (block_at B i))

  -- each of them and the one behind the last start in the file or at its end
  pub counted_inside : (i : ℕ) → i ≤ block_count B → block_at B i ≤ length B
  counted_inside zero h = rw block_zero (omega arith)
  counted_inside (suc i) h = rw (← add-one i) (block_inside i (counted_whole i h) (omega (arith, counted_starts i h)))

  pub counted_group : (i k : ℕ) → i < block_count B → k ≤ KEYS → group_at B (block_at B i) k ≤ length B
  counted_group i k h l = whole_inside (block_at B i) k (counted_whole i h) (omega (arith, counted_starts i h)) l

  pub counted_key : (i k : ℕ) → i < block_count B → k < KEYS → repeats k ≡ false → is_key_line B k (group_at B (block_at B i) k) ≡ true
  counted_key i k h l f = whole_key (block_at B i) k (counted_whole i h) l f

  -- what the four lines of sections and the line of jtbl hold
  pub counted_section : (i c : ℕ) → i < block_count B → 0 < c → c < 5 → line_sound (value_at B c (group_at B (block_at B i) c)) ≡ true
  counted_section i c h l u =
      let a = group_at B (block_at B i) c in
      sym (value_section c (value_at B c a) l u) ∙ key_line_sound B c a (counted_key i c h (omega arith) (repeats_low c u))

  repeats_jumps : repeats 7 ≡ false
  unfolding repeats keys
  repeats_jumps = refl

  value_jumps : (v : List ℕ) → value_sound 7 v ≡ number_sound NUMBER_LIMIT v
  unfolding value_sound keys jump_table_sound
  value_jumps v = refl

  pub counted_jumps : (i : ℕ) → i < block_count B → number_sound NUMBER_LIMIT (value_at B 7 (group_at B (block_at B i) 7)) ≡ true
  counted_jumps i h =
      let a = group_at B (block_at B i) 7 in
      sym (value_jumps (value_at B 7 a)) ∙ key_line_sound B 7 a (counted_key i 7 h (omega arith) repeats_jumps)

  -- ---- the fault

  pub fault_none : length B ≤ block_at B (block_count B) → block_fault B ≡ None
  unfolding block_fault
  fault_none h = rw (le-leb _ _ h)

  pub fault_limit : block_count B ≡ BLOCK_LIMIT → block_at B (block_count B) < length B → block_fault B ≡ Some (line_number B (block_at B (block_count B)))
  unfolding block_fault fault_at
  fault_limit e h = rw (lt-leb _ _ h, eq-eqb _ _ e)

  pub fault_line : (block_count B ≡ BLOCK_LIMIT → ⊥) → block_at B (block_count B) < length B
      → block_fault B ≡ Some (line_number B (group_at B (block_at B (block_count B)) (faulty_group B (block_at B (block_count B)))))
  unfolding block_fault fault_at
  fault_line d h = rw (lt-leb _ _ h, ne_eqb _ _ d)

  -- a file with no fault is its blocks
  pub fault_clear : block_fault B ≡ None → block_at B (block_count B) ≡ length B
  unfolding block_fault
  fault_clear e =
      let l : length B ≤ block_at B (block_count B) = leb-true _ _ (told _ _ e) in
      omega (arith, counted_inside (block_count B) (omega arith))
    where
      told : (b : Bool) (n : ℕ) → pick_finding b None (Some n) ≡ None → b ≡ true
      told true n e = refl
      told false n e = cc
