-- The laws of runs: where a run's item is found, every item before it ends at or before x, so each byte of the run is what `late_byte` says; and a run has at least
-- one byte. Assumes nothing.
use Prim.Native.Nat.{ℕ, ◌+◌, ◌-◌, ◌≤◌, ◌<◌}
use mathlib.Core.Path.{◌≡◌, refl, sym, ap, ◌∙◌}
use mathlib.Core.Logic.{⊎_elim}
use mathlib.Core.Bool.{true, false}
use mathlib.Core.List.{List}
use native.Mathlib.Omega.{arith}
use lib.ListN.{length, get_or}
use lib.Dec.{ltb}
use borrow.Author.Tests.{lt-ltb, le-ltb, le-leb, lt-leb, ltb-true, ltb-false}
use Rattle.base_lists.proofs.Ranges.{by-test, by-lt, both, first_is, first_to}
use Rattle.base_lists.proofs.Rows.{Before, by_order}
use Rattle.base_fields.specs.declared.ByteOrder.{ByteOrder}
use Rattle.base_scope.specs.Codes.{LATE_TARGET}
use Rattle.blocks_file.specs.Blocks.{block_count}
use Rattle.late_lookups.specs.of_blocks_places.Lines.{line_count}
use Rattle.late_lookups.specs.of_blocks_places.Places.{Place, end_at}
use Rattle.late_lookups.specs.of_late_moves.Moves.{items, item_length, move_source, late_from, last_place, move_place, is_shifted}
use Rattle.late_lookups.specs.of_late_moves.Moved.{move_covers, zeroes, late_byte}
use Rattle.late_lookups.proofs.of_late_moves.Moves.{late_zero, late_next, last_zero, last_next, place_end, search_past, places_ascend}
use Rattle.late_lookups.proofs.of_late_moves.Moved.{cover_yes, cover_low, cover_high, zero_in, zero_yes, covered_byte, zeroed_byte, other_byte}
use Rattle.late_runs.specs.declared.Run.{Run}
use Rattle.late_runs.specs.declared.Run.TheVariants.{Kept, Late, Zeros}
use Rattle.late_runs.specs.Runs.{run_length, run_byte, run_block, run_item, gap_run, item_run, run_at}

-- a run from x on whose bytes are f's
pub record IsRun (R W : List ℕ) (f : ℕ → ℕ) (x : ℕ) (r : Run) : Type 0 where
  pub some : 0 < run_length r
  pub bytes : (j : ℕ) → j < run_length r → f (x + j) ≡ run_byte R W x r j

module _ (R W : List ℕ) (f : ℕ → ℕ) (x : ℕ) where
  kept : (n : ℕ) → 0 < n → ((j : ℕ) → j < n → f (x + j) ≡ get_or R (x + j) 0) → IsRun R W f x (Kept n)
  unfolding run_length run_byte
  kept n h each = record { some = h; bytes = each }

  late : (a n : ℕ) → 0 < n → ((j : ℕ) → j < n → f (x + j) ≡ get_or W (a + j) 0) → IsRun R W f x (Late a n)
  unfolding run_length run_byte
  late a n h each = record { some = h; bytes = each }

  zeros : (n : ℕ) → 0 < n → ((j : ℕ) → j < n → f (x + j) ≡ 0) → IsRun R W f x (Zeros n)
  unfolding run_length run_byte
  zeros n h each = record { some = h; bytes = each }

module _ (o : ByteOrder) (P : List Place) (B R : List ℕ) (x : ℕ) where
  -- every item before item k of block i ends at or before x
  abbrev Passed : ℕ → ℕ → Type 0
  Passed i k = (j l : ℕ) → l < items P B j → Before j l i k → move_place o P B R j l + item_length B j l ≤ x

  -- ---- the item

  module _ (i : ℕ) (e : run_block o P B R x ≡ i) where
    block_before : (j : ℕ) → j < i → late_from o P B R (j + 1) ≤ x
    unfolding run_block
    block_before j h =
        let r = first_is (λ i. ltb x (late_from o P B R (i + 1))) 0 (block_count B) (omega arith) in
        ltb-false _ _ (r.below j (omega arith) (rw e h))

    pub block_here : i < block_count B → x < late_from o P B R (i + 1)
    unfolding run_block
    block_here h =
        let r = first_is (λ i. ltb x (late_from o P B R (i + 1))) 0 (block_count B) (omega arith) in
        rw (← e) (ltb-true _ _ (r.here (rw e h)))

    module _ (h : i < block_count B) (past : end_at P B (line_count B) LATE_TARGET ≤ x) where
      -- the last place before the block is not past x, so the block has an item that ends past x
      pub block_from : late_from o P B R i ≤ x
      block_from = by-lt 0 i
          (λ l.
          let q : i - 1 + 1 ≡ i = omega arith in
          rw (← q) (block_before (i - 1) (omega arith)))
          (λ l. let q : i ≡ 0 = omega arith in rw (q, late_zero o P B R) past)

      pub some_item : 0 < items P B i
      some_item = by-lt 0 (items P B i)
          (λ l. l)
          (λ l.
          let q : items P B i ≡ 0 = omega arith in
          let u : late_from o P B R (i + 1) ≡ late_from o P B R i = late_next o P B R i ∙ ap (last_place o P B R i) q ∙ last_zero o P B R i in
          absurd (omega (arith, block_from, block_here h)))

      last_ends : x < move_place o P B R i (items P B i - 1) + item_length B i (items P B i - 1)
      last_ends =
          let q : items P B i - 1 + 1 ≡ items P B i = omega (arith, some_item) in
          let u : late_from o P B R (i + 1) ≡ move_place o P B R i (items P B i - 1) + item_length B i (items P B i - 1) =
          late_next o P B R i ∙ ap (last_place o P B R i) (sym q) ∙ last_next o P B R i (items P B i - 1) in
          omega (arith, block_here h)

      pub item_in : run_item o P B R x i < items P B i
      unfolding run_item
      item_in =
          omega (
            arith,
            some_item,
            first_to (λ k. ltb x (move_place o P B R i k + item_length B i k)) 0 (items P B i) (items P B i - 1) (omega arith)
                (omega (arith, some_item)) (lt-ltb _ _ last_ends),
          )

      pub item_past : x < move_place o P B R i (run_item o P B R x i) + item_length B i (run_item o P B R x i)
      unfolding run_item
      item_past = ltb-true _ _ ((first_is (λ k. ltb x (move_place o P B R i k + item_length B i k)) 0 (items P B i) (omega arith)).here item_in)

      pub item_before : (l : ℕ) → l < run_item o P B R x i → move_place o P B R i l + item_length B i l ≤ x
      unfolding run_item
      item_before l u = ltb-false _ _ ((first_is (λ k. ltb x (move_place o P B R i k + item_length B i k)) 0 (items P B i) (omega arith)).below l (omega arith) u)

      passed : Passed i (run_item o P B R x i)
      passed j l g order = ⊎_elim
          (λ u. omega (arith, place_end o P B R j l g, block_before j u))
          (λ u. rw u.0 (item_before l u.1))
          order

  -- ---- its bytes

  module _ (s : ℕ) (W : List ℕ) (i k : ℕ) (h : i < block_count B) (g : k < items P B i) (before : Passed i k) (past : x < move_place o P B R i k + item_length B i k) where
    -- a byte before the item, and before the word that it zeroes, is as it was
    gap_byte : (y : ℕ) → x ≤ y → y < move_place o P B R i k → (is_shifted o P B R i k ≡ true → y + 4 < move_place o P B R i k)
        → late_byte o P B R s W y ≡ get_or R y 0
    gap_byte y l u clear = other_byte o P B R s W y uncovered unzeroed
      where
        uncovered : (j m : ℕ) → j < block_count B → m < items P B j → move_covers o P B R y j m ≡ false
        uncovered j m a b = by_order j m i k
            (λ v. cover_high o P B R y j m (omega (arith, before j m b v)))
            (λ v. cover_low o P B R y j m (omega (arith, places_ascend o P B R i k j m g v)))
            (λ p q. rw (p, q) (cover_low o P B R y i k u))

        unzeroed : (j m : ℕ) → j < block_count B → m < items P B j → zeroes o P B R y j m ≡ false
        unzeroed j m a b = by-test (zeroes o P B R y j m)
            (λ t.
            let z = zero_in o P B R y j m t in
            by_order j m i k
            (λ v. absurd (omega (arith, z.2, before j m b v)))
            (λ v. absurd (omega (arith, z.1, search_past o P B R i k j m g v)))
            (λ p q.
            let c : is_shifted o P B R i k ≡ true = rw (← p, ← q) z.0 in
            let d : move_place o P B R i k ≤ y + 4 = rw (← p, ← q) z.3 in
            absurd (omega (arith, clear c))))
            (λ f. f)

    gap_is : x < move_place o P B R i k → IsRun R W (late_byte o P B R s W) x (gap_run o P B R x i k)
    unfolding gap_run
    gap_is u = by-test (is_shifted o P B R i k)
        (λ t. rw t (by-lt (x + 4) (move_place o P B R i k)
        (λ v. rw (lt-leb (move_place o P B R i k) (x + 4) v) (kept R W (late_byte o P B R s W) x (move_place o P B R i k - 4 - x) (omega arith)
        (λ j w. gap_byte (x + j) (omega arith) (omega arith) (λ y. omega arith))))
        (λ v. rw (le-leb (move_place o P B R i k) (x + 4) v) (zeros R W (late_byte o P B R s W) x (move_place o P B R i k - x) (omega arith)
        (λ j w. zeroed_byte o P B R s W (x + j) i k h g (zero_yes o P B R (x + j) i k t (omega arith) (omega arith)))))))
        (λ f. rw f (kept R W (late_byte o P B R s W) x (move_place o P B R i k - x) (omega arith)
        (λ j w. gap_byte (x + j) (omega arith) (omega arith) (λ y. both y f))))

    item_is : IsRun R W (late_byte o P B R s W) x (item_run o P B R s x i k)
    unfolding item_run
    item_is = by-lt x (move_place o P B R i k)
        (λ u. rw (lt-leb (move_place o P B R i k) x u) (gap_is u))
        (λ u. rw (le-leb (move_place o P B R i k) x u) (late R W (late_byte o P B R s W) x (move_source P B s i k + (x - move_place o P B R i k))
        (move_place o P B R i k + item_length B i k - x) (omega arith) (λ j w.
        let q : move_source P B s i k + (x + j - move_place o P B R i k) ≡ move_source P B s i k + (x - move_place o P B R i k) + j = omega arith in
        covered_byte o P B R s W (x + j) i k h g (cover_yes o P B R (x + j) i k (omega arith) (omega arith)) ∙ ap (λ (y : ℕ). get_or W y 0) q)))

  -- behind all items
  rest_byte : (s : ℕ) (W : List ℕ) (y : ℕ) → block_count B ≤ run_block o P B R x → x ≤ y → late_byte o P B R s W y ≡ get_or R y 0
  rest_byte s W y h l = other_byte o P B R s W y
      (λ j m a b. cover_high o P B R y j m (ended j m a b))
      (λ j m a b. by-test (zeroes o P B R y j m) (λ t. absurd (omega (arith, (zero_in o P B R y j m t).2, ended j m a b))) (λ f. f))
    where
      ended : (j m : ℕ) → j < block_count B → m < items P B j → move_place o P B R j m + item_length B j m ≤ y
      ended j m a b = omega (arith, place_end o P B R j m b, block_before (run_block o P B R x) refl j (omega arith))

  -- a run has at least one byte, and each of its bytes is what the final .rodata holds there
  pub run_is : (s : ℕ) (W : List ℕ) → end_at P B (line_count B) LATE_TARGET ≤ x → x < length R → IsRun R W (late_byte o P B R s W) x (run_at o P B R s x)
  unfolding run_at
  run_is s W past inside = by-lt (run_block o P B R x) (block_count B)
      (λ h.
      let i = run_block o P B R x in
      rw (lt-ltb i (block_count B) h)
      (item_is s W i (run_item o P B R x i) h (item_in i refl h past) (passed i refl h past) (item_past i refl h past)))
      (λ h. rw (le-ltb (run_block o P B R x) (block_count B) h)
      (kept R W (late_byte o P B R s W) x (length R - x) (omega arith) (λ j w. rest_byte s W (x + j) h (omega arith))))
