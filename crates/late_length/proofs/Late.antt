-- The laws of the late length: the bytes of one block, and that there is a late step exactly where the length is not zero. Assumes nothing.
use Prim.Native.Nat.{ℕ, ◌+◌, ◌*◌, ◌≤◌, ◌<◌}
use mathlib.Core.Path.{◌≡◌, sym, ◌∙◌}
use mathlib.Core.Bool.{true, false}
use mathlib.Core.List.{List}
use native.Mathlib.Nat.{zero-mul}
use native.Mathlib.Omega.{arith}
use lib.Dec.{ltb}
use borrow.Author.Tests.{lt-ltb, le-ltb, ltb-true, ltb-false}
use Rattle.base_lists.specs.Ranges.{first, sum}
use Rattle.base_lists.proofs.Ranges.{by-test, both, by-lt, and_parts, first_is, none_first, first_high, sum_at, sum_same, sum_const}
use Rattle.blocks_file.specs.Blocks.{block_count}
use Rattle.blocks_places.specs.Places.{Place, live}
use Rattle.blocks_items.specs.Items.{dummy_count, jump_table, late_bytes, late_length}
use Rattle.late_length.specs.Late.{is_late, has_late_step}

module _ (P : List Place) (B : List ℕ) where
  pub bytes_live : (i : ℕ) → live P B i ≡ true → late_bytes P B i ≡ 4 * dummy_count B i + jump_table B i
  unfolding late_bytes
  bytes_live i t = rw t

  pub bytes_off : (i : ℕ) → live P B i ≡ false → late_bytes P B i ≡ 0
  unfolding late_bytes
  bytes_off i f = rw f

  late_some : (i : ℕ) → is_late P B i ≡ true → 0 < late_bytes P B i
  unfolding is_late
  late_some i t =
      let p = and_parts (live P B i) _ t in
      rw (bytes_live i p.0) (by-test (ltb 0 (dummy_count B i))
      (λ y. omega (arith, ltb-true 0 (dummy_count B i) y))
      (λ n. let q : ltb 0 (jump_table B i) ≡ true = rw n at p.1 in omega (arith, ltb-true 0 (jump_table B i) q)))

  late_none : (i : ℕ) → is_late P B i ≡ false → late_bytes P B i ≡ 0
  unfolding is_late
  late_none i f = by-test (live P B i)
      (λ t. rw (bytes_live i t) (by-test (ltb 0 (dummy_count B i))
      (λ y. both (rw (t, y)) f)
      (λ n.
      let q : ltb 0 (jump_table B i) ≡ false = rw (t, n) at f in
      let a : dummy_count B i ≤ 0 = ltb-false _ _ n in
      let b : jump_table B i ≤ 0 = ltb-false _ _ q in
      omega arith)))
      (bytes_off i)

  -- there is a late step exactly where the late length is not zero
  pub step_length : has_late_step P B ≡ ltb 0 (late_length P B)
  unfolding has_late_step late_length
  step_length = by-lt (first (is_late P B) 0 (block_count B)) (block_count B)
      (λ h.
      let i = first (is_late P B) 0 (block_count B) in
      let s : 0 < late_bytes P B i = late_some i ((first_is (is_late P B) 0 (block_count B) (omega arith)).here h) in
      lt-ltb _ _ h ∙ sym (lt-ltb 0 (sum (late_bytes P B) (block_count B)) (omega (arith, sum_at (late_bytes P B) i (block_count B) h))))
      (λ h.
      let e : first (is_late P B) 0 (block_count B) ≡ block_count B = omega (arith, first_high (is_late P B) 0 (block_count B) (omega arith)) in
      let z : sum (late_bytes P B) (block_count B) ≡ 0 =
      sum_same (late_bytes P B) (λ i. 0) (block_count B) (λ i g. late_none i (none_first (is_late P B) 0 (block_count B) i e (omega arith) g))
      ∙ sum_const 0 (block_count B) ∙ zero-mul (block_count B) in
      le-ltb _ _ h ∙ sym (le-ltb 0 (sum (late_bytes P B) (block_count B)) (omega arith)))

  -- where there is none, no block has late bytes
  pub step_none : has_late_step P B ≡ false → (i : ℕ) → i < block_count B → late_bytes P B i ≡ 0
  unfolding late_length
  step_none f i h =
      let z : late_length P B ≤ 0 = ltb-false 0 (late_length P B) (sym step_length ∙ f) in
      omega (arith, sum_at (late_bytes P B) i (block_count B) h)
