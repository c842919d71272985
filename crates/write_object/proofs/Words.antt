-- An object of less than 2 ^ 32 bytes has offsets and sizes that fit the words of its headers. Assumes nothing.
use Prim.Native.Nat.{ℕ, zero, suc, ◌+◌, ◌≤◌, ◌<◌}
use mathlib.Core.Path.{◌≡◌}
use mathlib.Core.Bool.{true}
use native.Mathlib.Numerals.{add-one}
use native.Mathlib.Omega.{arith}
use lib.ListN.{length}
use Rattle.base_lists.proofs.Ranges.{by-test, by-lt}
use Rattle.write_image.specs.Layout.{Layout, end_before, start_of, headings_at, image_length}
use Rattle.write_image.proofs.Ends.{end_placed, end_unplaced, start_low, headings_low}
use Rattle.write_object.specs.Object.{Plan, has_place, layout_of, written_offset}

module _ (l : Layout) where
  end_step : (i : ℕ) → end_before l i ≤ end_before l (i + 1)
  end_step i = by-test (l.placed i)
      (λ t. omega (arith, end_placed l i t, start_low l i))
      (λ f. omega (arith, end_unplaced l i f))

  -- ends ascend
  pub end_mono : (i n : ℕ) → i ≤ n → end_before l i ≤ end_before l n
  end_mono i zero h = let e : i ≡ 0 = omega arith in rw e (omega arith)
  end_mono i (suc n) h = by-lt n i
      (λ g. let e : i ≡ suc n = omega arith in rw e (omega arith))
      (λ g. rw (← add-one n) (omega (arith, end_mono i n g, end_step n)))

  pub headings_inside : headings_at l ≤ image_length l
  unfolding image_length
  headings_inside = omega arith

  -- a section with a place ends before the section headers
  pub section_ends_lem : (i : ℕ) → i < l.many → l.placed i ≡ true → start_of l i + l.size i ≤ headings_at l
  section_ends_lem i h t = omega (arith, end_placed l i t, end_mono (i + 1) l.many (omega arith), headings_low l)

-- what the words hold
pub record Words (p : Plan) (n : ℕ) : Type 0 where
  pub headings : headings_at (layout_of p) < n
  pub offsets : (i : ℕ) → i < p.many → has_place (p.heading i) ≡ true → written_offset p i < n
  pub sizes : (i : ℕ) → i < p.many → has_place (p.heading i) ≡ true → length (p.content i) < n

module _ (p : Plan) where
  placed_ends : (i : ℕ) → i < p.many → has_place (p.heading i) ≡ true → written_offset p i + length (p.content i) ≤ headings_at (layout_of p)
  unfolding layout_of written_offset
  placed_ends i h t = rw t (section_ends_lem (layout_of p) i h t)

  pub fits_words : (n : ℕ) → image_length (layout_of p) < n → Words p n
  fits_words n small = record {
    headings = omega (arith, small, headings_inside (layout_of p));
    offsets = λ i h t. omega (arith, small, headings_inside (layout_of p), placed_ends i h t);
    sizes = λ i h t. omega (arith, small, headings_inside (layout_of p), placed_ends i h t);
  }
