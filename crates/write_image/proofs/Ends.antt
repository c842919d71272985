-- The next multiple of an alignment is a multiple, not below the end and less than one alignment past it; ends ascend. Assumes nothing.
use Prim.Native.Nat.{ℕ, ◌+◌, ◌-◌, ◌*◌, ◌/◌, ◌%◌, ◌≤◌, ◌<◌}
use mathlib.Core.Path.{◌≡◌, refl, ap, ◌∙◌}
use mathlib.Core.Bool.{true, false}
use native.Mathlib.Nat.{mod-lt, div-add-mod', mul-mod_left}
use native.Mathlib.Numerals.{add-one}
use native.Mathlib.Omega.{arith}
use lib.Dec.{eqb}
use borrow.Author.Tests.{eq-eqb, ne_eqb, eqb-true, eqb-false}
use Rattle.base_lists.proofs.Ranges.{by-test}
use Rattle.write_image.specs.Layout.{aligned_to, HEADER_END, Layout, end_before, start_of, headings_at}

module _ (end align : ℕ) where
  pub aligned_none : align ≡ 0 → aligned_to end align ≡ end
  unfolding aligned_to
  aligned_none e = rw (eq-eqb align 0 e)

  module _ (some : 0 < align) where
    pub aligned_some : aligned_to end align ≡ (end + (align - 1)) / align * align
    unfolding aligned_to
    aligned_some = let n : align ≡ 0 → ⊥ = λ q. omega (arith, q, some) in rw (ne_eqb align 0 n)

    split : (end + (align - 1)) / align * align + (end + (align - 1)) % align ≡ end + (align - 1)
    split = div-add-mod' (end + (align - 1)) align

    pub aligned_multiple : aligned_to end align % align ≡ 0
    aligned_multiple = ap (λ (x : ℕ). x % align) aligned_some ∙ mul-mod_left ((end + (align - 1)) / align) align

    low_some : end ≤ aligned_to end align
    low_some = rw aligned_some (omega (arith, split, mod-lt (end + (align - 1)) some, some))

    pub aligned_next : aligned_to end align < end + align
    aligned_next = rw aligned_some (omega (arith, split, some))

  pub aligned_low : end ≤ aligned_to end align
  aligned_low = by-test (eqb align 0)
      (λ t. let e = aligned_none (eqb-true align 0 t) in omega (arith, e))
      (λ f. let n = eqb-false align 0 f in low_some (omega (arith, n)))

module _ (l : Layout) where
  pub end_first : end_before l 0 ≡ HEADER_END
  unfolding end_before
  end_first = refl

  module _ (i : ℕ) where
    pub end_placed : l.placed i ≡ true → end_before l (i + 1) ≡ start_of l i + l.size i
    unfolding end_before start_of
    end_placed t = rw (add-one i, t)

    pub end_unplaced : l.placed i ≡ false → end_before l (i + 1) ≡ end_before l i
    unfolding end_before
    end_unplaced f = rw (add-one i, f)

    pub start_low : end_before l i ≤ start_of l i
    unfolding start_of
    start_low = aligned_low (end_before l i) (l.align i)

  pub headings_low : end_before l l.many ≤ headings_at l
  unfolding headings_at
  headings_low = aligned_low (end_before l l.many) 4
