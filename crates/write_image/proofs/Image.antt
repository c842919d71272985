-- Reading the written object back: each section stands where the layout says, and so does its header; and the object is as long as it says. Assumes nothing.
use Prim.Native.Nat.{ℕ, zero, suc, ◌+◌, ◌-◌, ◌*◌, ◌<◌}
use mathlib.Core.Path.{◌≡◌, refl, sym, ap, ◌∙◌}
use mathlib.Core.Bool.{true}
use mathlib.Core.List.{List, ◌++◌}
use native.Mathlib.Numerals.{add-one}
use native.Mathlib.Omega.{arith}
use lib.ListN.{length, length-append, length-replicate}
use Rattle.base_lists.specs.Ranges.{gather}
use Rattle.base_lists.specs.Windows.{Within}
use Rattle.base_lists.proofs.Ranges.{by-test, gather_zero, gather_yes, gather_no, gather_all_length}
use Rattle.base_lists.proofs.Windows.{within_at, within_right, within_left, within_second, within_within, within_gather}
use Rattle.base_buffers.specs.Buffers.{zeros}
use Rattle.write_image.specs.Layout.{Layout, HEADER_END, HEADING_SIZE, end_before, start_of, headings_at, image_length}
use Rattle.write_image.specs.Image.{piece_of, image, Fits}
use Rattle.write_image.proofs.Ends.{end_first, end_placed, end_unplaced, start_low, headings_low}

zeros_long : (n : ℕ) → length (zeros n) ≡ n
unfolding zeros
zeros_long n = length-replicate n 0

module _ (l : Layout) (front : List ℕ) (content heading : ℕ → List ℕ) (w : Fits l front content heading) where
  abbrev piece : ℕ → List ℕ
  piece = piece_of l front content heading

  abbrev pieces : ℕ → List ℕ
  pieces n = gather l.placed piece n

  abbrev gap : List ℕ
  gap = zeros (headings_at l - end_before l l.many)

  piece_long : (i : ℕ) → l.placed i ≡ true → length (piece i) ≡ start_of l i - end_before l i + l.size i
  unfolding piece_of
  piece_long i t = length-append (zeros (start_of l i - end_before l i)) (content i) ∙ omega (arith, zeros_long (start_of l i - end_before l i), w.content_long i t)

  -- the sections before section n end where the layout says
  pub pieces_end : (n : ℕ) → HEADER_END + length (pieces n) ≡ end_before l n
  pieces_end zero = rw (gather_zero l.placed piece) (sym (end_first l))
  pieces_end (suc n) = rw (← add-one n) (by-test (l.placed n)
      (λ t.
      let a = ap length (gather_yes l.placed piece n t) ∙ length-append (pieces n) (piece n) in
      omega (arith, a, piece_long n t, pieces_end n, end_placed l n t, start_low l n))
      (λ f.
      let a = ap length (gather_no l.placed piece n f) in
      omega (arith, a, pieces_end n, end_unplaced l n f)))

  front_end : length (front ++ pieces l.many) ≡ end_before l l.many
  front_end = length-append front (pieces l.many) ∙ omega (arith, w.front_long, pieces_end l.many)

  -- ---- a section's bytes

  in_piece : (i : ℕ) → Within (content i) (start_of l i - end_before l i) (piece i)
  unfolding piece_of
  in_piece i = within_second (zeros (start_of l i - end_before l i)) (content i) (start_of l i - end_before l i) (zeros_long (start_of l i - end_before l i))

  pub section_there : (i : ℕ) → i < l.many → l.placed i ≡ true → Within (content i) (start_of l i) (image l front content heading)
  unfolding image
  section_there i h t =
      let a = within_within (content i) (piece i) (pieces l.many) (length (pieces i)) (start_of l i - end_before l i) (in_piece i) (within_gather l.placed piece i l.many (length (pieces i)) refl h t) in
      let b = within_left (content i) front (pieces l.many) (length (pieces i) + (start_of l i - end_before l i)) a in
      let e : length front + (length (pieces i) + (start_of l i - end_before l i)) ≡ start_of l i = omega (arith, w.front_long, pieces_end i, start_low l i) in
      within_right (content i) (front ++ pieces l.many) _ (start_of l i) (within_at (content i) _ _ (start_of l i) e b)

  -- ---- its header

  headings_long : (n : ℕ) → length (gather (λ i. true) heading n) ≡ HEADING_SIZE * n
  headings_long n = gather_all_length heading HEADING_SIZE w.heading_long n

  pub heading_there : (i : ℕ) → i < l.many → Within (heading i) (headings_at l + HEADING_SIZE * i) (image l front content heading)
  unfolding image
  heading_there i h =
      let a = within_gather (λ j. true) heading i l.many (HEADING_SIZE * i) (headings_long i) h refl in
      let b = within_left (heading i) gap (gather (λ j. true) heading l.many) (HEADING_SIZE * i) a in
      let c = within_left (heading i) (front ++ pieces l.many) (gap ++ gather (λ j. true) heading l.many) (length gap + HEADING_SIZE * i) b in
      let e : length (front ++ pieces l.many) + (length gap + HEADING_SIZE * i) ≡ headings_at l + HEADING_SIZE * i = omega (arith, front_end, zeros_long (headings_at l - end_before l l.many), headings_low l) in
      within_at (heading i) _ _ (headings_at l + HEADING_SIZE * i) e c

  -- ---- and the whole

  pub image_long : length (image l front content heading) ≡ image_length l
  unfolding image image_length
  image_long =
      omega (
        arith,
        length-append (front ++ pieces l.many) (gap ++ gather (λ i. true) heading l.many),
        length-append gap (gather (λ i. true) heading l.many),
        front_end,
        zeros_long (headings_at l - end_before l l.many),
        headings_low l,
        headings_long l.many,
      )
