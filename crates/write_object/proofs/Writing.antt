-- The writing pass over any plan: what is written section by section and header by header is the object. Assumes nothing.
use Prim.Native.Nat.{ℕ, zero, suc, ◌+◌, ◌-◌, ◌*◌, ◌≤◌, ◌<◌}
use mathlib.Core.Path.{◌≡◌, refl, sym, ap, ◌∙◌}
use mathlib.Core.Bool.{true, false}
use mathlib.Core.List.{List, [], ◌++◌, append_assoc, append-nil}
use native.Mathlib.Numerals.{add-one}
use native.Mathlib.Omega.{arith}
use lib.ListN.{length, length-append}
use Rattle.base_lists.specs.Ranges.{gather}
use Rattle.base_lists.specs.Windows.{spliced}
use Rattle.base_lists.proofs.Ranges.{by-test, gather_zero, gather_yes, gather_no, gather_all_length}
use Rattle.base_lists.proofs.Windows.{spliced_nil, spliced_then}
use Rattle.base_buffers.specs.Buffers.{zeros}
use Rattle.base_buffers.proofs.Buffers.{length_zeros}
use Rattle.base_fields.specs.declared.ByteOrder.{ByteOrder}
use Rattle.elf_records.specs.declared.header.ElfHeader.{ElfHeader}
use Rattle.elf_records.specs.Header.{elf_bytes}
use Rattle.elf_records.specs.Section.{section_bytes}
use Rattle.elf_records.proofs.RoundTrip.{length_elf, length_section}
use Rattle.write_image.specs.Layout.{Layout, HEADER_END, HEADING_SIZE, end_before, start_of, headings_at, image_length}
use Rattle.write_image.specs.Image.{piece_of, image}
use Rattle.write_image.proofs.Ends.{end_first, end_placed, end_unplaced, start_low, headings_low}
use Rattle.write_object.specs.Object.{Plan, has_place, layout_of, written_offset, is_moved_debug, written_content, written_front, written_heading, fails_to_move, object_bytes}
use Rattle.write_object.specs.Steps.{moves_words, moved_bytes, padded_section, padded_piece, placed_piece, pieces_of, headings_of}
use Rattle.write_object.proofs.Content.{content_as_long}

module _ (p : Plan) (o : ByteOrder) where
  abbrev l : Layout
  l = layout_of p

  placed_is : (i : ℕ) → l.placed i ≡ has_place (p.heading i)
  unfolding layout_of
  placed_is i = refl

  size_is : (i : ℕ) → l.size i ≡ length (p.content i)
  unfolding layout_of
  size_is i = refl

  pub headings_behind : end_before l p.many ≤ headings_at l
  unfolding layout_of
  headings_behind = headings_low l

  pub image_is : image_length l ≡ headings_at l + HEADING_SIZE * p.many
  unfolding image_length layout_of
  image_is = refl

  -- ---- the ends

  pub next_placed : (i : ℕ) → has_place (p.heading i) ≡ true → end_before l (i + 1) ≡ start_of l i + length (p.content i)
  next_placed i t = end_placed l i (placed_is i ∙ t) ∙ ap (λ (n : ℕ). start_of l i + n) (size_is i)

  pub next_unplaced : (i : ℕ) → has_place (p.heading i) ≡ false → end_before l (i + 1) ≡ end_before l i
  next_unplaced i f = end_unplaced l i (placed_is i ∙ f)

  -- ---- a section

  -- a section behind its zeros, from the numbers in hand
  pub padded_is : (i : ℕ) → has_place (p.heading i) ≡ true → padded_section o (p.heading i) (p.content i) (end_before l i) (start_of l i) ≡ placed_piece p o i
  unfolding padded_section placed_piece padded_piece moved_bytes moves_words written_content is_moved_debug written_offset
  padded_is i t = rw t

  pub unplaced_is : (i : ℕ) → has_place (p.heading i) ≡ false → placed_piece p o i ≡ []
  unfolding placed_piece
  unplaced_is i f = rw f

  piece_is : (i : ℕ) → has_place (p.heading i) ≡ true → placed_piece p o i ≡ padded_piece p o i
  unfolding placed_piece
  piece_is i t = rw t

  piece_long : (i : ℕ) → fails_to_move p o i ≡ false → length (padded_piece p o i) ≡ start_of l i - end_before l i + length (p.content i)
  unfolding padded_piece
  piece_long i f =
      length-append (zeros (start_of l i - end_before l i)) (written_content p o i)
      ∙ omega (arith, length_zeros (start_of l i - end_before l i), content_as_long p o i f)

  -- ---- the sections so far

  pieces_none : pieces_of p o 0 ≡ []
  unfolding pieces_of
  pieces_none = gather_zero (λ i. has_place (p.heading i)) (padded_piece p o)

  pieces_next : (i : ℕ) → pieces_of p o (i + 1) ≡ pieces_of p o i ++ placed_piece p o i
  unfolding pieces_of
  pieces_next i = by-test (has_place (p.heading i))
      (λ t.
      gather_yes (λ j. has_place (p.heading j)) (padded_piece p o) i t
      ∙ ap (λ (x : List ℕ). gather (λ j. has_place (p.heading j)) (padded_piece p o) i ++ x) (sym (piece_is i t)))
      (λ f. gather_no (λ j. has_place (p.heading j)) (padded_piece p o) i f ∙ sym (rw (unplaced_is i f) (append-nil _)))

  module _ (n : ℕ) (fine : (i : ℕ) → i < n → fails_to_move p o i ≡ false) where
    next_long : (i : ℕ) → i < n → end_before l i + length (placed_piece p o i) ≡ end_before l (i + 1)
    next_long i h = by-test (has_place (p.heading i))
        (λ t. omega (arith, ap length (piece_is i t), piece_long i (fine i h), next_placed i t, start_low l i))
        (λ f. omega (arith, ap length (unplaced_is i f), next_unplaced i f))

    pub pieces_end : (i : ℕ) → i ≤ n → HEADER_END + length (pieces_of p o i) ≡ end_before l i
    pieces_end zero h = rw pieces_none (sym (end_first l))
    pieces_end (suc i) h = rw (← add-one i)
        (omega (arith, ap length (pieces_next i), length-append (pieces_of p o i) (placed_piece p o i), pieces_end i (omega arith), next_long i (omega arith)))

    -- a turn of the loop that writes the sections
    pub pieces_turn : (L m m' : List ℕ) (i e : ℕ) → i < n → e ≡ end_before l i → end_before l (i + 1) ≤ length L → m ≡ spliced L HEADER_END (pieces_of p o i)
        → m' ≡ spliced m e (placed_piece p o i) → m' ≡ spliced L HEADER_END (pieces_of p o (i + 1))
    pieces_turn L m m' i e h is room before after =
        after
        ∙ ap (λ (x : List ℕ). spliced x e (placed_piece p o i)) before
        ∙ spliced_then L HEADER_END (pieces_of p o i) (placed_piece p o i) e (omega (arith, is, pieces_end i (omega arith))) (omega (arith, is, room, next_long i h))
        ∙ ap (spliced L HEADER_END) (sym (pieces_next i))

  pub pieces_start : (L : List ℕ) → L ≡ spliced L HEADER_END (pieces_of p o 0)
  pieces_start L = rw pieces_none (sym (spliced_nil L HEADER_END))

  -- ---- the section headers so far

  headings_none : headings_of p o 0 ≡ []
  unfolding headings_of
  headings_none = gather_zero (λ i. true) (λ i. section_bytes o (written_heading p i))

  headings_next : (i : ℕ) → headings_of p o (i + 1) ≡ headings_of p o i ++ section_bytes o (written_heading p i)
  unfolding headings_of
  headings_next i = gather_yes (λ j. true) (λ j. section_bytes o (written_heading p j)) i refl

  pub headings_long : (i : ℕ) → length (headings_of p o i) ≡ HEADING_SIZE * i
  unfolding headings_of
  headings_long i = gather_all_length (λ j. section_bytes o (written_heading p j)) HEADING_SIZE (λ j. length_section o (written_heading p j)) i

  pub headings_start : (L : List ℕ) (at : ℕ) → L ≡ spliced L at (headings_of p o 0)
  headings_start L at = rw headings_none (sym (spliced_nil L at))

  pub headings_turn : (L m m' : List ℕ) (at i : ℕ) → at + HEADING_SIZE * (i + 1) ≤ length L → m ≡ spliced L at (headings_of p o i)
      → m' ≡ spliced m (at + HEADING_SIZE * i) (section_bytes o (written_heading p i)) → m' ≡ spliced L at (headings_of p o (i + 1))
  headings_turn L m m' at i room before after =
      after
      ∙ ap (λ (x : List ℕ). spliced x (at + HEADING_SIZE * i) (section_bytes o (written_heading p i))) before
      ∙ spliced_then L at (headings_of p o i) (section_bytes o (written_heading p i)) (at + HEADING_SIZE * i) (omega (arith, headings_long i))
      (omega (arith, room, length_section o (written_heading p i)))
      ∙ ap (spliced L at) (sym (headings_next i))

  -- ---- the whole

  module _ (h : ElfHeader) where
    abbrev gap : List ℕ
    gap = zeros (headings_at l - end_before l p.many)

    object_parts : object_bytes p o h ≡ (elf_bytes o (written_front p h) ++ pieces_of p o p.many) ++ (gap ++ headings_of p o p.many)
    unfolding object_bytes image piece_of layout_of pieces_of padded_piece headings_of
    object_parts = refl

    -- the four writes, one behind the other
    pub object_put : (L a b c d : List ℕ) → length (written_front p h).e_ident ≡ 16 → ((i : ℕ) → i < p.many → fails_to_move p o i ≡ false) → image_length l ≤ length L
        → a ≡ spliced L 0 (elf_bytes o (written_front p h)) → b ≡ spliced a HEADER_END (pieces_of p o p.many) → c ≡ spliced b (end_before l p.many) gap
        → d ≡ spliced c (headings_at l) (headings_of p o p.many) → d ≡ spliced L 0 (object_bytes p o h)
    object_put L a b c d ident fine room ea eb ec ed =
        let front = elf_bytes o (written_front p h) in
        let pieces = pieces_of p o p.many in
        let headings = headings_of p o p.many in
        let fl = length_elf o (written_front p h) ident in
        let pl = pieces_end p.many fine p.many (omega arith) in
        let gl = length_zeros (headings_at l - end_before l p.many) in
        let hl = headings_long p.many in
        let low = headings_behind in
        let fit : headings_at l + HEADING_SIZE * p.many ≤ length L = omega (arith, image_is, room) in
        let ab : length (front ++ pieces) ≡ end_before l p.many = length-append front pieces ∙ omega (arith, fl, pl) in
        let abc : length ((front ++ pieces) ++ gap) ≡ headings_at l = length-append (front ++ pieces) gap ∙ omega (arith, ab, gl, low) in
        let b-is : b ≡ spliced L 0 (front ++ pieces) =
        eb ∙ ap (λ (x : List ℕ). spliced x HEADER_END pieces) ea ∙ spliced_then L 0 front pieces HEADER_END (omega (arith, fl)) (omega (arith, pl, low, fit)) in
        let c-is : c ≡ spliced L 0 ((front ++ pieces) ++ gap) =
        ec
        ∙ ap (λ (x : List ℕ). spliced x (end_before l p.many) gap) b-is
        ∙ spliced_then L 0 (front ++ pieces) gap (end_before l p.many) (omega (arith, ab)) (omega (arith, gl, low, fit)) in
        ed
        ∙ ap (λ (x : List ℕ). spliced x (headings_at l) headings) c-is
        ∙ spliced_then L 0 ((front ++ pieces) ++ gap) headings (headings_at l) (omega (arith, abc)) (omega (arith, hl, fit))
        ∙ ap (spliced L 0) (append_assoc (front ++ pieces) gap headings ∙ sym object_parts)
