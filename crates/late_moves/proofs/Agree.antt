-- Two versions of .rodata that have one length and are equal from the end of the last .rodata block copied on have the same late step: no search looks at
-- a byte before that end. So C's own bytes are searched in place of those after block copying. Assumes nothing.
use Prim.Native.Nat.{ℕ, zero, suc, ◌+◌, ◌-◌, ◌≤◌, ◌<◌}
use mathlib.Core.Path.{◌≡◌, sym, ap, ◌∙◌}
use mathlib.Core.Bool.{Bool, ◌&&◌}
use mathlib.Core.List.{List}
use native.Mathlib.Numerals.{add-one}
use native.Mathlib.Omega.{arith}
use lib.ListN.{length, drop, get_or, length-drop}
use lib.Seq.{ext_get_or, get_or-drop}
use Rattle.base_lists.proofs.Ranges.{by-lt}
use Rattle.base_lists.specs.Rows.{row_in, column_in}
use Rattle.base_lists.proofs.Rows.{row_same, column_same, has_row_same}
use Rattle.base_fields.specs.declared.ByteOrder.{ByteOrder}
use Rattle.base_scope.specs.Codes.{LATE_TARGET}
use Rattle.late_length.specs.of_blocks_file.Blocks.{block_count}
use Rattle.late_length.specs.of_blocks_places.Lines.{line_count}
use Rattle.late_length.specs.of_blocks_places.Places.{Place, end_at}
use Rattle.late_length.specs.of_blocks_items.Items.{dummy_count, dummy_word}
use Rattle.late_dummies.specs.Dummies.{found, shifts, placed, is_lost}
use Rattle.late_dummies.proofs.Dummies.{word_agree, found_agree, found_low}
use Rattle.late_moves.specs.Moves.{is_dummy, first_of_many, item_length, item_place, item_fault, items, late_from, last_place, move_place, is_move_fault, late_step_fault, is_shifted}
use Rattle.late_moves.specs.Moved.{table_word, is_jump_word, move_covers, zeroes, moved_block, moved_item, place_in_move, moved_place, offset_in_move, covered_by, late_byte, late_rodata}
use Rattle.late_moves.proofs.Moved.{length_late, late_at_lem}
use Rattle.late_moves.proofs.Moves.{place_dummy, place_table_lem, fault_dummy, fault_table, late_zero, late_next, last_zero, last_next, last_past}

module _ (o : ByteOrder) (R S : List ℕ) (a : ℕ) (long : length R ≡ length S) (agree : drop a R ≡ drop a S) (many : Bool) (last w : ℕ) (h : a ≤ last) where
  shifts_agree : shifts o R many last w ≡ shifts o S many last w
  unfolding shifts
  shifts_agree =
      let e = found_agree o R S a long agree last w h in
      rw e (ap (λ (b : Bool). many && b) (word_agree o R S a long agree 0 (found o S last w + 4) (omega (arith, found_low o S w last))))

  placed_agree : placed o R many last w ≡ placed o S many last w
  unfolding placed
  placed_agree = rw (shifts_agree, found_agree o R S a long agree last w h)

  lost_agree : is_lost o R many last w ≡ is_lost o S many last w
  unfolding is_lost
  lost_agree = rw (found_agree o R S a long agree last w h, long)

module _ (o : ByteOrder) (P : List Place) (B R S : List ℕ) (long : length R ≡ length S)
    (agree : drop (end_at P B (line_count B) LATE_TARGET) R ≡ drop (end_at P B (line_count B) LATE_TARGET) S) where
  item_agree : (i last k : ℕ) → end_at P B (line_count B) LATE_TARGET ≤ last → item_place o B R i last k ≡ item_place o B S i last k
  item_agree i last k h = by-lt k (dummy_count B i)
      (λ l. place_dummy o B R i last k l ∙ placed_agree o R S _ long agree (first_of_many B i k) last (dummy_word B i k) h ∙ sym (place_dummy o B S i last k l))
      (λ l. place_table_lem o B R i last k l ∙ sym (place_table_lem o B S i last k l))

  fault_agree : (i last k : ℕ) → end_at P B (line_count B) LATE_TARGET ≤ last → item_fault o B R i last k ≡ item_fault o B S i last k
  fault_agree i last k h = by-lt k (dummy_count B i)
      (λ l. fault_dummy o B R i last k l ∙ lost_agree o R S _ long agree (first_of_many B i k) last (dummy_word B i k) h ∙ sym (fault_dummy o B S i last k l))
      (λ l. fault_table o B R i last k l ∙ rw long (sym (fault_table o B S i last k l)))

  same_place : (i k : ℕ) → last_place o P B R i k ≡ last_place o P B S i k → move_place o P B R i k ≡ move_place o P B S i k
  unfolding move_place
  same_place i k e = rw e (item_agree i (last_place o P B S i k) k (last_past o P B S i k))

  lasts_agree : (i k : ℕ) → late_from o P B R i ≡ late_from o P B S i → last_place o P B R i k ≡ last_place o P B S i k
  lasts_agree i zero e = last_zero o P B R i ∙ e ∙ sym (last_zero o P B S i)
  lasts_agree i (suc k) e =
      rw (← add-one k) (last_next o P B R i k ∙ ap (λ (n : ℕ). n + item_length B i k) (same_place i k (lasts_agree i k e)) ∙ sym (last_next o P B S i k))

  pub late_agree : (i : ℕ) → late_from o P B R i ≡ late_from o P B S i
  late_agree zero = late_zero o P B R ∙ sym (late_zero o P B S)
  late_agree (suc i) = rw (← add-one i) (late_next o P B R i ∙ lasts_agree i (items P B i) (late_agree i) ∙ sym (late_next o P B S i))

  pub last_agree : (i k : ℕ) → last_place o P B R i k ≡ last_place o P B S i k
  last_agree i k = lasts_agree i k (late_agree i)

  pub place_agree : (i k : ℕ) → move_place o P B R i k ≡ move_place o P B S i k
  place_agree i k = same_place i k (last_agree i k)

  pub shifted_agree : (i k : ℕ) → is_shifted o P B R i k ≡ is_shifted o P B S i k
  unfolding is_shifted
  shifted_agree i k =
      rw (last_agree i k) (ap (λ (b : Bool). is_dummy B i k && b)
      (shifts_agree o R S _ long agree (first_of_many B i k) (last_place o P B S i k) (dummy_word B i k) (last_past o P B S i k)))

  pub faulty_agree : (i k : ℕ) → is_move_fault o P B R i k ≡ is_move_fault o P B S i k
  unfolding is_move_fault
  faulty_agree i k = rw (last_agree i k) (fault_agree i (last_place o P B S i k) k (last_past o P B S i k))

  -- the same block is at fault
  pub late_fault_agree : late_step_fault o P B R ≡ late_step_fault o P B S
  unfolding late_step_fault
  late_fault_agree = row_same (is_move_fault o P B R) (is_move_fault o P B S) (items P B) faulty_agree (block_count B)

  -- ---- what the late step comes to

  pub covers_agree : (x i k : ℕ) → move_covers o P B R x i k ≡ move_covers o P B S x i k
  unfolding move_covers
  covers_agree x i k = rw (place_agree i k)

  pub zeroes_agree : (x i k : ℕ) → zeroes o P B R x i k ≡ zeroes o P B S x i k
  unfolding zeroes
  zeroes_agree x i k = rw (place_agree i k, shifted_agree i k)

  table_agree : (x i k : ℕ) → table_word o P B R x i k ≡ table_word o P B S x i k
  unfolding table_word
  table_agree x i k = rw (place_agree i k)

  pub jump_word_agree : (x : ℕ) → is_jump_word o P B R x ≡ is_jump_word o P B S x
  unfolding is_jump_word
  jump_word_agree x = has_row_same (table_word o P B R x) (table_word o P B S x) (items P B) (table_agree x) (block_count B)

  pub moved_place_agree : (s x : ℕ) → moved_place o P B R s x ≡ moved_place o P B S s x
  unfolding moved_place place_in_move
  moved_place_agree s x = rw (place_agree (moved_block P B s x) (moved_item P B s x))

  -- a byte that is the same in both is the same after the late moves
  pub late_byte_agree : (s : ℕ) (W : List ℕ) (x : ℕ) → get_or R x 0 ≡ get_or S x 0 → late_byte o P B R s W x ≡ late_byte o P B S s W x
  unfolding late_byte covered_by offset_in_move
  late_byte_agree s W x e =
      let c = covers_agree x in
      let z = zeroes_agree x in
      let n = block_count B in
      rw (
        has_row_same (move_covers o P B R x) (move_covers o P B S x) (items P B) c n,
        has_row_same (zeroes o P B R x) (zeroes o P B S x) (items P B) z n,
        row_same (move_covers o P B R x) (move_covers o P B S x) (items P B) c n,
        column_same (move_covers o P B R x) (move_covers o P B S x) (items P B) c n,
        place_agree (row_in (move_covers o P B S x) (items P B) n) (column_in (move_covers o P B S x) (items P B) n),
        e,
      )

  -- so the final .rodata is the same from the end of the last .rodata block copied on
  pub late_rest_agree : (s : ℕ) (W : List ℕ) → drop (end_at P B (line_count B) LATE_TARGET) (late_rodata o P B R s W) ≡ drop (end_at P B (line_count B) LATE_TARGET) (late_rodata o P B S s W)
  late_rest_agree s W =
      let e = end_at P B (line_count B) LATE_TARGET in
      let m : length (drop e (late_rodata o P B R s W)) ≡ length R - e = rw (length-drop e (late_rodata o P B R s W), length_late o P B R s W) in
      let n : length (drop e (late_rodata o P B S s W)) ≡ length S - e = rw (length-drop e (late_rodata o P B S s W), length_late o P B S s W) in
      ext_get_or 0 (drop e (late_rodata o P B R s W)) (drop e (late_rodata o P B S s W)) (m ∙ rw long (sym n)) (λ j h.
      let l : e + j < length R = omega (arith, m) in
      let g : get_or R (e + j) 0 ≡ get_or S (e + j) 0 = sym (get_or-drop e R j 0) ∙ ap (λ (l : List ℕ). get_or l j 0) agree ∙ get_or-drop e S j 0 in
      get_or-drop e (late_rodata o P B R s W) j 0
      ∙ late_at_lem o P B R s W (e + j) l
      ∙ late_byte_agree s W (e + j) g
      ∙ sym (late_at_lem o P B S s W (e + j) (omega (arith, long)))
      ∙ sym (get_or-drop e (late_rodata o P B S s W) j 0))
