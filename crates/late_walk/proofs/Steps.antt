-- The laws of the step of a block: one that is switched off has no items, one that is not has its dummies and its jump table. Assumes nothing.
use Rattle.std.specs.Prelude.{None, Some}
use Prim.Native.Nat.{ℕ, ◌+◌, ◌*◌, ◌<◌}
use mathlib.Core.Path.{◌≡◌, sym, ap, ◌∙◌}
use mathlib.Core.Bool.{true, false}
use mathlib.Core.List.{List}
use native.Mathlib.Omega.{arith}
use lib.Dec.{ltb}
use borrow.Author.Tests.{lt-ltb, le-ltb}
use Rattle.base_lists.specs.Windows.{spliced}
use Rattle.base_lists.proofs.Ranges.{first_end}
use Rattle.base_lists.proofs.Windows.{spliced_nil}
use Rattle.base_fields.specs.declared.ByteOrder.{ByteOrder}
use Rattle.late_blocks.specs.of_blocks_items.Items.{dummy_count, jump_table}
use Rattle.late_blocks.specs.of_blocks_places.Places.{Place, live}
use Rattle.late_blocks.proofs.of_late_length.Late.{bytes_live, bytes_off}
use Rattle.late_blocks.specs.of_late_moves.Moves.{last_from, items}
use Rattle.late_blocks.proofs.of_late_moves.Moves.{last_from_zero, items_live, items_off}
use Rattle.late_blocks.specs.Items.{fault_from, sound_items, place_words}
use Rattle.late_blocks.proofs.Items.{words_zero}
use Rattle.late_walk.specs.declared.LateRow.{LateRow}
use Rattle.late_walk.specs.Steps.{live_dummies, block_step}

module _ (o : ByteOrder) (P : List Place) (B R : List ℕ) (i : ℕ) (row : LateRow) where
  module _ (count n : ℕ) (t : live P B i ≡ true) (d : count ≡ dummy_count B i) (j : n ≡ jump_table B i) where
    live_items : items P B i ≡ count + 1
    live_items = items_live P B i t ∙ ap (λ (k : ℕ). k + 1) (sym d)

    pub live_count : live_dummies P B i ≡ count
    unfolding live_dummies
    live_count = rw (t, d)

    pub words_live : (before after : List ℕ) (at : ℕ) → after ≡ spliced before at (place_words o B R i row.last count)
        → after ≡ spliced before at (place_words o B R i row.last (live_dummies P B i))
    words_live before after at e = rw live_count e

    pub step_next : (p : ℕ) → sound_items o B R i row.last (count + 1) ≡ count + 1 → p ≡ last_from o B R i row.last (count + 1)
        → Some (record { source = row.source + 4 * count + n; dummies = row.dummies + count; last = p }) ≡ block_step o P B R i row
    unfolding block_step
    step_next p e q =
        let h : ltb (count + 1) (count + 1) ≡ false = le-ltb (count + 1) (count + 1) (omega arith) in
        let b : row.source + 4 * count + n ≡ row.source + (4 * count + n) = omega arith in
        rw (live_items, e, h, live_count, bytes_live P B i t, ← d, ← j, b, q)

    pub step_stop : sound_items o B R i row.last (count + 1) < count + 1 → None ≡ block_step o P B R i row
    unfolding block_step
    step_stop h = rw (live_items, lt-ltb _ _ h)

  module _ (f : live P B i ≡ false) where
    pub off_count : live_dummies P B i ≡ 0
    unfolding live_dummies
    off_count = rw f

    pub step_off : Some row ≡ block_step o P B R i row
    unfolding block_step sound_items
    step_off =
        let s : row.source + 0 ≡ row.source = omega arith in
        let d : row.dummies + 0 ≡ row.dummies = omega arith in
        rw (items_off P B i f, first_end (fault_from o B R i row.last) 0 0 (omega arith), off_count, bytes_off P B i f, last_from_zero o B R i row.last, s, d)

    pub words_off : (late : List ℕ) (at : ℕ) → late ≡ spliced late at (place_words o B R i row.last (live_dummies P B i))
    unfolding place_words sound_items
    words_off late at =
        rw (off_count, first_end (fault_from o B R i row.last) 0 0 (omega arith), words_zero o B R i row.last) (sym (spliced_nil late at))
