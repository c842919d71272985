-- The laws of the late part: when a block has late lines, and what a turn of each loop over the blocks adds or finds. Assumes nothing.
use Prim.Native.Nat.{ℕ, ◌+◌, ◌≤◌, ◌<◌}
use mathlib.Core.Path.{◌≡◌, sym, ◌∙◌}
use mathlib.Core.Bool.{true, false}
use mathlib.Core.List.{List, []}
use native.Mathlib.Omega.{arith}
use lib.ListN.{length}
use borrow.Author.Tests.{lt-ltb, le-ltb}
use Rattle.base_lists.specs.Ranges.{first, gather}
use Rattle.base_lists.proofs.Ranges.{first_here, first_end, gather_zero, gather_yes, gather_no}
use Rattle.base_lists.specs.Written.{Written}
use Rattle.base_lists.proofs.Written.{written_none, written_then, written_as}
use Rattle.base_scope.specs.Text.{text}
use Rattle.base_text.specs.Lines.{lined}
use Rattle.base_text.proofs.Lines.{length_lined}
use Rattle.blocks_lines.specs.Keys.{KEY_LATE, is_key_line}
use Rattle.blocks_file.specs.Blocks.{group_at, block_at, block_count}
use Rattle.blocks_places.specs.Places.{Place, live}
use Rattle.draft_lines.specs.Lines.{group_lines}
use Rattle.draft_text.specs.Draft.{late_text, late_lines, late_at, has_late, late_part}

module _ (P : List Place) (B : List ℕ) where
  -- ---- whether a block has late lines

  pub late_live : (i a : ℕ) → live P B i ≡ true → a ≡ group_at B (block_at B i) KEY_LATE → is_key_line B KEY_LATE a ≡ late_at P B i
  unfolding late_at
  late_live i a t e = rw (t, e)

  pub late_off : (i : ℕ) → live P B i ≡ false → false ≡ late_at P B i
  unfolding late_at
  late_off i f = rw f

  -- ---- the search for such a block: none before block i has any

  pub some_late : (i : ℕ) → i < block_count B → first (late_at P B) 0 (block_count B) ≡ first (late_at P B) i (block_count B) → late_at P B i ≡ true
      → true ≡ has_late P B
  unfolding has_late
  some_late i h e t =
      let f : first (late_at P B) 0 (block_count B) ≡ i = e ∙ first_here (late_at P B) i (block_count B) h t in
      sym (lt-ltb (first (late_at P B) 0 (block_count B)) (block_count B) (omega (arith, f)))

  pub none_late : (i : ℕ) → block_count B ≤ i → first (late_at P B) 0 (block_count B) ≡ first (late_at P B) i (block_count B) → false ≡ has_late P B
  unfolding has_late
  none_late i h e =
      let f : first (late_at P B) 0 (block_count B) ≡ i = e ∙ first_end (late_at P B) i (block_count B) h in
      sym (le-ltb (first (late_at P B) 0 (block_count B)) (block_count B) (omega (arith, f)))

  -- ---- the late lines of the blocks before block i

  pub late_start_lem : (out : List ℕ) (at : ℕ) → Written out at (gather (live P B) (late_text B) 0) at out
  late_start_lem out at = written_as out at [] _ at out (sym (gather_zero (live P B) (late_text B))) (written_none out at)

  -- a turn of the loop: the lines of a block that stays on come behind those before, and a block that is switched off adds none
  module _ (out : List ℕ) (at i r : ℕ) (p : List ℕ) (w : Written out at (gather (live P B) (late_text B) i) r p) where
    pub late_turn : (q : ℕ) (u : List ℕ) → live P B i ≡ true → Written p r (group_lines B KEY_LATE (group_at B (block_at B i) KEY_LATE)) q u
        → Written out at (gather (live P B) (late_text B) (i + 1)) q u
    unfolding late_text
    late_turn q u t v = written_as _ _ _ _ _ _ (sym (gather_yes (live P B) (late_text B) i t)) (written_then _ _ _ _ _ _ _ _ w v)

    pub late_pass : live P B i ≡ false → Written out at (gather (live P B) (late_text B) (i + 1)) r p
    late_pass f = written_as _ _ _ _ _ _ (sym (gather_no (live P B) (late_text B) i f)) w

    pub late_done : i ≡ block_count B → Written out at (late_lines P B) r p
    unfolding late_lines
    late_done e = rw e at w

  -- ---- the whole part

  -- where no block has late lines nothing is written
  pub part_none : (out : List ℕ) (at : ℕ) → has_late P B ≡ false → Written out at (late_part P B) at out
  unfolding late_part
  part_none out at f = rw f (written_none out at)

  -- five texts in a row are the part where one has
  pub part_some : (out : List ℕ) (at a : ℕ) (pa : List ℕ) (b : ℕ) (pb : List ℕ) (c : ℕ) (pc : List ℕ) (d : ℕ) (pd : List ℕ) (e : ℕ) (pe : List ℕ)
      → has_late P B ≡ true
      → Written out at (lined (text ".section .late_rodata")) a pa
      → Written pa a (lined (text ".word 0, 0")) b pb
      → Written pb b (lined (text "glabel _asmpp_late_rodata_start")) c pc
      → Written pc c (late_lines P B) d pd
      → Written pd d (lined (text "glabel _asmpp_late_rodata_end")) e pe
      → Written out at (late_part P B) e pe
  unfolding late_part
  part_some out at a pa b pb c pc d pd e pe t first_line_lem second-line third-line lines last_Line =
      rw t
      (written_then _ _ _ _ _ _ _ _ first_line_lem
      (written_then _ _ _ _ _ _ _ _ second-line
      (written_then _ _ _ _ _ _ _ _ third-line
      (written_then _ _ _ _ _ _ _ _ lines last_Line))))

-- a line's end: its bytes and one more behind its start
pub line_ends : (o : List ℕ) (at : ℕ) (s : List ℕ) (r : ℕ) (p : List ℕ) → Written o at (lined s) r p → r ≡ at + length s + 1
line_ends o at s r p w = omega (arith, w.end, length_lined s)
