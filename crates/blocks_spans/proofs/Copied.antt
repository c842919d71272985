-- The laws of block copying, each over the width: bytes that no span meets are C's, bytes under one span are A's, and from the end of the last span on nothing changes.
-- Assumes nothing.
use Prim.Native.Nat.{ℕ, ◌+◌, ◌-◌, ◌≤◌, ◌<◌}
use mathlib.Core.Path.{◌≡◌, sym, ap, ◌∙◌}
use mathlib.Core.Logic.{◌⊎◌, inl, inr, ⊎_elim}
use mathlib.Core.Bool.{true, false}
use mathlib.Core.List.{List, []}
use native.Mathlib.Omega.{arith}
use lib.ListN.{length, take, drop, get_or, length-take, length-drop, get_or-eq_default}
use lib.Seq.{ext_get_or, get_or-drop}
use Rattle.base_lists.proofs.Ranges.{by-lt, select_zero, select_all_length, select_all_at}
use Rattle.base_lists.proofs.Windows.{part_ext, part_same}
use Rattle.blocks_spans.specs.declared.Span.{Span}
use Rattle.blocks_spans.specs.Spans.{span_end, span_at, is_covered, last_end, Ascends}
use Rattle.blocks_spans.specs.Copied.{copied_byte, copied}
use Rattle.blocks_spans.proofs.Spans.{covers_of, covers_not, covered_by_lem, covered_none, covered_past}

module _ (L : List Span) (S T : List ℕ) where
  pub length_copied : length (copied L S T) ≡ length S
  unfolding copied
  length_copied = select_all_length (copied_byte L S T) (length S)

  pub copied_at : (k : ℕ) → k < length S → get_or (copied L S T) k 0 ≡ copied_byte L S T k
  unfolding copied
  copied_at k h = select_all_at (copied_byte L S T) k (length S) 0 h

  past : (l : List ℕ) (k : ℕ) → length l ≤ k → get_or l k 0 ≡ 0
  past l k h = get_or-eq_default l 0 h

  -- C's byte where no span lies, also past the end
  pub copied_compiled : (k : ℕ) → is_covered L k ≡ false → get_or (copied L S T) k 0 ≡ get_or S k 0
  unfolding copied_byte
  copied_compiled k f = by-lt k (length S)
      (λ h. copied_at k h ∙ rw f)
      (λ h. past (copied L S T) k (rw length_copied h) ∙ sym (past S k h))

  -- A's byte under a span
  pub copied_assembled : (k : ℕ) → k < length S → is_covered L k ≡ true → get_or (copied L S T) k 0 ≡ get_or T k 0
  unfolding copied_byte
  copied_assembled k h t = copied_at k h ∙ rw t

  -- w bytes that no span meets are C's
  pub copied_outside : (k w : ℕ) → ((r : ℕ) → r < length L → (span_end (span_at L r) ≤ k) ⊎ (k + w ≤ (span_at L r).place)) → take w (drop k (copied L S T)) ≡ take w (drop k S)
  copied_outside k w out = part_ext (copied L S T) S k k w
      (rw (length-take w (drop k (copied L S T)), length-take w (drop k S), length-drop, length-drop, length_copied))
      (λ i h. copied_compiled (k + i) (covered_none L (k + i) (λ r l.
      covers_not L (k + i) r (⊎_elim (λ (e : span_end (span_at L r) ≤ k). inl (omega arith)) (λ (e : k + w ≤ (span_at L r).place). inr (omega arith)) (out r l)))))

  -- w bytes under one span are A's, where the span lies inside both sections (refusal 11)
  pub copied_under : (k w r : ℕ) → r < length L → (span_at L r).place ≤ k → k + w ≤ span_end (span_at L r) → span_end (span_at L r) ≤ length S → span_end (span_at L r) ≤ length T
      → take w (drop k (copied L S T)) ≡ take w (drop k T)
  copied_under k w r h l u in_c in_a = part_same (copied L S T) T k k w (rw length_copied (omega arith)) (omega arith)
      (λ i g. copied_assembled (k + i) (omega arith) (covered_by_lem L (k + i) r h (covers_of L (k + i) r (omega arith) (omega arith))))

  -- from the end of the last span on, block copying changes nothing: what is searched there may be C's own bytes
  pub copied_past : Ascends L → drop (last_end L) (copied L S T) ≡ drop (last_end L) S
  copied_past a =
      let e = last_end L in
      ext_get_or 0 (drop e (copied L S T)) (drop e S) (length-drop e (copied L S T) ∙ ap (λ (n : ℕ). n - e) length_copied ∙ sym (length-drop e S))
      (λ i h. get_or-drop e (copied L S T) i 0 ∙ copied_compiled (e + i) (covered_past L a (e + i) (omega arith)) ∙ sym (get_or-drop e S i 0))

-- a section that holds no bytes, as .bss, has none after block copying
pub copied_none : (L : List Span) (T : List ℕ) → copied L [] T ≡ []
unfolding copied
copied_none L T = select_zero (λ k. true) (copied_byte L [] T)
