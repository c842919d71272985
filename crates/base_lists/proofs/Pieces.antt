-- The laws of pieces, over any kind of piece: where none is empty and each is the part of W at its offset, they are W one behind the other; and W is written
-- piece by piece. Assumes nothing.
use Prim.Native.Nat.{ℕ, zero, suc, ◌+◌, ◌≤◌, ◌<◌}
use mathlib.Core.Path.{◌≡◌, refl, sym, ap, ◌∙◌}
use mathlib.Core.List.{List, []}
use native.Mathlib.Omega.{arith}
use lib.ListN.{length, take, drop, drop_of_length-le, take-append-drop}
use lib.Seq.{drop-drop, take-add, take_all, length-take-le}
use borrow.Author.Tests.{lt-ltb, le-ltb}
use Rattle.base_lists.specs.Windows.{spliced}
use Rattle.base_lists.specs.Records.{flat}
use Rattle.base_lists.proofs.Ranges.{by-lt}
use Rattle.base_lists.proofs.Windows.{length_part, length_spliced, spliced_nil, spliced_then}
use Rattle.base_lists.proofs.Records.{flat_none, flat_cons}
use Rattle.base_lists.specs.Pieces.{pieces_from}

module _ {R : Type 0} (bytes : R → List ℕ) (long : R → ℕ) (piece : ℕ → R) (W : List ℕ) (m : ℕ) (same : length W ≡ m)
    (some : (k : ℕ) → k < m → 0 < long (piece k)) (part : (k : ℕ) → k < m → bytes (piece k) ≡ take (long (piece k)) (drop k W)) where
  none_left : (k : ℕ) → m ≤ k → [] ≡ drop k W
  none_left k h =
      let g : length W ≤ k = omega arith in
      sym (drop_of_length-le W g)

  pub pieces_rest : (n k : ℕ) → m ≤ k + n → flat bytes (pieces_from piece long m k n) ≡ drop k W
  unfolding pieces_from
  pieces_rest zero k h = flat_none bytes ∙ none_left k (omega arith)
  pieces_rest (suc n) k h = by-lt k m
      (λ l.
      rw (lt-ltb _ _ l, flat_cons, part k l, pieces_rest n (k + long (piece k)) (omega (arith, some k l)), ← drop-drop (long (piece k)) k W)
      (take-append-drop (long (piece k)) (drop k W)))
      (λ l. rw (le-ltb _ _ l) (flat_none bytes ∙ none_left k l))

  pub pieces_whole : flat bytes (pieces_from piece long m 0 m) ≡ W
  pieces_whole = pieces_rest m 0 (omega arith)

-- ---- writing piece by piece

-- the first k bytes of W are written at `at`
pub record Begun (W : List ℕ) (at : ℕ) (before : List ℕ) (k : ℕ) (after : List ℕ) : Type 0 where
  pub few : k ≤ length W
  pub long : length after ≡ length before
  pub bytes : after ≡ spliced before at (take k W)

pub begun_none : (W : List ℕ) (at : ℕ) (before : List ℕ) → Begun W at before 0 before
begun_none W at before = record { few = omega arith; long = refl; bytes = sym (spliced_nil before at) }

module _ (W : List ℕ) (at : ℕ) (before : List ℕ) (k : ℕ) (m : List ℕ) (so_far : Begun W at before k m) where
  -- n bytes more
  pub begun_next : (n : ℕ) (after : List ℕ) → at + length W ≤ length before → k + n ≤ length W → after ≡ spliced m (at + k) (take n (drop k W))
      → Begun W at before (k + n) after
  begun_next n after room h is =
      let a : length (take k W) ≡ k = length-take-le k W so_far.few in
      let b : length (take n (drop k W)) ≡ n = length_part W k n h in
      let f : at + k ≡ at + length (take k W) = ap (λ (x : ℕ). at + x) (sym a) in
      let g : at + k + length (take n (drop k W)) ≤ length before = omega (arith, b) in
      let e : after ≡ spliced before at (take (k + n) W) =
      is
      ∙ ap (λ (x : List ℕ). spliced x (at + k) (take n (drop k W))) so_far.bytes
      ∙ spliced_then before at (take k W) (take n (drop k W)) (at + k) f g
      ∙ ap (spliced before at) (sym (take-add k n W)) in
      let q : length (take (k + n) W) ≡ k + n = length-take-le (k + n) W h in
      let u : at + length (take (k + n) W) ≤ length before = omega (arith, q) in
      record { few = h; long = ap length e ∙ length_spliced before at (take (k + n) W) u; bytes = e }

  pub begun_end : length W ≤ k → m ≡ spliced before at W
  begun_end h = so_far.bytes ∙ ap (spliced before at) (take_all k W h)
