-- The laws of a joined .reginfo: its length and its bytes. Assumes nothing.
use Prim.Native.Nat.{ℕ, ◌+◌, ◌≤◌, ◌<◌}
use mathlib.Core.Path.{◌≡◌, refl, sym, ap, ◌∙◌}
use mathlib.Core.List.{List, [], ◌∷◌}
use native.Mathlib.Omega.{arith}
use lib.ListN.{length, get_or, take, set}
use lib.Seq.{take_all}
use borrow.Author.Tests.{lt-ltb, le-ltb}
use Rattle.base_lists.specs.Ranges.{gather, select}
use Rattle.base_lists.specs.Windows.{spliced}
use Rattle.base_lists.proofs.Windows.{spliced_nil, spliced_copy}
use Rattle.base_lists.proofs.Ranges.{select_all_at, select_all_length}
use Rattle.copy_registers.specs.Reginfo.{or_byte, joined_byte, joined}

module _ (C A : List ℕ) where
  pub length_joined : length (joined C A) ≡ length C
  unfolding joined
  length_joined = select_all_length (joined_byte C A) (length C)

  pub joined_at : (k : ℕ) → k < length C → get_or (joined C A) k 0 ≡ joined_byte C A k
  unfolding joined
  joined_at k h = select_all_at (joined_byte C A) k (length C) 0 h

  -- over the shorter length, and behind A's end
  pub byte_both : (k : ℕ) → k < length A → or_byte (get_or C k 0) (get_or A k 0) ≡ joined_byte C A k
  unfolding joined_byte
  byte_both k h = rw (lt-ltb _ _ h)

  pub byte_alone : (k : ℕ) → length A ≤ k → get_or C k 0 ≡ joined_byte C A k
  unfolding joined_byte
  byte_alone k h = rw (le-ltb _ _ h)

  -- a loop that writes the section byte by byte: before its first turn, one turn, and past its last
  module _ (l : List ℕ) (o : ℕ) where
    pub joining_none : l ≡ spliced l o (take 0 (joined C A))
    joining_none = sym (spliced_nil l o)

    pub joining_next : (m : List ℕ) (i x : ℕ) → o + length C ≤ length l → i < length C → x ≡ joined_byte C A i → m ≡ spliced l o (take i (joined C A))
        → set m (o + i) x ≡ spliced l o (take (i + 1) (joined C A))
    joining_next m i x h u is before =
        let e : x ≡ get_or (joined C A) i 0 = is ∙ sym (joined_at i u) in
        rw (before, e) (spliced_copy l o (joined C A) i (rw length_joined h) (rw length_joined u))

    pub joining_end : (m : List ℕ) (i : ℕ) → length C ≤ i → m ≡ spliced l o (take i (joined C A)) → m ≡ spliced l o (joined C A)
    joining_end m i h before = before ∙ ap (spliced l o) (take_all i (joined C A) (rw length_joined h))

-- C's 0F F0 07 with A's F1 80: the bits of either, and C's last byte as it was
pub joined_pair : joined (15 ∷ 240 ∷ 7 ∷ []) (241 ∷ 128 ∷ []) ≡ 255 ∷ 240 ∷ 7 ∷ []
unfolding joined joined_byte or_byte select gather
joined_pair = refl
