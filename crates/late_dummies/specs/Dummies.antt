-- Where a dummy stands in .rodata R, and where its late word goes (document 01, "Late words"). A dummy is a word in the object's byte order.
use Rattle.std.specs.Prelude.{ℕ, ◌+◌, ◌-◌, Bool, cond, ◌&&◌, ◌||◌, List, length, eqb, ltb}
use Rattle.base_lists.specs.Ranges.{first}
use Rattle.base_fields.specs.declared.ByteOrder.{ByteOrder}
use Rattle.base_fields.specs.Numbers.{number}

module _ (o : ByteOrder) (R : List ℕ) where
  -- the four bytes at k are the word w
  unfoldable pub word_at : ℕ → ℕ → Bool
  word_at w k = eqb (number o 4 R k) w

  -- each dummy is searched from the last place, at any byte: the first place from `last` on where it stands; where it stands at none, a place
  -- with fewer than four bytes behind it
  unfoldable pub found : ℕ → ℕ → ℕ
  found last w = first (word_at w) last (length R - 3)

  -- the first of two or more dummies, followed by four zero bytes, moves on by 4
  unfoldable pub shifts : Bool → ℕ → ℕ → Bool
  shifts many last w = many && word_at 0 (found last w + 4)

  unfoldable pub placed : Bool → ℕ → ℕ → ℕ
  placed many last w = cond (shifts many last w) (found last w + 4) (found last w)

  -- refusal 14: the dummy is not found, or fewer than 8 bytes stand there at a shift test
  unfoldable pub is_lost : Bool → ℕ → ℕ → Bool
  is_lost many last w = ltb (length R) (found last w + 4) || (many && ltb (length R) (found last w + 8))
