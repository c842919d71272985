-- What may stand behind a key of the block file (document 01, "The block file").
use Rattle.std.specs.Prelude.{ℕ, ◌+◌, Bool, true, not, ◌&&◌, ◌||◌, List, length, take, drop, get_or, eqb, ltb, leb}
use Rattle.base_lists.specs.Ranges.{first}
use Rattle.base_scope.specs.Limits.{NUMBER_LIMIT, ALIGN8_LIMIT}
use Rattle.base_text.specs.Decimals.{decimal}

-- every byte of v passes a test
unfoldable pub every : (ℕ → Bool) → List ℕ → Bool
every p v = eqb (first (λ i. not (p (get_or v i 0))) 0 (length v)) (length v)

unfoldable pub is_digit : ℕ → Bool
is_digit x = leb 48 x && leb x 57

-- 0 to 9, a to f
unfoldable pub is_hex_digit : ℕ → Bool
is_hex_digit x = is_digit x || (leb 97 x && leb x 102)

-- digits, with no leading zero but in 0 itself
unfoldable pub is_number : List ℕ → Bool
is_number v = ltb 0 (length v) && (every is_digit v && (eqb (length v) 1 || not (eqb (get_or v 0 0) 48)))

-- a number up to a limit
unfoldable pub number_sound : ℕ → List ℕ → Bool
number_sound limit v = is_number v && leb (decimal v) limit

unfoldable pub space_at : List ℕ → ℕ → Bool
space_at v i = eqb (get_or v i 0) 32

-- the first space, or the end
unfoldable pub space_in : List ℕ → ℕ
space_in v = first (space_at v) 0 (length v)

-- a label has no space and is not empty
unfoldable pub label_sound : List ℕ → Bool
label_sound v = ltb 0 (length v) && eqb (space_in v) (length v)

-- `label size align8`: the part before the first space, the one between the two, and the rest
unfoldable pub label_in : List ℕ → List ℕ
label_in v = take (space_in v) v

unfoldable pub after_label : List ℕ → List ℕ
after_label v = drop (space_in v + 1) v

unfoldable pub size_in : List ℕ → List ℕ
size_in v = take (space_in (after_label v)) (after_label v)

unfoldable pub align_in : List ℕ → List ℕ
align_in v = drop (space_in (after_label v) + 1) (after_label v)

-- sizes go up to the limit of numbers, align8 up to its own
unfoldable pub span_sound : List ℕ → Bool
span_sound v = ltb 0 (space_in v) && (number_sound NUMBER_LIMIT (size_in v) && number_sound ALIGN8_LIMIT (align_in v))

-- a section's value is empty or `label size align8`
unfoldable pub line_sound : List ℕ → Bool
line_sound v = eqb (length v) 0 || span_sound v

-- eight hex digits
unfoldable pub dummy_sound : List ℕ → Bool
dummy_sound v = eqb (length v) 8 && every is_hex_digit v

unfoldable pub jump_table_sound : List ℕ → Bool
jump_table_sound v = number_sound NUMBER_LIMIT v

unfoldable pub empty_sound : List ℕ → Bool
empty_sound v = eqb (length v) 0

unfoldable pub any_sound : List ℕ → Bool
any_sound v = true
