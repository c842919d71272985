-- Numbers in decimal digits: what digits write, and the digits of a number (proofs/Decimals.antt, `decimal_text_lem`: reading them gives the number back).
use Rattle.std.specs.Prelude.{ℕ, zero, suc, ◌+◌, ◌-◌, ◌*◌, ◌/◌, ◌%◌, List, [], ◌∷◌, ◌++◌, ltb}
use Rattle.base_lists.specs.Ranges.{pick_list}

-- the number that digits write, behind a number n
unfoldable pub decimal_from : ℕ → List ℕ → ℕ
decimal_from n [] = n
decimal_from n (x ∷ v) = decimal_from (n * 10 + (x - 48)) v

abbrev pub decimal : List ℕ → ℕ
decimal v = decimal_from 0 v

-- the digits of a number of at most k + 1 digits
unfoldable pub digits_text : ℕ → ℕ → List ℕ
digits_text zero n = (48 + n) ∷ []
digits_text (suc k) n = pick_list (ltb n 10) ((48 + n) ∷ []) (digits_text k (n / 10) ++ ((48 + n % 10) ∷ []))

-- of a number below 10 ^ 10: a distance between two places fits
unfoldable pub decimal_text : ℕ → List ℕ
decimal_text n = digits_text 9 n
