-- What document 01 says of lent buffers: zero on every return, and zero past a result's length.
use Rattle.std.specs.Prelude.{ℕ, ◌-◌, List, ◌++◌, length, take, replicate}

unfoldable pub zeros : ℕ → List ℕ
zeros n = replicate n 0

-- l with zeros from n on
unfoldable pub zeroed_from : List ℕ → ℕ → List ℕ
zeroed_from l n = take n l ++ zeros (length l - n)
