-- Numbers in bytes, in a byte order (gABI, "Data Encoding": ELFDATA2MSB has the most significant byte first, ELFDATA2LSB the least).
use Rattle.std.specs.Prelude.{ℕ, zero, suc, ◌+◌, ◌*◌, ◌/◌, ◌%◌, ◌^◌, List, [], ◌∷◌, reverse, length, take, drop}
use Rattle.base_fields.specs.declared.ByteOrder.{ByteOrder}
use Rattle.base_fields.specs.declared.ByteOrder.TheVariants.{Big, Little}

-- bytes as they lie in the file, with the most significant first; and back
unfoldable pub turned : ByteOrder → List ℕ → List ℕ
turned Big l = l
turned Little l = reverse l

-- the number that bytes make, the most significant first
unfoldable pub magnitude : List ℕ → ℕ
magnitude [] = 0
magnitude (b ∷ l) = b * 256 ^ length l + magnitude l

-- the w bytes of a number below 256 ^ w, the most significant first
unfoldable pub digits : ℕ → ℕ → List ℕ
digits zero x = []
digits (suc w) x = x / 256 ^ w ∷ digits w (x % 256 ^ w)

-- the number in the w bytes at o
unfoldable pub number : ByteOrder → ℕ → List ℕ → ℕ → ℕ
number order w l o = magnitude (turned order (take w (drop o l)))

-- the w bytes of a number, as they lie in the file
unfoldable pub encoded : ByteOrder → ℕ → ℕ → List ℕ
encoded order w x = turned order (digits w x)
