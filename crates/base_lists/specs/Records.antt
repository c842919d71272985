-- Records of one width, one behind the other in a list of bytes.
use Rattle.std.specs.Prelude.{ℕ, zero, suc, ◌/◌, List, [], ◌∷◌, ◌++◌, length, take, drop}

-- the encodings of the elements, appended
unfoldable pub flat : {A : Type 0} → (A → List ℕ) → List A → List ℕ
flat encode [] = []
flat encode (x ∷ xs) = encode x ++ flat encode xs

-- n records of w bytes each, decoded
unfoldable pub read_n : {A : Type 0} → ℕ → (List ℕ → A) → ℕ → List ℕ → List A
read_n w decode zero l = []
read_n w decode (suc n) l = decode (take w l) ∷ read_n w decode n (drop w l)

-- every whole record of w bytes
unfoldable pub read_all : {A : Type 0} → ℕ → (List ℕ → A) → List ℕ → List A
read_all w decode l = read_n w decode (length l / w) l
