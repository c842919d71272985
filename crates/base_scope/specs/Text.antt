-- Texts of the documents, as the bytes that they are in a file (ASCII).
use Rattle.std.specs.Prelude.{ℕ, List, [], ◌∷◌}
use Prim.Native.Char.{Char, code}
use Prim.Native.String.{String, [] as empty, ◌∷◌ as ◌then◌}

unfoldable pub text : String → List ℕ
text empty = []
text (c then s) = code c ∷ text s
