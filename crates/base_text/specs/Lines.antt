-- Lines of text.
use Rattle.std.specs.Prelude.{ℕ, List, [], ◌∷◌, ◌++◌}

-- a line and its LF
unfoldable pub lined : List ℕ → List ℕ
lined s = s ++ (10 ∷ [])
