-- Which of two lent string tables a name is a part of.
use Rattle.std.specs.Prelude.{List, ℕ}
use Rattle.base_names.specs.declared.Owner.{Owner}
use Rattle.base_names.specs.declared.Owner.TheVariants.{Compiled, Assembled}

unfoldable pub table_of : Owner → List ℕ → List ℕ → List ℕ
table_of Compiled compiled assembled = compiled
table_of Assembled compiled assembled = assembled
