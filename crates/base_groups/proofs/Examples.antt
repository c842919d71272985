-- The two orders in numbers, by computing the definitions: what the edits of this crate are held against. Assumes nothing.
use Prim.Native.Nat.{ℕ, ◌%◌}
use mathlib.Core.Path.{◌≡◌, refl}
use mathlib.Core.Bool.{Bool, true, not}
use mathlib.Core.List.{List, [], ◌∷◌}
use lib.Dec.{eqb}
use Rattle.base_lists.specs.Ranges.{first_from, count, gather, select}
use Rattle.base_groups.specs.Groups.{in_group, of_group, grouped, grouped_place}
use Rattle.base_groups.specs.Holders.{holder, is_holder}

-- all but 3 of the indices below 6, even ones first
abbrev kept : ℕ → Bool
kept i = not (eqb i 3)

abbrev odd : ℕ → ℕ
odd i = i % 2

pub even_first : grouped kept odd 6 2 ≡ 0 ∷ 2 ∷ 4 ∷ 1 ∷ 5 ∷ []
unfolding grouped of_group in_group gather select
even_first = refl

pub place_of_five : grouped_place kept odd 6 5 ≡ 4
unfolding grouped_place grouped of_group in_group gather select count
place_of_five = refl

-- indices of one remainder by 3 are alike
abbrev thirds : ℕ → ℕ → Bool
thirds p q = eqb (p % 3) (q % 3)

pub first_holds : holder thirds 6 5 ≡ 2
unfolding holder first_from
first_holds = refl
