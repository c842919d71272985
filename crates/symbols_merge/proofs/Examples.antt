-- Small merges in numbers, by computing the definitions: document 01's order of symbols, and what the edits of this crate are held against. Assumes nothing.
use Prim.Native.Nat.{ℕ}
use mathlib.Core.Path.{◌≡◌, refl}
use mathlib.Core.Bool.{Bool, true}
use mathlib.Core.List.{List, [], ◌∷◌}
use lib.ListN.{get_or}
use Rattle.base_lists.specs.Ranges.{first_from, count, gather, select}
use Rattle.base_lists.specs.Strings.{same}
use Rattle.base_groups.specs.Groups.{in_group, of_group, grouped, grouped_place}
use Rattle.base_groups.specs.Holders.{holder, is_holder}
use Rattle.base_scope.specs.Text.{text}
use Rattle.base_scope.specs.Refusals.{LOOSE_SYMBOL, NAME_TWICE, found_below}
use Rattle.base_answers.specs.Answers.{NONE}
use Rattle.base_answers.specs.Verdicts.{Passed, Refused, also, finding_verdict}
use Rattle.symbols_merge.specs.Candidates.{Candidates, is_defined, is_unnamed, is_local, is_gp_disp}
use Rattle.symbols_merge.specs.Listed.{list_group, listed, position, listed_at, is_alike, holder_of, is_loose, is_elsewhere, symbols_verdict}
use Rattle.symbols_merge.specs.Merged.{result_group, is_merged, group_at_position, merged, merged_count, local_count, merged_at, held_by, number_of}

-- five candidates: g global, _gp_disp global and undefined, u global and undefined, l local, g again at the same place; then with the last g elsewhere
abbrev names : List (List ℕ)
names = text "g" ∷ text "_gp_disp" ∷ text "u" ∷ text "l" ∷ text "g" ∷ []

abbrev five : ℕ → Candidates
five place = record {
  many = 5;
  taken = λ i. true;
  name = λ i. get_or names i [];
  section = λ i. get_or (1 ∷ 0 ∷ 0 ∷ 1 ∷ 1 ∷ []) i 0;
  value = λ i. get_or (8 ∷ 0 ∷ 0 ∷ 4 ∷ place ∷ []) i 0;
  binding = λ i. get_or (1 ∷ 1 ∷ 1 ∷ 0 ∷ 1 ∷ []) i 0;
}

-- defined before undefined
pub list_order : listed (five 8) ≡ 0 ∷ 3 ∷ 4 ∷ 1 ∷ 2 ∷ []
unfolding listed list_group is_defined grouped of_group in_group gather select
list_order = refl

-- l, g, u, _gp_disp, as positions; two locals, entry 0 counted
pub result_order : merged (five 8) ≡ 1 ∷ 0 ∷ 4 ∷ 3 ∷ []
unfolding merged is_merged group_at_position result_group is_local is_gp_disp is_holder holder is_alike is_unnamed listed_at listed list_group is_defined grouped of_group in_group gather select first_from same text
result_order = refl

pub two_locals : local_count (five 8) ≡ 2
unfolding local_count is_merged group_at_position result_group is_local is_gp_disp is_holder holder is_alike is_unnamed listed_at listed list_group is_defined grouped of_group in_group gather select first_from same text
two_locals = refl

-- the second g has the number of the first
pub one_number : number_of (five 8) 4 ≡ 2
unfolding number_of position grouped_place count holder_of is_merged group_at_position result_group is_local is_gp_disp is_holder holder is_alike is_unnamed listed_at listed list_group is_defined grouped of_group in_group gather select first_from same text
one_number = refl

-- at another place it is refused by 19, at its position
pub two_places : symbols_verdict (five 12) ≡ Refused NAME_TWICE NONE 2
unfolding symbols_verdict also finding_verdict found_below is_loose is_elsewhere holder_of is_local holder is_alike is_unnamed listed_at listed list_group is_defined grouped of_group in_group gather select first_from same text
two_places = refl

pub one_place : symbols_verdict (five 8) ≡ Passed
unfolding symbols_verdict also finding_verdict found_below is_loose is_elsewhere holder_of is_local holder is_alike is_unnamed listed_at listed list_group is_defined grouped of_group in_group gather select first_from same text
one_place = refl

-- u, local and undefined, and g: refused by 18, at the position of u
abbrev local_u : Candidates
local_u = record {
  many = 2;
  taken = λ i. true;
  name = λ i. get_or (text "u" ∷ text "g" ∷ []) i [];
  section = λ i. i;
  value = λ i. 0;
  binding = λ i. i;
}

pub undefined_local : symbols_verdict local_u ≡ Refused LOOSE_SYMBOL NONE 1
unfolding symbols_verdict also finding_verdict found_below is_loose is_elsewhere holder_of is_local holder is_alike is_unnamed listed_at listed list_group is_defined grouped of_group in_group gather select first_from same text
undefined_local = refl

-- the first g holds the second
pub held_by_first : held_by (five 8) 4 ≡ 0
unfolding held_by position grouped_place count holder_of is_merged group_at_position result_group is_local is_gp_disp is_holder holder is_alike is_unnamed listed_at listed list_group is_defined grouped of_group in_group gather select first_from same text
held_by_first = refl
