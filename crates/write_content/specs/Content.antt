-- Of the code, not of document 01: the names of the new sections, by the rows of homes in hand (crate carry_homes, specs/Code.antt). A is the assembled object; `stay` sections
-- stand before the new ones.
use Rattle.std.specs.Prelude.{ℕ, ◌≤◌, ◌<◌, ◌≡◌, true, List}
use Rattle.base_lists.specs.Ranges.{gather}
use Rattle.base_fields.specs.declared.ByteOrder.{ByteOrder}
use Rattle.base_scope.specs.Limits.{SECTION_LIMIT}
use Rattle.carry_homes.specs.Homes.{carried_count, home_name}
use Rattle.carry_homes.specs.Code.{opened_in, TablesListed}
use Rattle.write_strings.specs.Strings.{zero_ended}

module _ (o : ByteOrder) (A homes : List ℕ) (n stay : ℕ) where
  -- the name of the i-th new section with its zero byte: that of the table that opens it
  unfoldable pub new_name_in : ℕ → List ℕ
  new_name_in i = zero_ended (home_name o A (opened_in homes n stay i))

  -- and those of the first `many`
  unfoldable pub new_names_in : ℕ → List ℕ
  new_names_in many = gather (λ i. true) new_name_in many

  -- what is in hand of the first `many` new sections: the carried tables are listed in n rows, and each of these sections is opened by one of them
  pub record NewRows (many : ℕ) : Type 0 where
    pub tables : TablesListed o A (carried_count o A) homes
    pub rows : n ≡ carried_count o A
    pub low : stay ≤ SECTION_LIMIT
    pub few : many ≤ SECTION_LIMIT
    pub opened : (i : ℕ) → i < many → opened_in homes n stay i < n
