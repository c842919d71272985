-- Of the code, not of document 01: what each function leaves. C is the compiled object, A the assembled one, U the table of statics, `late` the table of the late step, f the
-- rest; T are the rows, L is the list with m positions, H their holders, O the order of the result and N the numbers of the ids.
use Rattle.std.specs.Prelude.{ℕ, ◌≡◌, List, length}
use Rattle.symbols_merge.specs.Merged.{RESULT_GROUPS}
use Rattle.symbols_rows.specs.Rows.{halves_in}
use Rattle.symbols_fill.specs.of_symbols_holders.Ready.{id_count, HoldersReady}
use Rattle.symbols_numbers.specs.Numbers.{order_in, group_starts, IdsNumbered}
use Rattle.symbols_fill.specs.declared.Filling.{Filling}
use Rattle.symbols_fill.specs.Fill.{FilledRows}

-- rows and list: the rows of all ids, and all that their holders are found by
pub record SymbolsListed (C A U late : List ℕ) (f : Filling) (T L : List ℕ) (m : ℕ) : Type 0 where
  pub filled : FilledRows C A U late f T (id_count f.sources) T
  pub ready : HoldersReady f.inputs.order C A U f.sources T L m

-- starts of the groups, order and numbers
pub record SymbolsNumbered (T L H : List ℕ) (m : ℕ) (starts O N : List ℕ) : Type 0 where
  pub groups : starts ≡ group_starts T L H m
  pub order : halves_in O (length (order_in T L H m RESULT_GROUPS)) ≡ order_in T L H m RESULT_GROUPS
  pub numbers : IdsNumbered T L H m m N
