-- Of the code, not of document 01: the two parts of a working name, and what is in hand to read them. C and A are the objects, T the table of statics.
use Rattle.std.specs.Prelude.{ℕ, zero, suc, ◌+◌, ◌-◌, ◌*◌, ◌/◌, ◌≤◌, cond, List, length, eqb, ltb}
use Rattle.base_lists.specs.Strings.{same}
use Rattle.base_fields.specs.declared.ByteOrder.{ByteOrder}
use Rattle.base_scope.specs.Text.{text}
use Rattle.base_scope.specs.Limits.{SYMBOL_LIMIT, STATIC_LIMIT, STATIC_ROW}
use Rattle.elf_symbols.specs.Symbols.{symbol_name, Table}
use Rattle.statics_table.specs.declared.Static.{Static}
use Rattle.statics_table.specs.Statics.{stored_name}
use Rattle.statics_table.specs.Table.{static_in, CountedRows}
use Rattle.symbols_ids.specs.of_statics_entry.Entry.{nth}
use Rattle.symbols_ids.specs.Ids.{by_origin}
use Rattle.symbols_names.specs.declared.Sources.{Sources}
use Rattle.symbols_names.specs.declared.NameKind.{NameKind}

-- the parts of `name_of`: what is stored, and the count behind it, 0 where there is none (proofs/Names.antt, `name_parts`)
module _ (o : ByteOrder) (C A : List ℕ) (S : List Static) where
  unfoldable pub stored_of : ℕ → List ℕ
  stored_of i = by_origin o C A (symbol_name o C) (symbol_name o A) (λ k. stored_name C (nth S k)) i

  unfoldable pub name_count : ℕ → ℕ
  name_count i = by_origin o C A (λ k. 0) (λ k. 0) (λ k. (nth S k).number) i

-- whether a name is empty, or `_gp_disp`
unfoldable pub kind_of : List ℕ → NameKind
kind_of name = record { unnamed = eqb (length name) 0; gp_disp = same name (text "_gp_disp") }

-- the id of the first static
abbrev pub first_in : Sources → ℕ
first_in s = s.compiled.count + s.assembled.count

-- `name_count` of what is in hand
unfoldable pub name_count_in : List ℕ → Sources → ℕ → ℕ
name_count_in T s i = cond (ltb i (first_in s)) 0 (static_in T (i - first_in s)).number

-- a number without its last k digits
unfoldable pub without_last : ℕ → ℕ → ℕ
without_last zero n = n
without_last (suc k) n = without_last k (n / 10)

-- the rows of the statics are there
pub record RowsHeld (T : List ℕ) (s : Sources) : Type 0 where
  pub symbols : first_in s ≤ 2 * SYMBOL_LIMIT
  pub few : s.statics ≤ STATIC_LIMIT
  pub long : STATIC_ROW * s.statics ≤ length T

-- both symbol tables and the rows of the statics are in hand, and the statics in them are counted
pub record SourcesRead (o : ByteOrder) (C A T : List ℕ) (s : Sources) : Type 0 where
  pub compiled : Table o C s.compiled
  pub assembled : Table o A s.assembled
  pub counted : CountedRows C T s.statics
