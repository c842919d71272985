-- Of the code, not of document 01: the table of places, a row of two words for each line (its size, 0 where it is not taken: 8 refuses that of a line that is, and its
-- place); what one line comes to in the walk; and what is in hand while and after it is made.
use Rattle.std.specs.Prelude.{ℕ, ◌+◌, ◌*◌, ◌%◌, ◌≤◌, ◌<◌, ◌≡◌, Bool, true, false, cond, ◌||◌, List, [], ◌∷◌, length, eqb, ltb}
use Rattle.base_lists.specs.Ranges.{gather, select}
use Rattle.base_lists.specs.Records.{flat}
use Rattle.base_lists.specs.Windows.{spliced}
use Rattle.base_fields.specs.declared.ByteOrder.{ByteOrder}
use Rattle.base_fields.specs.declared.ByteOrder.TheVariants.{Big}
use Rattle.base_fields.specs.Numbers.{number, encoded}
use Rattle.base_scope.specs.Codes.{LINES, line_code}
use Rattle.base_scope.specs.Limits.{PLACE_ROW}
use Rattle.elf_symbols.specs.declared.SymbolTable.{SymbolTable}
use Rattle.elf_symbols.specs.Symbols.{Table}
use Rattle.elf_index.specs.Index.{SymbolIndex}
use Rattle.blocks_file.specs.Table.{Parsed}
use Rattle.blocks_places.specs.declared.LineStep.{LineStep}
use Rattle.blocks_places.specs.Lines.{line_count, span_size}
use Rattle.blocks_places.specs.Places.{Place, reached, place_of, places_of, taken, end_at}
use Rattle.blocks_places.specs.Faults.{Placing, odd_place, fault8, fault9, misplaced_at, placing, Fitting}

-- row j of a table: its size and its place; and the places of the first n rows
unfoldable pub held_size : List ℕ → ℕ → ℕ
held_size table j = number Big 4 table (PLACE_ROW * j)

unfoldable pub place_in : List ℕ → ℕ → Place
place_in table j = record { taken = ltb 0 (held_size table j); at = number Big 4 table (PLACE_ROW * j + 4) }

unfoldable pub places_in : List ℕ → ℕ → List Place
places_in table n = select (λ j. true) (place_in table) n

-- the bytes of a row with a size s, and of the rows of the first n lines
unfoldable pub place_row : ℕ → Place → List ℕ
place_row s p = flat (encoded Big 4) (cond p.taken s 0 ∷ p.at ∷ [])

unfoldable pub place_table : ByteOrder → List ℕ → List ℕ → ℕ → List ℕ
place_table o C B n = gather (λ j. true) (λ j. place_row (span_size B j) (place_of o C B j)) n

-- the tables of a block file in hand: of its blocks, and of the sizes and the places P of its lines
pub record Laid (P : List Place) (B table places : List ℕ) : Type 0 where
  pub parsed : Parsed B table
  pub long : PLACE_ROW * line_count B ≤ length places
  pub is : places_in places (line_count B) ≡ P
  pub sizes : (j : ℕ) → taken P j ≡ true → held_size places j ≡ span_size B j
  pub fitting : Fitting P B

-- what the walk answers, and what it leaves in the table of places
pub record Placement (o : ByteOrder) (C B : List ℕ) (r : Placing) (before after : List ℕ) : Type 0 where
  pub answer : r ≡ placing o C B
  pub rows : after ≡ spliced before 0 (place_table o C B (misplaced_at o C B))

-- ---- one line in the walk: its refusals, its row, the end of its section behind it, and whether the line behind it is reached

-- a line that is not taken: its section's end stays
unfoldable pub off_step : Bool → ℕ → Bool → LineStep
off_step m e r = record { misplaced = m; misaligned = false; size = 0; place = 0; end = e; on = r }

-- refusal 8 of a place p with a size s, where the end of the block before is e
unfoldable pub low_place : ℕ → ℕ → ℕ → Bool
low_place p s e = eqb s 0 || ltb p e

-- a line that is taken: its section's end moves behind it
unfoldable pub on_step : ℕ → ℕ → ℕ → ℕ → Bool → LineStep
on_step p s a e r = record { misplaced = low_place p s e; misaligned = odd_place p a; size = s; place = p; end = p + s; on = r }

-- the first line of a block is reached, and so is one behind a line that is reached and has its symbol, or no label
unfoldable pub on_after : ℕ → Bool → Bool
on_after j r = eqb (line_code j) LINES || r

unfoldable pub step_of : ByteOrder → List ℕ → List ℕ → ℕ → LineStep
step_of o C B j = record {
  misplaced = fault8 o C B j;
  misaligned = fault9 o C B j;
  size = cond (place_of o C B j).taken (span_size B j) 0;
  place = (place_of o C B j).at;
  end = end_at (places_of o C B) B (j + 1) (line_code j);
  on = reached o C B (j + 1);
}

-- line j of a block file in hand, and the compiled object's symbols with their index
pub record AtLine (o : ByteOrder) (C B : List ℕ) (t : SymbolTable) (index table : List ℕ) (j : ℕ) : Type 0 where
  pub symbols : Table o C t
  pub indexed : SymbolIndex o C index
  pub parsed : Parsed B table
  pub inside : j < line_count B
