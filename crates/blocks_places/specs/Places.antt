-- Where the lines of a block file B lie in a compiled object C (document 01, "Steps": "A block's place is the first C symbol of its label, any section. A label
-- absent from C switches off the rest of that block ..."). Everything later goes by the list of these places, a place for each line.
use Rattle.std.specs.Prelude.{ℕ, zero, suc, ◌+◌, Bool, true, false, cond, not, ◌&&◌, List, get_or, eqb, ltb}
use Rattle.base_lists.specs.Ranges.{first, select}
use Rattle.base_fields.specs.declared.ByteOrder.{ByteOrder}
use Rattle.base_scope.specs.Codes.{line_code, line_block, first_line}
use Rattle.elf_symbols.specs.Symbols.{symbol_count, symbol, symbol_named}
use Rattle.blocks_places.specs.Lines.{line_count, labelled, span_label, span_size}

-- whether a line has a span in C, and the span's place; 0 where it has none
pub record Place : Type 0 where
  pub taken : Bool
  pub at : ℕ

abbrev pub nowhere : Place
nowhere = record { taken = false; at = 0 }

abbrev pub pick_place : Bool → Place → Place → Place
pick_place true a b = a
pick_place false a b = b

module _ (o : ByteOrder) (C B : List ℕ) where
  -- the first C symbol of the label, any section
  unfoldable pub label_symbol : ℕ → ℕ
  label_symbol j = symbol_named o C (span_label B j)

  unfoldable pub has_symbol : ℕ → Bool
  has_symbol j = ltb (label_symbol j) (symbol_count o C)

  unfoldable pub label_value : ℕ → ℕ
  label_value j = (symbol o C (label_symbol j)).st_value

  -- a label absent from C
  unfoldable pub lacks : ℕ → Bool
  lacks j = labelled B j && not (has_symbol j)

  -- it switches off the rest of its block: no line before j in j's block lacks its symbol
  unfoldable pub reached : ℕ → Bool
  reached j = eqb (first lacks (first_line (line_block j)) j) j

  -- line j has a span in C
  unfoldable pub is_placed : ℕ → Bool
  is_placed j = labelled B j && (reached j && has_symbol j)

  unfoldable pub place_of : ℕ → Place
  place_of j = pick_place (is_placed j) (record { taken = true; at = label_value j }) nowhere

  unfoldable pub places_of : List Place
  places_of = select (λ j. true) place_of (line_count B)

-- line j in a list of places P
module _ (P : List Place) where
  unfoldable pub taken : ℕ → Bool
  taken j = (get_or P j nowhere).taken

  unfoldable pub place : ℕ → ℕ
  place j = (get_or P j nowhere).at

module _ (P : List Place) (B : List ℕ) where
  -- it has a label and no span: its own label, or one before it in its block, is absent
  unfoldable pub untaken : ℕ → Bool
  untaken j = labelled B j && not (taken P j)

  -- block i stays on: none of its labels is absent (proofs/Places.antt, `live_present`)
  unfoldable pub live : ℕ → Bool
  live i = eqb (first untaken (first_line i) (first_line (i + 1))) (first_line (i + 1))

  -- the end of the last span of section code c among the first j lines; 0 where there is none
  unfoldable pub end_at : ℕ → ℕ → ℕ
  end_at zero c = 0
  end_at (suc j) c = cond (taken P j && eqb (line_code j) c) (place P j + span_size B j) (end_at j c)
