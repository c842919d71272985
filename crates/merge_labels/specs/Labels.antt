-- Refusals 12 and 13 (document 01's table): the start and end labels of a block's spans, and of the late span, which the draft wrote, as symbols of the assembled object A.
-- P are the places of the lines of the block file B.
use Rattle.std.specs.Prelude.{ℕ, ◌+◌, Bool, true, false, not, ◌&&◌, List, ◌++◌, length, eqb, ltb, leb, None, Some, Option}
use Rattle.base_lists.specs.Ranges.{first}
use Rattle.base_fields.specs.declared.ByteOrder.{ByteOrder}
use Rattle.base_scope.specs.Codes.{LATE_RODATA, line_code, line_block}
use Rattle.base_scope.specs.Refusals.{pick_finding}
use Rattle.base_scope.specs.Text.{text}
use Rattle.elf_readers.specs.Readers.{coded_section, coded_contents}
use Rattle.elf_symbols.specs.Symbols.{symbol_count, symbol, symbol_named}
use Rattle.blocks_places.specs.Lines.{line_count, span_label, span_size}
use Rattle.blocks_places.specs.Places.{Place, taken, place}
use Rattle.merge_labels.specs.declared.Label.{Label}

abbrev pick_label : Bool → Label → Label → Label
pick_label true a b = a
pick_label false a b = b

-- a label's symbol is the first of its name
unfoldable pub label_of : ByteOrder → List ℕ → List ℕ → Label
label_of o A name =
    pick_label (ltb (symbol_named o A name) (symbol_count o A))
    (record { found = true; section = (symbol o A (symbol_named o A name)).st_shndx; value = (symbol o A (symbol_named o A name)).st_value })
    (record { found = false; section = 0; value = 0 })

-- it is there, in section s, with value v
unfoldable pub is_at : ByteOrder → List ℕ → List ℕ → ℕ → ℕ → Bool
is_at o A name s v = (label_of o A name).found && (eqb (label_of o A name).section s && eqb (label_of o A name).value v)

module _ (o : ByteOrder) (A : List ℕ) (P : List Place) (B : List ℕ) where
  -- line j's labels stand in A's section of its code, at the span's place and end
  unfoldable pub is_lined : ℕ → Bool
  is_lined j =
      is_at o A (span_label B j ++ text "_asm_start") (coded_section o A (line_code j)) (place P j)
      && is_at o A (span_label B j ++ text "_asm_end") (coded_section o A (line_code j)) (place P j + span_size B j)

  unfoldable pub is_mislabelled : ℕ → Bool
  is_mislabelled j = taken P j && not (is_lined j)

  -- the first line whose labels do not
  unfoldable pub mislabelled_at : ℕ
  mislabelled_at = first is_mislabelled 0 (line_count B)

  -- refusal 12: its block is the lowest
  unfoldable pub label_fault : Option ℕ
  label_fault = pick_finding (ltb mislabelled_at (line_count B)) (Some (line_block mislabelled_at)) None

-- the labels that the draft writes around the late lines: `_start` and `_end`
unfoldable pub late_label : List ℕ → List ℕ
late_label suffix = text "_asmpp_late_rodata" ++ suffix

module _ (o : ByteOrder) (A : List ℕ) where
  -- where the late span starts in A's .late_rodata; 0 where there is no such label
  unfoldable pub late_start : ℕ
  late_start = (label_of o A (late_label (text "_start"))).value

  -- refusal 13 asks this of a late step of n bytes: both late labels stand in A's .late_rodata, n apart, and the end lies inside it
  unfoldable pub late_lined : ℕ → Bool
  late_lined n =
      is_at o A (late_label (text "_start")) (coded_section o A LATE_RODATA) late_start
      && (is_at o A (late_label (text "_end")) (coded_section o A LATE_RODATA) (late_start + n)
      && leb (late_start + n) (length (coded_contents o A LATE_RODATA)))
