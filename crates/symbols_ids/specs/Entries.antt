-- The entries of symbols as they stand in the result (document 01, "Symbols" and "Carrying"; 000). C is the compiled object, A the assembled one, P are the places of the lines
-- of the block file B.
use Rattle.std.specs.Prelude.{ℕ, ◌+◌, Bool, cond, ◌&&◌, List, length, eqb}
use Rattle.base_lists.specs.Strings.{same}
use Rattle.base_fields.specs.declared.ByteOrder.{ByteOrder}
use Rattle.base_scope.specs.Text.{text}
use Rattle.base_scope.specs.Elf.{STT_OBJECT, STT_FUNC}
use Rattle.base_scope.specs.Codes.{LATE_RODATA, LATE_TARGET, target_code}
use Rattle.base_packed.specs.Packed.{binding_of, type_of, symbol_info, visibility_of}
use Rattle.elf_records.specs.declared.symbol.SymbolEntry.{SymbolEntry}
use Rattle.elf_readers.specs.Readers.{coded_section, coded_contents}
use Rattle.elf_symbols.specs.Symbols.{symbol, symbol_strings, symbol_name}
use Rattle.blocks_places.specs.Places.{Place}
use Rattle.blocks_glabels.specs.Glabels.{is_glabel, glabel_size}
use Rattle.blocks_spans.specs.Spans.{spans_of}
use Rattle.blocks_spans.specs.Copied.{copied}
use Rattle.symbols_taken.specs.of_late_moves.Moved.{moved_place}
use Rattle.symbols_taken.specs.of_merge_labels.Labels.{late_start}
use Rattle.symbols_taken.specs.Taken.{is_placed_in, symbol_code}

-- what every entry goes through: `_gp_disp` has type 1, an object, and of st_other what document 01 keeps stays. Of C's entries nothing else changes.
unfoldable pub finished : List ℕ → SymbolEntry → SymbolEntry
finished name e = record {
  st_name = e.st_name;
  st_value = e.st_value;
  st_size = e.st_size;
  st_info = symbol_info (binding_of e.st_info) (cond (same name (text "_gp_disp")) STT_OBJECT (type_of e.st_info));
  st_other = visibility_of e.st_other;
  st_shndx = e.st_shndx;
}

module _ (o : ByteOrder) (C A : List ℕ) (P : List Place) (B : List ℕ) where
  -- the place of late offset x in the final .rodata
  unfoldable pub late_place : ℕ → ℕ
  late_place x =
      moved_place o P B (copied (spans_of P B LATE_TARGET) (coded_contents o C LATE_TARGET) (coded_contents o A LATE_TARGET)) (late_start o A) x

  -- A's symbol k: in C's section of the target, at its place; late ones at their moved place
  unfoldable pub is_placed_a : ℕ → Bool
  is_placed_a k = is_placed_in (symbol o A k).st_shndx

  unfoldable pub section_a : ℕ → ℕ
  section_a k = cond (is_placed_a k) (coded_section o C (target_code (symbol_code o A k))) (symbol o A k).st_shndx

  unfoldable pub value_a : ℕ → ℕ
  value_a k = cond (is_placed_a k && eqb (symbol_code o A k) LATE_RODATA) (late_place (symbol o A k).st_value) (symbol o A k).st_value

  -- a glabel's type and size; only in one of the five sections
  unfoldable pub is_glabel_a : ℕ → Bool
  is_glabel_a k = is_placed_a k && is_glabel P B (symbol_name o A k)

  unfoldable pub type_a : ℕ → ℕ
  type_a k = cond (is_glabel_a k) STT_FUNC (type_of (symbol o A k).st_info)

  unfoldable pub size_a : ℕ → ℕ
  size_a k = cond (is_glabel_a k) (glabel_size P B (symbol_name o A k) (symbol o A k).st_size) (symbol o A k).st_size

  -- its name moves behind C's strings
  unfoldable pub entry_a : ℕ → SymbolEntry
  entry_a k = record {
    st_name = (symbol o A k).st_name + length (symbol_strings o C);
    st_value = value_a k;
    st_size = size_a k;
    st_info = symbol_info (binding_of (symbol o A k).st_info) (type_a k);
    st_other = (symbol o A k).st_other;
    st_shndx = section_a k;
  }
