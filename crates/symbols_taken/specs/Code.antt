-- Of the code, not of document 01: what the code reads in place of C, of the block file and of A's relocations. C and the codes of A's sections are read by their views, the
-- moves of the late step in its table of n blocks, and whether a symbol is used in a byte for each. proofs/InHand.antt says what each is of C, A, P and B.
use Rattle.std.specs.Prelude.{ℕ, ◌+◌, ◌<◌, ◌≡◌, Bool, true, false, cond, not, ◌&&◌, ◌||◌, List, length, get_or, eqb, ltb, None, Some, Option}
use Rattle.base_lists.specs.Ranges.{first, select}
use Rattle.base_lists.specs.Rows.{has_row}
use Rattle.base_lists.specs.Windows.{Within}
use Rattle.base_fields.specs.declared.ByteOrder.{ByteOrder}
use Rattle.base_scope.specs.Codes.{TEXT, LATE_RODATA, target_code}
use Rattle.base_scope.specs.Refusals.{SYMBOL_SECTION, LATE_SYMBOL, found_below}
use Rattle.base_answers.specs.Answers.{ASSEMBLED}
use Rattle.base_answers.specs.Verdicts.{Verdict, also, finding_verdict}
use Rattle.elf_symbols.specs.Symbols.{symbol_count, symbol, symbol_strings}
use Rattle.elf_relocations.specs.Relocations.{relocation_count}
use Rattle.merge_inputs.specs.of_elf_check.declared.View.{View}
use Rattle.merge_inputs.specs.of_elf_check.View.{section_in, has_in, Viewed}
use Rattle.blocks_file.specs.Blocks.{block_count}
use Rattle.merge_inputs.specs.of_blocks_places.Places.{Place}
use Rattle.late_lookups.specs.of_late_length.Late.{has_late_step}
use Rattle.late_lookups.specs.of_late_walk.Table.{Moves}
use Rattle.late_lookups.specs.Fields.{offset_at, LateRows}
use Rattle.merge_labels.specs.Labels.{late_start}
use Rattle.symbols_taken.specs.Used.{uses_symbol, is_used}
use Rattle.symbols_taken.specs.Taken.{is_helper, is_placed_in, is_taken_a, symbol_code}

-- ---- the codes of A's sections, by its view

unfoldable pub is_section_in : View → ℕ → ℕ → Bool
is_section_in v s c = has_in v c && eqb (section_in v c) s

unfoldable pub code_in : View → ℕ → ℕ
code_in v s = first (is_section_in v s) TEXT (LATE_RODATA + 1)

unfoldable pub is_source_in : View → ℕ → Bool
is_source_in v s = ltb (code_in v s) (LATE_RODATA + 1)

-- ---- the marks of used symbols

-- l with 1 at the indices that pass
unfoldable pub marked : (ℕ → Bool) → List ℕ → List ℕ
marked p l = select (λ k. true) (λ k. cond (p k) 1 (get_or l k 0)) (length l)

module _ (o : ByteOrder) (A : List ℕ) where
  -- one of the first j entries of table t uses symbol k; any of its entries does; any of the first t sections
  unfoldable pub used_below : ℕ → ℕ → ℕ → Bool
  used_below t j k = ltb (first (uses_symbol o A k t) 0 j) j

  unfoldable pub used_in : ℕ → ℕ → Bool
  used_in t k = used_below t (relocation_count o A t) k

  unfoldable pub used_to : ℕ → ℕ → Bool
  used_to t k = has_row (uses_symbol o A k) (relocation_count o A) t

  -- a byte for each symbol of A: 1 where it is used
  unfoldable pub used_bytes : List ℕ
  used_bytes = select (λ k. true) (λ k. cond (is_used o A k) 1 0) (symbol_count o A)

-- symbol k of A, with its names and the marks in hand
pub record AtSymbol (o : ByteOrder) (A : List ℕ) (v : View) (strings used : List ℕ) (k : ℕ) : Type 0 where
  pub viewed : Viewed o A v
  pub names : strings ≡ symbol_strings o A
  pub marks : Within (used_bytes o A) 0 used
  pub below : k < symbol_count o A

-- ---- refusal 15, of a C that is read by its view w, and A by v

unfoldable pub has_target_in : View → View → ℕ → Bool
has_target_in w v s = is_source_in v s && has_in w (target_code (code_in v s))

-- a section index that is a section's, and has no target
unfoldable pub lacks_target_in : View → View → ℕ → Bool
lacks_target_in w v s = is_placed_in s && not (has_target_in w v s)

module _ (w v : View) (o : ByteOrder) (A : List ℕ) where
  unfoldable pub is_homeless_in : ℕ → Bool
  is_homeless_in k = (is_taken_a o A k && lacks_target_in w v (symbol o A k).st_shndx) || (is_used o A k && is_helper o A k)

  unfoldable pub homeless_in : ℕ
  homeless_in = first is_homeless_in 0 (symbol_count o A)

-- ---- refusal 16, of a late step that runs or not, by its table of n blocks

-- its table is in hand where it runs
abbrev pub LateIn : Bool → List ℕ → ℕ → Type 0
LateIn runs late n = runs ≡ true → LateRows late n

abbrev pub is_place : Option ℕ → Bool
is_place (Some x) = true
is_place None = false

unfoldable pub is_moved_in : Bool → List ℕ → ℕ → ℕ → Bool
is_moved_in runs late n x = runs && is_place (offset_at late n x)

-- a late value that is 0 or not moved
unfoldable pub is_unmoved_value : Bool → List ℕ → ℕ → ℕ → Bool
is_unmoved_value runs late n x = eqb x 0 || not (is_moved_in runs late n x)

module _ (o : ByteOrder) (A : List ℕ) (runs : Bool) (late : List ℕ) (n : ℕ) where
  unfoldable pub is_unmoved_in : ℕ → Bool
  is_unmoved_in k = is_taken_a o A k && (eqb (symbol_code o A k) LATE_RODATA && is_unmoved_value runs late n (symbol o A k).st_value)

  unfoldable pub unmoved_in : ℕ
  unmoved_in = first is_unmoved_in 0 (symbol_count o A)

-- the table is that of the late step of the places P of block file B, over any bytes that it searched
pub record StepIn (o : ByteOrder) (A : List ℕ) (P : List Place) (B : List ℕ) (runs : Bool) (late : List ℕ) (n : ℕ) : Type 0 where
  pub there : runs ≡ has_late_step P B
  pub many : n ≡ block_count B
  pub searched : List ℕ
  pub moves : runs ≡ true → Moves o P B searched (late_start o A) late

-- ---- refusals 15 and 16

unfoldable pub taken_in : View → View → ByteOrder → List ℕ → Bool → List ℕ → ℕ → Verdict
taken_in w v o A runs late n =
    also (finding_verdict SYMBOL_SECTION ASSEMBLED (found_below (symbol_count o A) (homeless_in w v o A)))
    (finding_verdict LATE_SYMBOL ASSEMBLED (found_below (symbol_count o A) (unmoved_in o A runs late n)))
