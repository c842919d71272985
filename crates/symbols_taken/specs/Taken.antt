-- Which symbols a merge takes over from the compiled object C and the assembled object A (document 01, "Symbols"), and refusals 15 and 16 (its table). P are the places of the
-- lines of the block file B.
use Rattle.std.specs.Prelude.{ℕ, Bool, not, ◌&&◌, ◌||◌, List, eqb, ltb, Option}
use Rattle.base_lists.specs.Ranges.{first}
use Rattle.base_lists.specs.Strings.{prefixed}
use Rattle.base_fields.specs.declared.ByteOrder.{ByteOrder}
use Rattle.base_scope.specs.Text.{text}
use Rattle.base_scope.specs.Elf.{SHN_UNDEF, SHN_ABS}
use Rattle.base_scope.specs.Codes.{LATE_RODATA, target_code}
use Rattle.base_scope.specs.Refusals.{SYMBOL_SECTION, LATE_SYMBOL, found_below}
use Rattle.base_answers.specs.Answers.{ASSEMBLED}
use Rattle.base_answers.specs.Verdicts.{Verdict, also, finding_verdict}
use Rattle.elf_readers.specs.Readers.{section, has_code}
use Rattle.elf_symbols.specs.Symbols.{symtab, symbol_count, symbol, symbol_name}
use Rattle.merge_inputs.specs.of_blocks_places.Places.{Place}
use Rattle.late_lookups.specs.of_late_moves.Moved.{is_moved}
use Rattle.merge_labels.specs.Labels.{late_start}
use Rattle.symbols_taken.specs.Used.{code_of, is_source, is_used}

module _ (o : ByteOrder) (F : List ℕ) where
  -- a name that begins `_asmpp_`
  unfoldable pub is_helper : ℕ → Bool
  is_helper k = prefixed (text "_asmpp_") (symbol_name o F k)

  -- how many symbols are local: sh_info of the symbol table
  unfoldable pub locals_of : ℕ
  locals_of = (section o F (symtab o F)).sh_info

-- C's symbols, without entry 0 and `_asmpp_` names
unfoldable pub is_taken_c : ByteOrder → List ℕ → ℕ → Bool
is_taken_c o C k = not (eqb k 0) && not (is_helper o C k)

-- a section index that is a section's: neither undefined nor absolute
unfoldable pub is_placed_in : ℕ → Bool
is_placed_in x = not (eqb x SHN_UNDEF) && not (eqb x SHN_ABS)

module _ (o : ByteOrder) (A : List ℕ) where
  -- A's symbols, without locals that no relocation of its five sections uses and `_asmpp_` names
  unfoldable pub is_taken_a : ℕ → Bool
  is_taken_a k = not (ltb k (locals_of o A) && not (is_used o A k)) && not (is_helper o A k)

  -- the code of symbol k's section
  unfoldable pub symbol_code : ℕ → ℕ
  symbol_code k = code_of o A (symbol o A k).st_shndx

module _ (o : ByteOrder) (C A : List ℕ) where
  -- A's section of symbol k is one of the five, and C has its target
  unfoldable pub has_target : ℕ → Bool
  has_target k = is_source o A (symbol o A k).st_shndx && has_code o C (target_code (symbol_code o A k))

  -- 15: "moved, neither undefined nor absolute, and its section is not A's of codes 1 to 5 or C lacks the target; or a relocated name begins `_asmpp_`"
  unfoldable pub is_homeless : ℕ → Bool
  is_homeless k =
      (is_taken_a o A k && (is_placed_in (symbol o A k).st_shndx && not (has_target k)))
      || (is_used o A k && is_helper o A k)

  unfoldable pub homeless_at : ℕ
  homeless_at = first is_homeless 0 (symbol_count o A)

module _ (o : ByteOrder) (A : List ℕ) (P : List Place) (B : List ℕ) where
  -- 16: "late value 0 or not moved"
  unfoldable pub is_unmoved : ℕ → Bool
  is_unmoved k =
      is_taken_a o A k
      && (eqb (symbol_code o A k) LATE_RODATA && (eqb (symbol o A k).st_value 0 || not (is_moved P B (late_start o A) (symbol o A k).st_value)))

  unfoldable pub unmoved_at : ℕ
  unmoved_at = first is_unmoved 0 (symbol_count o A)

unfoldable pub taken_verdict : ByteOrder → List ℕ → List ℕ → List Place → List ℕ → Verdict
taken_verdict o C A P B =
    also (finding_verdict SYMBOL_SECTION ASSEMBLED (found_below (symbol_count o A) (homeless_at o C A)))
    (finding_verdict LATE_SYMBOL ASSEMBLED (found_below (symbol_count o A) (unmoved_at o A P B)))
