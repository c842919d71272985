-- What document 01 has a merge take over from its inputs alone: C is the compiled object, A the assembled one, P are the places of the lines of the block file B. Nothing here
-- speaks of the result: neither of its symbols' order and numbers, nor of how equal names are held.
use Rattle.std.specs.Prelude.{ℕ, ◌+◌, Bool, true, false, cond, not, ◌&&◌, ◌||◌, List, [], ◌++◌, length, get_or, eqb, ltb, leb}
use Rattle.base_lists.specs.Ranges.{first, select, gather, pick_list}
use Rattle.base_lists.specs.Rows.{has_row}
use Rattle.base_lists.specs.Strings.{same}
use Rattle.base_fields.specs.declared.ByteOrder.{ByteOrder}
use Rattle.base_scope.specs.Elf.{SHT_MIPS_DEBUG, SHN_UNDEF}
use Rattle.base_scope.specs.Codes.{BSS, LATE_RODATA, REGINFO, target_code}
use Rattle.base_answers.specs.Answers.{COMPILED, ASSEMBLED}
use Rattle.elf_readers.specs.Readers.{section_count, section, coded_section, coded_contents}
use Rattle.elf_symbols.specs.Symbols.{symtab, symbol_count, symbol, symbol_name}
use Rattle.elf_relocations.specs.Relocations.{is_table, relocation_count, relocation}
use Rattle.blocks_file.specs.Blocks.{block_count}
use Rattle.blocks_places.specs.Places.{Place}
use Rattle.blocks_spans.specs.Spans.{spans_of, span_at, span_end}
use Rattle.late_length.specs.Late.{has_late_step}
use Rattle.late_moves.specs.Moves.{items, item_length, move_source}
use Rattle.late_moves.specs.Moved.{is_moved}
use Rattle.late_finals.specs.Finals.{is_written}
use Rattle.statics_shift.specs.Shift.{HEADER_SIZE}
use Rattle.statics_table.specs.declared.Static.{Static}
use Rattle.statics_table.specs.Statics.{working_name, name_head}
use Rattle.statics_entry.specs.Entry.{nth}
use Rattle.statics_walk.specs.Walk.{statics}
use Rattle.merge_labels.specs.Labels.{late_start}
use Rattle.merge_kept.specs.Kept.{kept}
use Rattle.carry_entries.specs.of_symbols_taken.Used.{is_section_of, code_of}
use Rattle.carry_entries.specs.of_symbols_taken.Taken.{is_taken_c, is_taken_a}
use Rattle.carry_entries.specs.of_symbols_ids.Entries.{late_place, section_a, value_a}
use Rattle.carry_entries.specs.of_carry_clash.Clash.{is_carried}
use Rattle.carry_entries.specs.Carried.{is_gone}
use Rattle.carry_homes.specs.Homes.{carried_count, carried_table, new_count, home_of}
use Rattle.demand_clauses.specs.Reading.{Reference, referred_symbol}

-- ---- symbols

-- a name with the section index and the value that a symbol or a static gives it
pub record Definition : Type 0 where
  pub name : List ℕ
  pub section : ℕ
  pub value : ℕ

abbrev pub no_definition : Definition
no_definition = record { name = []; section = SHN_UNDEF; value = 0 }

abbrev pick_definition : Bool → Definition → Definition → Definition
pick_definition true a b = a
pick_definition false a b = b

-- it defines the name w (document 01, "Demand 3": "defined: section index not 0")
unfoldable pub defines : List ℕ → Definition → Bool
defines w d = same d.name w && not (eqb d.section SHN_UNDEF)

-- some definition of a list does
unfoldable pub has_definition : List Definition → List ℕ → Bool
has_definition l w = ltb (first (λ i. defines w (get_or l i no_definition)) 0 (length l)) (length l)

module _ (o : ByteOrder) (C A : List ℕ) (P : List Place) (B : List ℕ) where
  -- C's symbol k as it is; A's in C's section of its target, late ones at their moved place; a static in C's section of its code
  unfoldable pub definition_c : ℕ → Definition
  definition_c k = record { name = symbol_name o C k; section = (symbol o C k).st_shndx; value = (symbol o C k).st_value }

  unfoldable pub definition_a : ℕ → Definition
  definition_a k = record { name = symbol_name o A k; section = section_a o C A P B k; value = value_a o C A P B k }

  unfoldable pub definition_static : Static → Definition
  definition_static s = record { name = working_name C s; section = coded_section o C s.code; value = s.value }

  -- document 01, "Symbols": C's without entry 0 and `_asmpp_` names, A's without those and without locals that no relocation uses, and the statics of C
  unfoldable pub taken_over : List Static → List Definition
  taken_over S =
      select (is_taken_c o C) definition_c (symbol_count o C)
      ++ (select (is_taken_a o A) definition_a (symbol_count o A)
      ++ select (λ i. true) (λ i. definition_static (nth S i)) (length S))

  -- ---- references

  -- document 01, "Carrying": C's entry k of table t stays unless its offset is the start of a replaced .text word or of a jump-table word
  unfoldable pub stays_c : ℕ → ℕ → Bool
  stays_c t k = not (is_gone o C A P B (code_of o C (section o C t).sh_info) (relocation o C t k).r_offset)

  unfoldable pub references_c : ℕ → List Reference
  references_c t = select (stays_c t) (λ k. record { object = COMPILED; table = t; entry = k }) (relocation_count o C t)

  -- every entry of a table of A that is carried
  unfoldable pub references_a : ℕ → List Reference
  references_a t = select (λ k. true) (λ k. record { object = ASSEMBLED; table = t; entry = k }) (relocation_count o A t)

  -- all of them, with no regard to order: the references that the result owes
  unfoldable pub is_owed_c : ℕ → ℕ → Bool
  is_owed_c t k = ltb t (section_count o C) && (is_table o C t && (ltb k (relocation_count o C t) && stays_c t k))

  unfoldable pub is_owed_a : ℕ → ℕ → Bool
  is_owed_a t k = ltb t (section_count o A) && (is_carried o A t && ltb k (relocation_count o A t))

  unfoldable pub is_owed : Reference → Bool
  is_owed r = cond (eqb r.object COMPILED) (is_owed_c r.table r.entry) (eqb r.object ASSEMBLED && is_owed_a r.table r.entry)

  -- and in order: section t of the result has C's of table t, then A's of the tables that join it
  module _ (flag : ℕ) where
    unfoldable pub origins_at : ℕ → List Reference
    origins_at t =
        pick_list (ltb t (kept o C flag) && is_table o C t) (references_c t) []
        ++ gather (λ j. eqb (home_of o C A (kept o C flag) j) t) (λ j. references_a (carried_table o A j)) (carried_count o A)

    unfoldable pub origins : List Reference
    origins = gather (λ t. true) origins_at (kept o C flag + new_count o C A (kept o C flag))

  -- ---- bytes

  -- document 01, "Demand 3": "written: block copies, late moves, the zeroed word, .reginfo, moved debug words, remade tables". Byte x of C's section i is one of these: in a
  -- relocation table, the symbol table, .reginfo, the header of a debug section, or a section that blocks are copied into, where a block or the late step writes it. What is
  -- appended to string tables stands behind their bytes.
  unfoldable pub is_rewritten : ℕ → ℕ → Bool
  is_rewritten i x =
      (is_table o C i || eqb i (symtab o C))
      || (is_section_of o C i REGINFO
      || ((eqb (section o C i).sh_type SHT_MIPS_DEBUG && ltb x HEADER_SIZE)
      || (ltb (code_of o C i) BSS && is_written o P B (coded_contents o C (code_of o C i)) (coded_contents o A (code_of o C i)) (code_of o C i) x)))

  -- ---- a reference, in its own object and in C

  module _ (r : Reference) where
    unfoldable pub is_compiled : Bool
    is_compiled = eqb r.object COMPILED

    -- its object, the section that it stands in there, and the code and offset
    unfoldable pub object_of : List ℕ
    object_of = pick_list is_compiled C A

    unfoldable pub source_of : ℕ
    source_of = (section o object_of r.table).sh_info

    unfoldable pub reference_code : ℕ
    reference_code = code_of o object_of source_of

    unfoldable pub offset_of : ℕ
    offset_of = (relocation o object_of r.table r.entry).r_offset

    unfoldable pub is_late_reference : Bool
    is_late_reference = not is_compiled && eqb reference_code LATE_RODATA

    -- the section of the result that it stands in, and where: a late offset at its moved place, which it has
    unfoldable pub target_of : ℕ
    target_of = cond is_compiled source_of (coded_section o C (target_code reference_code))

    unfoldable pub has_offset : Bool
    has_offset = cond is_late_reference (has_late_step P B && is_moved P B (late_start o A) offset_of) true

    unfoldable pub new_offset : ℕ
    new_offset = cond is_late_reference (late_place o C A P B offset_of) offset_of

    -- ---- its word: the four bytes at it, which hold its addend where the entry has none

    -- C's: no block copy, late move or zeroed word writes one of them
    unfoldable pub is_untouched : Bool
    is_untouched = eqb (first (λ i. is_written o P B (coded_contents o C reference_code) (coded_contents o A reference_code) reference_code (offset_of + i)) 0 4) 4

    -- A's: one span holds them all
    unfoldable pub is_copied : Bool
    is_copied =
        ltb (first (λ i. leb (span_at (spans_of P B reference_code) i).place offset_of && leb (offset_of + 4) (span_end (span_at (spans_of P B reference_code) i))) 0 (length (spans_of P B reference_code)))
        (length (spans_of P B reference_code))

    -- A's late ones: one late word or jump table holds them all
    unfoldable pub is_moved_whole : Bool
    is_moved_whole =
        has_row (λ i k. leb (move_source P B (late_start o A) i k) offset_of && leb (offset_of + 4) (move_source P B (late_start o A) i k + item_length B i k)) (items P B) (block_count B)

    unfoldable pub keeps_word : Bool
    keeps_word = cond is_compiled is_untouched (cond is_late_reference is_moved_whole is_copied)

    -- what its symbol says
    unfoldable pub referred_definition : Definition
    referred_definition = pick_definition is_compiled (definition_c (referred_symbol o C r.table r.entry)) (definition_a (referred_symbol o A r.table r.entry))

-- the statics of a merge in a mode, with the bytes that the mode and the path put in front of a name
unfoldable pub merge_statics : ByteOrder → List ℕ → ℕ → List ℕ → List Static
merge_statics o C mode path = statics o C mode (length (name_head mode path))
