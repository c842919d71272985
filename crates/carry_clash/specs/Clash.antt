-- Refusal 10 (document 01, "Carrying", and its table): the lowest section of C at fault. C is the compiled object, A the assembled one; `flag` says whether trailing sections are
-- dropped.
use Rattle.std.specs.Prelude.{ℕ, min, Bool, cond, not, ◌&&◌, ◌||◌, List, ◌++◌, length, eqb, ltb, Option}
use Rattle.base_lists.specs.Ranges.{first, least, pick_list}
use Rattle.base_fields.specs.declared.ByteOrder.{ByteOrder}
use Rattle.base_scope.specs.Text.{text}
use Rattle.base_scope.specs.Codes.{TEXT, DATA, RODATA, LINES, code_name, target_code}
use Rattle.base_scope.specs.Refusals.{found_below}
use Rattle.elf_readers.specs.Readers.{section_count, section, section_named, coded_section, coded_contents}
use Rattle.elf_symbols.specs.Symbols.{symbol_count, symbol}
use Rattle.elf_relocations.specs.Relocations.{is_rela, is_table}
use Rattle.merge_kept.specs.Kept.{kept}
use Rattle.symbols_taken.specs.Used.{code_of, is_source_table}

-- its number
abbrev pub CLASH : ℕ
CLASH = 10

module _ (o : ByteOrder) (C : List ℕ) where
  -- "a non-empty relocation table for a section other than its first .text, .data, .rodata or .bss"
  unfoldable pub is_stale : ℕ → Bool
  is_stale i = is_table o C i && (ltb 0 (section o C i).sh_size && ltb LINES (code_of o C (section o C i).sh_info))

  -- a relocation table that refers to a section from `stay` on, by sh_info; a section from there on that some symbol is in
  unfoldable pub leads_out : ℕ → ℕ → Bool
  leads_out stay i = is_table o C i && not (ltb (section o C i).sh_info stay)

  unfoldable pub holds_symbol : ℕ → Bool
  holds_symbol i = ltb (first (λ k. eqb (symbol o C k).st_shndx i) 0 (symbol_count o C)) (symbol_count o C)

  unfoldable pub is_missed : ℕ → ℕ → Bool
  is_missed stay i = not (ltb i stay) && holds_symbol i

  -- section i of C is at fault by itself
  unfoldable pub is_cut : ℕ → ℕ → Bool
  is_cut stay i = is_stale i || (leads_out stay i || is_missed stay i)

-- the name of the table that entries for the target of a code join
unfoldable pub joined_name : Bool → ℕ → List ℕ
joined_name rela c = pick_list rela (text ".rela") (text ".rel") ++ code_name c

-- one of four names, by the code (proofs/Joined.antt, `names_of`: of the names of four codes it is the code's)
unfoldable pub name_among : ℕ → List ℕ → List ℕ → List ℕ → List ℕ → List ℕ
name_among c a b d e = pick_list (eqb c TEXT) a (pick_list (eqb c DATA) b (pick_list (eqb c RODATA) d e))

module _ (o : ByteOrder) (A : List ℕ) where
  -- A's table t is carried: it relocates one of the five, and that one holds bytes
  unfoldable pub carried_code : ℕ → ℕ
  carried_code t = code_of o A (section o A t).sh_info

  unfoldable pub is_carried : ℕ → Bool
  is_carried t = is_source_table o A t && ltb 0 (length (coded_contents o A (carried_code t)))

-- C's section j has another type, or another section of its own than C's of the code
unfoldable pub is_other_table : ByteOrder → List ℕ → ℕ → ℕ → ℕ → Bool
is_other_table o C kind c j = not (eqb (section o C j).sh_type kind) || not (eqb (section o C j).sh_info (coded_section o C c))

module _ (o : ByteOrder) (C A : List ℕ) where
  -- C's first section of the name that A's table t joins
  unfoldable pub joined_section : ℕ → ℕ
  joined_section t = section_named o C (joined_name (is_rela o A t) (target_code (carried_code o A t)))

  -- "C's .rel or .rela table that A's relocations join differs in type or target"; without relocations nothing joins
  unfoldable pub is_misjoined : ℕ → ℕ → Bool
  is_misjoined stay t =
      (is_carried o A t && ltb 0 (section o A t).sh_size)
      && (ltb (joined_section t) stay && is_other_table o C (section o A t).sh_type (target_code (carried_code o A t)) (joined_section t))

  -- where it is, or C's section count
  unfoldable pub clash_of : ℕ → ℕ → ℕ
  clash_of stay t = cond (is_misjoined stay t) (joined_section t) (section_count o C)

  -- the lowest section at fault
  unfoldable pub clash_at : ℕ → ℕ
  clash_at stay =
      min (first (is_cut o C stay) 0 (section_count o C)) (least joined_section (is_misjoined stay) (section_count o C) (section_count o A))

  unfoldable pub clash_finding : ℕ → Option ℕ
  clash_finding flag = found_below (section_count o C) (clash_at (kept o C flag))
