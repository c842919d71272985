-- The object that a merge writes, section by section (document 01, "Merge", "Symbols", "Carrying"; 000): C's sections that stay, then a new one for each name that A's tables
-- need and C lacks. P are the places of the lines of the block file B; `flag` drops trailing sections, `mode` and `path` say how statics are named.
use Rattle.std.specs.Prelude.{ℕ, ◌+◌, ◌-◌, Bool, true, false, cond, not, ◌||◌, List, [], ◌++◌, length, eqb, ltb}
use Rattle.base_lists.specs.Ranges.{gather, pick_list}
use Rattle.base_fields.specs.declared.ByteOrder.{ByteOrder}
use Rattle.base_scope.specs.Elf.{SHT_MIPS_DEBUG}
use Rattle.base_scope.specs.Codes.{BSS, REGINFO, target_code}
use Rattle.elf_records.specs.declared.section.SectionHeader.{SectionHeader}
use Rattle.elf_readers.specs.Readers.{header, section, contents, coded_section}
use Rattle.elf_symbols.specs.Symbols.{symtab, strtab}
use Rattle.elf_relocations.specs.Relocations.{is_table, entry_size}
use Rattle.blocks_places.specs.Places.{Place}
use Rattle.statics_table.specs.declared.Static.{Static}
use Rattle.statics_table.specs.Statics.{name_head}
use Rattle.statics_walk.specs.Walk.{statics}
use Rattle.merge_sections.specs.Sections.{result_section, register_bytes}
use Rattle.merge_kept.specs.Kept.{kept}
use Rattle.symbols_merge.specs.Merged.{local_count}
use Rattle.carry_entries.specs.of_symbols_taken.Used.{is_section_of, code_of}
use Rattle.carry_entries.specs.of_symbols_ids.Ids.{merge_candidates}
use Rattle.carry_entries.specs.of_symbols_ids.Table.{result_symbols}
use Rattle.carry_entries.specs.of_carry_clash.Clash.{carried_code}
use Rattle.carry_entries.specs.Entries.{carried_bytes}
use Rattle.carry_entries.specs.Carried.{carrying_c, carrying_a}
use Rattle.carry_homes.specs.Homes.{carried_table, new_count, opened_by, new_name, joined_bytes}
use Rattle.write_strings.specs.Strings.{zero_ended, result_strings}
use Rattle.write_object.specs.Object.{Plan, object_bytes}

abbrev pick_heading : Bool → SectionHeader → SectionHeader → SectionHeader
pick_heading true a b = a
pick_heading false a b = b

-- the names of the first n new sections, each with its zero byte; `stay` is how many of C's sections stay
unfoldable pub new_names : ByteOrder → List ℕ → List ℕ → ℕ → ℕ → List ℕ
new_names o C A stay n = gather (λ i. true) (λ i. zero_ended (new_name o C A stay i)) n

module _ (o : ByteOrder) (C A : List ℕ) (P : List Place) (B path : List ℕ) (flag mode : ℕ) where
  -- how many of C's sections stay; the bytes that the mode puts in front of a static's name; the statics
  abbrev stay : ℕ
  stay = kept o C flag

  abbrev head : ℕ
  head = length (name_head mode path)

  abbrev S : List Static
  S = statics o C mode head

  -- ---- what sections hold

  -- section i of the result is a relocation table: C's, or a new one
  unfoldable pub is_planned_table : ℕ → Bool
  is_planned_table i = not (ltb i stay) || is_table o C i

  -- what it holds: C's kept entries, then those of A's tables that join it
  unfoldable pub table_bytes : ℕ → List ℕ
  table_bytes i =
      pick_list (ltb i stay) (carried_bytes o C (carrying_c o C A P B mode head) i) []
      ++ joined_bytes o C A stay (carried_bytes o A (carrying_a o C A P B mode head)) i

  -- C's other sections: a debug section, whose bytes stay; the symbol table; its strings; .reginfo; one that blocks are copied into; or any other, whose bytes stay
  unfoldable pub own_bytes : ℕ → List ℕ
  own_bytes i =
      pick_list (eqb (section o C i).sh_type SHT_MIPS_DEBUG) (contents o C i)
      (pick_list (eqb i (symtab o C)) (result_symbols o C A P B mode S)
      (pick_list (eqb i (strtab o C)) (result_strings o C A mode path S)
      (pick_list (is_section_of o C i REGINFO) (register_bytes o C A)
      (pick_list (ltb (code_of o C i) BSS) (result_section o C A P B (code_of o C i))
      (contents o C i)))))

  -- the table of section names gains those of new sections, behind all that it holds as a table of symbol names
  unfoldable pub added_names : ℕ → List ℕ
  added_names i = pick_list (eqb i (header o C).e_shstrndx) (new_names o C A stay (new_count o C A stay)) []

  unfoldable pub planned_bytes : ℕ → List ℕ
  planned_bytes i = pick_list (is_planned_table i) (table_bytes i) (own_bytes i ++ added_names i)

  -- ---- their headers, but for sh_offset and sh_size, which are as the object is written

  -- the symbol table's sh_info is the number of its local entries
  unfoldable pub kept_heading : ℕ → SectionHeader
  kept_heading i = record {
    sh_name = (section o C i).sh_name;
    sh_type = (section o C i).sh_type;
    sh_flags = (section o C i).sh_flags;
    sh_addr = (section o C i).sh_addr;
    sh_offset = (section o C i).sh_offset;
    sh_size = (section o C i).sh_size;
    sh_link = (section o C i).sh_link;
    sh_info = cond (eqb i (symtab o C)) (local_count (merge_candidates o C A P B mode head)) (section o C i).sh_info;
    sh_addralign = (section o C i).sh_addralign;
    sh_entsize = (section o C i).sh_entsize;
  }

  -- the i-th new section: a table of the type of A's that opens it, for C's section
  abbrev opener : ℕ → ℕ
  opener i = carried_table o A (opened_by o C A stay i)

  unfoldable pub new_heading : ℕ → SectionHeader
  new_heading i = record {
    sh_name = length (own_bytes (header o C).e_shstrndx) + length (new_names o C A stay i);
    sh_type = (section o A (opener i)).sh_type;
    sh_flags = 0;
    sh_addr = 0;
    sh_offset = 0;
    sh_size = 0;
    sh_link = symtab o C;
    sh_info = coded_section o C (target_code (carried_code o A (opener i)));
    sh_addralign = 4;
    sh_entsize = entry_size o A (opener i);
  }

  -- ---- the object

  unfoldable pub merged_plan : Plan
  merged_plan = record {
    many = stay + new_count o C A stay;
    heading = λ i. pick_heading (ltb i stay) (kept_heading i) (new_heading (i - stay));
    content = planned_bytes;
  }

  unfoldable pub merged_object : List ℕ
  merged_object = object_bytes merged_plan o (header o C)
