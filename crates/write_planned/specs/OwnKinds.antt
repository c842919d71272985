-- Of the code, not of document 01: what C's section i becomes where it is no relocation table, by kinds (`own_bytes` of the crate write_plan; proofs/OwnKinds.antt, `kind_bytes_lem`).
use Rattle.std.specs.Prelude.{ℕ, Bool, true, false, ◌&&◌, List, length, eqb, ltb}
use Rattle.base_fields.specs.declared.ByteOrder.{ByteOrder}
use Rattle.base_scope.specs.Elf.{SHT_MIPS_DEBUG}
use Rattle.base_scope.specs.Codes.{BSS, REGINFO}
use Rattle.elf_readers.specs.Readers.{section, contents}
use Rattle.elf_symbols.specs.Symbols.{symtab, strtab}
use Rattle.elf_check.specs.declared.View.{View}
use Rattle.elf_check.specs.View.{section_in, has_in}
use Rattle.blocks_places.specs.Places.{Place}
use Rattle.statics_table.specs.Statics.{name_head}
use Rattle.statics_walk.specs.Walk.{statics}
use Rattle.write_plan.specs.of_merge_sections.Sections.{result_section, register_bytes}
use Rattle.symbols_taken.specs.Used.{is_section_of, code_of}
use Rattle.symbols_ids.specs.Table.{result_symbols}
use Rattle.write_strings.specs.Strings.{result_strings}
use Rattle.write_planned.specs.declared.OwnKind.{OwnKind}
use Rattle.write_planned.specs.declared.OwnKind.TheVariants.{Same, Symbols, Strings, Registers, Copied}

abbrev pub pick_kind : Bool → OwnKind → OwnKind → OwnKind
pick_kind true a b = a
pick_kind false a b = b

-- section i is .reginfo, by the view
unfoldable pub is_registers_in : View → ℕ → Bool
is_registers_in v i = has_in v REGINFO && eqb (section_in v REGINFO) i

-- its kind by its code, and by its header and what C's symbol table and strings are first
unfoldable pub coded_kind : ByteOrder → List ℕ → ℕ → OwnKind
coded_kind o C i = pick_kind (is_section_of o C i REGINFO) Registers (pick_kind (ltb (code_of o C i) BSS) Copied Same)

unfoldable pub own_kind : ByteOrder → List ℕ → ℕ → OwnKind
own_kind o C i =
    pick_kind (eqb (section o C i).sh_type SHT_MIPS_DEBUG) Same
    (pick_kind (eqb i (symtab o C)) Symbols (pick_kind (eqb i (strtab o C)) Strings (coded_kind o C i)))

-- what a section of a kind becomes
unfoldable pub kind_bytes : ByteOrder → List ℕ → List ℕ → List Place → List ℕ → List ℕ → ℕ → ℕ → OwnKind → List ℕ
kind_bytes o C A P B path mode i Same = contents o C i
kind_bytes o C A P B path mode i Symbols = result_symbols o C A P B mode (statics o C mode (length (name_head mode path)))
kind_bytes o C A P B path mode i Strings = result_strings o C A mode path (statics o C mode (length (name_head mode path)))
kind_bytes o C A P B path mode i Registers = register_bytes o C A
kind_bytes o C A P B path mode i Copied = result_section o C A P B (code_of o C i)
