-- Everything that an accepted object is known to be: the answer `Accepted` leaves each of the six tests without a fault, and each of them says
-- its part of `Sound`. Assumes nothing.
use Rattle.std.specs.Prelude.{None, Some, Option}
use mathlib.Core.Path.{◌≡◌, refl, sym}
use mathlib.Core.Logic.{⊎_elim}
use mathlib.Core.Bool.{true}
use mathlib.Core.List.{List}
use native.Mathlib.Nat.{mul_comm, div-add-mod'}
use Rattle.base_scope.specs.Codes.{CODES, code_type}
use Prim.Native.Nat.{ℕ, ◌+◌, ◌-◌, ◌*◌, ◌/◌, ◌%◌, ◌≤◌, ◌<◌}
use native.Mathlib.Omega.{arith}
use borrow.Author.Tests.{eqb-true, ne_eqb}
use Rattle.base_fields.specs.declared.ByteOrder.{ByteOrder}
use Rattle.elf_records.specs.declared.section.SectionHeader.{SectionHeader}
use Rattle.elf_readers.specs.Readers.{order_of, section_count, section, coded_section}
use Rattle.elf_header.specs.FileHeader.{header_fault}
use Rattle.elf_sections.specs.Headers.{whole_entries, section_fault}
use Rattle.elf_sections.specs.Names.{name_fault, type_fault}
use Rattle.elf_sections.proofs.Bounds.{counted, sections_sound, sound_entries, headed_of, named_of, names_strings, names_sound, types_sound}
use Rattle.elf_symbols.specs.Symbols.{symtab, symbol_count}
use Rattle.elf_symbol_faults.specs.Faults.{symbol_fault}
use Rattle.elf_symbol_faults.proofs.Faults.{fault_sound, fault_tabled, fault_symbols, sound_table, sound_strtab, sound_end, sound_index, sound_zero, sound_unnamed}
use Rattle.elf_relocations.specs.Relocations.{is_table, entry_size, relocation_count, relocation_fault}
use Rattle.elf_relocations.proofs.Relocations.{fault_tables, sound_entsize, size_cases}
use Rattle.elf_check.specs.Object.{Accepted, Checked, refuse, check_tables, check_names, check_in, check_of}
use Rattle.elf_check.specs.Sound.{Sound}

-- an accepted object has no fault in front, and is accepted by the rest
pub refuse_accepted : (number : ℕ) (f : Option ℕ) (rest : Checked) → refuse number f rest ≡ Accepted → (f ≡ None) × (rest ≡ Accepted)
unfolding refuse
refuse_accepted number None rest e = (refl, e)
refuse_accepted number (Some place) rest e = (cc, cc)

-- the six tests of an accepted object
pub record Passed (o : ByteOrder) (F : List ℕ) : Type 0 where
  pub header : header_fault o F ≡ None
  pub sections : section_fault o F ≡ None
  pub names : name_fault o F ≡ None
  pub types : type_fault o F ≡ None
  pub symbols : symbol_fault o F ≡ None
  pub relocations : relocation_fault o F ≡ None

pub passed_of : (o : ByteOrder) (F : List ℕ) → check_in o F ≡ Accepted → Passed o F
unfolding check_in check_names check_tables
passed_of o F e =
    let a = refuse_accepted 2 (header_fault o F) _ e in
    let b = refuse_accepted 3 (section_fault o F) _ a.1 in
    let c = refuse_accepted 4 (name_fault o F) _ b.1 in
    let d = refuse_accepted 3 (type_fault o F) _ c.1 in
    let s = refuse_accepted 5 (symbol_fault o F) _ d.1 in
    let r = refuse_accepted 6 (relocation_fault o F) _ s.1 in
    record { header = a.0; sections = b.0; names = c.0; types = d.0; symbols = s.0; relocations = r.0 }

-- whole entries of w bytes fill the section
whole_fills : (h : SectionHeader) (w : ℕ) → 0 < w → whole_entries h ≡ true → h.sh_entsize ≡ w → h.sh_size ≡ w * (h.sh_size / w)
unfolding whole_entries
whole_fills h w p t e =
    let n : (h.sh_entsize ≡ 0 → ⊥) = λ z. absurd (omega arith) in
    let r : h.sh_size % h.sh_entsize ≡ 0 = eqb-true _ _ (rw (ne_eqb _ _ n) at t) in
    let s : h.sh_size % w ≡ 0 = rw e at r in
    let d : h.sh_size / w * w + h.sh_size % w ≡ h.sh_size = div-add-mod' h.sh_size w in
    rw (mul_comm w (h.sh_size / w)) (omega arith)

module _ (o : ByteOrder) (F : List ℕ) (p : Passed o F) where
  entries : (i : ℕ) → i < section_count o F → whole_entries (section o F i) ≡ true
  entries i l = sound_entries o F i (sections_sound o F p.sections i l)

  symbol_bytes_lem : (section o F (symtab o F)).sh_size ≡ 16 * symbol_count o F
  unfolding symbol_count
  symbol_bytes_lem =
      let t = sound_table o F (fault_sound o F p.symbols) in
      whole_fills (section o F (symtab o F)) 16 (omega arith) (entries (symtab o F) t.there) t.entry

  table_bytes_lem : (t : ℕ) → t < section_count o F → is_table o F t ≡ true → (section o F t).sh_size ≡ entry_size o F t * relocation_count o F t
  unfolding relocation_count
  table_bytes_lem t l is =
      let e = sound_entsize o F t (fault_tables o F p.relocations t l is) in
      let w : 0 < entry_size o F t = ⊎_elim (λ q. omega arith) (λ q. omega arith) (size_cases o F t) in
      whole_fills (section o F t) (entry_size o F t) w (entries t l) e

  -- a code, as the index of `types_sound`
  coded : (c : ℕ) → 1 ≤ c → c ≤ CODES → coded_section o F c < section_count o F → (section o F (coded_section o F c)).sh_type ≡ code_type c
  coded c low high there =
      let e : c - 1 + 1 ≡ c = omega arith in
      rw e at (types_sound o F p.types (c - 1) (omega arith) (rw e there))

  pub sound_of : Sound o F
  sound_of =
      let headed = headed_of o F p.header p.sections in
      let tabled = fault_tabled o F headed p.symbols in
      let symbols = fault_symbols o F p.symbols in
      record {
        fields = p.header;
        names = names_strings o F p.names;
        named = named_of o F headed p.names;
        tabled = tabled;
        some = (counted o F p.sections).0;
        sections = sections_sound o F p.sections;
        section_ends = λ i l. (names_sound o F p.names i l).0;
        section_ascii = λ i l. (names_sound o F p.names i l).1;
        symbol_ends = λ k l. sound_end o F k (symbols k l);
        types = coded;
        null = sound_zero o F (symbols 0 tabled.some);
        unnamed = sound_unnamed o F (symbols 0 tabled.some);
        indices = λ k l. sound_index o F k (symbols k l);
        symbol_entry = (sound_table o F (fault_sound o F p.symbols)).entry;
        symbol_bytes = symbol_bytes_lem;
        strings = sound_strtab o F (fault_sound o F p.symbols);
        tables = fault_tables o F p.relocations;
        table_bytes = table_bytes_lem;
      }

-- what is known of an accepted object
pub accepted : (F : List ℕ) → check_of F ≡ Accepted → Sound (order_of F) F
unfolding check_of
accepted F e = sound_of (order_of F) F (passed_of (order_of F) F e)
