-- Laws of the relocation tables: each test of refusal 6 from what the code has in hand, where an entry lies, and what the tables of an object that
-- is not refused have. A table is a REL or a RELA, so it is no NOBITS and its bytes lie in the file. Assumes nothing.
use Rattle.std.specs.Prelude.{None, Some}
use mathlib.Core.Path.{◌≡◌, sym, ◌∙◌}
use mathlib.Core.Bool.{Bool, true, false, not, ◌&&◌}
use mathlib.Core.Logic.{◌⊎◌, inl, inr}
use mathlib.Core.List.{List}
use Prim.Native.Nat.{ℕ, ◌+◌, ◌*◌, ◌/◌, ◌≤◌, ◌<◌}
use native.Mathlib.Omega.{arith}
use lib.ListN.{length}
use lib.Dec.{eqb, ltb}
use borrow.Author.Tests.{eq-eqb, ne_eqb, eqb-true, ltb-true, lt-ltb, le-ltb, not-false}
use Rattle.base_lists.specs.Ranges.{first}
use Rattle.base_lists.proofs.Ranges.{and_parts, by-test}
use Rattle.base_fields.specs.declared.ByteOrder.{ByteOrder}
use Rattle.base_fields.specs.Layouts.{width_of}
use Rattle.elf_records.specs.declared.section.SectionHeader.{SectionHeader}
use Rattle.elf_records.specs.Relocation.{relocation_layout, relocation_at}
use Rattle.elf_records.proofs.RoundTrip.{rela_width, rel_width}
use Rattle.base_scope.specs.Elf.{SHT_REL, SHT_RELA, SHT_NOBITS}
use Rattle.base_scope.specs.Refusals.{found_below}
use Rattle.base_scope.proofs.Refusals.{none_found}
use Rattle.elf_readers.specs.Readers.{section_count, section}
use Rattle.elf_readers.specs.Bounds.{Headed}
use Rattle.elf_symbols.specs.Symbols.{symtab}
use Rattle.elf_relocations.specs.Relocations.{is_rela, is_table, entry_size, relocation_table_sound, bad_table, relocation_fault, relocates, table_from, relocation_count, relocation, Listed}

-- ---- the kind of a table, and its entries' size

module _ (o : ByteOrder) (F : List ℕ) (i : ℕ) where
  pub rela_type : is_rela o F i ≡ true → (section o F i).sh_type ≡ SHT_RELA
  unfolding is_rela
  rela_type e = eqb-true _ _ e

  pub table_rela : is_rela o F i ≡ true → true ≡ is_table o F i
  unfolding is_table
  table_rela e = rw e

  pub table_other : is_rela o F i ≡ false → eqb (section o F i).sh_type SHT_REL ≡ is_table o F i
  unfolding is_table
  table_other e = rw e

  -- a table is no section without bytes
  pub table_type : is_table o F i ≡ true → (section o F i).sh_type ≡ SHT_NOBITS → ⊥
  table_type t n = by-test (is_rela o F i)
      (λ e. let k = rela_type e in absurd (omega arith))
      (λ e. let k : (section o F i).sh_type ≡ SHT_REL = eqb-true _ _ (table_other e ∙ t) in absurd (omega arith))

  pub size_rela : is_rela o F i ≡ true → entry_size o F i ≡ 12
  unfolding entry_size
  size_rela e = rw e rela_width

  pub size_rel : is_rela o F i ≡ false → entry_size o F i ≡ 8
  unfolding entry_size
  size_rel e = rw e rel_width

  pub size_kind : (rela : Bool) (r : ℕ) → rela ≡ is_rela o F i → r ≡ width_of (relocation_layout rela) → r ≡ entry_size o F i
  unfolding entry_size
  size_kind rela r e w = rw (w, e)

  pub size_cases : (entry_size o F i ≡ 8) ⊎ (entry_size o F i ≡ 12)
  size_cases = by-test (is_rela o F i) (λ e. inr (size_rela e)) (λ e. inl (size_rel e))

  pub relocates_none : (s : ℕ) → is_table o F i ≡ false → false ≡ relocates o F s i
  unfolding relocates
  relocates_none s t = rw t

-- the bytes of an entry
module _ (rela : Bool) where
  pub width_rela : rela ≡ true → 12 ≡ width_of (relocation_layout rela)
  width_rela e = rw e (sym rela_width)

  pub width_rel : rela ≡ false → 8 ≡ width_of (relocation_layout rela)
  width_rel e = rw e (sym rel_width)

-- a section's type in hand
module _ (o : ByteOrder) (F : List ℕ) (i kind : ℕ) (is : kind ≡ (section o F i).sh_type) where
  pub rela_kind : eqb kind SHT_RELA ≡ is_rela o F i
  unfolding is_rela
  rela_kind = rw is

  pub table_kind_rela : kind ≡ SHT_RELA → true ≡ is_table o F i
  table_kind_rela e = table_rela o F i (sym rela_kind ∙ eq-eqb _ _ e)

  pub table_kind : (kind ≡ SHT_RELA → ⊥) → eqb kind SHT_REL ≡ is_table o F i
  table_kind d = rw is (table_other o F i (sym rela_kind ∙ ne_eqb _ _ d))

-- a section's header in hand
module _ (o : ByteOrder) (F : List ℕ) (i : ℕ) (h : SectionHeader) (is : h ≡ section o F i) where
  pub rela_read : eqb h.sh_type SHT_RELA ≡ is_rela o F i
  unfolding is_rela
  rela_read = rw is

  pub relocates_read : (s : ℕ) → is_table o F i ≡ true → eqb h.sh_info s ≡ relocates o F s i
  unfolding relocates
  relocates_read s t = rw (t, is)

  pub count_read : (size : ℕ) → size ≡ entry_size o F i → h.sh_size / size ≡ relocation_count o F i
  unfolding relocation_count
  count_read size e = rw (is, e)

  pub sound_read : (n symbols size : ℕ) (placed r : Bool) → n ≡ section_count o F → symbols ≡ symtab o F → size ≡ entry_size o F i
      → placed ≡ (ltb h.sh_info n && eqb h.sh_link symbols) → r ≡ (eqb h.sh_entsize size && placed) → r ≡ relocation_table_sound o F i
  unfolding relocation_table_sound
  sound_read n symbols size placed r p q u v e = rw (e, v, u, q, p, is)

-- ---- refusal 6

module _ (o : ByteOrder) (F : List ℕ) where
  pub bad_table_lem : (i : ℕ) (sound : Bool) → is_table o F i ≡ true → sound ≡ relocation_table_sound o F i → not sound ≡ bad_table o F i
  unfolding bad_table
  bad_table_lem i sound t e = rw (t, e)

  pub bad_none : (i : ℕ) → is_table o F i ≡ false → false ≡ bad_table o F i
  unfolding bad_table
  bad_none i t = rw t

  pub fault_at_lem : (n i : ℕ) → n ≡ section_count o F → i < n → first (bad_table o F) 0 n ≡ i → Some i ≡ relocation_fault o F
  unfolding relocation_fault found_below
  fault_at_lem n i e l f = rw (← e, f, lt-ltb _ _ l)

  pub fault_none : (n : ℕ) → n ≡ section_count o F → first (bad_table o F) 0 n ≡ n → None ≡ relocation_fault o F
  unfolding relocation_fault found_below
  fault_none n e f = rw (← e, f, le-ltb n n (omega arith))

  -- the search for a table, from the equation of its ends
  pub table_found : (s from n k : ℕ) → n ≡ section_count o F → first (relocates o F s) from n ≡ k → k ≡ table_from o F s from
  unfolding table_from
  table_found s from n k e f = rw e at (sym f)

  -- every table of an object that is not refused is sound
  pub fault_tables : relocation_fault o F ≡ None → (t : ℕ) → t < section_count o F → is_table o F t ≡ true → relocation_table_sound o F t ≡ true
  unfolding relocation_fault bad_table
  fault_tables e t l is =
      let b : (is_table o F t && not (relocation_table_sound o F t)) ≡ false = none_found (bad_table o F) (section_count o F) e t l in
      not-false (relocation_table_sound o F t) (rw is at b)

-- what the conjuncts of `relocation_table_sound` say
pub record SoundTable (o : ByteOrder) (F : List ℕ) (t : ℕ) : Type 0 where
  pub entry : (section o F t).sh_entsize ≡ entry_size o F t
  pub target : (section o F t).sh_info < section_count o F
  pub symbols : (section o F t).sh_link ≡ symtab o F

module _ (o : ByteOrder) (F : List ℕ) (t : ℕ) where
  pub sound_table : relocation_table_sound o F t ≡ true → SoundTable o F t
  unfolding relocation_table_sound
  sound_table e =
      let rest : Bool = ltb (section o F t).sh_info (section_count o F) && eqb (section o F t).sh_link (symtab o F) in
      let p = and_parts (eqb (section o F t).sh_entsize (entry_size o F t)) rest e in
      let q = and_parts (ltb (section o F t).sh_info (section_count o F)) (eqb (section o F t).sh_link (symtab o F)) p.1 in
      record { entry = eqb-true _ _ p.0; target = ltb-true _ _ q.0; symbols = eqb-true _ _ q.1 }

  pub sound_entsize : relocation_table_sound o F t ≡ true → (section o F t).sh_entsize ≡ entry_size o F t
  sound_entsize e = (sound_table e).entry

  pub sound_info : relocation_table_sound o F t ≡ true → (section o F t).sh_info < section_count o F
  sound_info e = (sound_table e).target

  pub sound_link : relocation_table_sound o F t ≡ true → (section o F t).sh_link ≡ symtab o F
  sound_link e = (sound_table e).symbols

-- ---- where an entry lies

module _ (o : ByteOrder) (F : List ℕ) (t k : ℕ) where
  entry_in_lem : (w s : ℕ) → (w ≡ 8) ⊎ (w ≡ 12) → k < s / w → w * k + w ≤ s
  entry_in_lem w s (inl e) l =
      let m : k < s / 8 = rw e at l in
      rw e (omega arith)
  entry_in_lem w s (inr e) l =
      let m : k < s / 12 = rw e at l in
      rw e (omega arith)

  -- an entry of a table lies in its section
  pub listed_held : Listed o F t k → entry_size o F t * k + entry_size o F t ≤ (section o F t).sh_size
  unfolding relocation_count
  listed_held s = entry_in_lem (entry_size o F t) (section o F t).sh_size (size_cases o F t) s.entry

  -- and so in the file
  pub relocation_inside : Headed o F → Listed o F t k → (section o F t).sh_offset + entry_size o F t * k + entry_size o F t ≤ length F
  relocation_inside s l = omega (arith, s.held t l.table (table_type o F t l.kind), listed_held l)
