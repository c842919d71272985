-- What each way through the code says of a place: a late place is a word of the table, and sections are at most as many as an object may have. Assumes nothing.
use Rattle.std.specs.Prelude.{None, Some, Option}
use Prim.Native.Nat.{ℕ, ◌+◌, ◌-◌, ◌*◌, ◌/◌, ◌^◌, ◌≤◌, ◌<◌}
use mathlib.Core.Path.{◌≡◌, refl, sym, ◌∙◌}
use mathlib.Core.Bool.{Bool, true, false, ◌&&◌}
use mathlib.Core.List.{List}
use native.Mathlib.Omega.{arith}
use lib.ListN.{get_or}
use lib.Dec.{ltb}
use borrow.Author.Tests.{eq-eqb, ne_eqb}
use Rattle.base_lists.proofs.Ranges.{by-test, first_high}
use Rattle.base_fields.specs.declared.ByteOrder.{ByteOrder}
use Rattle.base_fields.specs.declared.ByteOrder.TheVariants.{Big}
use Rattle.base_fields.specs.Numbers.{number}
use Rattle.base_fields.specs.Layouts.{fields_from}
use Rattle.base_fields.proofs.Numbers.{number_lt}
use Rattle.base_packed.specs.Packed.{binding_of}
use Rattle.base_scope.specs.Codes.{LATE_RODATA, target_code}
use Rattle.base_scope.specs.Limits.{LATE_ROW, LATE_WORDS}
use Rattle.elf_records.specs.declared.symbol.SymbolEntry.{SymbolEntry}
use Rattle.elf_records.specs.Symbol.{symbol_layout, symbol_from, symbol_at}
use Rattle.elf_readers.specs.Readers.{section_count, section_named, coded_section}
use Rattle.elf_symbols.specs.Symbols.{symbol_place, symbol}
use Rattle.elf_check.specs.declared.View.{View}
use Rattle.elf_check.specs.View.{section_in, Viewed}
use Rattle.elf_check.proofs.Views.{view_section}
use Rattle.late_laws.specs.of_late_lookups.Fields.{SOURCE, DUMMIES, LAST, late_field, late_word, row_dummies, row_past, place_in_row, is_start, offset_at}
use Rattle.statics_table.specs.declared.Static.{Static}
use Rattle.statics_table.specs.Statics.{static_binding}
use Rattle.statics_table.specs.Table.{static_in}
use Rattle.symbols_holders.specs.of_symbols_taken.Taken.{is_placed_in}
use Rattle.symbols_holders.specs.of_symbols_taken.Code.{code_in}
use Rattle.symbols_fill.specs.declared.SymbolPlace.{SymbolPlace}
use Rattle.symbols_fill.specs.declared.Filling.{Filling}
use Rattle.symbols_fill.specs.Fill.{place_by_entry, place_c, late_place_in, late_value_in, index_a, place_a, place_static, SmallSections}

-- ---- sections

-- an entry's section index is one half of it
index_word : (o : ByteOrder) (F : List ℕ) (k : ℕ) → (symbol o F k).st_shndx ≡ number o 2 F (symbol_place o F k + 14)
unfolding symbol symbol_at symbol_from symbol_layout fields_from
index_word o F k = refl

pub index_lt : (o : ByteOrder) (F : List ℕ) (k : ℕ) (s : SymbolEntry) → s ≡ symbol o F k → ((i : ℕ) → get_or F i 0 < 256) → s.st_shndx < 65536
index_lt o F k s is small = rw (is, index_word o F k) (number_lt o 2 F (symbol_place o F k + 14) small)

coded_le : (o : ByteOrder) (F : List ℕ) (c : ℕ) → coded_section o F c ≤ section_count o F
unfolding coded_section section_named
coded_le o F c = first_high _ 0 (section_count o F) (omega arith)

pub small_sections : (o : ByteOrder) (F : List ℕ) (v : View) → Viewed o F v → SmallSections v
small_sections o F v w c low high = omega (arith, view_section o F v w.is c low high, coded_le o F c, w.named.headed.few)

-- ---- late places

moved_same : (a b : ℕ) → Some a ≡ Some b → a ≡ b
moved_same a b e = cc

unmoved_not : (p : ℕ) → None ≡ Some p → ⊥
unmoved_not p e = let z : ◌≡◌ {A = ℕ} 0 1 = cc in omega arith

module _ (late : List ℕ) (bytes : (i : ℕ) → get_or late i 0 < 256) where
  row_small : (i x : ℕ) → place_in_row late i x < 2 ^ 32
  unfolding place_in_row late_word late_field
  row_small i x = by-test (ltb ((x - late_field late SOURCE i) / 4) (row_dummies late i))
      (λ t. rw t (omega (arith, number_lt Big 3 late (LATE_WORDS + 3 * (late_field late DUMMIES i + (x - late_field late SOURCE i) / 4)) bytes)))
      (λ f. rw f (omega (arith, number_lt Big 4 late (LATE_ROW * (i + 1) + 4 * LAST) bytes)))

  pub place_small : (n x : ℕ) (r : Option ℕ) (p : ℕ) → r ≡ offset_at late n x → r ≡ Some p → p < 2 ^ 32
  unfolding offset_at
  place_small n x r p e m = by-test (ltb (row_past late SOURCE n x) n && is_start late (row_past late SOURCE n x) x)
      (λ t.
      let i : ℕ = row_past late SOURCE n x in
      let q : Some (place_in_row late i x) ≡ Some p = sym (e ∙ rw t) ∙ m in
      rw (← moved_same (place_in_row late i x) p q) (row_small i x))
      (λ f. absurd (unmoved_not p (sym (e ∙ rw f) ∙ m)))

module _ (runs : Bool) (late : List ℕ) (n x : ℕ) where
  pub late_moved : (r : Option ℕ) (p : ℕ) → runs ≡ true → r ≡ offset_at late n x → r ≡ Some p → p ≡ late_place_in runs late n x
  unfolding late_place_in
  late_moved r p t e m = rw (t, ← e, m)

  pub late_unmoved : (r : Option ℕ) → runs ≡ true → r ≡ offset_at late n x → r ≡ None → 0 ≡ late_place_in runs late n x
  unfolding late_place_in
  late_unmoved r t e m = rw (t, ← e, m)

  pub late_idle : runs ≡ false → 0 ≡ late_place_in runs late n x
  unfolding late_place_in
  late_idle f = rw f

  pub value_late : (code r : ℕ) → code ≡ LATE_RODATA → r ≡ late_place_in runs late n x → r ≡ late_value_in code runs late n x
  unfolding late_value_in
  value_late code r e is = rw (eq-eqb code LATE_RODATA e) is

  pub value_stays : (code : ℕ) → (code ≡ LATE_RODATA → ⊥) → x ≡ late_value_in code runs late n x
  unfolding late_value_in
  value_stays code d = rw (ne_eqb code LATE_RODATA d)

-- ---- places, from an entry e and what is read of it

pub place_own : (o : ByteOrder) (C : List ℕ) (k : ℕ) (e : SymbolEntry) (b : ℕ) → e ≡ symbol o C k → b ≡ binding_of e.st_info
    → ◌≡◌ {A = SymbolPlace} (record { section = e.st_shndx; value = e.st_value; binding = b }) (place_c o C k)
unfolding place_c place_by_entry
place_own o C k e b is f = rw (f, is)

module _ (A late : List ℕ) (f : Filling) (k : ℕ) (e : SymbolEntry) (b : ℕ) (is : e ≡ symbol f.inputs.order A k) (bound : b ≡ binding_of e.st_info) where
  pub place_moved : (c t x y : ℕ) → is_placed_in e.st_shndx ≡ true → c ≡ code_in f.inputs.assembled e.st_shndx → t ≡ target_code c → x ≡ section_in f.inputs.compiled t
      → y ≡ late_value_in c f.step.runs late f.inputs.blocks e.st_value
      → ◌≡◌ {A = SymbolPlace} (record { section = x; value = y; binding = b }) (place_a A late f k)
  unfolding place_a index_a
  place_moved c t x y p code target section value =
      let q : is_placed_in (symbol f.inputs.order A k).st_shndx ≡ true = rw (← is) p in
      rw (bound, section, target, value, code, is, q)

  pub place_kept : is_placed_in e.st_shndx ≡ false
      → ◌≡◌ {A = SymbolPlace} (record { section = e.st_shndx; value = e.st_value; binding = b }) (place_a A late f k)
  unfolding place_a index_a
  place_kept p =
      let q : is_placed_in (symbol f.inputs.order A k).st_shndx ≡ false = rw (← is) p in
      rw (bound, is, q)

pub place_static_lem : (T : List ℕ) (f : Filling) (k : ℕ) (s : Static) (x b : ℕ) → s ≡ static_in T k → x ≡ section_in f.inputs.compiled s.code → b ≡ static_binding f.mode
    → ◌≡◌ {A = SymbolPlace} (record { section = x; value = s.value; binding = b }) (place_static T f k)
unfolding place_static
place_static_lem T f k s x b is section binding = rw (section, binding, is)
