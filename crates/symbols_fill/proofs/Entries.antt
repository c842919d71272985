-- The places in hand are those of the entries in the result: what 15 and 16 leave true gives a taken late symbol its moved place, and a type that changes leaves the binding.
-- Assumes nothing.
use Prim.Native.Nat.{ℕ, ◌^◌, ◌≤◌, ◌<◌}
use mathlib.Core.Path.{◌≡◌, refl, sym, ◌∙◌}
use mathlib.Core.Bool.{Bool, true, false, cond}
use mathlib.Core.List.{List}
use native.Mathlib.Omega.{arith}
use lib.Dec.{eqb}
use borrow.Author.Tests.{eqb-true}
use Rattle.base_lists.specs.Strings.{same}
use Rattle.base_lists.proofs.Ranges.{by-test, both}
use Rattle.base_fields.specs.declared.ByteOrder.{ByteOrder}
use Rattle.base_packed.specs.Packed.{binding_of, type_of}
use Rattle.base_packed.proofs.Packed.{binding_join}
use Rattle.base_scope.specs.Text.{text}
use Rattle.base_scope.specs.Elf.{STT_OBJECT, STT_FUNC}
use Rattle.base_scope.specs.Codes.{TEXT, LATE_RODATA, LATE_TARGET, CODES, target_code}
use Rattle.elf_records.specs.declared.symbol.SymbolEntry.{SymbolEntry}
use Rattle.elf_readers.specs.Readers.{coded_contents}
use Rattle.elf_symbols.specs.Symbols.{symbol_count, symbol}
use Rattle.elf_check.proofs.Views.{view_section}
use Rattle.blocks_places.specs.Places.{Place}
use Rattle.late_laws.specs.of_late_moves.Moved.{is_moved}
use Rattle.late_laws.proofs.of_late_moves.Idle.{idle_moved}
use Rattle.late_laws.proofs.Copied.{place_copied}
use Rattle.late_laws.specs.of_late_lookups.Lookups.{moved_offset}
use Rattle.late_laws.proofs.of_late_lookups.Lookups.{offset_moved}
use Rattle.symbols_holders.specs.of_merge_labels.Labels.{late_start}
use Rattle.statics_table.specs.declared.Static.{Static}
use Rattle.statics_table.specs.Statics.{static_type, static_binding}
use Rattle.statics_table.specs.Table.{static_in, statics_in}
use Rattle.statics_table.proofs.Table.{length_statics, statics_at}
use Rattle.statics_entry.specs.Entry.{nth}
use Rattle.symbols_holders.specs.of_statics_walk.Sound.{StaticsSound}
use Rattle.symbols_holders.specs.of_statics_symbols.Entries.{symbol_of_static, static_symbol}
use Rattle.symbols_holders.specs.of_symbols_taken.Taken.{is_taken_a, is_placed_in, symbol_code}
use Rattle.symbols_holders.specs.of_symbols_taken.Code.{code_in}
use Rattle.symbols_holders.proofs.of_symbols_taken.Sections.{code_range, code_is}
use Rattle.symbols_holders.proofs.of_symbols_taken.Faults.{target_low}
use Rattle.symbols_holders.specs.of_symbols_ids.Entries.{finished, late_place, is_placed_a, section_a, value_a, is_glabel_a, type_a, entry_a}
use Rattle.symbols_holders.specs.of_symbols_ids.Ids.{entry_static}
use Rattle.symbols_fill.specs.declared.Filling.{Filling}
use Rattle.symbols_fill.specs.Fill.{place_by_entry, place_c, late_place_in, late_value_in, index_a, place_a, place_static}
use Rattle.symbols_fill.specs.Stage.{FillStage}

-- ---- the place of an entry

finished_type : (e : SymbolEntry) (b : Bool) → cond b STT_OBJECT (type_of e.st_info) < 2 ^ 4
finished_type e true = omega arith
finished_type e false = omega arith

pub finished_place : (name : List ℕ) (e : SymbolEntry) → place_by_entry (finished name e) ≡ place_by_entry e
unfolding place_by_entry finished
finished_place name e =
    rw (binding_join (binding_of e.st_info) (cond (same name (text "_gp_disp")) STT_OBJECT (type_of e.st_info)) (finished_type e (same name (text "_gp_disp"))))

-- ---- C's symbols, A's and statics

nth_row : (T : List ℕ) (n k : ℕ) → k < n → nth (statics_in T n) k ≡ static_in T k
unfolding nth
nth_row T n k h = statics_at T k n _ h

-- sound statics have codes
pub sound_codes : (o : ByteOrder) (C T : List ℕ) (head n : ℕ) → StaticsSound o C head (statics_in T n) → (k : ℕ) → k < n → (1 ≤ (static_in T k).code) × ((static_in T k).code ≤ CODES)
sound_codes o C T head n s k h =
    let x = s.each k (rw (length_statics T n) h) in
    let e = nth_row T n k h in
    (rw (← e) x.low, rw (← e) x.high)

pub place_c_is : (o : ByteOrder) (C : List ℕ) (k : ℕ) → place_c o C k ≡ place_by_entry (symbol o C k)
unfolding place_c
place_c_is o C k = refl

glabel_type : (x : ℕ) (b : Bool) → cond b STT_FUNC (type_of x) < 2 ^ 4
glabel_type x true = omega arith
glabel_type x false = omega arith

static_type_lem : (b : Bool) → cond b STT_FUNC STT_OBJECT < 2 ^ 4
static_type_lem true = omega arith
static_type_lem false = omega arith

module _ (C A : List ℕ) (P : List Place) (B T late : List ℕ) (f : Filling) (s : FillStage C A P B T late f) where
  abbrev o : ByteOrder
  o = f.inputs.order

  abbrev S : List Static
  S = statics_in T f.sources.statics

  late_is : (x : ℕ) → is_moved P B (late_start o A) x ≡ true → late_place_in f.step.runs late f.inputs.blocks x ≡ late_place o C A P B x
  unfolding late_place_in late_place moved_offset
  late_is x moved = by-test f.step.runs
      (λ t.
      rw (t, s.many, offset_moved o P B (coded_contents o C LATE_TARGET) (late_start o A) late (s.moves t) x, moved)
      (place_copied o P B (coded_contents o C LATE_TARGET) (coded_contents o A LATE_TARGET) s.fitting (late_start o A) x))
      (λ n. both moved (idle_moved P B (sym s.there ∙ n) (late_start o A) x))

  module _ (k : ℕ) where
    abbrev index : ℕ
    index = (symbol o A k).st_shndx

    code_same : code_in f.inputs.assembled index ≡ symbol_code o A k
    unfolding symbol_code
    code_same = code_is o A f.inputs.assembled s.assembled.is index

    section_same : (place_a A late f k).section ≡ section_a o C A P B k
    unfolding place_a index_a section_a is_placed_a
    section_same =
        let c = code_range f.inputs.assembled index in
        let t = target_low (code_in f.inputs.assembled index) c.0 c.1 in
        rw (view_section o C f.inputs.compiled s.compiled.is (target_code (code_in f.inputs.assembled index)) t.0 t.1, code_same)

    value_same : k < symbol_count o A → is_taken_a o A k ≡ true → (place_a A late f k).value ≡ value_a o C A P B k
    unfolding place_a index_a value_a is_placed_a late_value_in
    value_same h taken =
        rw code_same
        (by-test (is_placed_in index)
        (λ p. by-test (eqb (symbol_code o A k) LATE_RODATA)
        (λ l. rw (p, l) (late_is (symbol o A k).st_value (s.passed.moved k h taken (eqb-true (symbol_code o A k) LATE_RODATA l))))
        (λ l. rw (p, l)))
        (λ p. rw p))

    binding_same : binding_of (entry_a o C A P B k).st_info ≡ (place_a A late f k).binding
    unfolding place_a entry_a type_a
    binding_same = binding_join (binding_of (symbol o A k).st_info) (cond (is_glabel_a o C A P B k) STT_FUNC (type_of (symbol o A k).st_info)) (glabel_type (symbol o A k).st_info (is_glabel_a o C A P B k))

    pub place_a_is : k < symbol_count o A → is_taken_a o A k ≡ true → place_a A late f k ≡ place_by_entry (entry_a o C A P B k)
    unfolding place_by_entry entry_a
    place_a_is h taken = λ j. record { section = section_same j; value = value_same h taken j; binding = sym binding_same j }

    pub place_static_is : k < f.sources.statics → place_static T f k ≡ place_by_entry (entry_static o C A P B f.mode S k)
    unfolding place_static place_by_entry entry_static static_symbol symbol_of_static static_type
    place_static_is h =
        let c = s.codes k h in
        rw (nth_row T f.sources.statics k h, view_section o C f.inputs.compiled s.compiled.is (static_in T k).code c.0 c.1, binding_join (static_binding f.mode) (cond (eqb (static_in T k).code TEXT) STT_FUNC STT_OBJECT) (static_type_lem (eqb (static_in T k).code TEXT)))
