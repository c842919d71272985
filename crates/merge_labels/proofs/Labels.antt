-- The laws of labels: what is read of a label's symbol, and the search for the first line that is mislabelled. Assumes nothing.
use Rattle.std.specs.Prelude.{None, Some}
use Prim.Native.Nat.{ℕ, ◌+◌, ◌≤◌, ◌<◌}
use mathlib.Core.Path.{◌≡◌, refl, sym, ap, ◌∙◌}
use mathlib.Core.Bool.{true, false, not, ◌&&◌}
use mathlib.Core.List.{List, ◌++◌}
use lib.ListN.{length}
use lib.Dec.{eqb, leb}
use borrow.Author.Tests.{lt-ltb, le-ltb, eq-eqb, ne_eqb}
use Rattle.base_lists.specs.Ranges.{first}
use Rattle.base_lists.proofs.Ranges.{by-test, first_here, first_end}
use Rattle.base_fields.specs.declared.ByteOrder.{ByteOrder}
use Rattle.elf_records.specs.declared.symbol.SymbolEntry.{SymbolEntry}
use Rattle.base_scope.specs.Codes.{LATE_RODATA, line_code, line_block}
use Rattle.base_scope.specs.Text.{text}
use Rattle.elf_readers.specs.Readers.{coded_section, coded_contents}
use Rattle.elf_symbols.specs.Symbols.{symbol_count, symbol, symbol_named}
use Rattle.blocks_places.specs.Lines.{line_count, span_label, span_size}
use Rattle.blocks_places.specs.Places.{Place, taken, place}
use Rattle.merge_labels.specs.declared.Label.{Label}
use Rattle.merge_labels.specs.Labels.{label_of, is_at, is_lined, is_mislabelled, mislabelled_at, label_fault, late_label, late_start, late_lined}

-- ---- a label's symbol

module _ (o : ByteOrder) (A name : List ℕ) (k n : ℕ) (found : k ≡ symbol_named o A name) (many : n ≡ symbol_count o A) where
  pub label_there : (y : SymbolEntry) → k < n → y ≡ symbol o A k → ◌≡◌ {A = Label} (record { found = true; section = y.st_shndx; value = y.st_value }) (label_of o A name)
  unfolding label_of
  label_there y h is = rw (← found, ← many, lt-ltb k n h, is)

  pub label_none : n ≤ k → ◌≡◌ {A = Label} (record { found = false; section = 0; value = 0 }) (label_of o A name)
  unfolding label_of
  label_none h = rw (← found, ← many, le-ltb k n h)

module _ (o : ByteOrder) (A name : List ℕ) (s v : ℕ) (l : Label) (is : l ≡ label_of o A name) where
  pub at_read : l.found ≡ true → (eqb l.section s && eqb l.value v) ≡ is_at o A name s v
  unfolding is_at
  at_read t = rw (← is, t)

  pub at_none : l.found ≡ false → false ≡ is_at o A name s v
  unfolding is_at
  at_none f = rw (← is, f)

-- ---- the labels of a line

module _ (o : ByteOrder) (A : List ℕ) (P : List Place) (B : List ℕ) (j : ℕ) where
  -- what was read of it: its section's index, its label, its place and its size
  module _ (s x y : ℕ) (l : List ℕ) (section : s ≡ coded_section o A (line_code j)) (label : l ≡ span_label B j) (at : x ≡ place P j) (size : y ≡ span_size B j) where
    pub lined_both : is_at o A (l ++ text "_asm_start") s x ≡ true → is_at o A (l ++ text "_asm_end") s (x + y) ≡ is_lined o A P B j
    unfolding is_lined
    lined_both e = rw (← section, ← label, ← at, ← size, e)

    pub lined_not : is_at o A (l ++ text "_asm_start") s x ≡ false → false ≡ is_lined o A P B j
    unfolding is_lined
    lined_not e = rw (← section, ← label, ← at, e)

  pub mislabelled_taken : taken P j ≡ true → not (is_lined o A P B j) ≡ is_mislabelled o A P B j
  unfolding is_mislabelled
  mislabelled_taken t = rw t

  pub mislabelled_off : taken P j ≡ false → false ≡ is_mislabelled o A P B j
  unfolding is_mislabelled
  mislabelled_off f = rw f

-- ---- the search

module _ (o : ByteOrder) (A : List ℕ) (P : List Place) (B : List ℕ) (j : ℕ) (e : mislabelled_at o A P B ≡ first (is_mislabelled o A P B) j (line_count B)) where
  pub fault_here : j < line_count B → is_mislabelled o A P B j ≡ true → Some (line_block j) ≡ label_fault o A P B
  unfolding label_fault
  fault_here h t = rw (e, first_here (is_mislabelled o A P B) j (line_count B) h t, lt-ltb j (line_count B) h)

  pub fault_none : line_count B ≤ j → None ≡ label_fault o A P B
  unfolding label_fault
  fault_none h = rw (e, first_end (is_mislabelled o A P B) j (line_count B) h, le-ltb j (line_count B) h)

-- ---- the late labels

at_elsewhere : (o : ByteOrder) (A name : List ℕ) (s v : ℕ) (l : Label) → l ≡ label_of o A name → (l.section ≡ s → ⊥) → is_at o A name s v ≡ false
at_elsewhere o A name s v l is d = by-test l.found
    (λ t. sym (at_read o A name s v l is t) ∙ rw (ne_eqb l.section s d))
    (λ f. sym (at_none o A name s v l is f))

module _ (o : ByteOrder) (A : List ℕ) (n s : ℕ) (start : Label) (is : start ≡ label_of o A (late_label (text "_start"))) (section : s ≡ coded_section o A LATE_RODATA) where
  starts : start.value ≡ late_start o A
  unfolding late_start
  starts = ap (λ (l : Label). l.value) is

  first_at : start.found ≡ true → start.section ≡ s → is_at o A (late_label (text "_start")) s start.value ≡ true
  first_at t e = sym (at_read o A (late_label (text "_start")) s start.value start is t) ∙ rw (eq-eqb start.section s e, eq-eqb start.value start.value refl)

  pub late_read : (w : List ℕ) → w ≡ coded_contents o A LATE_RODATA → start.found ≡ true → start.section ≡ s
      → (is_at o A (late_label (text "_end")) s (start.value + n) && leb (start.value + n) (length w)) ≡ late_lined o A n
  unfolding late_lined
  late_read w q t e = rw (← starts, ← section, ← q, first_at t e)

  pub late_elsewhere : (start.section ≡ s → ⊥) → false ≡ late_lined o A n
  unfolding late_lined
  late_elsewhere d = rw (← starts, ← section, at_elsewhere o A (late_label (text "_start")) s start.value start is d)

  pub late_absent : start.found ≡ false → false ≡ late_lined o A n
  unfolding late_lined
  late_absent f = rw (← starts, ← section, ← at_none o A (late_label (text "_start")) s start.value start is f)
