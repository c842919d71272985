-- Which symbols are taken: what each way through the tests says, with the names and the marks in hand. Assumes nothing.
use Prim.Native.Nat.{ℕ, ◌<◌}
use mathlib.Core.Path.{◌≡◌, ap, ◌∙◌}
use mathlib.Core.Bool.{Bool, true, false, not, ◌&&◌}
use mathlib.Core.List.{List}
use native.Mathlib.Omega.{arith}
use lib.ListN.{length, get_or}
use lib.Dec.{eqb, ltb}
use borrow.Author.Tests.{eq-eqb, ne_eqb, not-true}
use Rattle.base_lists.proofs.Ranges.{and_parts}
use Rattle.base_fields.specs.declared.ByteOrder.{ByteOrder}
use Rattle.elf_symbols.specs.Symbols.{symbol_count, Entries}
use Rattle.elf_symbols.proofs.Symbols.{table_at, table_count}
use Rattle.merge_inputs.specs.of_elf_check.declared.View.{View}
use Rattle.merge_inputs.specs.of_elf_check.View.{view_of, Viewed}
use Rattle.merge_inputs.proofs.of_elf_check.Views.{view_table}
use Rattle.symbols_taken.specs.Used.{is_used}
use Rattle.symbols_taken.specs.Taken.{is_helper, locals_of, is_taken_c, is_taken_a}
use Rattle.symbols_taken.specs.Code.{AtSymbol}
use Rattle.symbols_taken.proofs.Marks.{marks_long, mark_read}

-- ---- the symbols in hand

module _ (o : ByteOrder) (A : List ℕ) (v : View) (strings used : List ℕ) (k : ℕ) (s : AtSymbol o A v strings used k) where
  pub at_entries : Entries o A v.symbols.at strings
  at_entries = record { tabled = s.viewed.tabled; from = table_at o A v.symbols (view_table o A v s.viewed.is s.viewed.tabled); names = s.names }

  pub at_mark : k < length used
  at_mark = omega (arith, s.below, marks_long o A used s.marks)

  view_locals : v.locals ≡ locals_of o A
  unfolding locals_of view_of
  view_locals = ap (λ (x : View). x.locals) s.viewed.is

  pub local_read : (r : Bool) → r ≡ (ltb k v.locals && not (eqb (get_or used k 0) 1)) → r ≡ (ltb k (locals_of o A) && not (is_used o A k))
  local_read r e = e ∙ rw (view_locals, mark_read o A used s.marks k s.below)

-- their number, from where they stand
module _ (o : ByteOrder) (A : List ℕ) (v : View) (x : Viewed o A v) where
  pub view_symbols : v.symbols.count ≡ symbol_count o A
  view_symbols = table_count o A v.symbols (view_table o A v x.is x.tabled)

-- ---- which are taken

module _ (o : ByteOrder) (C : List ℕ) (k : ℕ) where
  pub taken_null : k ≡ 0 → false ≡ is_taken_c o C k
  unfolding is_taken_c
  taken_null e = rw (eq-eqb k 0 e)

  pub taken_named : (h : Bool) → (k ≡ 0 → ⊥) → h ≡ is_helper o C k → not h ≡ is_taken_c o C k
  unfolding is_taken_c
  taken_named h n e = rw (ne_eqb k 0 n, e)

module _ (o : ByteOrder) (A : List ℕ) (k : ℕ) where
  pub taken_unused : (ltb k (locals_of o A) && not (is_used o A k)) ≡ true → false ≡ is_taken_a o A k
  unfolding is_taken_a
  taken_unused t = rw t

  pub taken_kept : (h : Bool) → (ltb k (locals_of o A) && not (is_used o A k)) ≡ false → h ≡ is_helper o A k → not h ≡ is_taken_a o A k
  unfolding is_taken_a
  taken_kept h f e = rw (f, e)

  pub taken_plain : is_taken_a o A k ≡ true → is_helper o A k ≡ false
  unfolding is_taken_a
  taken_plain e = not-true (is_helper o A k) (and_parts (not (ltb k (locals_of o A) && not (is_used o A k))) (not (is_helper o A k)) e).1
