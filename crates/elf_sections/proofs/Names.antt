-- Laws of refusal 4 and of the types that go by name. Assumes nothing.
use Rattle.std.specs.Prelude.{Some}
use mathlib.Core.Path.{◌≡◌, sym}
use mathlib.Core.Bool.{true, false, cond, not}
use mathlib.Core.List.{List}
use Prim.Native.Nat.{ℕ, ◌+◌, min, ◌≤◌, ◌<◌}
use native.Mathlib.Omega.{arith}
use lib.Dec.{eqb, ltb}
use borrow.Author.Tests.{lt-ltb, le-ltb}
use Rattle.base_lists.specs.Ranges.{first}
use Rattle.base_lists.specs.Strings.{has_end, name_at, ascii}
use Rattle.base_lists.proofs.Strings.{has_end_past}
use Rattle.base_fields.specs.declared.ByteOrder.{ByteOrder}
use Rattle.base_scope.specs.Codes.{code_type}
use Rattle.elf_readers.specs.Readers.{header, section_count, section, is_strtab, section_strings, coded_section}
use Rattle.elf_readers.proofs.Readers.{name_placed, strtab_lt}
use Rattle.elf_sections.specs.Names.{name_sound, bad_name, name_fault, mistyped, coded_after, Naming}
use Rattle.base_scope.specs.Refusals.{found_below}
use Rattle.base_scope.proofs.Refusals.{expect_true, expect_false}

-- a section's name, with its place and the names' table in hand
module _ (o : ByteOrder) (F s : List ℕ) (ends i : ℕ) (n : Naming o F s ends) (at : ℕ) (is : at ≡ (section o F i).sh_name) where
  has_end_lem : has_end (section_strings o F) (section o F i).sh_name ≡ ltb at ends
  has_end_lem = rw (← n.table, ← is, n.past) (has_end_past s at)

  pub name_ended : at < ends → ascii (name_at s at) ≡ name_sound o F i
  unfolding name_sound
  name_ended l = rw (has_end_lem, lt-ltb _ _ l, name_placed o F i at s is n.table)

  pub name_open : ends ≤ at → false ≡ name_sound o F i
  unfolding name_sound
  name_open l = rw (has_end_lem, le-ltb _ _ l)

module _ (o : ByteOrder) (F : List ℕ) (i : ℕ) where
  pub bad_name_false : name_sound o F i ≡ true → bad_name o F i ≡ false
  unfolding bad_name
  bad_name_false e = rw e

  pub bad_name_true : name_sound o F i ≡ false → bad_name o F i ≡ true
  unfolding bad_name
  bad_name_true e = rw e

  -- the section k of code i + 1
  module _ (k : ℕ) (at : k ≡ coded_after o F i) where
    pub mistyped_there : (h t : ℕ) → k < section_count o F → h ≡ (section o F k).sh_type → t ≡ code_type (i + 1) → not (eqb h t) ≡ mistyped o F i
    unfolding mistyped coded_after
    mistyped_there h t l e f = rw (e, f, at, lt-ltb (coded_section o F (i + 1)) (section_count o F) (rw at at l))

    pub mistyped_absent : section_count o F ≤ k → false ≡ mistyped o F i
    unfolding mistyped coded_after
    mistyped_absent l = rw (le-ltb (coded_section o F (i + 1)) (section_count o F) (rw at at l))

    -- the lower of it and the lowest so far
    pub lower_taken : (lowest : ℕ) → mistyped o F i ≡ true → k < lowest → k ≡ cond (mistyped o F i) (min (coded_after o F i) lowest) lowest
    lower_taken lowest e l = rw (e, ← at) (omega arith)

    pub lower_kept : (lowest : ℕ) → mistyped o F i ≡ true → lowest ≤ k → lowest ≡ cond (mistyped o F i) (min (coded_after o F i) lowest) lowest
    lower_kept lowest e l = rw (e, ← at) (omega arith)

  pub lower_none : (lowest : ℕ) → mistyped o F i ≡ false → lowest ≡ cond (mistyped o F i) (min (coded_after o F i) lowest) lowest
  lower_none lowest e = rw e

module _ (o : ByteOrder) (F : List ℕ) (s : ℕ) (at : s ≡ (header o F).e_shstrndx) where
  pub fault_named : (n k : ℕ) → is_strtab o F s ≡ true → n ≡ section_count o F → k ≡ first (bad_name o F) 0 (section_count o F) → found_below n k ≡ name_fault o F
  unfolding name_fault
  fault_named n k t is e = rw (e, is, ← at) (sym (expect_true _ 0 _ t))

  pub fault_unnamed : is_strtab o F s ≡ false → Some 0 ≡ name_fault o F
  unfolding name_fault
  fault_unnamed t = rw (← at) (sym (expect_false _ 0 _ t))

  -- a string table in that place is one of the sections
  pub strings_named : is_strtab o F s ≡ true → (header o F).e_shstrndx < section_count o F
  strings_named t = rw at at (strtab_lt o F s t)
