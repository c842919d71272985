-- A section by its code, and the section of a code. Assumes nothing.
use Prim.Native.Nat.{ℕ, ◌+◌, ◌≤◌}
use mathlib.Core.Path.{◌≡◌, refl, ap, ◌∙◌}
use mathlib.Core.Bool.{true}
use mathlib.Core.List.{List}
use native.Mathlib.Omega.{arith}
use lib.Dec.{eqb}
use borrow.Author.Tests.{eq-eqb, eqb-true}
use Rattle.base_lists.proofs.Ranges.{and_parts, and_true, first_is, first_low_lem, first_to}
use Rattle.base_fields.specs.declared.ByteOrder.{ByteOrder}
use Rattle.base_scope.specs.Codes.{TEXT, LATE_RODATA}
use Rattle.elf_readers.specs.Readers.{section, contents, coded_section, has_code, coded_contents}
use Rattle.elf_readers.proofs.Readers.{code_there, coded_there, codes_apart}
use Rattle.carry_entries.specs.of_symbols_taken.Used.{is_section_of, code_of}

module _ (o : ByteOrder) (F : List ℕ) where
  pub code_low : (s : ℕ) → 1 ≤ code_of o F s
  unfolding code_of
  code_low s = first_low_lem (is_section_of o F s) TEXT (LATE_RODATA + 1)

  -- a section that has a code is the section of that code
  pub code_section : (s : ℕ) → code_of o F s ≤ LATE_RODATA → (has_code o F (code_of o F s) ≡ true) × (coded_section o F (code_of o F s) ≡ s)
  unfolding code_of is_section_of
  code_section s h =
      let c : ℕ = code_of o F s in
      let p = and_parts (has_code o F c) (eqb (coded_section o F c) s) ((first_is (is_section_of o F s) TEXT (LATE_RODATA + 1) (omega arith)).here (omega (arith, h))) in
      (p.0, eqb-true (coded_section o F c) s p.1)

  pub code_contents : (s : ℕ) → code_of o F s ≤ LATE_RODATA → coded_contents o F (code_of o F s) ≡ contents o F s
  code_contents s h =
      let p = code_section s h in
      coded_there o F (code_of o F s) (code_there o F (code_of o F s) p.0) ∙ ap (contents o F) p.1

  -- and the section of a code has that code
  is_section : (c : ℕ) → has_code o F c ≡ true → is_section_of o F (coded_section o F c) c ≡ true
  unfolding is_section_of
  is_section c t = and_true (has_code o F c) _ t (eq-eqb (coded_section o F c) (coded_section o F c) refl)

  code_early : (c : ℕ) → 1 ≤ c → c ≤ LATE_RODATA → has_code o F c ≡ true → code_of o F (coded_section o F c) ≤ c
  unfolding code_of
  code_early c l u t = first_to (is_section_of o F (coded_section o F c)) TEXT (LATE_RODATA + 1) c l (omega (arith, u)) (is_section c t)

  pub section_code : (c : ℕ) → 1 ≤ c → c ≤ LATE_RODATA → has_code o F c ≡ true → code_of o F (coded_section o F c) ≡ c
  section_code c l u t =
      let s : ℕ = coded_section o F c in
      let h = code_early c l u t in
      let p = code_section s (omega (arith, h, u)) in
      codes_apart o F (code_of o F s) c (code_low s) (omega (arith, h, u)) l (omega (arith, u)) (code_there o F (code_of o F s) p.0) p.1
