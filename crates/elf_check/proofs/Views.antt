-- What a view gives: the sections of the codes, and the symbol table in hand. Assumes nothing.
use Prim.Native.Nat.{ℕ, ◌+◌, ◌-◌, ◌≤◌, ◌<◌}
use mathlib.Core.Path.{◌≡◌, sym, ap, ◌∙◌}
use mathlib.Core.Bool.{true}
use mathlib.Core.List.{List, [], ◌∷◌, ◌++◌, append-nil}
use native.Mathlib.Omega.{arith}
use lib.ListN.{length, drop, get_or, set}
use Rattle.base_lists.specs.Ranges.{select}
use Rattle.base_lists.proofs.Ranges.{select_zero, select_all_length, select_all_at, select_all_put}
use Rattle.base_fields.specs.declared.ByteOrder.{ByteOrder}
use Rattle.base_scope.specs.Codes.{CODES}
use Rattle.elf_readers.specs.Readers.{section_count, contents, coded_section, has_code, coded_contents}
use Rattle.elf_readers.proofs.Readers.{coded_there, coded_absent}
use Rattle.elf_symbols.specs.Symbols.{symbol_table, Tabled, Table}
use Rattle.elf_check.specs.declared.View.{View}
use Rattle.elf_check.specs.View.{coded_sections, view_of, section_in, has_in}

pub length_coded : (o : ByteOrder) (F : List ℕ) → length (coded_sections o F) ≡ CODES
unfolding coded_sections
length_coded o F = select_all_length (λ i. coded_section o F (i + 1)) CODES

-- the array while it is filled: the sections of the first i codes, and zeros
abbrev blank : List ℕ
blank = 0 ∷ 0 ∷ 0 ∷ 0 ∷ 0 ∷ 0 ∷ []

module _ (o : ByteOrder) (F : List ℕ) where
  unfoldable pub begun : ℕ → List ℕ
  begun i = select (λ j. true) (λ j. coded_section o F (j + 1)) i ++ drop i blank

  pub begun_none : begun 0 ≡ blank
  unfolding begun
  begun_none = rw (select_zero (λ j. true) (λ j. coded_section o F (j + 1)))

  pub begun_put : (i x : ℕ) (l : List ℕ) → l ≡ begun i → i < CODES → x ≡ coded_section o F (i + 1) → set l i x ≡ begun (i + 1)
  unfolding begun
  begun_put i x l e h is = rw is (select_all_put (λ j. coded_section o F (j + 1)) blank l i e h)

  pub begun_all : (i : ℕ) (l : List ℕ) → l ≡ begun i → i ≡ CODES → l ≡ coded_sections o F
  unfolding begun coded_sections
  begun_all i l e is = rw is at e ∙ append-nil (select (λ j. true) (λ j. coded_section o F (j + 1)) CODES)

module _ (o : ByteOrder) (F : List ℕ) (v : View) (is : v ≡ view_of o F) where
  pub view_section : (c : ℕ) → 1 ≤ c → c ≤ CODES → section_in v c ≡ coded_section o F c
  unfolding section_in view_of coded_sections
  view_section c low high =
      let e : c - 1 + 1 ≡ c = omega arith in
      ap (λ (x : View). get_or x.coded (c - 1) 0) is
      ∙ select_all_at (λ i. coded_section o F (i + 1)) (c - 1) CODES 0 (omega arith) ∙ ap (coded_section o F) e

  pub view_count : v.sections ≡ section_count o F
  unfolding view_of
  view_count = ap (λ (x : View). x.sections) is

  pub view_has : (c : ℕ) → 1 ≤ c → c ≤ CODES → has_in v c ≡ has_code o F c
  unfolding has_in has_code
  view_has c low high = rw (view_section c low high, view_count)

  -- the bytes of a code's section, by where the view has it
  module _ (c i n : ℕ) (low : 1 ≤ c) (high : c ≤ CODES) (e : i ≡ section_in v c) (m : n ≡ v.sections) where
    there : i ≡ coded_section o F c
    there = e ∙ view_section c low high

    many : n ≡ section_count o F
    many = m ∙ view_count

    pub view_inside : i < n → i < section_count o F
    view_inside h = rw (← many) h

    pub view_contents : (w : List ℕ) → i < n → w ≡ contents o F i → w ≡ coded_contents o F c
    view_contents w h is = is ∙ ap (contents o F) there ∙ sym (coded_there o F c (rw (← there, ← many) h))

    pub view_absent : (w : List ℕ) → n ≤ i → w ≡ [] → w ≡ coded_contents o F c
    view_absent w h is = is ∙ sym (coded_absent o F c (rw (← there, ← many) h))

  pub view_table : Tabled o F → Table o F v.symbols
  unfolding view_of
  view_table s = record { tabled = s; is = ap (λ (x : View). x.symbols) is }
