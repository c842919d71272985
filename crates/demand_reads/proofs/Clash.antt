-- What refusal 10 leaves true of C by itself: its relocation tables are for sections that stay, and its symbols are in such sections or in none. Assumes nothing.
use Rattle.std.specs.Prelude.{None}
use Prim.Native.Nat.{ℕ, min, ◌≤◌, ◌<◌}
use mathlib.Core.Path.{◌≡◌, refl, sym, ap, ◌∙◌}
use mathlib.Core.Logic.{◌⊎◌, inl, inr, ⊎_elim}
use mathlib.Core.Bool.{true, false, not}
use mathlib.Core.List.{List}
use native.Mathlib.Omega.{arith}
use lib.Dec.{eqb}
use borrow.Author.Tests.{ltb-true, le-ltb, lt-ltb, le-leb, eq-eqb, not-false}
use Rattle.base_lists.specs.Ranges.{first, least}
use Rattle.base_lists.proofs.Ranges.{by-lt, both, and_true, or_parts, first_high, none_first, some_yes}
use Rattle.base_fields.specs.declared.ByteOrder.{ByteOrder}
use Rattle.base_scope.specs.Elf.{SHN_LORESERVE, SHN_XINDEX}
use Rattle.base_scope.specs.Codes.{CODES}
use Rattle.base_scope.proofs.Refusals.{found_clear}
use Rattle.elf_readers.specs.Readers.{section_count, section, coded_section}
use Rattle.elf_symbols.specs.Symbols.{symbol_count, symbol}
use Rattle.elf_symbol_faults.specs.Faults.{index_sound}
use Rattle.elf_symbol_faults.proofs.Faults.{index_there, index_reserved, index_cases}
use Rattle.elf_relocations.specs.Relocations.{is_table}
use Rattle.elf_check.specs.Sound.{Sound}
use Rattle.merge_kept.specs.Kept.{kept}
use Rattle.merge_kept.proofs.Kept.{coded_kept}
use Rattle.carry_clash.specs.Clash.{is_stale, leads_out, holds_symbol, is_missed, is_cut, joined_section, is_misjoined, clash_at, clash_finding}

-- ---- section indices

-- a section below a count, or a reserved index
abbrev pub Index : ℕ → ℕ → Type 0
Index count x = (x < count) ⊎ ((SHN_LORESERVE ≤ x) × (x < SHN_XINDEX))

-- either is sound where there are as many sections or more
pub index_sound_lem : (count more x : ℕ) → count ≤ more → Index count x → index_sound more x ≡ true
index_sound_lem count more x l (inl h) = sym (index_there more x (omega (arith, l, h)))
index_sound_lem count more x l (inr r) = by-lt x more
    (λ h. sym (index_there more x h))
    (λ h. sym (index_reserved more x h) ∙ and_true _ _ (le-leb SHN_LORESERVE x r.0) (lt-ltb x SHN_XINDEX r.1))

-- the section of a code stays
pub coded_stays : (o : ByteOrder) (C : List ℕ) (flag c : ℕ) → Sound o C → 1 ≤ c → c ≤ CODES → coded_section o C c < section_count o C → coded_section o C c < kept o C flag
coded_stays o C flag c sound l u h = coded_kept o C flag c h (sound.types c l u h)

-- ---- refusal 10

module _ (o : ByteOrder) (C A : List ℕ) (flag : ℕ) (unclashed : clash_finding o C A flag ≡ None) where
  abbrev stay : ℕ
  stay = kept o C flag

  -- no section of C is at fault by itself
  none_cut : (i : ℕ) → i < section_count o C → is_cut o C stay i ≡ false
  unfolding clash_finding clash_at
  none_cut i h =
      let n : ℕ = section_count o C in
      let f : ℕ = first (is_cut o C stay) 0 n in
      let m = found_clear n (min f (least (joined_section o C A) (is_misjoined o C A stay) n (section_count o A))) unclashed in
      none_first (is_cut o C stay) 0 n i (omega (arith, m, first_high (is_cut o C stay) 0 n (omega arith))) (omega arith) h

  cut_parts : (i : ℕ) → i < section_count o C → (leads_out o C stay i ≡ false) × (is_missed o C stay i ≡ false)
  unfolding is_cut
  cut_parts i h = or_parts (leads_out o C stay i) (is_missed o C stay i) (or_parts (is_stale o C i) _ (none_cut i h)).1

  -- a relocation table is for a section that stays
  pub info_stays : (i : ℕ) → i < section_count o C → is_table o C i ≡ true → (section o C i).sh_info < stay
  unfolding leads_out
  info_stays i h t = ltb-true (section o C i).sh_info stay (not-false _ (rw t at (cut_parts i h).0))

  -- a symbol in a section that is dropped is a fault
  missed_by : (k : ℕ) → k < symbol_count o C → stay ≤ (symbol o C k).st_shndx → is_missed o C stay (symbol o C k).st_shndx ≡ true
  unfolding is_missed holds_symbol
  missed_by k h l =
      let x : ℕ = (symbol o C k).st_shndx in
      and_true _ _ (ap not (le-ltb x stay l)) (some_yes (λ j. eqb (symbol o C j).st_shndx x) 0 (symbol_count o C) k (omega arith) h (eq-eqb x x refl))

  -- so each is in a section that stays, or has a reserved index
  pub symbol_stays : Sound o C → (k : ℕ) → k < symbol_count o C → Index stay (symbol o C k).st_shndx
  symbol_stays sound k h =
      let x : ℕ = (symbol o C k).st_shndx in
      ⊎_elim
      (λ u. by-lt x stay inl (λ l. both (missed_by k h l) (cut_parts x u).1))
      inr
      (index_cases (section_count o C) x (sound.indices k h))
