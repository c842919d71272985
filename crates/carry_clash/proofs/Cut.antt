-- The causes of 10 that C has by itself, as the code tests them. Assumes nothing.
use Prim.Native.Nat.{ℕ, ◌+◌, ◌≤◌, ◌<◌}
use mathlib.Core.Path.{◌≡◌, sym, ◌∙◌}
use mathlib.Core.Bool.{Bool, true, false, not}
use mathlib.Core.List.{List}
use lib.Dec.{eqb, ltb}
use borrow.Author.Tests.{lt-ltb, le-ltb, eq-eqb, ne_eqb}
use Rattle.base_lists.specs.Ranges.{first}
use Rattle.base_lists.proofs.Ranges.{first_here, first_next, first_end}
use Rattle.base_fields.specs.declared.ByteOrder.{ByteOrder}
use Rattle.base_scope.specs.Codes.{LINES}
use Rattle.elf_records.specs.declared.section.SectionHeader.{SectionHeader}
use Rattle.elf_records.specs.declared.symbol.SymbolEntry.{SymbolEntry}
use Rattle.elf_readers.specs.Readers.{section}
use Rattle.elf_symbols.specs.Symbols.{symbol_count, symbol}
use Rattle.elf_relocations.specs.Relocations.{is_table}
use Rattle.symbols_taken.specs.of_elf_check.declared.View.{View}
use Rattle.symbols_taken.specs.of_elf_check.View.{view_of}
use Rattle.symbols_taken.specs.Code.{code_in}
use Rattle.symbols_taken.proofs.Sections.{code_is}
use Rattle.carry_clash.specs.Clash.{is_stale, leads_out, holds_symbol, is_missed, is_cut}

module _ (o : ByteOrder) (C : List ℕ) (i : ℕ) where
  -- no table
  module _ (t : Bool) (e : t ≡ is_table o C i) (no : t ≡ false) where
    pub stale_none : false ≡ is_stale o C i
    unfolding is_stale
    stale_none = rw (sym e ∙ no)

    pub leads_none : (stay : ℕ) → false ≡ leads_out o C stay i
    unfolding leads_out
    leads_none stay = rw (sym e ∙ no)

  module _ (t : Bool) (e : t ≡ is_table o C i) (yes : t ≡ true) (h : SectionHeader) (is : h ≡ section o C i) where
    pub stale_empty : h.sh_size ≤ 0 → false ≡ is_stale o C i
    unfolding is_stale
    stale_empty l = rw (sym e ∙ yes, ← is, le-ltb 0 h.sh_size l)

    pub stale_coded : 0 < h.sh_size → (v : View) → v ≡ view_of o C → (c : ℕ) → c ≡ code_in v h.sh_info → ltb LINES c ≡ is_stale o C i
    unfolding is_stale
    stale_coded l v r c q = rw (sym e ∙ yes, ← is, lt-ltb 0 h.sh_size l, ← code_is o C v r h.sh_info, q)

    pub leads_there : (stay : ℕ) → not (ltb h.sh_info stay) ≡ leads_out o C stay i
    unfolding leads_out
    leads_there stay = rw (sym e ∙ yes, ← is)

  -- ---- symbols in a section

  abbrev pub in_section : ℕ → Bool
  in_section k = eqb (symbol o C k).st_shndx i

  module _ (k : ℕ) (so_far : first in_section 0 (symbol_count o C) ≡ first in_section k (symbol_count o C)) where
    module _ (h : k < symbol_count o C) (s : SymbolEntry) (is : s ≡ symbol o C k) where
      pub symbol_there : s.st_shndx ≡ i → true ≡ holds_symbol o C i
      unfolding holds_symbol
      symbol_there q =
          let p : in_section k ≡ true = rw (← is) (eq-eqb s.st_shndx i q) in
          let f : first in_section 0 (symbol_count o C) ≡ k = so_far ∙ first_here in_section k (symbol_count o C) h p in
          rw (f, lt-ltb k (symbol_count o C) h)

      pub symbol_next : (s.st_shndx ≡ i → ⊥) → first in_section 0 (symbol_count o C) ≡ first in_section (k + 1) (symbol_count o C)
      symbol_next q =
          let p : in_section k ≡ false = rw (← is) (ne_eqb s.st_shndx i q) in
          so_far ∙ first_next in_section k (symbol_count o C) h p

    pub symbol_none : symbol_count o C ≤ k → false ≡ holds_symbol o C i
    unfolding holds_symbol
    symbol_none l =
        let f : first in_section 0 (symbol_count o C) ≡ k = so_far ∙ first_end in_section k (symbol_count o C) l in
        rw (f, le-ltb k (symbol_count o C) l)

  -- ---- together

  pub missed_early : (stay : ℕ) → i < stay → false ≡ is_missed o C stay i
  unfolding is_missed
  missed_early stay h = rw (lt-ltb i stay h)

  pub missed_late : (stay : ℕ) → stay ≤ i → (r : Bool) → r ≡ holds_symbol o C i → r ≡ is_missed o C stay i
  unfolding is_missed
  missed_late stay h r e = rw (le-ltb i stay h) e

  module _ (stay : ℕ) (a : Bool) (is : a ≡ is_stale o C i) where
    pub cut_stale : a ≡ true → true ≡ is_cut o C stay i
    unfolding is_cut
    cut_stale t = rw (sym is ∙ t)

    module _ (f : a ≡ false) (b : Bool) (leads : b ≡ leads_out o C stay i) where
      pub cut_leads : b ≡ true → true ≡ is_cut o C stay i
      unfolding is_cut
      cut_leads t = rw (sym is ∙ f, sym leads ∙ t)

      pub cut_missed : b ≡ false → (r : Bool) → r ≡ is_missed o C stay i → r ≡ is_cut o C stay i
      unfolding is_cut
      cut_missed g r e = rw (sym is ∙ f, sym leads ∙ g) e
