-- The entries of the result's symbols by where they come from: each that is taken has the index of a section that stays or a reserved one. Assumes nothing.
use Rattle.std.specs.Prelude.{None}
use Prim.Native.Nat.{ℕ, ◌+◌, ◌-◌, ◌≤◌, ◌<◌}
use mathlib.Core.Path.{◌≡◌, refl, sym, ◌∙◌}
use mathlib.Core.Logic.{◌⊎◌, inl, inr, ⊎_elim}
use mathlib.Core.Bool.{Bool, true, false}
use mathlib.Core.List.{List}
use native.Mathlib.Omega.{arith}
use lib.ListN.{length}
use lib.Dec.{eqb}
use borrow.Author.Tests.{ltb-true, eqb-true}
use Rattle.base_lists.proofs.Ranges.{by-test, by-lt, both, first_low_lem}
use Rattle.base_fields.specs.declared.ByteOrder.{ByteOrder}
use Rattle.base_scope.specs.Elf.{SHN_UNDEF, SHN_ABS}
use Rattle.base_scope.specs.Codes.{TEXT, LATE_RODATA, target_code}
use Rattle.elf_records.specs.declared.symbol.SymbolEntry.{SymbolEntry}
use Rattle.elf_readers.specs.Readers.{coded_section}
use Rattle.elf_readers.proofs.Readers.{code_there}
use Rattle.elf_symbols.specs.Symbols.{symbol_count, symbol}
use Rattle.elf_check.specs.Sound.{Sound}
use Rattle.blocks_places.specs.Places.{Place}
use Rattle.statics_table.specs.declared.Static.{Static}
use Rattle.statics_entry.specs.Entry.{nth}
use Rattle.statics_walk.specs.Sound.{StaticsSound}
use Rattle.statics_symbols.specs.Entries.{symbol_of_static, static_symbol}
use Rattle.merge_kept.specs.Kept.{kept}
use Rattle.symbols_taken.specs.Used.{is_section_of, code_of, is_source}
use Rattle.symbols_taken.specs.Taken.{is_placed_in, is_taken_c, is_taken_a, symbol_code}
use Rattle.symbols_taken.specs.Passed.{Targeted, TakenPassed}
use Rattle.symbols_ids.specs.Entries.{finished, is_placed_a, section_a, entry_a}
use Rattle.symbols_ids.specs.Ids.{by_origin, entry_static, entry_of}
use Rattle.symbols_fill.proofs.Origins.{origin_own, origin_other, origin_static}
use Rattle.carry_clash.specs.Clash.{clash_finding}
use Rattle.carry_clash.proofs.Joined.{target_lines}
use Rattle.demand_reads.proofs.Clash.{Index, coded_stays, symbol_stays}

-- an index that is no section's is undefined or absolute
unplaced : (x : ℕ) → is_placed_in x ≡ false → (x ≡ SHN_UNDEF) ⊎ (x ≡ SHN_ABS)
unfolding is_placed_in
unplaced x f = by-test (eqb x SHN_UNDEF)
    (λ t. inl (eqb-true x SHN_UNDEF t))
    (λ a. by-test (eqb x SHN_ABS) (λ t. inr (eqb-true x SHN_ABS t)) (λ b. both (rw (a, b)) f))

-- a section of the five has one of their codes
source_code : (o : ByteOrder) (A : List ℕ) (s : ℕ) → is_source o A s ≡ true → (1 ≤ code_of o A s) × (code_of o A s ≤ LATE_RODATA)
unfolding is_source code_of
source_code o A s t = (first_low_lem (is_section_of o A s) TEXT (LATE_RODATA + 1), omega (arith, ltb-true (code_of o A s) (LATE_RODATA + 1) t))

module _ (o : ByteOrder) (C A : List ℕ) (P : List Place) (B : List ℕ) (mode : ℕ) (S : List Static) where
  abbrev n : ℕ
  n = symbol_count o C

  abbrev m : ℕ
  m = symbol_count o A

  abbrev whole : ℕ → SymbolEntry
  whole i = by_origin o C A (symbol o C) (entry_a o C A P B) (entry_static o C A P B mode S) i

  index_of : (i : ℕ) → (entry_of o C A P B mode S i).st_shndx ≡ (whole i).st_shndx
  unfolding entry_of finished
  index_of i = refl

  module _ (flag : ℕ) (sound : Sound o C) (some : 0 < kept o C flag) where
    abbrev stay : ℕ
    stay = kept o C flag

    placed_index : (k : ℕ) → Targeted o C A k → coded_section o C (target_code (symbol_code o A k)) < stay
    unfolding symbol_code
    placed_index k t =
        let c = source_code o A (symbol o A k).st_shndx t.source in
        let g = target_lines (symbol_code o A k) c.0 c.1 in
        coded_stays o C flag (target_code (symbol_code o A k)) sound g.0 (omega (arith, g.1)) (code_there o C _ t.target)

    own_index : (x : ℕ) → (x ≡ SHN_UNDEF) ⊎ (x ≡ SHN_ABS) → Index stay x
    own_index x (inl e) = inl (omega (arith, e, some))
    own_index x (inr e) = inr (omega (arith, e), omega (arith, e))

    yes_placed : (k : ℕ) → is_placed_a o C A P B k ≡ true → section_a o C A P B k ≡ coded_section o C (target_code (symbol_code o A k))
    unfolding section_a
    yes_placed k t = rw t

    not_placed : (k : ℕ) → is_placed_a o C A P B k ≡ false → (section_a o C A P B k ≡ (symbol o A k).st_shndx) × (is_placed_in (symbol o A k).st_shndx ≡ false)
    unfolding section_a is_placed_a
    not_placed k f = (rw f, f)

    placed_not : (k : ℕ) → is_placed_a o C A P B k ≡ true → ((symbol o A k).st_shndx ≡ SHN_UNDEF) ⊎ ((symbol o A k).st_shndx ≡ SHN_ABS) → ⊥
    unfolding is_placed_a is_placed_in
    placed_not k t (inl e) = both t (rw e)
    placed_not k t (inr e) = both t (rw e)

    -- a symbol of A that is taken is undefined, absolute, or in the section that its bytes go into
    index_a_lem : TakenPassed o C A P B → (k : ℕ) → k < m → is_taken_a o A k ≡ true → Index stay (section_a o C A P B k)
    index_a_lem passed k h taken = by-test (is_placed_a o C A P B k)
        (λ t. rw (yes_placed k t)
        (⊎_elim
        (λ e. absurd (placed_not k t (inl e)))
        (λ r. ⊎_elim (λ e. absurd (placed_not k t (inr e))) (λ g. inl (placed_index k g)) r)
        (passed.placed k h taken)))
        (λ f. let q = not_placed k f in rw q.0 (own_index (symbol o A k).st_shndx (unplaced _ q.1)))

    -- a static is in a section of C
    index_static : (head : ℕ) → StaticsSound o C head S → (k : ℕ) → k < length S → Index stay (entry_static o C A P B mode S k).st_shndx
    unfolding entry_static static_symbol symbol_of_static
    index_static head w k h =
        let s = w.each k h in
        inl (coded_stays o C flag (nth S k).code sound s.low s.high s.there)

    entry_section : (k : ℕ) → (entry_a o C A P B k).st_shndx ≡ section_a o C A P B k
    unfolding entry_a
    entry_section k = refl

    -- each that is taken
    pub entry_index : clash_finding o C A flag ≡ None → TakenPassed o C A P B → (head : ℕ) → StaticsSound o C head S
        → (i : ℕ) → i < n + m + length S → by_origin o C A (is_taken_c o C) (is_taken_a o A) (λ k. true) i ≡ true → Index stay (entry_of o C A P B mode S i).st_shndx
    entry_index unclashed passed head w i h taken = rw (index_of i) (by-lt i n
        (λ l.
        rw (origin_own o C A n m refl refl i SymbolEntry (symbol o C) (entry_a o C A P B) (entry_static o C A P B mode S) l)
        (symbol_stays o C A flag unclashed sound i l))
        (λ l. by-lt i (n + m)
        (λ u.
        let t : is_taken_a o A (i - n) ≡ true = sym (origin_other o C A n m refl refl i Bool (is_taken_c o C) (is_taken_a o A) (λ k. true) l u) ∙ taken in
        rw (origin_other o C A n m refl refl i SymbolEntry (symbol o C) (entry_a o C A P B) (entry_static o C A P B mode S) l u, entry_section (i - n))
        (index_a_lem passed (i - n) (omega (arith, l, u)) t))
        (λ u.
        rw (origin_static o C A n m refl refl i SymbolEntry (symbol o C) (entry_a o C A P B) (entry_static o C A P B mode S) u)
        (index_static head w (i - (n + m)) (omega (arith, u, h))))))
