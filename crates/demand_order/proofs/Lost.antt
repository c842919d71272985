-- Refusal 20 of an accepted merge: every entry that is kept has a place to go to, and its symbol is in the result. An offset is a number of four bytes, so that a lost entry's is
-- below the bound that says none is lost. Assumes nothing.
use Rattle.std.specs.Prelude.{None}
use Prim.Native.Nat.{ℕ, ◌+◌, ◌*◌, ◌<◌}
use mathlib.Core.Path.{◌≡◌}
use mathlib.Core.Bool.{true, false, not, ◌||◌}
use mathlib.Core.List.{List}
use native.Mathlib.Omega.{arith}
use lib.ListN.{length, get_or}
use borrow.Author.Tests.{not-false}
use Rattle.base_lists.proofs.Ranges.{by-test, or_parts, least_below}
use Rattle.base_fields.specs.declared.ByteOrder.{ByteOrder}
use Rattle.base_fields.proofs.Numbers.{number_lt}
use Rattle.base_scope.proofs.Refusals.{found_clear}
use Rattle.base_answers.specs.Answers.{COMPILED, ASSEMBLED}
use Rattle.base_answers.proofs.Verdicts.{also_parts, finding_passed}
use Rattle.elf_records.proofs.Offsets.{relocation_offset}
use Rattle.elf_readers.specs.Readers.{order_of, section_count, section}
use Rattle.elf_relocations.specs.Relocations.{is_rela, is_table, entry_size, relocation_count, relocation}
use Rattle.blocks_places.specs.Places.{places_of}
use Rattle.statics_table.specs.Statics.{name_head}
use Rattle.carry_clash.specs.Clash.{is_carried}
use Rattle.demand_clauses.specs.of_carry_entries.Entries.{Carrying, OFFSETS, is_stuck, is_in_result, entry_goal, entry_symbol, is_kept, is_lost, loss_in, loss_at, loss_finding}
use Rattle.demand_clauses.specs.of_carry_entries.Carried.{LOST_ENTRY, carrying_c, carrying_a, carry_verdict}
use Rattle.merge_verdict.specs.Verdict.{MergePassed}

-- an offset is below 2 ^ 32
pub offset_lt : (o : ByteOrder) (F : List ℕ) → ((i : ℕ) → get_or F i 0 < 256) → (t k : ℕ) → (relocation o F t k).r_offset < OFFSETS
unfolding relocation
offset_lt o F bytes t k =
    let x : ℕ = (section o F t).sh_offset + entry_size o F t * k in
    omega (arith, relocation_offset o F x (is_rela o F t), number_lt o 4 F x bytes)

module _ (o : ByteOrder) (F : List ℕ) (w : Carrying) (bytes : (i : ℕ) → get_or F i 0 < 256) (clear : loss_finding o F w ≡ None) (t k : ℕ)
    (h : t < section_count o F) (there : w.tables t ≡ true) (l : k < relocation_count o F t) where
  -- none is lost, since its offset would be found
  lost_not : is_lost o F w t k ≡ false
  unfolding loss_finding loss_at loss_in
  lost_not = by-test (is_lost o F w t k)
      (λ y. absurd (omega (
        arith,
        found_clear OFFSETS (loss_at o F w) clear,
        least_below (loss_in o F w) w.tables OFFSETS (section_count o F) t h there,
        least_below (λ j. (relocation o F t j).r_offset) (is_lost o F w t) OFFSETS (relocation_count o F t) k l y,
        offset_lt o F bytes t k,
      )))
      (λ f. f)

  pub none_lost : is_kept o F w t k ≡ true → (is_stuck (entry_goal o F w t k) ≡ false) × (is_in_result (entry_symbol o F w t k) ≡ true)
  unfolding is_lost
  none_lost y =
      let g : (is_stuck (entry_goal o F w t k) || not (is_in_result (entry_symbol o F w t k))) ≡ false = rw y at lost_not in
      let q = or_parts (is_stuck (entry_goal o F w t k)) (not (is_in_result (entry_symbol o F w t k))) g in
      (q.0, not-false (is_in_result (entry_symbol o F w t k)) q.1)

-- ---- of an accepted merge

module _ (C A B path : List ℕ) (flag mode : ℕ) (O : List ℕ) (p : MergePassed C A B path flag mode O) where
  abbrev o : ByteOrder
  o = order_of C

  abbrev w_c : Carrying
  w_c = carrying_c (order_of C) C A (places_of (order_of C) C B) B mode (length (name_head mode path))

  abbrev w_a : Carrying
  w_a = carrying_a (order_of C) C A (places_of (order_of C) C B) B mode (length (name_head mode path))

  clear_c : loss_finding o C w_c ≡ None
  unfolding carry_verdict
  clear_c = finding_passed LOST_ENTRY COMPILED _ (also_parts _ _ p.carried).0

  clear_a : loss_finding o A w_a ≡ None
  unfolding carry_verdict
  clear_a = finding_passed LOST_ENTRY ASSEMBLED _ (also_parts _ _ p.carried).1

  carries_c : (t : ℕ) → is_table o C t ≡ true → w_c.tables t ≡ true
  unfolding carrying_c
  carries_c t is = is

  carries_a : (t : ℕ) → is_carried o A t ≡ true → w_a.tables t ≡ true
  unfolding carrying_a
  carries_a t is = is

  -- C's entries that are kept, and those of A's carried tables
  pub none_lost_c : ((i : ℕ) → get_or C i 0 < 256) → (t k : ℕ) → t < section_count o C → is_table o C t ≡ true → k < relocation_count o C t → is_kept o C w_c t k ≡ true
      → (is_stuck (entry_goal o C w_c t k) ≡ false) × (is_in_result (entry_symbol o C w_c t k) ≡ true)
  none_lost_c bytes t k h is l y = none_lost o C w_c bytes clear_c t k h (carries_c t is) l y

  pub none_lost_a : ((i : ℕ) → get_or A i 0 < 256) → (t k : ℕ) → t < section_count o A → is_carried o A t ≡ true → k < relocation_count o A t → is_kept o A w_a t k ≡ true
      → (is_stuck (entry_goal o A w_a t k) ≡ false) × (is_in_result (entry_symbol o A w_a t k) ≡ true)
  none_lost_a bytes t k h is l y = none_lost o A w_a bytes clear_a t k h (carries_a t is) l y
