-- What it is for an entry of C or of A to be owed, part by part: its table, its number below the count, and that it stays. Assumes nothing.
use Prim.Native.Nat.{ℕ, ◌<◌}
use mathlib.Core.Path.{◌≡◌}
use mathlib.Core.Bool.{true, false, ◌&&◌}
use mathlib.Core.List.{List}
use lib.Dec.{eqb, ltb}
use borrow.Author.Tests.{lt-ltb, ltb-true}
use Rattle.base_lists.proofs.Ranges.{and_parts}
use Rattle.base_fields.specs.declared.ByteOrder.{ByteOrder}
use Rattle.base_answers.specs.Answers.{COMPILED, ASSEMBLED}
use Rattle.elf_readers.specs.Readers.{section_count}
use Rattle.elf_relocations.specs.Relocations.{is_table, relocation_count}
use Rattle.blocks_places.specs.Places.{Place}
use Rattle.carry_entries.specs.of_carry_clash.Clash.{is_carried}
use Rattle.demand_clauses.specs.Reading.{Reference}
use Rattle.demand_clauses.specs.TakenOver.{stays_c, is_owed_c, is_owed_a, is_owed, is_compiled}

module _ (o : ByteOrder) (C A : List ℕ) (P : List Place) (B : List ℕ) where
  -- entry k of C's table t, and of A's
  pub record OwedC (t k : ℕ) : Type 0 where
    pub below : t < section_count o C
    pub table : is_table o C t ≡ true
    pub entry : k < relocation_count o C t
    pub stays : stays_c o C A P B t k ≡ true

  pub record OwedA (t k : ℕ) : Type 0 where
    pub below : t < section_count o A
    pub table : is_carried o A t ≡ true
    pub entry : k < relocation_count o A t

  -- the tests say so, and hold where it is so
  pub owed_c : (t k : ℕ) → is_owed_c o C A P B t k ≡ true → OwedC t k
  unfolding is_owed_c
  owed_c t k e =
      let a = and_parts (ltb t (section_count o C)) (is_table o C t && (ltb k (relocation_count o C t) && stays_c o C A P B t k)) e in
      let b = and_parts (is_table o C t) (ltb k (relocation_count o C t) && stays_c o C A P B t k) a.1 in
      let c = and_parts (ltb k (relocation_count o C t)) (stays_c o C A P B t k) b.1 in
      record { below = ltb-true t (section_count o C) a.0; table = b.0; entry = ltb-true k (relocation_count o C t) c.0; stays = c.1 }

  pub c_owed : (t k : ℕ) → OwedC t k → is_owed_c o C A P B t k ≡ true
  unfolding is_owed_c
  c_owed t k w = rw (lt-ltb t (section_count o C) w.below, w.table, lt-ltb k (relocation_count o C t) w.entry, w.stays)

  pub owed_a : (t k : ℕ) → is_owed_a o C A P B t k ≡ true → OwedA t k
  unfolding is_owed_a
  owed_a t k e =
      let a = and_parts (ltb t (section_count o A)) (is_carried o A t && ltb k (relocation_count o A t)) e in
      let b = and_parts (is_carried o A t) (ltb k (relocation_count o A t)) a.1 in
      record { below = ltb-true t (section_count o A) a.0; table = b.0; entry = ltb-true k (relocation_count o A t) b.1 }

  pub a_owed : (t k : ℕ) → OwedA t k → is_owed_a o C A P B t k ≡ true
  unfolding is_owed_a
  a_owed t k w = rw (lt-ltb t (section_count o A) w.below, w.table, lt-ltb k (relocation_count o A t) w.entry)

  -- so a reference of such an entry is owed
  pub compiled_owed : (t k : ℕ) → OwedC t k → is_owed o C A P B (record { object = COMPILED; table = t; entry = k }) ≡ true
  unfolding is_owed
  compiled_owed t k w = c_owed t k w

  pub assembled_owed : (t k : ℕ) → OwedA t k → is_owed o C A P B (record { object = ASSEMBLED; table = t; entry = k }) ≡ true
  unfolding is_owed
  assembled_owed t k w = a_owed t k w

  -- and one that is owed is of such an entry
  module _ (r : Reference) (owed : is_owed o C A P B r ≡ true) where
    pub owed_compiled : is_compiled o C A P B r ≡ true → OwedC r.table r.entry
    unfolding is_owed is_compiled
    owed_compiled y = owed_c r.table r.entry (rw y at owed)

    pub owed_assembled : is_compiled o C A P B r ≡ false → OwedA r.table r.entry
    unfolding is_owed is_compiled
    owed_assembled f =
        let e : (eqb r.object ASSEMBLED && is_owed_a o C A P B r.table r.entry) ≡ true = rw f at owed in
        owed_a r.table r.entry (and_parts (eqb r.object ASSEMBLED) (is_owed_a o C A P B r.table r.entry) e).1
