-- The marks of used symbols: a list is what it has at each index, so marking an entry, a table and all tables are each one `marked`, and two are one with either test. Assumes
-- nothing.
use Prim.Native.Nat.{ℕ, ◌+◌, ◌*◌, ◌≤◌, ◌<◌}
use mathlib.Core.Path.{◌≡◌, refl, sym, ap, ◌∙◌}
use mathlib.Core.Bool.{Bool, true, false, cond, ◌||◌}
use mathlib.Core.List.{List, ◌++◌}
use native.Mathlib.Nat.{zero-add}
use native.Mathlib.Omega.{arith}
use lib.ListN.{length, take, drop, get_or, set, length-set, get_or-replicate}
use lib.Seq.{ext_get_or, length-take-le, get_or-set_same, get_or-set_other}
use lib.Dec.{eqb, ltb}
use borrow.Author.Tests.{ne_eqb, eqb-true, eqb-false, le-ltb}
use Rattle.base_lists.specs.Ranges.{first}
use Rattle.base_lists.specs.Windows.{Within, spliced}
use Rattle.base_lists.specs.Rows.{has_index, index_in, row_in, has_row}
use Rattle.base_lists.proofs.Ranges.{by-test, by_last, select_all_length, select_all_at, some_no, some_zero, some_next}
use Rattle.base_lists.proofs.Windows.{within_byte, within_fits, within_spliced}
use Rattle.base_packed.specs.Packed.{symbol_of}
use Rattle.base_buffers.specs.Buffers.{zeros}
use Rattle.base_buffers.proofs.Buffers.{length_zeros}
use Rattle.base_fields.specs.declared.ByteOrder.{ByteOrder}
use Rattle.base_fields.specs.Numbers.{number}
use Rattle.base_scope.specs.Limits.{SYMBOL_LIMIT}
use Rattle.elf_records.proofs.Offsets.{relocation_info_lem}
use Rattle.elf_readers.specs.Readers.{section_count, section}
use Rattle.elf_readers.specs.Bounds.{Headed}
use Rattle.elf_symbols.specs.Symbols.{symbol_count, Tabled}
use Rattle.elf_relocations.specs.Relocations.{is_rela, entry_size, relocation_count, relocation, Listed}
use Rattle.elf_relocations.proofs.Relocations.{relocation_inside}
use Rattle.symbols_taken.specs.Used.{is_source_table, uses_symbol, is_used}
use Rattle.symbols_taken.specs.Code.{marked, used_below, used_in, used_to, used_bytes}

-- ---- lists with marks

module _ (p : ℕ → Bool) (l : List ℕ) where
  pub length_marked : length (marked p l) ≡ length l
  unfolding marked
  length_marked = select_all_length (λ k. cond (p k) 1 (get_or l k 0)) (length l)

  pub marked_at : (k : ℕ) → k < length l → get_or (marked p l) k 0 ≡ cond (p k) 1 (get_or l k 0)
  unfolding marked
  marked_at k h = select_all_at (λ k. cond (p k) 1 (get_or l k 0)) k (length l) 0 h

  -- a list of that length that has these bytes is the marked one
  pub marked_is : (m : List ℕ) → length m ≡ length l → ((k : ℕ) → k < length l → get_or m k 0 ≡ cond (p k) 1 (get_or l k 0)) → m ≡ marked p l
  marked_is m e each = ext_get_or 0 m (marked p l) (e ∙ sym length_marked) (λ k h. each k (omega (arith, e)) ∙ sym (marked_at k (omega (arith, e))))

pub marked_none : (p : ℕ → Bool) (l : List ℕ) → ((k : ℕ) → p k ≡ false) → l ≡ marked p l
marked_none p l none = marked_is p l l refl (λ k h. rw (none k))

-- marking twice is marking by either test
pub marked_then : (p q r : ℕ → Bool) (l m : List ℕ) → m ≡ marked p l → ((k : ℕ) → r k ≡ (p k || q k)) → marked q m ≡ marked r l
marked_then p q r l m e either =
    marked_is r l (marked q m) (length_marked q m ∙ ap length e ∙ length_marked p l) (λ k h.
    let g : k < length m = rw (e, length_marked p l) h in
    marked_at q m k g ∙ rw (e, marked_at p l k h, either k) (joined (p k) (q k) (get_or l k 0)))
  where
    joined : (a b : Bool) (x : ℕ) → cond b 1 (cond a 1 x) ≡ cond (a || b) 1 x
    joined true true x = refl
    joined true false x = refl
    joined false b x = refl

-- one mark; an index past the end has none
module _ (x y : ℕ) (l : List ℕ) (same : x ≡ y) where
  pub marked_one : x < length l → set l x 1 ≡ marked (λ k. eqb y k) l
  marked_one h = rw same (marked_is (λ k. eqb y k) l (set l y 1) (length-set l y 1) (λ k g. by-test (eqb y k)
      (λ t. let e : y ≡ k = eqb-true y k t in rw (t, ← e) (get_or-set_same l y 1 0 (rw (← same) h)))
      (λ f. rw f (get_or-set_other l y k 1 0 (λ e. eqb-false y k f (sym e))))))

  pub marked_past : length l ≤ x → l ≡ marked (λ k. eqb y k) l
  marked_past h = marked_is (λ k. eqb y k) l l refl (λ k g. let n : (y ≡ k → ⊥) = λ e. absurd (omega arith) in rw (ne_eqb y k n))

-- ---- the r_info of an entry, from where the table's entries start

module _ (o : ByteOrder) (A : List ℕ) (t j at size : ℕ) (is : at ≡ (section o A t).sh_offset) (wide : size ≡ entry_size o A t) where
  pub entry_inside_lem : Headed o A → Listed o A t j → at + size * j + size ≤ length A
  entry_inside_lem h l = rw (is, wide) (relocation_inside o A t j h l)

  info_read : number o 4 A (at + size * j + 4) ≡ (relocation o A t j).r_info
  unfolding relocation
  info_read = rw (is, wide) (sym (relocation_info_lem o A ((section o A t).sh_offset + entry_size o A t * j) (is_rela o A t)))

  pub marked_info : (x : ℕ) → x ≡ number o 4 A (at + size * j + 4) → (l : List ℕ)
      → marked (λ k. eqb (symbol_of x) k) l ≡ marked (λ k. eqb (symbol_of (relocation o A t j).r_info) k) l
  marked_info x e l = ap (λ (y : ℕ). marked (λ k. eqb (symbol_of y) k) l) (e ∙ info_read)

-- ---- the entries of a table, and the tables

module _ (o : ByteOrder) (A : List ℕ) where
  -- a table that relocates none of the five uses no symbol
  pub used_none : (t : ℕ) → is_source_table o A t ≡ false → (k : ℕ) → used_in o A t k ≡ false
  unfolding used_in used_below uses_symbol
  used_none t f k = some_no (uses_symbol o A k t) 0 (relocation_count o A t) (omega arith) (λ j l u. rw f)

  module _ (t : ℕ) (source : is_source_table o A t ≡ true) where
    uses_entry : (j k : ℕ) → uses_symbol o A k t j ≡ eqb (symbol_of (relocation o A t j).r_info) k
    unfolding uses_symbol
    uses_entry j k = rw source

    pub entry_next : (j k : ℕ) → used_below o A t (j + 1) k ≡ (used_below o A t j k || eqb (symbol_of (relocation o A t j).r_info) k)
    unfolding used_below
    entry_next j k = some_next (uses_symbol o A k t) j ∙ ap (λ (b : Bool). ltb (first (uses_symbol o A k t) 0 j) j || b) (uses_entry j k)

  pub entry_zero : (t k : ℕ) → used_below o A t 0 k ≡ false
  unfolding used_below
  entry_zero t k = some_zero (uses_symbol o A k t)

  pub entry_all : (t j : ℕ) (l m : List ℕ) → j ≡ relocation_count o A t → m ≡ marked (used_below o A t j) l → m ≡ marked (used_in o A t) l
  unfolding used_in
  entry_all t j l m e is = rw e at is

  pub table_zero_lem : (k : ℕ) → used_to o A 0 k ≡ false
  unfolding used_to has_row row_in
  table_zero_lem k = some_zero (has_index (uses_symbol o A k) (relocation_count o A))

  pub table_next : (t k : ℕ) → used_to o A (t + 1) k ≡ (used_to o A t k || used_in o A t k)
  unfolding used_to has_row row_in has_index index_in used_in used_below
  table_next t k = some_next (has_index (uses_symbol o A k) (relocation_count o A)) t

  pub table_all : (t : ℕ) (l m : List ℕ) → t ≡ section_count o A → m ≡ marked (used_to o A t) l → m ≡ marked (is_used o A) l
  unfolding used_to is_used
  table_all t l m e is = rw e at is

  -- ---- the marks in hand

  zero_byte : (n k : ℕ) → k < n → get_or (zeros n) k 0 ≡ 0
  unfolding zeros
  zero_byte n k h = get_or-replicate n k 0 0 h

  pub length_used : length (used_bytes o A) ≡ symbol_count o A
  unfolding used_bytes
  length_used = select_all_length (λ k. cond (is_used o A k) 1 0) (symbol_count o A)

  used_at : (k : ℕ) → k < symbol_count o A → get_or (used_bytes o A) k 0 ≡ cond (is_used o A k) 1 0
  unfolding used_bytes
  used_at k h = select_all_at (λ k. cond (is_used o A k) 1 0) k (symbol_count o A) 0 h

  -- the marks over zeros are the bytes, and their part put back is what the buffer has
  pub used_bytes_lem : (l : List ℕ) → length l ≡ symbol_count o A → marked (is_used o A) (zeros (length l)) ≡ used_bytes o A
  used_bytes_lem l long =
      let z : length (zeros (length l)) ≡ symbol_count o A = length_zeros (length l) ∙ long in
      sym (marked_is (is_used o A) (zeros (length l)) (used_bytes o A) (length_used ∙ sym z) (λ k h.
      used_at k (omega (arith, z)) ∙ rw (zero_byte (length l) k (omega (arith, length_zeros (length l))))))

  pub used_put : (n : ℕ) (l part : List ℕ) → n ≡ symbol_count o A → n ≤ length l → part ≡ marked (is_used o A) (zeros (length (take n (drop 0 l))))
      → part ++ drop n (drop 0 l) ≡ spliced l 0 (used_bytes o A)
  unfolding spliced
  used_put n l part e h is =
      let p : part ≡ used_bytes o A = is ∙ used_bytes_lem (take n (drop 0 l)) (length-take-le n l h ∙ e) in
      let d : 0 + length (used_bytes o A) ≡ n = zero-add _ ∙ length_used ∙ sym e in
      rw (p, d)

  -- the marks are in hand then
  pub used_within : (l : List ℕ) → Tabled o A → SYMBOL_LIMIT ≤ length l → Within (used_bytes o A) 0 (spliced l 0 (used_bytes o A))
  used_within l t h = within_spliced l 0 (used_bytes o A) (omega (arith, length_used, t.few))

  module _ (used : List ℕ) (marks : Within (used_bytes o A) 0 used) where
    pub marks_long : symbol_count o A ≤ length used
    marks_long = omega (arith, within_fits (used_bytes o A) used 0 marks, length_used)

    pub mark_read : (k : ℕ) → k < symbol_count o A → eqb (get_or used k 0) 1 ≡ is_used o A k
    mark_read k h =
        let e : get_or used (0 + k) 0 ≡ cond (is_used o A k) 1 0 = within_byte (used_bytes o A) used 0 k marks (rw length_used h) ∙ used_at k h in
        ap (λ (x : ℕ). eqb x 1) (ap (λ (i : ℕ). get_or used i 0) (sym (zero-add k)) ∙ e) ∙ told (is_used o A k)
      where
        told : (b : Bool) → eqb (cond b 1 0) 1 ≡ b
        told true = refl
        told false = refl
