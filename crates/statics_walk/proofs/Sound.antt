-- The statics of the walk are sound: an entry that is not at fault adds a sound one, and the walk stops before the first fault. Assumes nothing.
use mathlib.Core.Path.{◌≡◌, refl}
use mathlib.Core.Bool.{Bool, true, false}
use mathlib.Core.List.{List, [], ◌∷◌, ◌++◌}
use Prim.Native.Nat.{ℕ, zero, suc, ◌+◌, ◌≤◌, ◌<◌}
use native.Mathlib.Omega.{arith}
use lib.ListN.{length, length-append, get_or-append}
use lib.Seq.{get_or_at, take-append-le, take-append_seam}
use lib.Dec.{ltb, leb}
use borrow.Author.Tests.{ltb-true, ltb-false}
use Rattle.base_lists.specs.Ranges.{first}
use Rattle.base_lists.proofs.Ranges.{by-test, by-lt, both, and_parts, first_is, first_high}
use Rattle.base_lists.specs.Strings.{name_at}
use Rattle.base_fields.specs.declared.ByteOrder.{ByteOrder}
use Rattle.base_scope.specs.Limits.{STATIC_LIMIT}
use Rattle.elf_readers.specs.Readers.{section_count, coded_section}
use Rattle.statics_debug.specs.declared.Tables.{Tables}
use Rattle.statics_debug.specs.Entries.{TABLES_SIZE, entry_at, storage_class, storage_code, tables_in}
use Rattle.statics_debug.proofs.Entries.{code_high}
use Rattle.statics_table.specs.declared.Static.{Static}
use Rattle.statics_table.specs.Statics.{stored_name, names_length, namesakes}
use Rattle.statics_table.proofs.Statics.{numbered_next}
use Rattle.statics_entry.specs.Entry.{nth, count_of, static_from, readable_name, entry_inside, is_static, has_section, name_start, listable, entry_fault, list_after}
use Rattle.statics_file.specs.File.{entry_place, nested, listed_in, fault_in, completed_in}
use Rattle.statics_walk.specs.Walk.{entry_count, entries_start, names_start, listed_before, descriptor_inside, completed, file_fault, faulty_file, walk_list, debug_part, debug_list, reads_statics, statics}
use Rattle.statics_walk.specs.Sound.{StaticSound, StaticsSound}
use Rattle.statics_file.proofs.File.{listed_zero}
use Rattle.statics_walk.proofs.Walk.{all_completed}

-- ---- one static more

pub sound_none : (o : ByteOrder) (C : List ℕ) (head : ℕ) → StaticsSound o C head []
sound_none o C head = record {
  few = omega arith;
  each = λ k h. absurd (omega arith);
  counts = record { each = λ k h. absurd (omega arith) };
  offsets = λ k h. absurd (omega arith);
}

module _ (o : ByteOrder) (C : List ℕ) (head : ℕ) (L : List Static) (w : StaticsSound o C head L) (x : Static) where
  long : length (L ++ (x ∷ [])) ≡ length L + 1
  long = length-append L (x ∷ [])

  nth_before : (k : ℕ) → k < length L → nth (L ++ (x ∷ [])) k ≡ nth L k
  unfolding nth
  nth_before k h = get_or-append L (x ∷ []) _ k h

  nth_last : nth (L ++ (x ∷ [])) (length L) ≡ x
  unfolding nth
  nth_last = get_or_at L x [] _ (length L) refl

  pub sound_more : length L < STATIC_LIMIT → StaticSound o C x → x.offset ≡ names_length head L
      → (0 < x.number → x.number ≡ namesakes C (stored_name C x) (nth L) (length L) + 1) → StaticsSound o C head (L ++ (x ∷ []))
  sound_more room sound offset new = record {
    few = rw long (omega arith);
    each = λ k h. by-lt k (length L)
        (λ l. rw (nth_before k l) (w.each k l))
        (λ l. let e : k ≡ length L = omega (arith, long) in rw (e, nth_last) sound);
    counts = rw long (numbered_next C (nth L) (nth (L ++ (x ∷ []))) (length L) w.counts nth_before (rw nth_last new));
    offsets = λ k h. by-lt k (length L)
        (λ l. rw (nth_before k l, take-append-le k L (x ∷ []) (omega arith)) (w.offsets k l))
        (λ l. let e : k ≡ length L = omega (arith, long) in rw (e, nth_last, take-append_seam) offset);
  }

-- ---- one entry

section_there : (o : ByteOrder) (C : List ℕ) (class : ℕ) → has_section o C class ≡ true
    → (0 < storage_code class) × (coded_section o C (storage_code class) < section_count o C)
unfolding has_section
section_there o C class t =
    let r = and_parts (ltb 0 (storage_code class)) _ t in
    (ltb-true _ _ r.0, ltb-true _ _ r.1)

module _ (o : ByteOrder) (C : List ℕ) (head : ℕ) (L : List Static) (b at : ℕ) (n : Bool) where
  x : Static
  x = static_from C L (entry_at o C at) (name_start o C b at) n (names_length head L)

  counted : (m : Bool) → 0 < count_of C L (name_at C (name_start o C b at)) m
      → count_of C L (name_at C (name_start o C b at)) m ≡ namesakes C (name_at C (name_start o C b at)) (nth L) (length L) + 1
  unfolding count_of
  counted true h = refl
  counted false h = absurd (omega arith)

  new : 0 < x.number → x.number ≡ namesakes C (stored_name C x) (nth L) (length L) + 1
  unfolding x static_from stored_name
  new = counted n

  added : StaticsSound o C head L → listable o C L b at ≡ true → StaticsSound o C head (L ++ (x ∷ []))
  unfolding listable x static_from
  added w t =
      let p = and_parts (readable_name C (name_start o C b at)) _ t in
      let q = and_parts (has_section o C (storage_class (entry_at o C at).bits)) _ p.1 in
      let s = section_there o C (storage_class (entry_at o C at).bits) q.0 in
      let h : length L < STATIC_LIMIT = ltb-true (length L) STATIC_LIMIT q.1 in
      sound_more o C head L w x h
      (record {
        name = p.0;
        long = refl;
        class = storage_class (entry_at o C at).bits;
        coded = refl;
        low = s.0;
        high = code_high (storage_class (entry_at o C at).bits);
        there = s.1;
      })
      refl new

  listed_told : entry_fault o C L b at ≡ false → is_static o C at ≡ true → listable o C L b at ≡ true
  unfolding entry_fault
  listed_told f t = by-test (entry_inside o C at)
      (λ i. by-test (listable o C L b at) (λ y. y) (λ g. both (rw (i, t, g)) f))
      (λ i. both (rw i) f)

  pub sound_after : StaticsSound o C head L → entry_fault o C L b at ≡ false → StaticsSound o C head (list_after o C head L b at n)
  unfolding list_after x
  sound_after w f = by-test (is_static o C at) (λ t. rw t (added w (listed_told f t))) (λ g. rw g w)

-- ---- one file

module _ (o : ByteOrder) (C : List ℕ) (head s b : ℕ) (L : List Static) (w : StaticsSound o C head L) where
  sound_in : (j : ℕ) → ((k : ℕ) → k < j → fault_in o C head s b L k ≡ false) → StaticsSound o C head (listed_in o C head s b L j)
  unfolding listed_in fault_in
  sound_in zero clear = w
  sound_in (suc j) clear =
      sound_after o C head (listed_in o C head s b L j) b (entry_place s j) (nested o C s j) (sound_in j (λ k h. clear k (omega arith))) (clear j (omega arith))

  pub sound_file : (m : ℕ) → StaticsSound o C head (listed_in o C head s b L (completed_in o C head s b L m))
  unfolding completed_in
  sound_file m =
      sound_in (first (fault_in o C head s b L) 0 m) (λ k h. (first_is (fault_in o C head s b L) 0 m (omega arith)).below k (omega arith) h)

-- ---- the walk

module _ (o : ByteOrder) (C : List ℕ) (head : ℕ) (t : Tables) where
  completed_inside : (i : ℕ) → descriptor_inside o C t i ≡ true
      → completed_in o C head (entries_start o C t i) (names_start o C t i) (listed_before o C head t i) (entry_count o C t i) ≡ completed o C head t i
  unfolding completed
  completed_inside i e = rw e

  completed_outside : (i : ℕ) → descriptor_inside o C t i ≡ false → completed o C head t i ≡ 0
  unfolding completed
  completed_outside i e = rw e

  sound_listed : (i : ℕ) → StaticsSound o C head (listed_before o C head t i)
      → StaticsSound o C head (listed_in o C head (entries_start o C t i) (names_start o C t i) (listed_before o C head t i) (completed o C head t i))
  sound_listed i w = by-test (descriptor_inside o C t i)
      (λ e. rw (← completed_inside i e) (sound_file o C head (entries_start o C t i) (names_start o C t i) (listed_before o C head t i) w (entry_count o C t i)))
      (λ e. rw (completed_outside i e, listed_zero) w)

  sound_before : (i : ℕ) → ((k : ℕ) → k < i → file_fault o C head t k ≡ false) → StaticsSound o C head (listed_before o C head t i)
  unfolding listed_before
  sound_before zero clear = sound_none o C head
  sound_before (suc i) clear =
      rw (← all_completed o C head t i (clear i (omega arith))) (sound_listed i (sound_before i (λ k h. clear k (omega arith))))

  clear_before : (k : ℕ) → k < faulty_file o C head t → file_fault o C head t k ≡ false
  unfolding faulty_file
  clear_before k h = (first_is (file_fault o C head t) 0 t.files (omega arith)).below k (omega arith) h

  faulty_high : faulty_file o C head t ≤ t.files
  unfolding faulty_file
  faulty_high = first_high (file_fault o C head t) 0 t.files (omega arith)

  pub walk_sound : StaticsSound o C head (walk_list o C head t)
  unfolding walk_list
  walk_sound = by-test (ltb (faulty_file o C head t) t.files)
      (λ e. rw e (sound_listed (faulty_file o C head t) (sound_before (faulty_file o C head t) clear_before)))
      (λ e.
      let h : t.files ≤ faulty_file o C head t = ltb-false _ _ e in
      rw e (sound_before t.files (λ k l. clear_before k (omega arith))))

-- the statics of a mode
pub statics_sound : (o : ByteOrder) (C : List ℕ) (mode head : ℕ) → StaticsSound o C head (statics o C mode head)
unfolding statics debug_list
statics_sound o C mode head = by-test (reads_statics o C mode)
    (λ t. by-test (leb TABLES_SIZE (length (debug_part o C)))
    (λ s. rw (t, s) (walk_sound o C head (tables_in o (debug_part o C))))
    (λ s. rw (t, s) (sound_none o C head)))
    (λ t. rw t (sound_none o C head))
