-- Laws of the walk over the files: what a file leaves, and what the end of the walk answers. Assumes nothing.
use Rattle.std.specs.Prelude.{None, Some, Option}
use mathlib.Core.Path.{◌≡◌, refl, sym, ap, ◌∙◌}
use mathlib.Core.Bool.{true, false, not, and-false}
use mathlib.Core.List.{List, []}
use Prim.Native.Nat.{ℕ, ◌+◌, ◌*◌, ◌≤◌, ◌<◌}
use native.Mathlib.Omega.{arith}
use native.Mathlib.Numerals.{add-one}
use lib.ListN.{length}
use lib.Dec.{eqb, ltb, leb}
use borrow.Author.Tests.{lt-ltb, le-ltb, le-leb, lt-leb, ne_eqb}
use Rattle.base_lists.specs.Ranges.{first}
use Rattle.base_lists.proofs.Ranges.{by-test, both, first_here, first_next, first_end, sum_next, sum_zero}
use Rattle.base_lists.specs.Windows.{spliced}
use Rattle.base_lists.proofs.Windows.{spliced_same, spliced_nil}
use Rattle.base_fields.specs.declared.ByteOrder.{ByteOrder}
use Rattle.base_scope.specs.Limits.{STATIC_TABLE}
use Rattle.base_scope.specs.Refusals.{expect}
use Rattle.elf_readers.specs.Readers.{section_count, contents}
use Rattle.statics_debug.specs.declared.Tables.{Tables}
use Rattle.statics_debug.specs.declared.FileRecord.{FileRecord}
use Rattle.statics_debug.specs.Entries.{TABLES_SIZE, FILE_SIZE, FILE_READ, ENTRY_SIZE, tables_in, file_at}
use Rattle.statics_table.specs.declared.Static.{Static}
use Rattle.statics_table.specs.declared.Tally.{Tally}
use Rattle.statics_table.specs.Statics.{MODE_NO}
use Rattle.statics_table.specs.Table.{static_rows, statics_in, StaticTable}
use Rattle.statics_table.proofs.Table.{length_statics, statics_none, rows_none, table_none}
use Rattle.statics_file.specs.declared.FileEnd.{FileEnd}
use Rattle.statics_file.specs.File.{listed_in, completed_in, fails_in}
use Rattle.statics_file.specs.Code.{FileWalked}
use Rattle.statics_file.proofs.File.{listed_zero, listed_longer, completed_le, clear_completed, tables_then}
use Rattle.statics_walk.specs.declared.Listing.{Listing}
use Rattle.statics_walk.specs.Walk.{descriptor_place, descriptor_inside, file_record, entry_count, entries_before, entries_start, names_start, listed_before, completed, file_fault, faulty_file, walk_fault, walk_list, debug_section, has_debug, debug_part, debug_fault, debug_list, reads_statics, statics_fault, statics}
use Rattle.statics_walk.specs.Code.{FileListed, StaticsListed, no_statics}

-- ---- one file

module _ (o : ByteOrder) (C : List ℕ) (head : ℕ) (t : Tables) (i : ℕ) where
  -- its descriptor leaves C
  module _ (out : length C < t.descriptors + FILE_SIZE * i + FILE_READ) where
    not_inside : descriptor_inside o C t i ≡ false
    unfolding descriptor_inside descriptor_place
    not_inside = lt-leb _ _ out

    fault_outside : file_fault o C head t i ≡ true
    unfolding file_fault
    fault_outside = rw not_inside

    none_completed : completed o C head t i ≡ 0
    unfolding completed
    none_completed = rw not_inside

    pub file_outside : (T : List ℕ) (u : Tally) → StaticTable head C T u → statics_in T u.count ≡ listed_before o C head t i
        → FileListed o C head t i (record { bad = true; entries = 0; tally = u }) T T
    file_outside T u w is = record {
      fault = sym fault_outside;
      entries = sym none_completed;
      few = omega arith;
      list = is ∙ sym (listed_zero o C head (entries_start o C t i) (names_start o C t i) (listed_before o C head t i));
      table = sym (spliced_same T 0 (static_rows (statics_in T u.count)) w.row);
      filled = w;
    }

  -- its descriptor d is read
  module _ (d : FileRecord) (inside : t.descriptors + FILE_SIZE * i + FILE_READ ≤ length C) (is : d ≡ file_at o C (t.descriptors + FILE_SIZE * i)) where
    is_inside : descriptor_inside o C t i ≡ true
    unfolding descriptor_inside descriptor_place
    is_inside = le-leb _ _ inside

    record_is : file_record o C t i ≡ d
    unfolding file_record descriptor_place
    record_is = sym is

    start_is : entries_start o C t i ≡ t.symbols + ENTRY_SIZE * d.first
    unfolding entries_start
    start_is = rw record_is

    names_is : names_start o C t i ≡ t.strings + d.names
    unfolding names_start
    names_is = rw record_is

    count_is : entry_count o C t i ≡ d.count
    unfolding entry_count
    count_is = ap (λ (x : FileRecord). x.count) record_is

    fault_read : fails_in o C head (t.symbols + ENTRY_SIZE * d.first) (t.strings + d.names) (listed_before o C head t i) d.count ≡ file_fault o C head t i
    unfolding file_fault
    fault_read = rw (is_inside, start_is, names_is, count_is)

    completed_read : completed_in o C head (t.symbols + ENTRY_SIZE * d.first) (t.strings + d.names) (listed_before o C head t i) d.count ≡ completed o C head t i
    unfolding completed
    completed_read = rw (is_inside, start_is, names_is, count_is)

    pub file_read : (T T' : List ℕ) (n : ℕ) (r : FileEnd) → d.count < 4294967296 → statics_in T n ≡ listed_before o C head t i
        → FileWalked o C head (record { start = t.symbols + ENTRY_SIZE * d.first; count = d.count; names = t.strings + d.names }) n r T T' → FileListed o C head t i r T T'
    file_read T T' n r small before q = record {
      fault = q.fault ∙ rw before fault_read;
      entries = q.entries ∙ rw before completed_read;
      few = rw q.entries (omega (arith, completed_le o C head (t.symbols + ENTRY_SIZE * d.first) (t.strings + d.names) (statics_in T n) d.count));
      list = q.list ∙ rw (before, start_is, names_is);
      table = q.table;
      filled = q.filled;
    }

-- ---- the loop over the files

-- i files are completed: their entries, and how far the table is filled
pub record FilesSoFar (o : ByteOrder) (C : List ℕ) (head : ℕ) (t : Tables) (T₀ : List ℕ) (i entries : ℕ) (u : Tally) (T : List ℕ) : Type 0 where
  pub low : i ≤ t.files
  pub ahead : faulty_file o C head t ≡ first (file_fault o C head t) i t.files
  pub counted : entries ≡ entries_before o C t i
  pub few : entries ≤ 4294967295 * i
  pub list : statics_in T u.count ≡ listed_before o C head t i
  pub table : T ≡ spliced T₀ 0 (static_rows (statics_in T u.count))
  pub long : length T ≡ length T₀
  pub filled : StaticTable head C T u

before_zero : (o : ByteOrder) (C : List ℕ) (head : ℕ) (t : Tables) → listed_before o C head t 0 ≡ []
unfolding listed_before
before_zero o C head t = refl

before_suc : (o : ByteOrder) (C : List ℕ) (head : ℕ) (t : Tables) (i : ℕ)
    → listed_before o C head t (i + 1) ≡ listed_in o C head (entries_start o C t i) (names_start o C t i) (listed_before o C head t i) (entry_count o C t i)
unfolding listed_before
before_suc o C head t i = rw (add-one i)

entries_zero : (o : ByteOrder) (C : List ℕ) (t : Tables) → entries_before o C t 0 ≡ 0
unfolding entries_before
entries_zero o C t = sum_zero (entry_count o C t)

entries_suc : (o : ByteOrder) (C : List ℕ) (t : Tables) (i : ℕ) → entries_before o C t (i + 1) ≡ entries_before o C t i + entry_count o C t i
unfolding entries_before
entries_suc o C t i = sum_next (entry_count o C t) i

-- a file that does not fail has all its entries completed
module _ (o : ByteOrder) (C : List ℕ) (head : ℕ) (t : Tables) (i : ℕ) (f : file_fault o C head t i ≡ false) where
  pub told_inside : descriptor_inside o C t i ≡ true
  unfolding file_fault
  told_inside = by-test (descriptor_inside o C t i) (λ y. y) (λ n. both (rw n) f)

  told_clear : fails_in o C head (entries_start o C t i) (names_start o C t i) (listed_before o C head t i) (entry_count o C t i) ≡ false
  unfolding file_fault
  told_clear = rw told_inside at f

  pub all_completed : completed o C head t i ≡ entry_count o C t i
  unfolding completed
  all_completed = rw told_inside (clear_completed o C head (entries_start o C t i) (names_start o C t i) (listed_before o C head t i) (entry_count o C t i) told_clear)

pub files_none : (o : ByteOrder) (C : List ℕ) (head : ℕ) (t : Tables) (T : List ℕ) → STATIC_TABLE ≤ length T → FilesSoFar o C head t T 0 0 (record { count = 0; size = 0 }) T
unfolding faulty_file
files_none o C head t T h = record {
  low = omega arith;
  ahead = refl;
  counted = sym (entries_zero o C t);
  few = omega arith;
  list = statics_none T ∙ sym (before_zero o C head t);
  table = sym (ap (λ (x : List Static). spliced T 0 (static_rows x)) (statics_none T) ∙ ap (spliced T 0) rows_none ∙ spliced_nil T 0);
  long = refl;
  filled = table_none head C T h;
}

module _ (o : ByteOrder) (C : List ℕ) (head : ℕ) (t : Tables) where
  fault_at_lem : (i : ℕ) → faulty_file o C head t ≡ i → i < t.files → walk_fault o C head t ≡ Some (entries_before o C t i + completed o C head t i)
  unfolding walk_fault
  fault_at_lem i e h = rw (e, lt-ltb i t.files h)

  list_at : (i : ℕ) → faulty_file o C head t ≡ i → i < t.files
      → walk_list o C head t ≡ listed_in o C head (entries_start o C t i) (names_start o C t i) (listed_before o C head t i) (completed o C head t i)
  unfolding walk_list
  list_at i e h = rw (e, lt-ltb i t.files h)

  fault_none : faulty_file o C head t ≡ t.files → walk_fault o C head t ≡ None
  unfolding walk_fault
  fault_none e = rw (e, le-ltb t.files t.files (omega arith))

  list_all : faulty_file o C head t ≡ t.files → walk_list o C head t ≡ listed_before o C head t t.files
  unfolding walk_list
  list_all e = rw (e, le-ltb t.files t.files (omega arith))

module _ (o : ByteOrder) (C : List ℕ) (head : ℕ) (t : Tables) (T₀ : List ℕ) (i entries : ℕ) (u : Tally) (T : List ℕ) (w : FilesSoFar o C head t T₀ i entries u T) where
  pub files_end : t.files ≤ i → StaticsListed head C (walk_fault o C head t) (walk_list o C head t) (record { fault = None; tally = u }) T₀ T
  files_end h =
      let e : i ≡ t.files = omega (arith, w.low) in
      let f : faulty_file o C head t ≡ t.files = w.ahead ∙ first_end (file_fault o C head t) i t.files h ∙ e in
      let l : statics_in T u.count ≡ walk_list o C head t = w.list ∙ ap (listed_before o C head t) e ∙ sym (list_all o C head t f) in
      record { fault = sym (fault_none o C head t f); list = l; table = w.table ∙ ap (λ (x : List Static). spliced T₀ 0 (static_rows x)) l; filled = w.filled }

  module _ (r : FileEnd) (T' : List ℕ) (q : FileListed o C head t i r T T') (h : i < t.files) where
    longer : u.count ≤ r.tally.count
    longer =
        let k = ap length q.list in
        let m = ap length w.list in
        omega (arith, listed_longer o C head (entries_start o C t i) (names_start o C t i) (listed_before o C head t i) r.entries, length_statics T u.count, length_statics T' r.tally.count)

    tables : (T' ≡ spliced T₀ 0 (static_rows (statics_in T' r.tally.count))) × (length T' ≡ length T₀)
    tables = tables_then T₀ T T' u.count r.tally.count w.table q.table longer q.filled.counted.few (rw (← w.long) w.filled.room)

    pub files_long : length T' ≡ length T₀
    files_long = tables.1

    pub files_stop : r.bad ≡ true
        → StaticsListed head C (walk_fault o C head t) (walk_list o C head t) (record { fault = Some (entries + r.entries); tally = r.tally }) T₀ T'
    files_stop b =
        let f : faulty_file o C head t ≡ i = w.ahead ∙ first_here (file_fault o C head t) i t.files h (sym q.fault ∙ b) in
        let l : statics_in T' r.tally.count ≡ walk_list o C head t =
        q.list
        ∙ ap (listed_in o C head (entries_start o C t i) (names_start o C t i) (listed_before o C head t i)) q.entries
        ∙ sym (list_at o C head t i f h) in
        record {
          fault = rw (w.counted, q.entries) (sym (fault_at_lem o C head t i f h));
          list = l;
          table = tables.0 ∙ ap (λ (x : List Static). spliced T₀ 0 (static_rows x)) l;
          filled = q.filled;
        }

    pub files_next : r.bad ≡ false → FilesSoFar o C head t T₀ (i + 1) (entries + r.entries) r.tally T'
    files_next b =
        let f : file_fault o C head t i ≡ false = sym q.fault ∙ b in
        let e : r.entries ≡ entry_count o C t i = q.entries ∙ all_completed o C head t i f in
        record {
          low = omega arith;
          ahead = w.ahead ∙ first_next (file_fault o C head t) i t.files h f;
          counted = rw (w.counted, e) (sym (entries_suc o C t i));
          few = omega (arith, w.few, q.few);
          list = q.list ∙ rw (e, before_suc o C head t i);
          table = tables.0;
          long = tables.1;
          filled = q.filled;
        }

-- ---- the debug section

-- no static: the table stays
pub listed_none : (head : ℕ) (C : List ℕ) (f x : Option ℕ) (l : List Static) (r : Listing) (T : List ℕ) → STATIC_TABLE ≤ length T → r ≡ no_statics x → x ≡ f → l ≡ []
    → StaticsListed head C f l r T T
unfolding no_statics
listed_none head C f x l r T h a e is = rw a (record {
  fault = e;
  list = statics_none T ∙ sym is;
  table = sym (ap (λ (y : List Static). spliced T 0 (static_rows y)) is ∙ ap (spliced T 0) rows_none ∙ spliced_nil T 0);
  filled = table_none head C T h;
})

pub part_at : (o : ByteOrder) (C : List ℕ) (i : ℕ) → i ≡ debug_section o C → contents o C i ≡ debug_part o C
unfolding debug_part
part_at o C i e = ap (contents o C) e

module _ (o : ByteOrder) (C : List ℕ) (head : ℕ) where
  -- a header that leaves the section
  pub debug_short : (D : List ℕ) (r : Listing) (T : List ℕ) → D ≡ debug_part o C → length D < TABLES_SIZE → r ≡ no_statics (Some 0) → STATIC_TABLE ≤ length T
      → StaticsListed head C (debug_fault o C head) (debug_list o C head) r T T
  unfolding debug_fault debug_list expect
  debug_short D r T e h a room =
      let l : length (debug_part o C) < TABLES_SIZE = rw (← e) h in
      let k : leb TABLES_SIZE (length (debug_part o C)) ≡ false = lt-leb _ _ l in
      listed_none head C _ (Some 0) _ r T room a (rw k) (rw k)

  pub debug_read : (D : List ℕ) (t : Tables) (r : Listing) (T T' : List ℕ) → D ≡ debug_part o C → TABLES_SIZE ≤ length D → t ≡ tables_in o D
      → StaticsListed head C (walk_fault o C head t) (walk_list o C head t) r T T' → StaticsListed head C (debug_fault o C head) (debug_list o C head) r T T'
  unfolding debug_fault debug_list expect
  debug_read D t r T T' e h is a =
      let l : TABLES_SIZE ≤ length (debug_part o C) = rw (← e) h in
      let k : leb TABLES_SIZE (length (debug_part o C)) ≡ true = le-leb _ _ l in
      let f : t ≡ tables_in o (debug_part o C) = is ∙ ap (tables_in o) e in
      rw (k, ← f) a

  reads_none : (mode : ℕ) (r : Listing) (T : List ℕ) → reads_statics o C mode ≡ false → r ≡ no_statics None → STATIC_TABLE ≤ length T
      → StaticsListed head C (statics_fault o C mode head) (statics o C mode head) r T T
  unfolding statics_fault statics
  reads_none mode r T f a room = listed_none head C _ None _ r T room a (rw f) (rw f)

  pub mode_none : (mode : ℕ) (r : Listing) (T : List ℕ) → mode ≡ MODE_NO → r ≡ no_statics None → STATIC_TABLE ≤ length T
      → StaticsListed head C (statics_fault o C mode head) (statics o C mode head) r T T
  unfolding reads_statics
  mode_none mode r T e a room = reads_none mode r T (rw e) a room

  pub debug_absent : (mode i : ℕ) (r : Listing) (T : List ℕ) → i ≡ debug_section o C → section_count o C ≤ i → r ≡ no_statics None → STATIC_TABLE ≤ length T
      → StaticsListed head C (statics_fault o C mode head) (statics o C mode head) r T T
  unfolding reads_statics has_debug
  debug_absent mode i r T e h a room =
      let l : section_count o C ≤ debug_section o C = rw (← e) h in
      let k : ltb (debug_section o C) (section_count o C) ≡ false = le-ltb _ _ l in
      reads_none mode r T (rw k (and-false (not (eqb mode MODE_NO)))) a room

  pub debug_there : (mode i : ℕ) (r : Listing) (T T' : List ℕ) → (mode ≡ MODE_NO → ⊥) → i ≡ debug_section o C → i < section_count o C
      → StaticsListed head C (debug_fault o C head) (debug_list o C head) r T T' → StaticsListed head C (statics_fault o C mode head) (statics o C mode head) r T T'
  unfolding statics_fault statics reads_statics has_debug
  debug_there mode i r T T' n e h a =
      let l : debug_section o C < section_count o C = rw (← e) h in
      let k : ltb (debug_section o C) (section_count o C) ≡ true = lt-ltb _ _ l in
      rw (ne_eqb mode MODE_NO n, k) a
