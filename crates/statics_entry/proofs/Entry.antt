-- Laws of one entry: what its tests come to on what was read, and what each way through it leaves. Assumes nothing.
use mathlib.Core.Path.{◌≡◌, refl, sym, ap, ◌∙◌}
use mathlib.Core.Bool.{Bool, true, false, not, ◌&&◌}
use mathlib.Core.List.{List, [], ◌∷◌, ◌++◌}
use Prim.Native.Nat.{ℕ, ◌+◌, ◌*◌, ◌≤◌, ◌<◌}
use native.Mathlib.Omega.{arith}
use lib.ListN.{length}
use lib.Dec.{ltb, leb}
use borrow.Author.Tests.{lt-ltb, ltb-true, le-leb, lt-leb, leb-true}
use Rattle.base_lists.proofs.Ranges.{by-test, both, and_parts}
use Rattle.base_lists.specs.Windows.{spliced}
use Rattle.base_lists.proofs.Windows.{spliced_same}
use Rattle.base_lists.specs.Strings.{has_end, name_end, name_at}
use Rattle.base_lists.proofs.Strings.{name_length, end_low}
use Rattle.base_fields.specs.declared.ByteOrder.{ByteOrder}
use Rattle.base_fields.specs.Numbers.{number}
use Rattle.base_scope.specs.Limits.{FILE_LIMIT, STATIC_LIMIT, STATIC_NAME_LIMIT, WRITTEN_LIMIT}
use Rattle.elf_readers.specs.Readers.{section_count}
use Rattle.elf_check.specs.declared.View.{View}
use Rattle.elf_check.specs.View.{view_of, section_in}
use Rattle.elf_check.proofs.Views.{view_section, view_count}
use Rattle.statics_debug.specs.declared.Entry.{Entry}
use Rattle.statics_debug.specs.Entries.{ENTRY_SIZE, entry_at, entry_type, storage_class, lists_static, storage_code}
use Rattle.statics_debug.proofs.Entries.{code_high}
use Rattle.statics_table.specs.declared.Static.{Static}
use Rattle.statics_table.specs.declared.Tally.{Tally}
use Rattle.statics_table.specs.Statics.{stored_name, namesakes}
use Rattle.statics_table.specs.Table.{RowFits, static_rows, static_in, statics_in, StaticTable}
use Rattle.statics_table.proofs.Statics.{namesakes_same}
use Rattle.statics_table.proofs.Table.{length_statics, statics_at, statics_added, row_added, row_room, table_next}
use Rattle.statics_entry.specs.declared.EntryEnd.{EntryEnd}
use Rattle.statics_entry.specs.Entry.{nth, count_of, static_from, readable_name, entry_inside, type_at, is_static, has_section, name_start, listable, entry_fault, list_after}
use Rattle.statics_entry.specs.Code.{is_there, listable_in, stopped, passed, Added, list_next, EntryWalked}

-- ---- names

module _ (C : List ℕ) (start : ℕ) where
  end_at_lem : start + length (name_at C start) ≡ name_end C start
  end_at_lem = omega (arith, name_length C start, end_low C start)

  pub readable_is : (n : ℕ) → n ≡ length (name_at C start) → (ltb (start + n) (length C) && leb n STATIC_NAME_LIMIT) ≡ readable_name C start
  unfolding readable_name has_end
  readable_is n e = rw (e, end_at_lem)

  pub readable_parts : readable_name C start ≡ true → (start + length (name_at C start) < length C) × (length (name_at C start) ≤ STATIC_NAME_LIMIT)
  unfolding readable_name has_end
  readable_parts t =
      let r = and_parts (ltb (name_end C start) (length C)) _ t in
      let l : name_end C start < length C = ltb-true _ _ r.0 in
      (omega (arith, end_at_lem), leb-true _ _ r.1)

-- ---- sections

module _ (v : View) (class : ℕ) where
  pub not_there : storage_code class ≡ 0 → false ≡ is_there v class
  unfolding is_there
  not_there e = rw e

  pub there_read : (code k : ℕ) → code ≡ storage_code class → (code ≡ 0 → ⊥) → k ≡ section_in v code → ltb k v.sections ≡ is_there v class
  unfolding is_there
  there_read code k e d is =
      let low : 0 < storage_code class = omega arith in
      rw (lt-ltb 0 (storage_code class) low, is, e)

module _ (o : ByteOrder) (C : List ℕ) (v : View) (is : v ≡ view_of o C) where
  there_is : (class : ℕ) → is_there v class ≡ has_section o C class
  unfolding is_there has_section
  there_is class = by-test (ltb 0 (storage_code class))
      (λ t.
      let low : 0 < storage_code class = ltb-true _ _ t in
      rw (t, view_section o C v is (storage_code class) (omega arith) (code_high class), view_count o C v is))
      (λ f. rw f)

  -- the test of a static that was read
  pub listable_read : (L : List Static) (base at start n class : ℕ) (e : Entry) (b : Bool) → b ≡ listable_in C v class start n → class ≡ storage_class e.bits
      → e ≡ entry_at o C at → start ≡ base + e.name → n ≡ length L → b ≡ listable o C L base at
  unfolding listable_in listable name_start
  listable_read L base at start n class e b r k from begins long = rw (r, there_is class, k, begins, from, long)

module _ (C : List ℕ) (v : View) (class start n : ℕ) where
  pub listable_made : (readable there both room : Bool) → readable ≡ readable_name C start → there ≡ is_there v class → both ≡ (there && ltb n STATIC_LIMIT)
      → room ≡ (readable && both) → room ≡ listable_in C v class start n
  unfolding listable_in
  listable_made readable there both room e f g h = rw (h, e, g, f)

  pub listable_told : listable_in C v class start n ≡ true → (readable_name C start ≡ true) × (n < STATIC_LIMIT)
  unfolding listable_in
  listable_told t =
      let r = and_parts (readable_name C start) _ t in
      (r.0, ltb-true n STATIC_LIMIT (and_parts (is_there v class) _ r.1).1)

pub type_read : (o : ByteOrder) (C : List ℕ) (at bits k : ℕ) → bits ≡ number o 4 C (at + 8) → k ≡ entry_type bits → k ≡ type_at o C at
unfolding type_at entry_at
type_read o C at bits k e f = rw (f, e)

pub static_read : (o : ByteOrder) (C : List ℕ) (at k : ℕ) (b : Bool) → k ≡ type_at o C at → b ≡ lists_static k → b ≡ is_static o C at
unfolding is_static
static_read o C at k b e f = f ∙ ap lists_static e

-- ---- counts

module _ (C T : List ℕ) (n : ℕ) (name : List ℕ) where
  sakes : namesakes C name (nth (statics_in T n)) (length (statics_in T n)) ≡ namesakes C name (static_in T) n
  unfolding nth
  sakes =
      ap (namesakes C name (nth (statics_in T n))) (length_statics T n)
      ∙ namesakes_same C name (nth (statics_in T n)) (static_in T) n (λ k h. statics_at T k n _ h)

  pub count_nested : namesakes C name (static_in T) n + 1 ≡ count_of C (statics_in T n) name true
  unfolding count_of
  count_nested = rw sakes

  pub count_plain : 0 ≡ count_of C (statics_in T n) name false
  unfolding count_of
  count_plain = refl

  count_told : (nested : Bool) → 0 < count_of C (statics_in T n) name nested → count_of C (statics_in T n) name nested ≡ namesakes C name (static_in T) n + 1
  unfolding count_of
  count_told true h = rw sakes
  count_told false h = absurd (omega arith)

-- ---- rows

-- the static of an entry fits a row: its name lies inside C, and fewer than 4,096 names are written before its own
pub static_fits : (C : List ℕ) (L : List Static) (e : Entry) (start : ℕ) (nested : Bool) (size : ℕ) (x : Static) → x ≡ static_from C L e start nested size
    → readable_name C start ≡ true → length C ≤ FILE_LIMIT → x.length ≤ STATIC_NAME_LIMIT → x.number ≤ STATIC_LIMIT → size ≤ WRITTEN_LIMIT * STATIC_LIMIT → RowFits x
unfolding static_from
static_fits C L e start nested size x is readable small short few low =
    let c : x.code ≡ storage_code (storage_class e.bits) = ap (λ (s : Static). s.code) is in
    let b : x.start ≡ start = ap (λ (s : Static). s.start) is in
    let o : x.offset ≡ size = ap (λ (s : Static). s.offset) is in
    record {
      code = omega (arith, c, code_high (storage_class e.bits));
      start = omega (arith, b, (readable_parts C start readable).0, small);
      length = omega (arith, short);
      number = omega (arith, few);
      offset = omega (arith, o, low);
    }

-- ---- the ends of an entry

module _ (o : ByteOrder) (C : List ℕ) (L : List Static) (base at : ℕ) where
  static_inside : at + ENTRY_SIZE ≤ length C → is_static o C at ≡ true → entry_fault o C L base at ≡ not (listable o C L base at)
  unfolding entry_fault entry_inside
  static_inside h t = rw (le-leb _ _ h, t)

  plain_inside : at + ENTRY_SIZE ≤ length C → is_static o C at ≡ false → entry_fault o C L base at ≡ false
  unfolding entry_fault entry_inside
  plain_inside h t = rw (le-leb _ _ h, t)

  outside : length C < at + ENTRY_SIZE → entry_fault o C L base at ≡ true
  unfolding entry_fault entry_inside
  outside h = rw (lt-leb _ _ h)

module _ (o : ByteOrder) (C T : List ℕ) (head base at : ℕ) (nested : Bool) (t : Tally) (w : StaticTable head C T t) where
  -- the table stays
  next_faulty : entry_fault o C (statics_in T t.count) base at ≡ true → list_next o C head (statics_in T t.count) base at nested ≡ statics_in T t.count
  unfolding list_next
  next_faulty f = rw f

  next_plain : entry_fault o C (statics_in T t.count) base at ≡ false → is_static o C at ≡ false
      → list_next o C head (statics_in T t.count) base at nested ≡ statics_in T t.count
  unfolding list_next list_after
  next_plain f s = rw (f, s)

  walked_stopped : (r : EntryEnd) → entry_fault o C (statics_in T t.count) base at ≡ true → r ≡ stopped t → EntryWalked o C head base at nested t.count r T T
  unfolding stopped
  walked_stopped r f e = rw e (record {
    fault = sym f;
    kind = λ g. both refl g;
    list = sym (next_faulty f);
    table = sym (spliced_same T 0 (static_rows (statics_in T t.count)) w.row);
    filled = w;
  })

  pub walked_outside : (r : EntryEnd) → length C < at + ENTRY_SIZE → r ≡ stopped t → EntryWalked o C head base at nested t.count r T T
  walked_outside r h e = walked_stopped r (outside o C (statics_in T t.count) base at h) e

  pub walked_plain : (k : ℕ) → at + ENTRY_SIZE ≤ length C → k ≡ type_at o C at → lists_static k ≡ false → EntryWalked o C head base at nested t.count (passed k t) T T
  unfolding passed is_static
  walked_plain k h e f =
      let g : is_static o C at ≡ false = ap lists_static (sym e) ∙ f in
      let s : entry_fault o C (statics_in T t.count) base at ≡ false = plain_inside o C (statics_in T t.count) base at h g in
      record {
        fault = sym s;
        kind = λ z. e;
        list = sym (next_plain s g);
        table = sym (spliced_same T 0 (static_rows (statics_in T t.count)) w.row);
        filled = w;
      }

  -- a static that cannot be listed
  pub walked_refused : (r : EntryEnd) → at + ENTRY_SIZE ≤ length C → is_static o C at ≡ true → listable o C (statics_in T t.count) base at ≡ false → r ≡ stopped t
      → EntryWalked o C head base at nested t.count r T T
  walked_refused r h s f e = walked_stopped r (static_inside o C (statics_in T t.count) base at h s ∙ ap not f) e

  -- one that is added
  module _ (e : Entry) (start : ℕ) (h : at + ENTRY_SIZE ≤ length C) (s : is_static o C at ≡ true) (l : listable o C (statics_in T t.count) base at ≡ true)
      (is : e ≡ entry_at o C at) (from : start ≡ base + e.name) where
    x : Static
    x = static_from C (statics_in T t.count) e start nested t.size

    new_count_lem : 0 < x.number → x.number ≡ namesakes C (stored_name C x) (static_in T) t.count + 1
    unfolding x static_from stored_name
    new_count_lem = count_told C T t.count (name_at C start) nested

    clear : entry_fault o C (statics_in T t.count) base at ≡ false
    clear = static_inside o C (statics_in T t.count) base at h s ∙ ap not l

    next_added : list_next o C head (statics_in T t.count) base at nested ≡ statics_in T t.count ++ (x ∷ [])
    unfolding list_next list_after name_start x
    next_added = rw (clear, s, ← is, ← from, ← w.names)

    type_is : entry_type e.bits ≡ type_at o C at
    unfolding type_at
    type_is = rw is

    pub walked_added : (r : EntryEnd) (T' : List ℕ) → t.count < STATIC_LIMIT → Added head (static_from C (statics_in T t.count) e start nested t.size) e t r T T'
        → EntryWalked o C head base at nested t.count r T T'
    unfolding x passed
    walked_added r T' few a =
        let room = row_room head C T t w few in
        let added = statics_added T t.count w.row x room in
        rw (a.answer, a.table) (record {
          fault = sym clear;
          kind = λ z. type_is;
          list = added ∙ sym next_added;
          table = row_added T t.count w.row x room ∙ ap (λ (m : List Static). spliced T 0 (static_rows m)) (sym added);
          filled = table_next head C T t w few x new_count_lem a.short;
        })
