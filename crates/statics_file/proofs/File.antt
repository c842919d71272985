-- Laws of the entries of one file: what a turn of the walk leaves, and what its end answers. Assumes nothing.
use mathlib.Core.Path.{◌≡◌, refl, sym, ap, ◌∙◌}
use mathlib.Core.Bool.{Bool, true, false, cond, not, ◌||◌}
use mathlib.Core.List.{List}
use Prim.Native.Nat.{ℕ, zero, suc, ◌+◌, ◌*◌, ◌≤◌, ◌<◌}
use native.Mathlib.Omega.{arith}
use native.Mathlib.Numerals.{add-one}
use lib.ListN.{length, length-append}
use lib.Dec.{eqb, ltb}
use borrow.Author.Tests.{lt-ltb, le-ltb, ltb-false}
use Rattle.base_lists.specs.Ranges.{first}
use Rattle.base_lists.proofs.Ranges.{by-test, both, first_here, first_next, first_end, first_high, count_zero, count_le, count_next}
use Rattle.base_lists.specs.Windows.{spliced}
use Rattle.base_lists.proofs.Windows.{spliced_same, length_spliced, spliced_over}
use Rattle.base_fields.specs.declared.ByteOrder.{ByteOrder}
use Rattle.base_scope.specs.Limits.{STATIC_LIMIT, STATIC_ROW, STATIC_TABLE}
use Rattle.statics_debug.specs.Entries.{ENTRY_SIZE, opens_scope, closes_scope}
use Rattle.statics_table.specs.declared.Static.{Static}
use Rattle.statics_table.specs.declared.Tally.{Tally}
use Rattle.statics_table.specs.Table.{static_rows, statics_in, StaticTable}
use Rattle.statics_table.proofs.Table.{length_rows, length_statics}
use Rattle.statics_entry.specs.declared.EntryEnd.{EntryEnd}
use Rattle.statics_entry.specs.Entry.{type_at, is_static, entry_fault, list_after}
use Rattle.statics_entry.specs.Code.{list_next, EntryWalked}
use Rattle.statics_file.specs.File.{entry_place, opened, closed, nested, balanced, listed_in, fault_in, completed_in, fails_in}
use Rattle.statics_file.specs.declared.FileEntries.{FileEntries}
use Rattle.statics_file.specs.Code.{FileWalked}

-- ---- tables

rows_long : (X : List ℕ) (k : ℕ) → length (static_rows (statics_in X k)) ≡ STATIC_ROW * k
rows_long X k = length_rows (statics_in X k) ∙ ap (λ (i : ℕ). STATIC_ROW * i) (length_statics X k)

-- a table written over with more rows twice
pub tables_then : (T₀ T T' : List ℕ) (n n' : ℕ) → T ≡ spliced T₀ 0 (static_rows (statics_in T n)) → T' ≡ spliced T 0 (static_rows (statics_in T' n')) → n ≤ n' → n' ≤ STATIC_LIMIT
    → STATIC_TABLE ≤ length T₀ → (T' ≡ spliced T₀ 0 (static_rows (statics_in T' n'))) × (length T' ≡ length T₀)
tables_then T₀ T T' n n' e f h k room =
    let a : length (static_rows (statics_in T n)) ≤ length (static_rows (statics_in T' n')) = omega (arith, rows_long T n, rows_long T' n') in
    let b : 0 + length (static_rows (statics_in T' n')) ≤ length T₀ = omega (arith, rows_long T' n') in
    let g : T' ≡ spliced T₀ 0 (static_rows (statics_in T' n')) =
    f ∙ ap (λ (x : List ℕ). spliced x 0 (static_rows (statics_in T' n'))) e ∙ spliced_over T₀ 0 (static_rows (statics_in T n)) (static_rows (statics_in T' n')) a b in
    (g, ap length g ∙ length_spliced T₀ 0 (static_rows (statics_in T' n')) b)

-- ---- the statics of a file

module _ (o : ByteOrder) (C : List ℕ) (head s b : ℕ) (L : List Static) where
  pub listed_zero : listed_in o C head s b L 0 ≡ L
  unfolding listed_in
  listed_zero = refl

  pub listed_suc : (j : ℕ) → listed_in o C head s b L (j + 1) ≡ list_after o C head (listed_in o C head s b L j) b (entry_place s j) (nested o C s j)
  unfolding listed_in
  listed_suc j = rw (add-one j)

module _ (o : ByteOrder) (C : List ℕ) (head : ℕ) (L : List Static) (b at : ℕ) (n : Bool) where
  after_longer : length L ≤ length (list_after o C head L b at n)
  unfolding list_after
  after_longer = by-test (is_static o C at) (λ t. rw (t, length-append) (omega arith)) (λ f. rw f (omega arith))

  next_longer : length L ≤ length (list_next o C head L b at n)
  unfolding list_next
  next_longer = by-test (entry_fault o C L b at) (λ t. rw t (omega arith)) (λ f. rw f after_longer)

  next_fault : entry_fault o C L b at ≡ true → list_next o C head L b at n ≡ L
  unfolding list_next
  next_fault t = rw t

  next_clear : entry_fault o C L b at ≡ false → list_next o C head L b at n ≡ list_after o C head L b at n
  unfolding list_next
  next_clear f = rw f

pub listed_longer : (o : ByteOrder) (C : List ℕ) (head s b : ℕ) (L : List Static) (j : ℕ) → length L ≤ length (listed_in o C head s b L j)
unfolding listed_in
listed_longer o C head s b L zero = omega arith
listed_longer o C head s b L (suc j) =
    omega (arith, listed_longer o C head s b L j, after_longer o C head (listed_in o C head s b L j) b (entry_place s j) (nested o C s j))

-- no more entries are completed than there are
pub completed_le : (o : ByteOrder) (C : List ℕ) (head s b : ℕ) (L : List Static) (m : ℕ) → completed_in o C head s b L m ≤ m
unfolding completed_in
completed_le o C head s b L m = first_high (fault_in o C head s b L) 0 m (omega arith)

-- a file that does not fail is completed
pub clear_completed : (o : ByteOrder) (C : List ℕ) (head s b : ℕ) (L : List Static) (m : ℕ) → fails_in o C head s b L m ≡ false → completed_in o C head s b L m ≡ m
unfolding fails_in
clear_completed o C head s b L m f =
    by-test (ltb (completed_in o C head s b L m) m)
    (λ t. both (rw t) f)
    (λ g. let h : m ≤ completed_in o C head s b L m = ltb-false _ _ g in omega (arith, completed_le o C head s b L m))

-- ---- the loop over the entries

module _ (o : ByteOrder) (C : List ℕ) (s : ℕ) where
  opened_next : (j k a : ℕ) → k ≡ type_at o C (s + ENTRY_SIZE * j) → a ≡ cond (opens_scope k) 1 0 → opened o C s j + a ≡ opened o C s (j + 1)
  unfolding opened entry_place
  opened_next j k a e f = rw (f, e) (sym (count_next (λ i. opens_scope (type_at o C (s + ENTRY_SIZE * i))) j))

  closed_next : (j k a : ℕ) → k ≡ type_at o C (s + ENTRY_SIZE * j) → a ≡ cond (closes_scope k) 1 0 → closed o C s j + a ≡ closed o C s (j + 1)
  unfolding closed entry_place
  closed_next j k a e f = rw (f, e) (sym (count_next (λ i. closes_scope (type_at o C (s + ENTRY_SIZE * i))) j))

  opened_zero : opened o C s 0 ≡ 0
  unfolding opened
  opened_zero = count_zero (λ i. opens_scope (type_at o C (entry_place s i)))

  closed_zero : closed o C s 0 ≡ 0
  unfolding closed
  closed_zero = count_zero (λ i. closes_scope (type_at o C (entry_place s i)))

  opened_le : (j : ℕ) → opened o C s j ≤ j
  unfolding opened
  opened_le j = count_le (λ i. opens_scope (type_at o C (entry_place s i))) j

  closed_le : (j : ℕ) → closed o C s j ≤ j
  unfolding closed
  closed_le j = count_le (λ i. closes_scope (type_at o C (entry_place s i))) j

-- j entries of p are completed, behind a table T₀ with n₀ rows: the scopes opened and closed, and how far the table T is filled
pub record FileSoFar (o : ByteOrder) (C : List ℕ) (head : ℕ) (p : FileEntries) (T₀ : List ℕ) (n₀ : ℕ) (j op cl : ℕ) (t : Tally) (T : List ℕ) : Type 0 where
  pub low : j ≤ p.count
  pub ahead : completed_in o C head p.start p.names (statics_in T₀ n₀) p.count ≡ first (fault_in o C head p.start p.names (statics_in T₀ n₀)) j p.count
  pub opens : op ≡ opened o C p.start j
  pub closes : cl ≡ closed o C p.start j
  pub few : (op ≤ j) × (cl ≤ j)
  pub list : statics_in T t.count ≡ listed_in o C head p.start p.names (statics_in T₀ n₀) j
  pub table : T ≡ spliced T₀ 0 (static_rows (statics_in T t.count))
  pub long : length T ≡ length T₀
  pub filled : StaticTable head C T t

pub walk_none : (o : ByteOrder) (C : List ℕ) (head : ℕ) (p : FileEntries) (T : List ℕ) (t : Tally) → StaticTable head C T t
    → FileSoFar o C head p T t.count 0 0 0 t T
unfolding completed_in
walk_none o C head p T t w = record {
  low = omega arith;
  ahead = refl;
  opens = sym (opened_zero o C p.start);
  closes = sym (closed_zero o C p.start);
  few = (omega arith, omega arith);
  list = sym (listed_zero o C head p.start p.names (statics_in T t.count));
  table = sym (spliced_same T 0 (static_rows (statics_in T t.count)) w.row);
  long = refl;
  filled = w;
}

module _ (o : ByteOrder) (C : List ℕ) (head : ℕ) (p : FileEntries) (T₀ : List ℕ) (n₀ j op cl : ℕ) (t : Tally) (T : List ℕ) (w : FileSoFar o C head p T₀ n₀ j op cl t T) where
  -- the statics before the file
  abbrev L : List Static
  L = statics_in T₀ n₀

  fails_is : (c : ℕ) (r : Bool) → completed_in o C head p.start p.names L p.count ≡ c → r ≡ (ltb c p.count || not (balanced o C p.start p.count))
      → r ≡ fails_in o C head p.start p.names L p.count
  unfolding fails_in
  fails_is c r e f = rw e f

  level_is : j ≡ p.count → not (eqb op cl) ≡ not (balanced o C p.start p.count)
  unfolding balanced
  level_is e = rw (w.opens, w.closes, e)

  pub walk_end : p.count ≤ j → FileWalked o C head p n₀ (record { bad = not (eqb op cl); entries = p.count; tally = t }) T₀ T
  walk_end h =
      let e : j ≡ p.count = omega (arith, w.low) in
      let f : completed_in o C head p.start p.names L p.count ≡ p.count = w.ahead ∙ first_end (fault_in o C head p.start p.names L) j p.count h ∙ e in
      record {
        fault = fails_is p.count _ f (rw (le-ltb p.count p.count (omega arith)) (level_is e));
        entries = sym f;
        list = w.list ∙ ap (listed_in o C head p.start p.names L) e;
        table = w.table;
        filled = w.filled;
      }

  -- entry j in hand
  module _ (r : EntryEnd) (T' : List ℕ) (q : EntryWalked o C head p.names (p.start + ENTRY_SIZE * j) (ltb (cl + 1) op) t.count r T T') (h : j < p.count) where
    nested_is : ltb (cl + 1) op ≡ nested o C p.start j
    unfolding nested
    nested_is = rw (w.opens, w.closes)

    fault_is : r.bad ≡ fault_in o C head p.start p.names L j
    unfolding fault_in entry_place
    fault_is = q.fault ∙ ap (λ (x : List Static). entry_fault o C x p.names (p.start + ENTRY_SIZE * j)) w.list

    longer : t.count ≤ r.tally.count
    longer =
        let k = ap length q.list in
        omega (arith, next_longer o C head (statics_in T t.count) p.names (p.start + ENTRY_SIZE * j) (ltb (cl + 1) op), length_statics T t.count, length_statics T' r.tally.count)

    walked_table : (T' ≡ spliced T₀ 0 (static_rows (statics_in T' r.tally.count))) × (length T' ≡ length T₀)
    walked_table = tables_then T₀ T T' t.count r.tally.count w.table q.table longer q.filled.counted.few (rw (← w.long) w.filled.room)

    pub walk_long : length T' ≡ length T₀
    walk_long = walked_table.1

    pub walk_stop : r.bad ≡ true → FileWalked o C head p n₀ (record { bad = true; entries = j; tally = r.tally }) T₀ T'
    walk_stop f =
        let c : completed_in o C head p.start p.names L p.count ≡ j =
        w.ahead ∙ first_here (fault_in o C head p.start p.names L) j p.count h (sym fault_is ∙ f) in
        record {
          fault = fails_is j true c (rw (lt-ltb j p.count h));
          entries = sym c;
          list = q.list ∙ next_fault o C head (statics_in T t.count) p.names (p.start + ENTRY_SIZE * j) (ltb (cl + 1) op) (sym q.fault ∙ f) ∙ w.list;
          table = walked_table.0;
          filled = q.filled;
        }

    next_list : r.bad ≡ false → statics_in T' r.tally.count ≡ listed_in o C head p.start p.names L (j + 1)
    unfolding entry_place
    next_list f =
        q.list
        ∙ next_clear o C head (statics_in T t.count) p.names (p.start + ENTRY_SIZE * j) (ltb (cl + 1) op) (sym q.fault ∙ f)
        ∙ rw (w.list, nested_is, listed_suc o C head p.start p.names L j)

    pub walk_next : (a d : ℕ) → r.bad ≡ false → (a ≡ cond (opens_scope r.kind) 1 0) × (a ≤ 1) → (d ≡ cond (closes_scope r.kind) 1 0) × (d ≤ 1)
        → FileSoFar o C head p T₀ n₀ (j + 1) (op + a) (cl + d) r.tally T'
    walk_next a d f e g = record {
      low = omega arith;
      ahead = w.ahead ∙ first_next (fault_in o C head p.start p.names L) j p.count h (sym fault_is ∙ f);
      opens = rw w.opens (opened_next o C p.start j r.kind a (q.kind f) e.0);
      closes = rw w.closes (closed_next o C p.start j r.kind d (q.kind f) g.0);
      few = (omega (arith, w.few.0, e.1), omega (arith, w.few.1, g.1));
      list = next_list f;
      table = walked_table.0;
      long = walk_long;
      filled = q.filled;
    }
