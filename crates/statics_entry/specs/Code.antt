-- Of the code, not of document 01: what the code of one entry is given, what it answers, and what it leaves in the table of statics.
use Rattle.std.specs.Prelude.{ℕ, ◌+◌, ◌*◌, ◌≤◌, Bool, true, false, ◌&&◌, List, ◌≡◌, length, ltb}
use Rattle.base_lists.specs.Ranges.{pick_list}
use Rattle.base_lists.specs.Windows.{spliced}
use Rattle.base_fields.specs.declared.ByteOrder.{ByteOrder}
use Rattle.base_scope.specs.Limits.{FILE_LIMIT, STATIC_LIMIT, HEAD_LIMIT, WRITTEN_LIMIT, STATIC_ROW}
use Rattle.elf_check.specs.declared.View.{View}
use Rattle.elf_check.specs.View.{view_of, section_in}
use Rattle.statics_debug.specs.declared.Entry.{Entry}
use Rattle.statics_debug.specs.Entries.{entry_type, storage_code}
use Rattle.statics_table.specs.declared.Static.{Static}
use Rattle.statics_table.specs.declared.Tally.{Tally}
use Rattle.statics_table.specs.Statics.{written_length}
use Rattle.statics_table.specs.Table.{static_row, static_rows, statics_in, StaticTable}
use Rattle.statics_entry.specs.declared.Setting.{Setting}
use Rattle.statics_entry.specs.declared.EntryEnd.{EntryEnd}
use Rattle.statics_entry.specs.Entry.{readable_name, entry_fault, type_at, list_after}

-- `has_section` by the view of C
unfoldable pub is_there : View → ℕ → Bool
is_there v class = ltb 0 (storage_code class) && ltb (section_in v (storage_code class)) v.sections

-- `listable` of a static whose name starts at `start`, behind n others
unfoldable pub listable_in : List ℕ → View → ℕ → ℕ → ℕ → Bool
listable_in C v class start n = readable_name C start && (is_there v class && ltb n STATIC_LIMIT)

-- what holds of a whole walk over C
pub record InSetting (o : ByteOrder) (C : List ℕ) (s : Setting) : Type 0 where
  pub small : length C ≤ FILE_LIMIT
  pub view : s.view ≡ view_of o C
  pub short : s.head ≤ HEAD_LIMIT

-- the end of an entry that is at fault, and of one that is not
unfoldable pub stopped : Tally → EntryEnd
stopped t = record { bad = true; kind = 0; tally = t }

unfoldable pub passed : ℕ → Tally → EntryEnd
passed type t = record { bad = false; kind = type; tally = t }

-- a static was added to a table
pub record Added (head : ℕ) (x : Static) (e : Entry) (t : Tally) (r : EntryEnd) (before after : List ℕ) : Type 0 where
  pub answer : r ≡ passed (entry_type e.bits) (record { count = t.count + 1; size = t.size + written_length head x })
  pub table : after ≡ spliced before (STATIC_ROW * t.count) (static_row x)
  pub short : written_length head x ≤ WRITTEN_LIMIT

module _ (o : ByteOrder) (C : List ℕ) (head : ℕ) (L : List Static) (base at : ℕ) (nested : Bool) where
  -- the statics after the entry, or those before it where it is at fault
  unfoldable pub list_next : List Static
  list_next = pick_list (entry_fault o C L base at) L (list_after o C head L base at nested)

-- the answer of an entry behind n statics, and the table that it leaves
pub record EntryWalked (o : ByteOrder) (C : List ℕ) (head base at : ℕ) (nested : Bool) (n : ℕ) (r : EntryEnd) (before after : List ℕ) : Type 0 where
  pub fault : r.bad ≡ entry_fault o C (statics_in before n) base at
  pub kind : r.bad ≡ false → r.kind ≡ type_at o C at
  pub list : statics_in after r.tally.count ≡ list_next o C head (statics_in before n) base at nested
  pub table : after ≡ spliced before 0 (static_rows (statics_in after r.tally.count))
  pub filled : StaticTable head C after r.tally
