-- What one entry of the debug section comes to (document 01, "Statics"). C is the compiled object, L the statics listed before the entry, `at` where the
-- entry stands in C, `base` where the names of its file start, `nested` whether it stands above level 1.
use Rattle.std.specs.Prelude.{ℕ, ◌+◌, Bool, cond, not, ◌&&◌, ◌||◌, List, [], ◌∷◌, ◌++◌, length, get_or, ltb, leb}
use Rattle.base_lists.specs.Ranges.{pick_list}
use Rattle.base_lists.specs.Strings.{has_end, name_at}
use Rattle.base_fields.specs.declared.ByteOrder.{ByteOrder}
use Rattle.base_scope.specs.Limits.{STATIC_LIMIT, STATIC_NAME_LIMIT}
use Rattle.elf_readers.specs.Readers.{section_count, coded_section}
use Rattle.statics_debug.specs.declared.Entry.{Entry}
use Rattle.statics_debug.specs.Entries.{ENTRY_SIZE, entry_at, entry_type, storage_class, lists_static, storage_code}
use Rattle.statics_table.specs.declared.Static.{Static}
use Rattle.statics_table.specs.Statics.{names_length, namesakes}

-- static k of a list; zeros past its end
unfoldable pub nth : List Static → ℕ → Static
nth L k = get_or L k (record { value = 0; code = 0; start = 0; length = 0; number = 0; offset = 0 })

-- the count that a name gains behind the statics of a list: one more than its namesakes over the whole object so far
unfoldable pub count_of : List ℕ → List Static → List ℕ → Bool → ℕ
count_of C L name nested = cond nested (namesakes C name (nth L) (length L) + 1) 0

-- the static of an entry whose name starts at `start`; `size` is the bytes of the written names before it
unfoldable pub static_from : List ℕ → List Static → Entry → ℕ → Bool → ℕ → Static
static_from C L e start nested size = record {
  value = e.value;
  code = storage_code (storage_class e.bits);
  start = start;
  length = length (name_at C start);
  number = count_of C L (name_at C start) nested;
  offset = size;
}

-- a name that is read has a zero end inside C, and at most 1,024 bytes
unfoldable pub readable_name : List ℕ → ℕ → Bool
readable_name C start = has_end C start && leb (length (name_at C start)) STATIC_NAME_LIMIT

module _ (o : ByteOrder) (C : List ℕ) where
  -- the three words lie inside C
  unfoldable pub entry_inside : ℕ → Bool
  entry_inside at = leb (at + ENTRY_SIZE) (length C)

  unfoldable pub type_at : ℕ → ℕ
  type_at at = entry_type (entry_at o C at).bits

  unfoldable pub is_static : ℕ → Bool
  is_static at = lists_static (type_at at)

  -- the storage class names a section, and C has it
  unfoldable pub has_section : ℕ → Bool
  has_section class = ltb 0 (storage_code class) && ltb (coded_section o C (storage_code class)) (section_count o C)

  unfoldable pub name_start : ℕ → ℕ → ℕ
  name_start base at = base + (entry_at o C at).name

  -- a static can be listed: its name is readable, its section is there, and fewer than 4,096 statics stand before it
  unfoldable pub listable : List Static → ℕ → ℕ → Bool
  listable L base at = readable_name C (name_start base at) && (has_section (storage_class (entry_at o C at).bits) && ltb (length L) STATIC_LIMIT)

  -- refusal 17 inside an entry
  unfoldable pub entry_fault : List Static → ℕ → ℕ → Bool
  entry_fault L base at = not (entry_inside at) || (is_static at && not (listable L base at))

  -- the statics after the entry
  unfoldable pub list_after : ℕ → List Static → ℕ → ℕ → Bool → List Static
  list_after head L base at nested =
      pick_list (is_static at) (L ++ (static_from C L (entry_at o C at) (name_start base at) nested (names_length head L) ∷ [])) L
