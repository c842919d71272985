-- What holds of the statics of an object, each by its place in the list: what later steps read them by. proofs/Sound.antt derives it from the walk.
use Rattle.std.specs.Prelude.{ℕ, ◌≤◌, ◌<◌, true, List, ◌≡◌, length, take}
use Rattle.base_lists.specs.Strings.{name_at}
use Rattle.base_fields.specs.declared.ByteOrder.{ByteOrder}
use Rattle.base_scope.specs.Codes.{CODES}
use Rattle.base_scope.specs.Limits.{STATIC_LIMIT}
use Rattle.elf_readers.specs.Readers.{section_count, coded_section}
use Rattle.statics_debug.specs.Entries.{storage_code}
use Rattle.statics_table.specs.declared.Static.{Static}
use Rattle.statics_table.specs.Statics.{names_length}
use Rattle.statics_table.specs.Table.{Numbered}
use Rattle.statics_entry.specs.Entry.{nth, readable_name}

-- its name lies in C, and its section, the one of a storage class, is there
pub record StaticSound (o : ByteOrder) (C : List ℕ) (s : Static) : Type 0 where
  pub name : readable_name C s.start ≡ true
  pub long : s.length ≡ length (name_at C s.start)
  pub class : ℕ
  pub coded : s.code ≡ storage_code class
  pub low : 1 ≤ s.code
  pub high : s.code ≤ CODES
  pub there : coded_section o C s.code < section_count o C

pub record StaticsSound (o : ByteOrder) (C : List ℕ) (head : ℕ) (L : List Static) : Type 0 where
  pub few : length L ≤ STATIC_LIMIT
  pub each : (k : ℕ) → k < length L → StaticSound o C (nth L k)
  -- a count is one more than that of the name's namesakes before it, over the whole object
  pub counts : Numbered C (nth L) (length L)
  -- written names stand one behind the other
  pub offsets : (k : ℕ) → k < length L → (nth L k).offset ≡ names_length head (take k L)
