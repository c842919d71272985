-- Refusal 17 and the statics of the compiled object C (document 01, "Statics"): the files of the debug section in order; for each its descriptor, its entries,
-- and its level at the end.
use Rattle.std.specs.Prelude.{ℕ, zero, suc, ◌+◌, ◌*◌, Bool, cond, not, ◌&&◌, ◌||◌, List, [], length, eqb, ltb, leb, None, Some, Option}
use Rattle.base_lists.specs.Ranges.{first, sum, pick_list}
use Rattle.base_fields.specs.declared.ByteOrder.{ByteOrder}
use Rattle.base_scope.specs.Text.{text}
use Rattle.base_scope.specs.Refusals.{pick_finding, expect}
use Rattle.elf_readers.specs.Readers.{section_count, section_named, contents}
use Rattle.statics_debug.specs.declared.Tables.{Tables}
use Rattle.statics_debug.specs.declared.FileRecord.{FileRecord}
use Rattle.statics_debug.specs.Entries.{TABLES_SIZE, FILE_SIZE, FILE_READ, ENTRY_SIZE, tables_in, file_at}
use Rattle.statics_table.specs.declared.Static.{Static}
use Rattle.statics_table.specs.Statics.{MODE_NO}
use Rattle.statics_file.specs.File.{listed_in, completed_in, fails_in}

-- file i of the tables t
module _ (o : ByteOrder) (C : List ℕ) (t : Tables) where
  unfoldable pub descriptor_place : ℕ → ℕ
  descriptor_place i = t.descriptors + FILE_SIZE * i

  -- the words of its descriptor lie inside C
  unfoldable pub descriptor_inside : ℕ → Bool
  descriptor_inside i = leb (descriptor_place i + FILE_READ) (length C)

  unfoldable pub file_record : ℕ → FileRecord
  file_record i = file_at o C (descriptor_place i)

  unfoldable pub entry_count : ℕ → ℕ
  entry_count i = (file_record i).count

  -- entries are counted over all files
  unfoldable pub entries_before : ℕ → ℕ
  entries_before i = sum entry_count i

  -- where its entries and its names start
  unfoldable pub entries_start : ℕ → ℕ
  entries_start i = t.symbols + ENTRY_SIZE * (file_record i).first

  unfoldable pub names_start : ℕ → ℕ
  names_start i = t.strings + (file_record i).names

module _ (o : ByteOrder) (C : List ℕ) (head : ℕ) (t : Tables) where
  -- the statics of the files before file i
  unfoldable pub listed_before : ℕ → List Static
  listed_before zero = []
  listed_before (suc i) = listed_in o C head (entries_start o C t i) (names_start o C t i) (listed_before i) (entry_count o C t i)

  -- how many entries of file i are completed
  unfoldable pub completed : ℕ → ℕ
  completed i =
      cond (descriptor_inside o C t i) (completed_in o C head (entries_start o C t i) (names_start o C t i) (listed_before i) (entry_count o C t i)) 0

  unfoldable pub file_fault : ℕ → Bool
  file_fault i =
      not (descriptor_inside o C t i) || fails_in o C head (entries_start o C t i) (names_start o C t i) (listed_before i) (entry_count o C t i)

  -- the first file that fails; all of them where none does
  unfoldable pub faulty_file : ℕ
  faulty_file = first file_fault 0 t.files

  -- the place is the number of entries completed so far
  unfoldable pub walk_fault : Option ℕ
  walk_fault = pick_finding (ltb faulty_file t.files) (Some (entries_before o C t faulty_file + completed faulty_file)) None

  -- the statics: all, or those before the fault
  unfoldable pub walk_list : List Static
  walk_list =
      pick_list (ltb faulty_file t.files)
      (listed_in o C head (entries_start o C t faulty_file) (names_start o C t faulty_file) (listed_before faulty_file) (completed faulty_file))
      (listed_before t.files)

module _ (o : ByteOrder) (C : List ℕ) where
  -- document 01: the first section of that name, before any is dropped; the section count where there is none
  unfoldable pub debug_section : ℕ
  debug_section = section_named o C (text ".mdebug")

  unfoldable pub has_debug : Bool
  has_debug = ltb debug_section (section_count o C)

  unfoldable pub debug_part : List ℕ
  debug_part = contents o C debug_section

  -- 17 at 0 where a header read leaves .mdebug: 80 bytes hold the four words
  unfoldable pub debug_fault : ℕ → Option ℕ
  debug_fault head = expect (leb TABLES_SIZE (length debug_part)) 0 (walk_fault o C head (tables_in o debug_part))

  unfoldable pub debug_list : ℕ → List Static
  debug_list head = pick_list (leb TABLES_SIZE (length debug_part)) (walk_list o C head (tables_in o debug_part)) []

  -- statics are read in modes 1 to 3 where .mdebug is present
  unfoldable pub reads_statics : ℕ → Bool
  reads_statics mode = not (eqb mode MODE_NO) && has_debug

  -- refusal 17, before any section moves
  unfoldable pub statics_fault : ℕ → ℕ → Option ℕ
  statics_fault mode head = pick_finding (reads_statics mode) (debug_fault head) None

  unfoldable pub statics : ℕ → ℕ → List Static
  statics mode head = pick_list (reads_statics mode) (debug_list head) []
