-- The records of the debug section that document 01 reads ("Statics"; MIPS debug documentation: "Symbolic Header", "File Descriptor Table", "Local
-- Symbols"). Every reader is total; C is the compiled object, D the bytes of its .mdebug.
use Rattle.std.specs.Prelude.{ℕ, ◌+◌, ◌/◌, ◌%◌, ◌^◌, Bool, false, cond, ◌||◌, List, [], ◌∷◌, get_or, eqb}
use Rattle.base_fields.specs.declared.ByteOrder.{ByteOrder}
use Rattle.base_fields.specs.Numbers.{number}
use Rattle.base_scope.specs.Codes.{TEXT, DATA, RODATA, BSS}
use Rattle.elf_records.specs.Debug.{debug_at}
use Rattle.statics_debug.specs.declared.Tables.{Tables}
use Rattle.statics_debug.specs.declared.FileRecord.{FileRecord}
use Rattle.statics_debug.specs.declared.Entry.{Entry}

-- which of the symbolic header's 23 words (the crate elf_records, specs/Debug.antt) these are
abbrev pub CB_SYM_OFFSET : ℕ
CB_SYM_OFFSET = 8

abbrev pub CB_SS_OFFSET : ℕ
CB_SS_OFFSET = 14

abbrev pub IFD_MAX : ℕ
IFD_MAX = 17

abbrev pub CB_FD_OFFSET : ℕ
CB_FD_OFFSET = 18

-- how many bytes of .mdebug hold them
abbrev pub TABLES_SIZE : ℕ
TABLES_SIZE = 80

-- the bytes of a file descriptor, those of them that hold what is read, and the bytes of an entry
abbrev pub FILE_SIZE : ℕ
FILE_SIZE = 72

abbrev pub FILE_READ : ℕ
FILE_READ = 24

abbrev pub ENTRY_SIZE : ℕ
ENTRY_SIZE = 12

module _ (o : ByteOrder) where
  -- the four header reads: how many file descriptors there are, and where those, the local symbols and their strings stand in C
  unfoldable pub tables_in : List ℕ → Tables
  tables_in D = record {
    files = get_or (debug_at o D 0).words IFD_MAX 0;
    descriptors = get_or (debug_at o D 0).words CB_FD_OFFSET 0;
    symbols = get_or (debug_at o D 0).words CB_SYM_OFFSET 0;
    strings = get_or (debug_at o D 0).words CB_SS_OFFSET 0;
  }

  -- a file descriptor (FDR): issBase, isymBase and csym
  unfoldable pub file_at : List ℕ → ℕ → FileRecord
  file_at C at = record {
    names = number o 4 C (at + 8);
    first = number o 4 C (at + 16);
    count = number o 4 C (at + 20);
  }

  -- an entry (SYMR): iss, value, and the word that holds st, sc and index
  unfoldable pub entry_at : List ℕ → ℕ → Entry
  entry_at C at = record {
    name = number o 4 C at;
    value = number o 4 C (at + 4);
    bits = number o 4 C (at + 8);
  }

-- st, the type: the high six bits
abbrev pub entry_type : ℕ → ℕ
entry_type bits = bits / 2 ^ 26

-- sc, the storage class: the five bits below it
abbrev pub storage_class : ℕ → ℕ
storage_class bits = bits / 2 ^ 21 % 2 ^ 5

-- whether a number is in a list
unfoldable pub among : ℕ → List ℕ → Bool
among x [] = false
among x (y ∷ l) = eqb x y || among x l

-- document 01: entries of type 2 and 14
unfoldable pub lists_static : ℕ → Bool
lists_static type = among type (2 ∷ 14 ∷ [])

-- types 6, 7, 11, 14, 26, 27, 28 open a scope after the entry, 8 closes one
unfoldable pub opens_scope : ℕ → Bool
opens_scope type = among type (6 ∷ 7 ∷ 11 ∷ 14 ∷ 26 ∷ 27 ∷ 28 ∷ [])

unfoldable pub closes_scope : ℕ → Bool
closes_scope type = among type (8 ∷ [])

-- storage class 1 .text, 2 .data, 3 .bss, 15 .rodata: the section's code; 0 for any other class
unfoldable pub storage_code : ℕ → ℕ
storage_code class = cond (eqb class 1) TEXT (cond (eqb class 2) DATA (cond (eqb class 3) BSS (cond (eqb class 15) RODATA 0)))
