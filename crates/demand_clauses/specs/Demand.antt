-- Demand 3 of an accepted merge: no reference is lost, doubled or redirected. O is the object that it gave back, read by the gABI's readers alone; C, A and the block file B are
-- spoken of by document 01's definitions (specs/TakenOver.antt). The theorem is `no_reference_lost` of the crate demand_three.
use Rattle.std.specs.Prelude.{ℕ, ◌+◌, ◌*◌, ◌≤◌, ◌<◌, ◌≡◌, ◌≢◌, Bool, true, false, cond, not, ◌&&◌, List, ◌++◌, length, get_or, take, drop, eqb, ltb, leb, None}
use Rattle.base_lists.specs.Ranges.{pick_list}
use Rattle.base_fields.specs.declared.ByteOrder.{ByteOrder}
use Rattle.base_scope.specs.Text.{text}
use Rattle.base_scope.specs.Elf.{SHT_NULL, SHT_NOBITS, SHN_UNDEF, STB_LOCAL}
use Rattle.elf_readers.specs.Readers.{order_of, section_count, header_place, section, section_name, section_named, contents, is_strtab}
use Rattle.elf_header.specs.FileHeader.{header_fault}
use Rattle.elf_sections.specs.Names.{name_fault}
use Rattle.elf_symbols.specs.Symbols.{symtab, strtab, symbol_count, symbol, symbol_strings, symbol_name}
use Rattle.elf_symbol_faults.specs.Faults.{symbol_sound}
use Rattle.elf_relocations.specs.Relocations.{relocation_fault, relocation}
use Rattle.blocks_places.specs.Places.{Place, places_of}
use Rattle.statics_table.specs.Statics.{MODE_FILENAME}
use Rattle.merge_kept.specs.Kept.{kept}
use Rattle.carry_homes.specs.Homes.{carried_count, home_name, new_count, new_name, home_of}
use Rattle.demand_clauses.specs.Reading.{Reference, reference_at, times_in, referred_symbol, reference_kind, symbol_binding, word_at, all_entries}
use Rattle.demand_clauses.specs.TakenOver.{Definition, no_definition, defines, has_definition, taken_over, origins, is_owed, is_rewritten, object_of, source_of, target_of, offset_of, has_offset, new_offset, keeps_word, referred_definition, merge_statics}

-- at most so many sections and symbols: six tables for names that C lacks, C's and A's symbols without entry 0, and the statics
abbrev pub RESULT_SECTIONS : ℕ
RESULT_SECTIONS = 134

abbrev pub RESULT_SYMBOLS : ℕ
RESULT_SYMBOLS = 12287

module _ (o : ByteOrder) (C A : List ℕ) (P : List Place) (B path : List ℕ) (flag mode : ℕ) (O : List ℕ) where
  abbrev stay : ℕ
  stay = kept o C flag

  -- ---- names as the merge works with them: of a static in mode 3, whose name stands behind C's strings and A's, without path and colon

  abbrev is_pathed : ℕ → Bool
  is_pathed k = eqb mode MODE_FILENAME && leb (length (symbol_strings o C) + length (symbol_strings o A)) (symbol o O k).st_name

  unfoldable pub plain_name : ℕ → List ℕ
  plain_name k = pick_list (is_pathed k) (drop (length path + 1) (symbol_name o O k)) (symbol_name o O k)

  -- ---- the result reads as an object

  pub record Reads : Type 0 where
    -- document 01's checks: 2; of 3, that headers and bytes lie inside; 4; 5, with more symbols; 6
    pub order : order_of O ≡ o
    pub header : header_fault o O ≡ None
    pub few_sections : section_count o O ≤ RESULT_SECTIONS
    pub headers : header_place o O (section_count o O) ≤ length O
    pub held : (i : ℕ) → i < section_count o O → (section o O i).sh_type ≢ SHT_NULL → (section o O i).sh_type ≢ SHT_NOBITS
        → (section o O i).sh_offset + (section o O i).sh_size ≤ length O
    pub names : name_fault o O ≡ None
    pub symbol_entry : (section o O (symtab o O)).sh_entsize ≡ 16
    pub symbol_whole : (section o O (symtab o O)).sh_size ≡ 16 * symbol_count o O
    pub strings : is_strtab o O (strtab o O) ≡ true
    pub some_symbols : 1 ≤ symbol_count o O
    pub few_symbols : symbol_count o O ≤ RESULT_SYMBOLS
    pub symbols : (k : ℕ) → k < symbol_count o O → symbol_sound o O k ≡ true
    pub tables : relocation_fault o O ≡ None
    -- C's sections that stay keep index, name and type; those behind them are the tables that A's relocations need and C lacks
    pub sections : section_count o O ≡ stay + new_count o C A stay
    pub kept_names : (i : ℕ) → i < stay → section_name o O i ≡ section_name o C i
    pub kept_types : (i : ℕ) → i < stay → (section o O i).sh_type ≡ (section o C i).sh_type
    pub new_names : (i : ℕ) → i < new_count o C A stay → section_name o O (stay + i) ≡ new_name o C A stay i
    pub symbol_table : symtab o O ≡ symtab o C
    pub symbol_strings : strtab o O ≡ strtab o C
    -- the section that A's j-th carried table joins is the first of its name
    pub joined : (j : ℕ) → j < carried_count o A → section_named o O (home_name o A j) ≡ home_of o C A stay j
    -- mode 3 puts path and colon in front
    pub pathed : (k : ℕ) → k < symbol_count o O → is_pathed k ≡ true → take (length path + 1) (symbol_name o O k) ≡ path ++ text ":"

  -- ---- its symbols: local ones first, as sh_info counts them, and no name twice

  pub record Symbols : Type 0 where
    pub locals : (k : ℕ) → k < symbol_count o O → eqb (symbol_binding o O k) STB_LOCAL ≡ ltb k (section o O (symtab o O)).sh_info
    pub once : (k m : ℕ) → k < symbol_count o O → m < symbol_count o O → 0 < length (plain_name k) → plain_name k ≡ plain_name m → k ≡ m

  -- ---- a reference r of C or A leads to the result's symbol n

  abbrev over : List Definition
  over = taken_over o C A P B (merge_statics o C mode path)

  abbrev referred : Reference → Definition
  referred r = referred_definition o C A P B r

  pub record Leads (r : Reference) (n : ℕ) : Type 0 where
    pub some : 0 < n
    pub there : n < symbol_count o O
    -- of the same name
    pub name : plain_name n ≡ (referred r).name
    -- named: n is defined exactly when something that is taken over defines the name, and then where each that does says
    pub defined : 0 < length (referred r).name → not (eqb (symbol o O n).st_shndx SHN_UNDEF) ≡ has_definition over (referred r).name
    pub agrees : 0 < length (referred r).name → (i : ℕ) → i < length over → defines (referred r).name (get_or over i no_definition) ≡ true
        → ((symbol o O n).st_shndx ≡ (get_or over i no_definition).section) × ((symbol o O n).st_value ≡ (get_or over i no_definition).value)
    -- without a name: n is what its symbol was
    pub unnamed : length (referred r).name ≡ 0 → ((symbol o O n).st_shndx ≡ (referred r).section) × ((symbol o O n).st_value ≡ (referred r).value)

  -- ---- a reference r of C or A is the result's entry k of table t

  abbrev file : Reference → List ℕ
  file r = object_of o C A P B r

  pub record Same (r : Reference) (t k : ℕ) : Type 0 where
    -- a table of its type, for the symbol table, and for the section that its bytes go into
    pub type : (section o O t).sh_type ≡ (section o (file r) r.table).sh_type
    pub link : (section o O t).sh_link ≡ symtab o O
    pub target : (section o O t).sh_info ≡ target_of o C A P B r
    -- at its place, of its kind, with its addend
    pub moved : has_offset o C A P B r ≡ true
    pub place : (relocation o O t k).r_offset ≡ new_offset o C A P B r
    pub kind : reference_kind o O t k ≡ reference_kind o (file r) r.table r.entry
    pub addend : (relocation o O t k).r_addend ≡ (relocation o (file r) r.table r.entry).r_addend
    -- with its word, where that lies in the section and is its own
    pub word : new_offset o C A P B r + 4 ≤ length (contents o O (target_of o C A P B r)) → keeps_word o C A P B r ≡ true
        → word_at o O (target_of o C A P B r) (new_offset o C A P B r) ≡ word_at o (file r) (source_of o C A P B r) (offset_of o C A P B r)
    -- and leads where it led
    pub leads : Leads r (referred_symbol o O t k)

  -- ---- all references

  abbrev owed : List Reference
  owed = origins o C A P B flag

  abbrev found : List Reference
  found = all_entries o O

  pub record Kept : Type 0 where
    pub reads : Reads
    pub symbols : Symbols
    -- each that the result owes stands once in this row, and no other does
    pub once : (r : Reference) → times_in owed r ≡ cond (is_owed o C A P B r) 1 0
    -- the entries of all tables of the result, in order, are that row's
    pub many : length found ≡ length owed
    pub same : (j : ℕ) → j < length owed → Same (reference_at owed j) (reference_at found j).table (reference_at found j).entry
    -- what the merge does not write is C's
    pub bytes : (i x : ℕ) → i < stay → x < length (contents o C i) → is_rewritten o C A P B i x ≡ false → get_or (contents o O i) x 0 ≡ get_or (contents o C i) x 0

-- C's byte order serves all three objects; P are the places of the block file's lines in C
unfoldable pub DemandThree : List ℕ → List ℕ → List ℕ → List ℕ → ℕ → ℕ → List ℕ → Type 0
DemandThree C A B path flag mode O = Kept (order_of C) C A (places_of (order_of C) C B) B path flag mode O
