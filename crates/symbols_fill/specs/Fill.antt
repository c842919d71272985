-- Of the code, not of document 01: the row of each id, over what is in hand. C is the compiled object, A the assembled one, T the table of statics, `late` the table of the late
-- step, f the rest. proofs/Candidates.antt says that taken ids stand where their entries do.
use Rattle.std.specs.Prelude.{ℕ, ◌+◌, ◌*◌, ◌≤◌, ◌<◌, ◌≡◌, Bool, true, false, cond, ◌&&◌, List, length, eqb, None, Some, Option}
use Rattle.base_lists.specs.Windows.{Within}
use Rattle.base_fields.specs.declared.ByteOrder.{ByteOrder}
use Rattle.base_packed.specs.Packed.{binding_of}
use Rattle.base_scope.specs.Codes.{LATE_RODATA, CODES, target_code}
use Rattle.base_scope.specs.Limits.{SECTION_LIMIT, STATIC_LIMIT, STATIC_ROW}
use Rattle.elf_records.specs.declared.symbol.SymbolEntry.{SymbolEntry}
use Rattle.elf_symbols.specs.Symbols.{symbol_count, symbol, symbol_name}
use Rattle.elf_check.specs.declared.View.{View}
use Rattle.elf_check.specs.View.{section_in, Viewed}
use Rattle.late_laws.specs.of_late_lookups.Fields.{offset_at}
use Rattle.statics_table.specs.Statics.{working_name, static_binding}
use Rattle.statics_table.specs.Table.{static_in}
use Rattle.symbols_holders.specs.of_symbols_taken.Taken.{is_taken_c, is_taken_a, is_placed_in}
use Rattle.symbols_holders.specs.of_symbols_taken.Code.{code_in, used_bytes, LateIn}
use Rattle.symbols_holders.specs.of_symbols_ids.Ids.{by_origin}
use Rattle.symbols_holders.specs.of_symbols_names.declared.NameKind.{NameKind}
use Rattle.symbols_holders.specs.of_symbols_names.Names.{kind_of, SourcesRead}
use Rattle.symbols_rows.specs.declared.IdRow.{IdRow}
use Rattle.symbols_rows.specs.Rows.{id_row}
use Rattle.symbols_holders.specs.Ready.{id_count, id_name}
use Rattle.symbols_fill.specs.declared.SymbolPlace.{SymbolPlace}
use Rattle.symbols_fill.specs.declared.Filling.{Filling}

-- ---- places

-- that of an entry
unfoldable pub place_by_entry : SymbolEntry → SymbolPlace
place_by_entry e = record { section = e.st_shndx; value = e.st_value; binding = binding_of e.st_info }

-- C's symbol k
unfoldable pub place_c : ByteOrder → List ℕ → ℕ → SymbolPlace
place_c o C k = place_by_entry (symbol o C k)

-- what an answer of the table comes to
abbrev pub place_number : Option ℕ → ℕ
place_number (Some p) = p
place_number None = 0

-- the place of late offset x, by the table of n blocks where the late step runs
unfoldable pub late_place_in : Bool → List ℕ → ℕ → ℕ → ℕ
late_place_in runs late n x = cond runs (place_number (offset_at late n x)) 0

-- value x in A's section of a code
unfoldable pub late_value_in : ℕ → Bool → List ℕ → ℕ → ℕ → ℕ
late_value_in code runs late n x = cond (eqb code LATE_RODATA) (late_place_in runs late n x) x

-- A's symbol k: its section index, and its place
unfoldable pub index_a : List ℕ → Filling → ℕ → ℕ
index_a A f k = (symbol f.inputs.order A k).st_shndx

module _ (A late : List ℕ) (f : Filling) where
  unfoldable pub place_a : ℕ → SymbolPlace
  place_a k = record {
    section = cond (is_placed_in (index_a A f k)) (section_in f.inputs.compiled (target_code (code_in f.inputs.assembled (index_a A f k)))) (index_a A f k);
    value =
        cond (is_placed_in (index_a A f k))
        (late_value_in (code_in f.inputs.assembled (index_a A f k)) f.step.runs late f.inputs.blocks (symbol f.inputs.order A k).st_value)
        (symbol f.inputs.order A k).st_value;
    binding = binding_of (symbol f.inputs.order A k).st_info;
  }

-- static k
unfoldable pub place_static : List ℕ → Filling → ℕ → SymbolPlace
place_static T f k = record { section = section_in f.inputs.compiled (static_in T k).code; value = (static_in T k).value; binding = static_binding f.mode }

-- nothing is asked of an id that is not taken
abbrev pub taken_place : Bool → SymbolPlace → SymbolPlace
taken_place true p = p
taken_place false p = record { section = 0; value = 0; binding = 0 }

-- nor of its name: whether it is empty, or `_gp_disp`
unfoldable pub taken_kind : Bool → List ℕ → NameKind
taken_kind taken name = record { unnamed = taken && (kind_of name).unnamed; gp_disp = taken && (kind_of name).gp_disp }

-- ---- rows

-- as the candidates' `taken`
unfoldable pub is_taken : ByteOrder → List ℕ → List ℕ → ℕ → Bool
is_taken o C A i = by_origin o C A (is_taken_c o C) (is_taken_a o A) (λ k. true) i

-- the row of an id by whether it is taken, its name and its place
abbrev pub row_by : Bool → List ℕ → SymbolPlace → IdRow
row_by taken name place = record {
  taken = taken;
  unnamed = (taken_kind taken name).unnamed;
  gp_disp = (taken_kind taken name).gp_disp;
  binding = (taken_place taken place).binding;
  section = (taken_place taken place).section;
  value = (taken_place taken place).value;
}

-- C's symbol k, A's symbol k, static k
unfoldable pub row_c : ByteOrder → List ℕ → ℕ → IdRow
row_c o C k = row_by (is_taken_c o C k) (symbol_name o C k) (place_c o C k)

unfoldable pub row_a : List ℕ → List ℕ → Filling → ℕ → IdRow
row_a A late f k = row_by (is_taken_a f.inputs.order A k) (symbol_name f.inputs.order A k) (place_a A late f k)

unfoldable pub row_static : List ℕ → List ℕ → Filling → ℕ → IdRow
row_static C T f k = row_by true (working_name C (static_in T k)) (place_static T f k)

module _ (C A T late : List ℕ) (f : Filling) where
  -- by where id i comes from
  unfoldable pub id_place : ℕ → SymbolPlace
  id_place i = by_origin f.inputs.order C A (place_c f.inputs.order C) (place_a A late f) (place_static T f) i

  unfoldable pub row_of : ℕ → IdRow
  row_of i = row_by (is_taken f.inputs.order C A i) (id_name f.inputs.order C A T f.sources i) (id_place i)

-- the row of an id that is taken, of a place and a kind of name
abbrev pub taken_row : SymbolPlace → NameKind → IdRow
taken_row p k = record { taken = true; unnamed = k.unnamed; gp_disp = k.gp_disp; binding = p.binding; section = p.section; value = p.value }

-- and of one that is not
abbrev pub no_row : IdRow
no_row = record { taken = false; unnamed = false; gp_disp = false; binding = 0; section = 0; value = 0 }

-- ---- what is in hand

-- the sections of the codes are few
abbrev pub SmallSections : View → Type 0
SmallSections v = (c : ℕ) → 1 ≤ c → c ≤ CODES → section_in v c ≤ SECTION_LIMIT

-- A's symbol k
pub record AtSource (A late : List ℕ) (f : Filling) (k : ℕ) : Type 0 where
  pub viewed : Viewed f.inputs.order A f.inputs.assembled
  pub table : LateIn f.step.runs late f.inputs.blocks
  pub small : SmallSections f.inputs.compiled
  pub below : k < symbol_count f.inputs.order A

-- static k
pub record AtStatic (T : List ℕ) (f : Filling) (k : ℕ) : Type 0 where
  pub small : SmallSections f.inputs.compiled
  pub few : k < STATIC_LIMIT
  pub long : STATIC_ROW * k + STATIC_ROW ≤ length T
  pub code : (1 ≤ (static_in T k).code) × ((static_in T k).code ≤ CODES)

-- all of A's symbols, with their marks
pub record SourceReady (A used late : List ℕ) (f : Filling) : Type 0 where
  pub viewed : Viewed f.inputs.order A f.inputs.assembled
  pub table : LateIn f.step.runs late f.inputs.blocks
  pub small : SmallSections f.inputs.compiled
  pub marks : Within (used_bytes f.inputs.order A) 0 used

-- the first n statics
pub record StaticsReady (T : List ℕ) (f : Filling) (n : ℕ) : Type 0 where
  pub small : SmallSections f.inputs.compiled
  pub few : n ≤ STATIC_LIMIT
  pub long : STATIC_ROW * n ≤ length T
  pub codes : (k : ℕ) → k < n → (1 ≤ (static_in T k).code) × ((static_in T k).code ≤ CODES)

-- for the places of ids: both views, the names, the table of the late step where it runs, and statics of some code
pub record PlacesReady (C A T late : List ℕ) (f : Filling) : Type 0 where
  pub compiled : Viewed f.inputs.order C f.inputs.compiled
  pub assembled : Viewed f.inputs.order A f.inputs.assembled
  pub names : SourcesRead f.inputs.order C A T f.sources
  pub table : LateIn f.step.runs late f.inputs.blocks
  pub codes : (k : ℕ) → k < f.sources.statics → (1 ≤ (static_in T k).code) × ((static_in T k).code ≤ CODES)

-- for their rows: the marks too
pub record FillReady (C A T used late : List ℕ) (f : Filling) : Type 0 where
  pub places : PlacesReady C A T late f
  pub marks : Within (used_bytes f.inputs.order A) 0 used

-- n rows are put from row `from` on, and those before are as they were
pub record RowsPut (row : ℕ → IdRow) (from n : ℕ) (before after : List ℕ) : Type 0 where
  pub long : length after ≡ length before
  pub put : (k : ℕ) → k < n → id_row after (from + k) ≡ row k
  pub kept : (i : ℕ) → i < from → id_row after i ≡ id_row before i

-- what filling leaves: the rows of all ids
pub record FilledRows (C A T late : List ℕ) (f : Filling) (before : List ℕ) (n : ℕ) (after : List ℕ) : Type 0 where
  pub many : n ≡ id_count f.sources
  pub long : length after ≡ length before
  pub rows : (i : ℕ) → i < id_count f.sources → id_row after i ≡ row_of C A T late f i
