-- Of the code, not of document 01: what is in hand to carry the entries of an object, C or A. Its sections are read by its view, C's spans of .text in a table of rows, the
-- late step in its table, and the numbers of its symbols in two bytes for each id. proofs/InHand.antt says what each is of C, A, P and B.
use Rattle.std.specs.Prelude.{ℕ, ◌+◌, ◌*◌, ◌^◌, ◌≤◌, ◌<◌, ◌≡◌, Bool, true, false, not, cond, ◌&&◌, ◌||◌, List, [], length, eqb, None, Some, Option}
use Rattle.base_lists.specs.Ranges.{pick_list}
use Rattle.base_fields.specs.declared.ByteOrder.{ByteOrder}
use Rattle.base_packed.specs.Packed.{symbol_of, kind_of, relocation_info}
use Rattle.base_scope.specs.Codes.{LATE_RODATA, leaves_out, is_late_target}
use Rattle.elf_records.specs.declared.relocation.RelocationEntry.{RelocationEntry}
use Rattle.elf_records.specs.Relocation.{relocation_bytes}
use Rattle.elf_readers.specs.Readers.{section_count, section}
use Rattle.elf_relocations.specs.Relocations.{is_rela, is_table, entry_size, relocation}
use Rattle.elf_check.specs.View.{Viewed}
use Rattle.blocks_spans.specs.Spans.{replaced_word}
use Rattle.blocks_spans.specs.Table.{spans_in, Rows}
use Rattle.carry_clash.specs.of_late_lookups.Fields.{offset_at, jump_at}
use Rattle.carry_clash.specs.of_symbols_taken.Used.{code_of}
use Rattle.carry_clash.specs.of_symbols_taken.Code.{LateIn}
use Rattle.symbols_rows.specs.Rows.{half_in}
use Rattle.base_packed.specs.declared.MergedSymbol.{MergedSymbol}
use Rattle.symbols_numbers.specs.Numbers.{new_in}
use Rattle.carry_clash.specs.Clash.{is_carried}
use Rattle.carry_entries.specs.declared.Goal.{Goal}
use Rattle.carry_entries.specs.declared.Goal.TheVariants.{To, LeftOut, Unmoved}
use Rattle.carry_entries.specs.declared.Side.{Side}
use Rattle.carry_entries.specs.declared.Moves.{Moves}
use Rattle.carry_entries.specs.declared.EntryTable.{EntryTable}
use Rattle.carry_entries.specs.declared.Gap.{Gap}
use Rattle.carry_entries.specs.Entries.{Carrying, is_left_out, is_stuck, goal_place, is_in_result, new_number, OFFSETS}
use Rattle.carry_entries.specs.Carried.{pick_goal}

-- where an entry at a late offset goes, by the place of that
unfoldable pub late_goal : Option ℕ → Goal
late_goal (Some x) = To x
late_goal None = Unmoved

-- one of two tests, by a third
abbrev pub pick_tables : Bool → (ℕ → Bool) → (ℕ → Bool) → ℕ → Bool
pick_tables true a b = a
pick_tables false a b = b

-- what of an object says where its entries go
abbrev pub moves_of : Side → Moves
moves_of s = record { compiled = s.compiled; spans = s.spans; runs = s.runs; blocks = s.blocks }

module _ (s : Moves) (rows late : List ℕ) where
  -- the word at x of C's section of code c is written anew
  unfoldable pub is_gone_in : ℕ → ℕ → Bool
  is_gone_in c x =
      (leaves_out c && replaced_word (spans_in rows s.spans) x)
      || (is_late_target c && (s.runs && jump_at late s.blocks x))

  -- where an entry at x of the section of code c goes
  unfoldable pub goal_in : ℕ → ℕ → Goal
  goal_in c x =
      pick_goal s.compiled
      (pick_goal (is_gone_in c x) LeftOut (To x))
      (pick_goal (eqb c LATE_RODATA) (pick_goal s.runs (late_goal (offset_at late s.blocks x)) Unmoved) (To x))

-- how the entries of object F are carried; N are the numbers of the ids
unfoldable pub carrying_in : List ℕ → Side → List ℕ → List ℕ → List ℕ → Carrying
carrying_in F s rows late N = record {
  tables = pick_tables s.compiled (is_table s.order F) (is_carried s.order F);
  goal = goal_in (moves_of s) rows late;
  new = new_in N s.first s.view.symbols.count;
}

-- ---- an entry, by the code c of its table's section

-- it is not left out
unfoldable pub is_kept_entry : Side → List ℕ → List ℕ → ℕ → RelocationEntry → Bool
is_kept_entry s rows late c e = not (is_left_out (goal_in (moves_of s) rows late c e.r_offset))

-- what its symbol becomes
unfoldable pub symbol_in : Side → List ℕ → ℕ → Option MergedSymbol
symbol_in s N info = new_in N s.first s.view.symbols.count (symbol_of info)

-- it is at fault by 20
unfoldable pub is_lost_entry : Side → List ℕ → List ℕ → List ℕ → ℕ → RelocationEntry → Bool
is_lost_entry s rows late N c e =
    is_kept_entry s rows late c e && (is_stuck (goal_in (moves_of s) rows late c e.r_offset) || not (is_in_result (symbol_in s N e.r_info)))

-- the entry of the result, of one that goes to place x
unfoldable pub carried_to : Side → List ℕ → ℕ → RelocationEntry → RelocationEntry
carried_to s N x e = record {
  r_offset = x;
  r_info = relocation_info (new_number (symbol_in s N e.r_info)) (kind_of e.r_info);
  r_addend = e.r_addend;
}

-- the bytes that it brings (proofs/Entries.antt, `brought_same`)
unfoldable pub entry_bytes : Side → List ℕ → List ℕ → List ℕ → ℕ → RelocationEntry → List ℕ
entry_bytes s rows late N c e =
    pick_list (is_kept_entry s rows late c e) (relocation_bytes s.order (carried_to s N (goal_place (goal_in (moves_of s) rows late c e.r_offset)) e)) []

-- p is where an entry that goes to g stands in the result: OFFSETS where it is left out
pub record StandsAt (g : Goal) (p : ℕ) : Type 0 where
  pub left : eqb p OFFSETS ≡ is_left_out g
  pub place : is_left_out g ≡ false → p ≡ goal_place g
  pub below : p ≤ OFFSETS

-- the bytes of an entry that stands at p
unfoldable pub placed_bytes : Side → List ℕ → ℕ → RelocationEntry → List ℕ
placed_bytes s N p e = pick_list (eqb p OFFSETS) [] (relocation_bytes s.order (carried_to s N p e))

-- all entries for the section of code c stay where they are (proofs/Goals.antt, `still_goal`)
unfoldable pub is_still : Side → ℕ → Bool
is_still s c = cond s.compiled (not (leaves_out c || is_late_target c)) (not (eqb c LATE_RODATA))

-- ---- what is asked of what is in hand

-- table t
unfoldable pub entry_table_of : ByteOrder → List ℕ → ℕ → EntryTable
entry_table_of o F t = record {
  index = t;
  code = code_of o F (section o F t).sh_info;
  at = (section o F t).sh_offset;
  rela = is_rela o F t;
  size = entry_size o F t;
}

-- it is a table, and has been read
pub record TableRead (o : ByteOrder) (F : List ℕ) (table : EntryTable) : Type 0 where
  pub below : table.index < section_count o F
  pub kind : is_table o F table.index ≡ true
  pub is : table ≡ entry_table_of o F table.index

-- no offset in a gap is the start of a replaced word
pub record IsGap (rows : List ℕ) (n : ℕ) (gap : Gap) : Type 0 where
  pub clear : (x : ℕ) → gap.low ≤ x → x < gap.high → replaced_word (spans_in rows n) x ≡ false

-- and an entry for the section of code c stays where it is, if its offset is in the gap
pub record Stays (s : Side) (rows late : List ℕ) (c : ℕ) (gap : Gap) : Type 0 where
  pub stay : (x : ℕ) → gap.low ≤ x → x < gap.high → To x ≡ goal_in (moves_of s) rows late c x

-- where entries go can be read
pub record GoalsRead (F : List ℕ) (s : Side) (rows late : List ℕ) : Type 0 where
  pub viewed : Viewed s.order F s.view
  pub spans : Rows rows s.spans
  pub moves : LateIn s.runs late s.blocks

-- what symbols become can be read
pub record SymbolsRead (s : Side) (N : List ℕ) : Type 0 where
  pub start : s.compiled ≡ true → s.first ≡ 0
  pub long : 2 * (s.first + s.view.symbols.count) ≤ length N
  pub few : (i : ℕ) → i < s.first + s.view.symbols.count → half_in N i < 2 ^ 24

-- both
pub record EntriesRead (F : List ℕ) (s : Side) (rows late N : List ℕ) : Type 0 where
  pub goals : GoalsRead F s rows late
  pub symbols : SymbolsRead s N
