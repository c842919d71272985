-- Of the code, not of document 01: what the glabels of a block file make of the symbols of an object, in a table of a word for each symbol: bit 0 says whether its name
-- is a glabel, the rest is 0 or one more than the size that a block gives it (proofs/Words.antt reads both back). And what is in hand while it is made.
use Rattle.std.specs.Prelude.{ℕ, ◌+◌, ◌-◌, ◌*◌, ◌/◌, ◌%◌, ◌≤◌, ◌<◌, ◌≡◌, Bool, false, true, cond, ◌&&◌, List, length, eqb, ltb}
use Rattle.base_lists.specs.Ranges.{first, past_last}
use Rattle.base_lists.specs.Strings.{same}
use Rattle.base_fields.specs.declared.ByteOrder.{ByteOrder}
use Rattle.base_fields.specs.declared.ByteOrder.TheVariants.{Big}
use Rattle.base_fields.specs.Numbers.{number}
use Rattle.base_scope.specs.Codes.{TEXT, line_of}
use Rattle.base_scope.specs.Limits.{SYMBOL_LIMIT}
use Rattle.elf_symbols.specs.declared.SymbolTable.{SymbolTable}
use Rattle.elf_symbols.specs.Symbols.{symbol_count, symbol_name, Table}
use Rattle.elf_index.specs.Index.{SymbolIndex}
use Rattle.blocks_lines.specs.Keys.{KEY_GLABEL, value_at}
use Rattle.blocks_file.specs.Blocks.{group_size, line_behind}
use Rattle.blocks_places.specs.Lines.{line_count, span_size}
use Rattle.blocks_places.specs.Places.{Place}
use Rattle.blocks_places.specs.Table.{places_in, Laid}
use Rattle.blocks_glabels.specs.Glabels.{is_glabel, gives_size, past_sized}

-- one more than the size of the span in .text of the block before block n; 0 where n is 0
unfoldable pub size_before : List ℕ → ℕ → ℕ
size_before B n = cond (eqb n 0) 0 (span_size B (line_of (n - 1) TEXT) + 1)

-- the word of a name
unfoldable pub glabel_word : List Place → List ℕ → List ℕ → ℕ
glabel_word P B name = cond (is_glabel P B name) 1 0 + 2 * size_before B (past_sized P B name)

-- word k of a table
unfoldable pub mark_in : List ℕ → ℕ → ℕ
mark_in marks k = number Big 4 marks (4 * k)

-- a word with bit 0 set, where `put` is 0; else with `put` in place of its rest
unfoldable pub new_word : ℕ → ℕ → ℕ
new_word put w = cond (eqb put 0) (w / 2 * 2 + 1) (w % 2 + 2 * put)

-- of the first n words those that pass the test are made new, the others stay
pub record Marked (p : ℕ → Bool) (put n : ℕ) (before after : List ℕ) : Type 0 where
  pub long : length after ≡ length before
  pub words : (k : ℕ) → k < n → mark_in after k ≡ cond (p k) (new_word put (mark_in before k)) (mark_in before k)

-- the first n words are those that `word` gives
pub record Holds (word : ℕ → ℕ) (n : ℕ) (before after : List ℕ) : Type 0 where
  pub long : length after ≡ length before
  pub words : (k : ℕ) → k < n → mark_in after k ≡ word k

-- ---- a visit of a symbol in the walk through a bucket

-- item k is item j, and passes the test
unfoldable pub is_item : (ℕ → Bool) → ℕ → ℕ → Bool
is_item p j k = eqb j k && p k

-- the word of item k is made new where it passes the test; the walk stops where that changes nothing
pub record Visited (p : ℕ → Bool) (put k n : ℕ) (on : Bool) (before after : List ℕ) : Type 0 where
  pub marked : Marked (is_item p k) put n before after
  pub stop : on ≡ false → (p k ≡ true) × (new_word put (mark_in before k) ≡ mark_in before k)

-- a table for all symbols in which those of one name have one word: so one that need not change tells of all
pub record Uniform (o : ByteOrder) (F marks : List ℕ) : Type 0 where
  pub room : 4 * SYMBOL_LIMIT ≤ length marks
  pub one : (j k : ℕ) → j < symbol_count o F → k < symbol_count o F → symbol_name o F j ≡ symbol_name o F k → mark_in marks j ≡ mark_in marks k

-- ---- the symbols whose words a part of the walk over the blocks makes new

-- line m behind the line at a, of a group `glabel=`, has the name; one of the first n has it, and one of all
unfoldable pub is_line_named : List ℕ → ℕ → List ℕ → ℕ → Bool
is_line_named B a name m = same (value_at B KEY_GLABEL (line_behind B a m)) name

unfoldable pub is_among : List ℕ → ℕ → List ℕ → ℕ → Bool
is_among B a name n = ltb (first (is_line_named B a name) 0 n) n

unfoldable pub is_in_group : List ℕ → ℕ → List ℕ → Bool
is_in_group B a name = is_among B a name (group_size B KEY_GLABEL a)

module _ (P : List Place) (B : List ℕ) (name : List ℕ) where
  -- twice one more than the size that the first n blocks give it, or 0
  unfoldable pub size_below : ℕ → ℕ
  size_below n = 2 * size_before B (past_last (gives_size P B name) n)

-- the tables in hand; the places are those that the table of places has
pub record GlabelsReady (o : ByteOrder) (A : List ℕ) (t : SymbolTable) (B table places index : List ℕ) : Type 0 where
  pub symbols : Table o A t
  pub laid : Laid (places_in places (line_count B)) B table places
  pub indexed : SymbolIndex o A index
