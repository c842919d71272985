-- Of the code, not of document 01: what each step of the symbol merge leaves in the working buffers (`merge_buffers`, specs/Buffers.antt). A step writes one table behind those
-- that it reads, so all that stands before it stays. C is the compiled object, A the assembled one, P are the places of the block file B.
use Rattle.std.specs.Prelude.{ℕ, ◌+◌, ◌*◌, ◌≤◌, ◌<◌, ◌≡◌, List, length}
use Rattle.base_lists.specs.Windows.{Within}
use Rattle.base_fields.specs.declared.ByteOrder.{ByteOrder}
use Rattle.base_scope.specs.Limits.{ID_LIMIT}
use Rattle.base_answers.specs.Verdicts.{Verdict}
use Rattle.elf_symbols.specs.Symbols.{symbol_count, symbol_name}
use Rattle.blocks_places.specs.Places.{Place}
use Rattle.base_buffers.specs.Parts.{part_at, KeptBefore}
use Rattle.merge_buffers.specs.Buffers.{ROWS_AT, HOLDERS_AT, USED_AT, STATIC_AT, GLABELS_AT, LIST_AT, NUMBERS_AT, ids_part, holders_part, late_step_part, used_part, statics_part, glabels_part, list_part, order_part}
use Rattle.symbols_table.specs.of_merge_sections.declared.Stage.{Stage}
use Rattle.statics_walk.specs.declared.Listing.{Listing}
use Rattle.statics_walk.specs.Walk.{statics_fault, statics}
use Rattle.statics_walk.specs.Code.{StaticsListed}
use Rattle.symbols_merge.specs.Candidates.{Candidates}
use Rattle.symbols_merge.specs.Merged.{RESULT_GROUPS}
use Rattle.symbols_table.specs.of_symbols_taken.Code.{used_bytes, taken_in}
use Rattle.symbols_glabels.specs.Words.{glabel_word, Holds}
use Rattle.symbols_rows.specs.Rows.{half_in, halves_in, HoldersOf}
use Rattle.symbols_numbers.specs.Numbers.{order_in, IdsNumbered}
use Rattle.symbols_table.specs.of_symbols_fill.declared.Filling.{Filling}
use Rattle.symbols_table.specs.of_symbols_fill.Fill.{FilledRows}
use Rattle.symbols_table.specs.of_symbols_chain.Chain.{SymbolsListed}

-- 15 and 16, and the marks of used symbols
pub record SymbolsTaken (A : List ℕ) (s : Stage) (r : Verdict) (before after : List ℕ) : Type 0 where
  pub verdict : r ≡ taken_in s.inputs.compiled s.inputs.assembled s.inputs.order A s.step.runs (late_step_part before) s.inputs.blocks
  pub marks : Within (used_bytes s.inputs.order A) 0 (used_part after)
  pub kept : KeptBefore USED_AT before after

-- 17, and the statics
pub record StaticsRead (C : List ℕ) (o : ByteOrder) (mode head : ℕ) (r : Listing) (before after : List ℕ) : Type 0 where
  pub listed : StaticsListed head C (statics_fault o C mode head) (statics o C mode head) r (statics_part before) (statics_part after)
  pub kept : KeptBefore STATIC_AT before after

-- the words of the glabels
pub record GlabelsRead (A B : List ℕ) (o : ByteOrder) (P : List Place) (before after : List ℕ) : Type 0 where
  pub words : Holds (λ k. glabel_word P B (symbol_name o A k)) (symbol_count o A) (glabels_part before) (glabels_part after)
  pub kept : KeptBefore GLABELS_AT before after

-- the rows of the n ids
pub record IdsFilledIn (C A : List ℕ) (f : Filling) (n : ℕ) (steps before after : List ℕ) : Type 0 where
  pub rows : FilledRows C A (statics_part steps) (late_step_part steps) f (ids_part before) n (ids_part after)
  pub kept : KeptBefore ROWS_AT before after

-- and the list of those that are taken, with m positions
pub record IdsListedIn (C A : List ℕ) (f : Filling) (m : ℕ) (table tableAfter steps stepsAfter : List ℕ) : Type 0 where
  pub listed : SymbolsListed C A (statics_part steps) (late_step_part steps) f (ids_part tableAfter) (list_part stepsAfter) m
  pub kept_table : KeptBefore ROWS_AT table tableAfter
  pub kept_steps : KeptBefore LIST_AT steps stepsAfter

-- the holders of the candidates s
pub record IdsHeldIn (s : Candidates) (m : ℕ) (before after : List ℕ) : Type 0 where
  pub held : HoldersOf s (holders_part after) m
  pub kept : KeptBefore HOLDERS_AT before after

-- the listed ids are among n, for which a table of positions has room
pub record IdRooms (L : List ℕ) (m n : ℕ) : Type 0 where
  pub low : (p : ℕ) → p < m → half_in L p < n
  pub few : n ≤ ID_LIMIT

-- the order of the result by the tables T of id rows, L of positions and H of holders, over the index
pub record OrderLeft (T L H : List ℕ) (m : ℕ) (after : List ℕ) : Type 0 where
  pub order : halves_in (order_part after) (length (order_in T L H m RESULT_GROUPS)) ≡ order_in T L H m RESULT_GROUPS

-- and the numbers of n ids behind it
pub record NumbersLeft (T L H : List ℕ) (m n : ℕ) (before after : List ℕ) : Type 0 where
  pub numbers : IdsNumbered T L H m m (part_at NUMBERS_AT (2 * n) after)
  pub kept : KeptBefore NUMBERS_AT before after
