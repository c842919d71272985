-- Of the code, not of document 01: what the symbol merge answers, and what stands in the working buffers where nothing was refused. C is the compiled object, A the assembled
-- one, B the block file, whose places stand in the buffer of places.
use Rattle.std.specs.Prelude.{ℕ, ◌+◌, ◌*◌, ◌≡◌, List, get_or, Result, Ok, Err}
use Rattle.base_answers.specs.declared.Refusal.{Refusal}
use Rattle.base_answers.specs.Verdicts.{Verdict, Passed}
use Rattle.blocks_places.specs.Lines.{line_count}
use Rattle.blocks_places.specs.Places.{Place}
use Rattle.blocks_places.specs.Table.{places_in}
use Rattle.base_buffers.specs.Parts.{part_at, KeptBefore}
use Rattle.merge_buffers.specs.Buffers.{ROWS_AT, HOLDERS_AT, USED_AT, STATIC_AT, LIST_AT, NUMBERS_AT, ids_part, places_part, holders_part, late_step_part, statics_part, glabels_part, list_part, order_part, numbers_part}
use Rattle.symbols_table.specs.of_merge_sections.declared.Stage.{Stage}
use Rattle.statics_table.specs.Table.{statics_in}
use Rattle.statics_walk.specs.Walk.{statics}
use Rattle.symbols_merge.specs.Merged.{RESULT_GROUPS, LOCAL_GROUPS, local_count}
use Rattle.symbols_table.specs.of_symbols_ids.Ids.{merge_candidates}
use Rattle.symbols_rows.specs.Rows.{HoldersOf}
use Rattle.symbols_rows.specs.Steps.{verdict_in}
use Rattle.symbols_table.specs.of_symbols_holders.Ready.{id_count, symbols_in}
use Rattle.symbols_numbers.specs.Numbers.{group_starts}
use Rattle.symbols_numbers.specs.Result.{NumbersOf}
use Rattle.symbols_table.specs.of_symbols_fill.declared.Filling.{Filling}
use Rattle.symbols_table.specs.of_symbols_chain.declared.Numbering.{Numbering}
use Rattle.symbols_table.specs.of_symbols_chain.Chain.{SymbolsListed, SymbolsNumbered}
use Rattle.symbols_table.specs.Stage.{TableStage}
use Rattle.symbols_stage.specs.declared.Manner.{Manner}
use Rattle.symbols_stage.specs.declared.Counts.{Counts}
use Rattle.symbols_stage.specs.Verdict.{list_verdict, symbol_stages_verdict}

-- the counts of the result, whose symbols are numbered then, or a refusal
abbrev pub SymbolsEnd : Type 0
SymbolsEnd = Result Counts Refusal

abbrev pub Numbered : Counts → SymbolsEnd
Numbered n = Ok n

-- an answer as a verdict
unfoldable pub end_verdict : SymbolsEnd → Verdict
end_verdict (Ok n) = Passed
end_verdict (Err r) = Err r

-- counts by the starts of the groups; what the rows are filled by
unfoldable pub counts_of : ℕ → List ℕ → Counts
counts_of n starts = record { statics = n; locals = get_or starts LOCAL_GROUPS 0 + 1; count = get_or starts RESULT_GROUPS 0 + 1 }

unfoldable pub filling_of : Stage → ℕ → ℕ → Filling
filling_of s mode n = record {
  inputs = s.inputs;
  step = s.step;
  sources = record { compiled = s.inputs.compiled.symbols; assembled = s.inputs.assembled.symbols; statics = n };
  mode = mode;
}

-- 18 and 19 over the tables T of id rows, L of positions and H of holders, and the numbers of so many ids
pub record NumberedEnd (T L H : List ℕ) (m ids statics : ℕ) (r : SymbolsEnd) (index : List ℕ) : Type 0 where
  pub verdict : end_verdict r ≡ verdict_in T L H m
  pub is : (n : Counts) → r ≡ Numbered n → n ≡ counts_of statics (group_starts T L H m)
  pub tables : (n : Counts) → r ≡ Numbered n → SymbolsNumbered T L H m (group_starts T L H m) (order_part index) (part_at NUMBERS_AT (2 * ids) index)

-- the list with them
pub record ListEnd (C A : List ℕ) (f : Filling) (r : SymbolsEnd) (table tableAfter places placesAfter steps stepsAfter index : List ℕ) : Type 0 where
  pub positions : ℕ
  pub listed : SymbolsListed C A (statics_part steps) (late_step_part steps) f (ids_part tableAfter) (list_part stepsAfter) positions
  pub held : HoldersOf (symbols_in f.inputs.order C A (statics_part steps) f.sources (ids_part tableAfter)) (holders_part placesAfter) positions
  pub end : NumberedEnd (ids_part tableAfter) (list_part stepsAfter) (holders_part placesAfter) positions (id_count f.sources) f.sources.statics r index
  pub kept_table : KeptBefore ROWS_AT table tableAfter
  pub kept_places : KeptBefore HOLDERS_AT places placesAfter
  pub kept_steps : KeptBefore LIST_AT steps stepsAfter

-- the numbering with these counts
unfoldable pub numbering_by : Stage → Manner → Counts → Numbering
numbering_by s w n = record { filling = filling_of s w.mode n.statics; locals = n.locals; count = n.count }

-- what is in hand of the result's symbols where nothing was refused: all that its symbol table is written by, C's own statics, and the number of each id
pub record SymbolsHeld (C A B : List ℕ) (P : List Place) (s : Stage) (w : Manner) (n : Counts) (table steps index : List ℕ) : Type 0 where
  pub positions : ℕ
  pub tables : TableStage C A P B (statics_part steps) (late_step_part steps) (glabels_part steps) (ids_part table) (list_part steps) (order_part index) positions (numbering_by s w n)
  pub statics_are : statics_in (statics_part steps) n.statics ≡ statics s.inputs.order C w.mode w.head
  pub numbers : NumbersOf (merge_candidates s.inputs.order C A P B w.mode w.head) (numbers_part index)
  pub locals_are : n.locals ≡ local_count (merge_candidates s.inputs.order C A P B w.mode w.head)

-- 17 to 19
pub record StaticsEnd (C A B : List ℕ) (s : Stage) (w : Manner) (r : SymbolsEnd) (table tableAfter places placesAfter steps stepsAfter index : List ℕ) : Type 0 where
  pub verdict : end_verdict r ≡ list_verdict s.inputs.order C A (places_in (places_part places) (line_count B)) B w.mode w.head
  pub held : (n : Counts) → r ≡ Numbered n → SymbolsHeld C A B (places_in (places_part places) (line_count B)) s w n tableAfter stepsAfter index
  pub kept_table : KeptBefore ROWS_AT table tableAfter
  pub kept_places : KeptBefore HOLDERS_AT places placesAfter
  pub kept_steps : KeptBefore STATIC_AT steps stepsAfter

-- 15 to 19: the tables of the stages before stay
pub record StageEnd (C A B : List ℕ) (s : Stage) (w : Manner) (r : SymbolsEnd) (table tableAfter places placesAfter steps stepsAfter index : List ℕ) : Type 0 where
  pub verdict : end_verdict r ≡ symbol_stages_verdict s.inputs.order C A (places_in (places_part places) (line_count B)) B w.mode w.head
  pub held : (n : Counts) → r ≡ Numbered n → SymbolsHeld C A B (places_in (places_part places) (line_count B)) s w n tableAfter stepsAfter index
  pub kept_table : KeptBefore ROWS_AT table tableAfter
  pub kept_places : KeptBefore HOLDERS_AT places placesAfter
  pub kept_steps : KeptBefore USED_AT steps stepsAfter
