-- Of the code, not of document 01: what the stages before leave for the symbol table of a merge's result. C is the compiled object, A the assembled one, P are the places of the lines
-- of the block file B, T is the table of statics, `late` the table of the late step, M has the words of the glabels, R the rows of the ids, L the list of them with m positions, O
-- the order of the result, n the rest.
use Rattle.std.specs.Prelude.{ℕ, ◌*◌, ◌≤◌, ◌<◌, ◌≡◌, List, length}
use Rattle.base_scope.specs.Limits.{FILE_LIMIT, SYMBOL_LIMIT}
use Rattle.elf_symbols.specs.Symbols.{symbol_count, symbol_name}
use Rattle.elf_check.specs.Sound.{Sound}
use Rattle.blocks_places.specs.Places.{Place}
use Rattle.statics_table.specs.declared.Tally.{Tally}
use Rattle.statics_table.specs.Table.{statics_in, StaticTable}
use Rattle.symbols_entries.specs.of_statics_walk.Sound.{StaticsSound}
use Rattle.symbols_merge.specs.Candidates.{Candidates}
use Rattle.symbols_merge.specs.Merged.{merged_count}
use Rattle.symbols_entries.specs.of_symbols_glabels.Words.{glabel_word, mark_in}
use Rattle.symbols_entries.specs.of_symbols_ids.Ids.{candidates}
use Rattle.symbols_numbers.specs.Result.{OrderOf}
use Rattle.symbols_chain.specs.of_symbols_fill.declared.Filling.{Filling}
use Rattle.symbols_chain.specs.of_symbols_fill.Stage.{FillStage}
use Rattle.symbols_chain.specs.declared.Numbering.{Numbering}
use Rattle.symbols_chain.specs.Chain.{SymbolsListed}

-- the candidates of the merge, by the statics in hand
abbrev pub candidates_by : List ℕ → List ℕ → List Place → List ℕ → List ℕ → Filling → Candidates
candidates_by C A P B T f = candidates f.inputs.order C A P B f.mode (statics_in T f.sources.statics)

pub record TableStage (C A : List ℕ) (P : List Place) (B T late M R L O : List ℕ) (m : ℕ) (n : Numbering) : Type 0 where
  -- both objects were accepted
  pub compiled : Sound n.filling.inputs.order C
  pub assembled : Sound n.filling.inputs.order A
  pub compiled_small : length C ≤ FILE_LIMIT
  pub assembled_small : length A ≤ FILE_LIMIT
  -- the statics are listed; each written name has a head of so many bytes
  pub head : ℕ
  pub tally : Tally
  pub many : n.filling.sources.statics ≡ tally.count
  pub table : StaticTable head C T tally
  pub statics : StaticsSound n.filling.inputs.order C head (statics_in T tally.count)
  -- the glabels are marked
  pub room : 4 * SYMBOL_LIMIT ≤ length M
  pub marked : (k : ℕ) → k < symbol_count n.filling.inputs.order A → mark_in M k ≡ glabel_word P B (symbol_name n.filling.inputs.order A k)
  -- the ids have rows and stand in a list, and the result has its order
  pub filled : FillStage C A P B T late n.filling
  pub listed : SymbolsListed C A T late n.filling R L m
  pub ordered : OrderOf (candidates_by C A P B T n.filling) O
  pub counted : n.count ≡ merged_count (candidates_by C A P B T n.filling)
