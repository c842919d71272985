-- Of the code, not of document 01: what the stages before leave for filling the rows of a merge. C is the compiled object, A the assembled one, P are the places of the lines of the
-- block file B, T is the table of statics, `late` the table of the late step.
use Rattle.std.specs.Prelude.{ℕ, ◌≤◌, ◌<◌, ◌≡◌, true, List}
use Rattle.base_scope.specs.Codes.{LATE_TARGET, CODES}
use Rattle.elf_readers.specs.Readers.{coded_contents}
use Rattle.elf_check.specs.View.{Viewed}
use Rattle.blocks_file.specs.Blocks.{block_count}
use Rattle.blocks_places.specs.Places.{Place}
use Rattle.blocks_places.specs.Faults.{Fitting}
use Rattle.late_laws.specs.of_late_length.Late.{has_late_step}
use Rattle.late_laws.specs.of_late_walk.Table.{Moves}
use Rattle.symbols_holders.specs.of_merge_labels.Labels.{late_start}
use Rattle.statics_table.specs.Table.{static_in}
use Rattle.symbols_holders.specs.of_symbols_taken.Passed.{TakenPassed}
use Rattle.symbols_holders.specs.of_symbols_names.Names.{SourcesRead}
use Rattle.symbols_fill.specs.declared.Filling.{Filling}

pub record FillStage (C A : List ℕ) (P : List Place) (B T late : List ℕ) (f : Filling) : Type 0 where
  pub compiled : Viewed f.inputs.order C f.inputs.compiled
  pub assembled : Viewed f.inputs.order A f.inputs.assembled
  pub names : SourcesRead f.inputs.order C A T f.sources
  -- statics of some code each
  pub codes : (k : ℕ) → k < f.sources.statics → (1 ≤ (static_in T k).code) × ((static_in T k).code ≤ CODES)
  -- the late step searched C's own bytes
  pub fitting : Fitting P B
  pub there : f.step.runs ≡ has_late_step P B
  pub many : f.inputs.blocks ≡ block_count B
  pub moves : f.step.runs ≡ true → Moves f.inputs.order P B (coded_contents f.inputs.order C LATE_TARGET) (late_start f.inputs.order A) late
  -- 15 and 16 have passed
  pub passed : TakenPassed f.inputs.order C A P B
