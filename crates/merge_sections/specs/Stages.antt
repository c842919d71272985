-- Of the code, not of document 01: what is in hand once 11 to 13 have passed, and what the late step leaves.
use Rattle.std.specs.Prelude.{ℕ, ◌≡◌, true, List, None, Option}
use Rattle.base_scope.specs.Codes.{LATE_TARGET}
use Rattle.elf_readers.specs.Readers.{coded_contents}
use Rattle.elf_check.specs.View.{Viewed}
use Rattle.blocks_places.specs.Lines.{line_count}
use Rattle.blocks_places.specs.Places.{Place}
use Rattle.blocks_places.specs.Table.{places_in}
use Rattle.late_finals.specs.of_late_length.Late.{has_late_step}
use Rattle.late_laws.specs.of_late_walk.Table.{Ready, Moves}
use Rattle.merge_line_up.specs.of_merge_inputs.Taken.{InputsRead}
use Rattle.merge_line_up.specs.LineUp.{late_step_of}
use Rattle.merge_line_up.specs.Agrees.{Agrees}
use Rattle.merge_sections.specs.declared.Stage.{Stage}
use Rattle.merge_sections.specs.Sections.{step_finding}

-- the inputs, that they agree, and the late step
pub record StageRead (C A B : List ℕ) (s : Stage) (table places : List ℕ) : Type 0 where
  pub read : InputsRead C A B s.inputs table places
  pub agrees : Agrees s.inputs.order C A (places_in places (line_count B)) B
  pub step : s.step ≡ late_step_of s.inputs.order A (places_in places (line_count B)) B

-- the part of it that the late step reads
pub record Searchable (C B : List ℕ) (s : Stage) (table places : List ℕ) : Type 0 where
  pub compiled : Viewed s.inputs.order C s.inputs.compiled
  pub runs : s.step.runs ≡ has_late_step (places_in places (line_count B)) B
  pub ready : s.step.runs ≡ true → Ready (places_in places (line_count B)) B (coded_contents s.inputs.order C LATE_TARGET) table places s.inputs.blocks s.step

-- the moves are in hand where there is a late step
abbrev pub Movable : List ℕ → List ℕ → Stage → List Place → List ℕ → Type 0
Movable C B s P late = s.step.runs ≡ true → Moves s.inputs.order P B (coded_contents s.inputs.order C LATE_TARGET) s.step.start late

-- what the late step finds in C's own bytes, and that its moves are in hand where it finds no fault
pub record Searched (C B : List ℕ) (s : Stage) (P : List Place) (r : Option ℕ) (late : List ℕ) : Type 0 where
  pub answer : r ≡ step_finding s.inputs.order P B (coded_contents s.inputs.order C LATE_TARGET)
  pub moves : r ≡ None → Movable C B s P late
