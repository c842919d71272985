-- What the stages before leave is all that the rows are filled by: the stages up to the late step (`StageRead`, `Movable`), 15 and 16 (`TakenPassed`), and the statics.
use Prim.Native.Nat.{ℕ}
use mathlib.Core.List.{List}
use Rattle.elf_check.proofs.Views.{view_table}
use Rattle.blocks_places.specs.Lines.{line_count}
use Rattle.blocks_places.specs.Table.{places_in}
use Rattle.merge_sections.specs.declared.Stage.{Stage}
use Rattle.merge_sections.specs.Stages.{StageRead, Movable}
use Rattle.merge_sections.proofs.Sections.{step_runs, step_start}
use Rattle.statics_table.specs.declared.Tally.{Tally}
use Rattle.statics_table.specs.Table.{statics_in, StaticTable}
use Rattle.symbols_fill.specs.of_statics_walk.Sound.{StaticsSound}
use Rattle.symbols_fill.specs.of_symbols_taken.Passed.{TakenPassed}
use Rattle.symbols_fill.specs.Stage.{FillStage}
use Rattle.symbols_fill.proofs.Entries.{sound_codes}

pub fill_stage_of : (C A B : List ℕ) (st : Stage) (table places T late : List ℕ) (head mode : ℕ) (t : Tally) → StageRead C A B st table places
    → Movable C B st (places_in places (line_count B)) late → TakenPassed st.inputs.order C A (places_in places (line_count B)) B → StaticTable head C T t
    → StaticsSound st.inputs.order C head (statics_in T t.count)
    → FillStage C A (places_in places (line_count B)) B T late (record {
      inputs = st.inputs;
      step = st.step;
      sources = record { compiled = st.inputs.compiled.symbols; assembled = st.inputs.assembled.symbols; statics = t.count };
      mode = mode;
    })
fill_stage_of C A B st table places T late head mode t r m p q s = record {
  compiled = r.read.compiled;
  assembled = r.read.assembled;
  names = record {
    compiled = view_table st.inputs.order C st.inputs.compiled r.read.compiled.is r.read.compiled.tabled;
    assembled = view_table st.inputs.order A st.inputs.assembled r.read.assembled.is r.read.assembled.tabled;
    counted = q.counted;
  };
  codes = sound_codes st.inputs.order C T head t.count s;
  fitting = r.read.laid.fitting;
  there = step_runs C A B st table places r;
  many = r.read.many;
  moves = λ u. rw (← step_start C A B st table places r) (m u);
  passed = p;
}
