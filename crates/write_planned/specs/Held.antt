-- Of the code, not of document 01: what is in hand to write the sections of a merged object, behind the symbol merge and what makes carrying ready. C is the compiled object, A the
-- assembled one, B the block file, whose places stand in the buffer of places.
use Rattle.std.specs.Prelude.{ℕ, ◌≤◌, ◌≡◌, Bool, List, length}
use Rattle.base_scope.specs.Limits.{PATH_LIMIT}
use Rattle.blocks_places.specs.Lines.{line_count}
use Rattle.blocks_places.specs.Places.{Place}
use Rattle.blocks_places.specs.Table.{places_in}
use Rattle.base_buffers.specs.Parts.{KeptBefore}
use Rattle.merge_buffers.specs.Buffers.{SPANS_AT, blocks_part, places_part, late_step_part, BuffersHeld}
use Rattle.write_plan.specs.of_merge_sections.Stages.{StageRead, Movable}
use Rattle.statics_table.specs.Statics.{name_head}
use Rattle.statics_walk.specs.Walk.{statics}
use Rattle.symbols_ids.specs.Table.{result_symbols}
use Rattle.carry_stage.specs.of_symbols_stage.End.{SymbolsHeld}
use Rattle.carry_stage.specs.Tables.{text_spans_part}
use Rattle.carry_stage.specs.Carry.{CarryHeld}
use Rattle.write_strings.specs.Strings.{result_strings}
use Rattle.write_plan.specs.Plan.{is_planned_table, table_bytes, own_bytes, added_names, planned_bytes, new_heading, merged_plan}
use Rattle.write_object.specs.Object.{Plan}
use Rattle.write_planned.specs.declared.Writing.{Writing}

-- the places of the lines of B, by the buffer of places
abbrev pub held_places : List ℕ → List ℕ → List Place
held_places B places = places_in (places_part places) (line_count B)

-- all that sections are written by; the mode puts `head` bytes in front of a static's name
pub record PlanHeld (C A B path : List ℕ) (x : Writing) (table places steps index : List ℕ) : Type 0 where
  pub read : StageRead C A B x.stage (blocks_part table) (places_part places)
  pub movable : Movable C B x.stage (held_places B places) (late_step_part steps)
  pub symbols : SymbolsHeld C A B (held_places B places) x.stage x.manner x.counts table steps index
  pub carried : CarryHeld C A B x.stage x.flag x.carry places index
  pub buffers : BuffersHeld table places steps index
  pub short : length path ≤ PATH_LIMIT
  pub head : x.manner.head ≡ length (name_head x.manner.mode path)

-- what is read of the index stays: all before the spans of a section, and the rows of .text's spans
pub record SpansOver (before after : List ℕ) : Type 0 where
  pub kept : KeptBefore SPANS_AT before after
  pub rows : text_spans_part after ≡ text_spans_part before

-- ---- the definitions of the crate write_plan, by what is in hand

module _ (C A B path : List ℕ) (x : Writing) (places : List ℕ) where
  abbrev pub held_is_table : ℕ → Bool
  held_is_table i = is_planned_table x.stage.inputs.order C A (held_places B places) B path x.flag x.manner.mode i

  abbrev pub held_table : ℕ → List ℕ
  held_table i = table_bytes x.stage.inputs.order C A (held_places B places) B path x.flag x.manner.mode i

  -- the symbol table and its strings
  abbrev pub held_symbols : List ℕ
  held_symbols = result_symbols x.stage.inputs.order C A (held_places B places) B x.manner.mode
      (statics x.stage.inputs.order C x.manner.mode (length (name_head x.manner.mode path)))

  abbrev pub held_own : ℕ → List ℕ
  held_own i = own_bytes x.stage.inputs.order C A (held_places B places) B path x.flag x.manner.mode i

  abbrev pub held_names : ℕ → List ℕ
  held_names i = added_names x.stage.inputs.order C A (held_places B places) B path x.flag x.manner.mode i

  abbrev pub held_bytes : ℕ → List ℕ
  held_bytes i = planned_bytes x.stage.inputs.order C A (held_places B places) B path x.flag x.manner.mode i

  abbrev pub held_plan : Plan
  held_plan = merged_plan x.stage.inputs.order C A (held_places B places) B path x.flag x.manner.mode

  -- sh_name of the i-th new section
  abbrev pub held_name_at : ℕ → ℕ
  held_name_at i = (new_heading x.stage.inputs.order C A (held_places B places) B path x.flag x.manner.mode i).sh_name

abbrev pub held_strings : List ℕ → List ℕ → List ℕ → Writing → List ℕ
held_strings C A path x =
    result_strings x.stage.inputs.order C A x.manner.mode path (statics x.stage.inputs.order C x.manner.mode (length (name_head x.manner.mode path)))
