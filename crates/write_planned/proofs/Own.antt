-- What is in hand is what the appending functions ask, and what they append is what C's sections become. Assumes nothing.
use Prim.Native.Nat.{ℕ, ◌+◌, ◌*◌, ◌≤◌}
use mathlib.Core.Path.{◌≡◌, refl, ap, ◌∙◌}
use mathlib.Core.List.{List}
use native.Mathlib.Omega.{arith}
use lib.ListN.{length}
use Rattle.base_fields.specs.declared.ByteOrder.{ByteOrder}
use Rattle.base_scope.specs.Limits.{ID_LIMIT, STATIC_LIMIT, STATIC_ROW, POSITION_TABLE}
use Rattle.blocks_places.specs.Lines.{line_count}
use Rattle.blocks_places.specs.Places.{Place}
use Rattle.blocks_places.specs.Table.{places_in}
use Rattle.statics_table.specs.Statics.{name_head}
use Rattle.statics_table.specs.Table.{statics_in}
use Rattle.statics_walk.specs.Walk.{statics}
use Rattle.merge_buffers.specs.Buffers.{NUMBERS_AT, SPANS_AT, blocks_part, ids_part, places_part, late_step_part, statics_part, glabels_part, list_part, order_part}
use Rattle.base_buffers.proofs.Parts.{part_long, kept_same}
use Rattle.write_plan.specs.of_merge_sections.Sections.{result_section}
use Rattle.write_plan.specs.of_merge_sections.Stages.{StageRead, Movable}
use Rattle.symbols_merge.specs.Candidates.{Candidates}
use Rattle.symbols_ids.specs.Ids.{candidates, merge_candidates}
use Rattle.symbols_ids.specs.Table.{result_symbols}
use Rattle.symbols_taken.specs.Used.{code_of}
use Rattle.symbols_taken.specs.Code.{code_in}
use Rattle.symbols_taken.proofs.Sections.{code_is}
use Rattle.symbols_numbers.proofs.Result.{listed_few, merged_few}
use Rattle.carry_stage.specs.of_symbols_fill.declared.Filling.{Filling}
use Rattle.write_content.specs.of_symbols_chain.declared.Numbering.{Numbering}
use Rattle.write_content.specs.of_symbols_table.Table.{symbols_table_in, SymbolsReady}
use Rattle.write_content.specs.of_symbols_table.Stage.{candidates_by}
use Rattle.write_content.proofs.of_symbols_table.Table.{symbols_ready, symbols_table}
use Rattle.carry_stage.specs.of_symbols_stage.End.{filling_of, numbering_by}
use Rattle.write_strings.specs.Strings.{result_strings}
use Rattle.write_planned.specs.declared.Writing.{Writing}
use Rattle.write_planned.specs.Held.{held_places, held_symbols, held_strings, PlanHeld, SpansOver}

-- nothing was written over the index
pub spans_same : (l : List ℕ) → SpansOver l l
spans_same l = record { kept = kept_same SPANS_AT l; rows = refl }

module _ (C A B path : List ℕ) (x : Writing) (table places steps index : List ℕ) (h : PlanHeld C A B path x table places steps index) where
  abbrev o : ByteOrder
  o = x.stage.inputs.order

  abbrev mode : ℕ
  mode = x.manner.mode

  abbrev P : List Place
  P = held_places B places

  abbrev n : Numbering
  n = numbering_by x.stage x.manner x.counts

  -- the statics in hand are C's
  statics_here : statics_in (statics_part steps) x.counts.statics ≡ statics o C mode (length (name_head mode path))
  statics_here = h.symbols.statics_are ∙ ap (statics o C mode) h.head

  -- ---- the symbol table

  few : (merge_candidates o C A P B mode x.manner.head).many ≤ ID_LIMIT
  few = omega (arith, h.symbols.numbers.long, part_long NUMBERS_AT POSITION_TABLE index (omega (arith, h.buffers.index_long_lem)))

  candidates_are : candidates_by C A P B (statics_part steps) n.filling ≡ merge_candidates o C A P B mode x.manner.head
  unfolding merge_candidates numbering_by filling_of
  candidates_are = ap (candidates o C A P B mode) h.symbols.statics_are

  count_few : n.count ≤ ID_LIMIT + 1
  count_few =
      let e : (candidates_by C A P B (statics_part steps) n.filling).many ≡ (merge_candidates o C A P B mode x.manner.head).many = ap (λ
      (c : Candidates). c.many) candidates_are in
      omega (
        arith,
        h.symbols.tables.counted,
        merged_few (candidates_by C A P B (statics_part steps) n.filling),
        listed_few (candidates_by C A P B (statics_part steps) n.filling),
        e,
        few,
      )

  module _ (T M R L O : List ℕ) (e : T ≡ statics_part steps) (f : M ≡ glabels_part steps) (g : R ≡ ids_part table) (l : L ≡ list_part steps) (u : O ≡ order_part index)
      (k : Numbering) (is : k ≡ n) where
    pub symbols_asked : SymbolsReady C A T M R L O k × (k.count ≤ ID_LIMIT + 1)
    symbols_asked = rw (e, f, g, l, u, is) (symbols_ready C A P B _ _ _ _ _ _ h.symbols.positions n h.symbols.tables, count_few)

    pub symbols_here : symbols_table_in C A T M R L O k ≡ held_symbols C A B path x places
    unfolding numbering_by filling_of
    symbols_here = rw (e, f, g, l, u, is) (symbols_table C A P B _ _ _ _ _ _ h.symbols.positions n h.symbols.tables
        ∙ ap (result_symbols o C A P B mode) statics_here)

  -- ---- its strings

  statics_count : x.counts.statics ≡ h.symbols.tables.tally.count
  unfolding numbering_by filling_of
  statics_count = h.symbols.tables.many

  module _ (T : List ℕ) (e : T ≡ statics_part steps) where
    pub strings_asked : (x.counts.statics ≤ STATIC_LIMIT) × (STATIC_ROW * x.counts.statics ≤ length T)
    strings_asked = rw (e, statics_count) (h.symbols.tables.table.counted.few, h.symbols.tables.table.counted.long)

    pub strings_here : result_strings o C A mode path (statics_in T x.counts.statics) ≡ held_strings C A path x
    strings_here = rw e (ap (result_strings o C A mode path) statics_here)

  -- ---- a section that blocks are copied into

  module _ (blocks lines late : List ℕ) (e : blocks ≡ blocks_part table) (f : lines ≡ places_part places) (g : late ≡ late_step_part steps) where
    pub section_asked : StageRead C A B x.stage blocks lines × Movable C B x.stage (places_in lines (line_count B)) late
    section_asked = rw (e, f, g) (h.read, h.movable)

    module _ (i c : ℕ) (code : c ≡ code_in x.stage.inputs.compiled i) where
      pub section_code : c ≡ code_of o C i
      section_code = code ∙ code_is o C x.stage.inputs.compiled h.read.read.compiled.is i

      pub section_here : result_section o C A (places_in lines (line_count B)) B c ≡ result_section o C A P B (code_of o C i)
      section_here = rw (f, section_code)

pub numbering_made : (x : Writing) (f : Filling) → f ≡ filling_of x.stage x.manner.mode x.counts.statics
    → record { filling = f; locals = x.counts.locals; count = x.counts.count } ≡ numbering_by x.stage x.manner x.counts
unfolding numbering_by
numbering_made x f e = rw e
