-- What the symbol merge answers, step by step: which test decides, and what stands in the buffers where none refuses. Assumes nothing.
use Rattle.std.specs.Prelude.{None, Some}
use Prim.Native.Nat.{ℕ, ◌+◌, ◌*◌, ◌≤◌, ◌<◌}
use mathlib.Core.Path.{◌≡◌, refl, sym, ap, ◌∙◌}
use mathlib.Core.List.{List}
use native.Mathlib.Omega.{arith}
use lib.ListN.{length, get_or}
use Rattle.base_lists.specs.Windows.{Within}
use Rattle.base_lists.proofs.Ranges.{select_all_at}
use Rattle.base_fields.specs.declared.ByteOrder.{ByteOrder}
use Rattle.base_fields.specs.declared.ByteOrder.TheVariants.{Big}
use Rattle.base_fields.proofs.Numbers.{number_part}
use Rattle.base_scope.specs.Limits.{HEAD_LIMIT, ID_LIMIT, STATIC_TABLE, USED_TABLE, LATE_TABLE, GLABEL_TABLE, POSITION_TABLE, PLACE_TABLE}
use Rattle.base_scope.specs.Codes.{LATE_TARGET}
use Rattle.base_scope.specs.Refusals.{STATICS}
use Rattle.base_answers.specs.Verdicts.{Passed, Refused, Verdict}
use Rattle.base_answers.specs.Answers.{COMPILED}
use Rattle.base_answers.proofs.Verdicts.{also_passed, also_refused, finding_clear, finding_at}
use Rattle.elf_readers.specs.Readers.{coded_contents}
use Rattle.elf_symbols.specs.Symbols.{Table}
use Rattle.elf_index.specs.Index.{SymbolIndex}
use Rattle.elf_check.specs.View.{Viewed}
use Rattle.elf_check.proofs.Views.{view_table}
use Rattle.blocks_file.specs.Blocks.{block_count}
use Rattle.blocks_places.specs.Lines.{line_count}
use Rattle.blocks_places.specs.Places.{Place}
use Rattle.blocks_places.specs.Table.{places_in, Laid}
use Rattle.base_buffers.specs.Buffers.{zeros}
use Rattle.base_buffers.specs.Parts.{part_at, KeptBefore}
use Rattle.merge_buffers.specs.Buffers.{ROWS_AT, HOLDERS_AT, USED_AT, STATIC_AT, GLABELS_AT, LIST_AT, STEP_BUFFER, NUMBERS_AT, INDEX_BUFFER, blocks_part, ids_part, places_part, holders_part, late_step_part, used_part, statics_part, glabels_part, list_part, names_part, order_part, numbers_part, BuffersHeld}
use Rattle.base_buffers.proofs.Buffers.{length_zeros}
use Rattle.base_buffers.proofs.Parts.{kept_part, kept_same, kept_less, kept_then, part_long}
use Rattle.symbols_table.specs.of_merge_sections.declared.Stage.{Stage}
use Rattle.symbols_table.specs.of_merge_sections.Stages.{StageRead, Movable}
use Rattle.symbols_table.proofs.of_merge_sections.Sections.{step_runs, step_start}
use Rattle.statics_table.specs.Table.{statics_in, StaticTable}
use Rattle.statics_walk.specs.declared.Listing.{Listing}
use Rattle.statics_walk.specs.Walk.{statics}
use Rattle.statics_walk.specs.Sound.{StaticsSound}
use Rattle.statics_walk.proofs.Sound.{statics_sound}
use Rattle.symbols_merge.specs.Candidates.{Candidates}
use Rattle.symbols_merge.specs.Listed.{symbols_verdict}
use Rattle.symbols_merge.specs.Merged.{RESULT_GROUPS, LOCAL_GROUPS, merged_count, local_count}
use Rattle.symbols_table.specs.of_symbols_taken.Taken.{taken_verdict}
use Rattle.symbols_table.specs.of_symbols_taken.Passed.{TakenPassed}
use Rattle.symbols_table.specs.of_symbols_taken.Code.{used_bytes, LateIn, StepIn}
use Rattle.symbols_table.proofs.of_symbols_taken.InHand.{step_late, taken_is}
use Rattle.symbols_table.proofs.of_symbols_taken.Passed.{taken_passed}
use Rattle.symbols_table.specs.of_symbols_ids.Ids.{candidates, merge_candidates}
use Rattle.symbols_rows.specs.Rows.{half_in, HoldersOf}
use Rattle.symbols_rows.specs.Steps.{verdict_in}
use Rattle.symbols_table.specs.of_symbols_holders.Ready.{id_count, symbols_in, HoldersReady}
use Rattle.symbols_numbers.specs.Numbers.{Tables, HoldersFirst, order_in, group_starts}
use Rattle.symbols_numbers.specs.Result.{NumbersOf, StartsOf}
use Rattle.symbols_numbers.proofs.Counts.{start_few}
use Rattle.symbols_table.specs.of_symbols_fill.declared.Filling.{Filling}
use Rattle.symbols_table.specs.of_symbols_fill.Fill.{FillReady}
use Rattle.symbols_table.specs.of_symbols_fill.Stage.{FillStage}
use Rattle.symbols_table.proofs.of_symbols_fill.Candidates.{fill_ready}
use Rattle.symbols_table.proofs.of_symbols_fill.Filled.{ids_few}
use Rattle.symbols_table.specs.of_symbols_chain.Chain.{SymbolsNumbered}
use Rattle.symbols_table.proofs.of_symbols_chain.Stage.{fill_stage_of}
use Rattle.symbols_table.proofs.of_symbols_chain.Result.{chain_tables, chain_first, chain_room, chain_verdict, chain_starts, chain_order, chain_numbers}
use Rattle.symbols_table.specs.Stage.{TableStage}
use Rattle.symbols_stage.specs.declared.Manner.{Manner}
use Rattle.symbols_stage.specs.declared.Counts.{Counts}
use Rattle.symbols_stage.specs.Verdict.{list_verdict, symbol_stages_verdict}
use Rattle.symbols_stage.specs.Stage.{SymbolsTaken, StaticsRead, GlabelsRead, IdsListedIn, IdsHeldIn, IdRooms}
use Rattle.symbols_stage.specs.End.{Numbered, SymbolsEnd, end_verdict, counts_of, filling_of, numbering_by, NumberedEnd, ListEnd, SymbolsHeld, StaticsEnd, StageEnd}

same_counts : (a b : Counts) → Numbered a ≡ Numbered b → b ≡ a
same_counts a b e = cc

never : (x y z : ℕ) (n : Counts) → Refused x y z ≡ Numbered n → ⊥
never x y z n e = let q : ◌≡◌ {A = ℕ} 0 1 = cc in omega arith

-- ---- 18 and 19, and the numbers

module _ (T L H : List ℕ) (m : ℕ) where
  start_at : (starts : List ℕ) (k : ℕ) → starts ≡ group_starts T L H m → k < RESULT_GROUPS + 1 → get_or starts k 0 ≡ length (order_in T L H m k)
  unfolding group_starts
  start_at starts k e u = rw e (select_all_at (λ g. length (order_in T L H m g)) k (RESULT_GROUPS + 1) 0 u)

  pub counts_low : Tables T L H m → (starts : List ℕ) → starts ≡ group_starts T L H m → (get_or starts LOCAL_GROUPS 0 ≤ ID_LIMIT) × (get_or starts RESULT_GROUPS 0 ≤ ID_LIMIT)
  counts_low w starts e = (
    omega (arith, start_at starts LOCAL_GROUPS e (omega arith), start_few T L H m LOCAL_GROUPS, w.few),
    omega (arith, start_at starts RESULT_GROUPS e (omega arith), start_few T L H m RESULT_GROUPS, w.few),
  )

  module _ (ids statics : ℕ) (v : Verdict) (is : v ≡ verdict_in T L H m) (index : List ℕ) where
    pub end_numbered : v ≡ Passed → (starts : List ℕ) → SymbolsNumbered T L H m starts (order_part index) (part_at NUMBERS_AT (2 * ids) index) → (n : Counts) → n ≡ counts_of statics starts
        → NumberedEnd T L H m ids statics (Numbered n) index
    unfolding end_verdict
    end_numbered p starts w n e = record {
      verdict = sym p ∙ is;
      is = λ x q. same_counts n x q ∙ e ∙ ap (counts_of statics) w.groups;
      tables = λ x q. rw (← w.groups) w;
    }

    pub end_refused : (x y z : ℕ) → v ≡ Refused x y z → NumberedEnd T L H m ids statics (Refused x y z) index
    unfolding end_verdict
    end_refused x y z p = record {
      verdict = sym p ∙ is;
      is = λ n q. absurd (never x y z n q);
      tables = λ n q. absurd (never x y z n q);
    }

-- ---- the list

module _ (C A : List ℕ) (f : Filling) (m : ℕ) (table table1 steps steps1 : List ℕ) (w : IdsListedIn C A f m table table1 steps steps1) where
  statics_same : statics_part steps1 ≡ statics_part steps
  statics_same = kept_part LIST_AT steps steps1 w.kept_steps STATIC_AT STATIC_TABLE (omega arith)

  pub list_hold : (places index : List ℕ) → BuffersHeld table places steps index
      → HoldersReady f.inputs.order C A (statics_part steps1) f.sources (ids_part table1) (list_part steps1) m × BuffersHeld table1 places steps1 index
  list_hold places index b = (
    rw statics_same w.listed.ready,
    record {
      table_long = rw w.kept_table.long b.table_long;
      places_long = b.places_long;
      steps_long_lem = rw w.kept_steps.long b.steps_long_lem;
      index_long_lem = b.index_long_lem;
    },
  )

  module _ (places places1 : List ℕ) (h : IdsHeldIn (symbols_in f.inputs.order C A (statics_part steps1) f.sources (ids_part table1)) m places places1) where
    held_as : HoldersOf (symbols_in f.inputs.order C A (statics_part steps) f.sources (ids_part table1)) (holders_part places1) m
    held_as = rw (← statics_same) h.held

    in_tables : (used index index1 : List ℕ) → FillReady C A (statics_part steps) used (late_step_part steps) f → BuffersHeld table places steps index → length index1 ≡ length index
        → Tables (ids_part table1) (list_part steps1) (holders_part places1) m × HoldersFirst (list_part steps1) (holders_part places1) m × IdRooms (list_part steps1) m (id_count f.sources)
        × (INDEX_BUFFER ≤ length index1)
    in_tables used index index1 q b same =
        let p : PLACE_TABLE + POSITION_TABLE ≤ length places1 = rw h.kept.long b.places_long in
        let long = part_long HOLDERS_AT POSITION_TABLE places1 p in
        let few = ids_few C A (statics_part steps) (late_step_part steps) f q.places in
        let room = chain_room C A (statics_part steps) (late_step_part steps) f (ids_part table1) (list_part steps1) m w.listed (holders_part places1) held_as (zeros (2 * id_count f.sources)) (omega (arith, length_zeros (2 * id_count f.sources))) in (
          chain_tables C A (statics_part steps) (late_step_part steps) f (ids_part table1) (list_part steps1) m w.listed (holders_part places1) held_as,
          chain_first C A (statics_part steps) (late_step_part steps) f (ids_part table1) (list_part steps1) m w.listed (holders_part places1) held_as,
          record { low = λ k l. omega (arith, room.word k l, length_zeros (2 * id_count f.sources)); few = few },
          rw same b.index_long_lem,
        )

    pub list_number : (used index index1 : List ℕ) → FillReady C A (statics_part steps) used (late_step_part steps) f → BuffersHeld table places steps index
        → length index1 ≡ length index → (rows list holders : List ℕ) → rows ≡ ids_part table1 → list ≡ list_part steps1 → holders ≡ holders_part places1
        → Tables rows list holders m × HoldersFirst list holders m × IdRooms list m (id_count f.sources) × (INDEX_BUFFER ≤ length index1)
    list_number used index index1 q b same rows list holders t l p = rw (t, l, p) (in_tables used index index1 q b same)

    pub list_end : (r : SymbolsEnd) (index rows list holders : List ℕ) → rows ≡ ids_part table1 → list ≡ list_part steps1 → holders ≡ holders_part places1
        → NumberedEnd rows list holders m (id_count f.sources) f.sources.statics r index → ListEnd C A f r table table1 places places1 steps steps1 index
    list_end r index rows list holders t l p e = record {
      positions = m;
      listed = w.listed;
      held = held_as;
      end = rw (← t, ← l, ← p) e;
      kept_table = w.kept_table;
      kept_places = h.kept;
      kept_steps = w.kept_steps;
    }

-- numbers that stand in the front of their table stand in the table
numbers_whole : (t : Candidates) (n : ℕ) (index : List ℕ) → INDEX_BUFFER ≤ length index → n ≤ ID_LIMIT → NumbersOf t (part_at NUMBERS_AT (2 * n) index)
    → NumbersOf t (numbers_part index)
unfolding half_in part_at
numbers_whole t n index long few w =
    let own : length (part_at NUMBERS_AT (2 * n) index) ≡ 2 * n = part_long NUMBERS_AT (2 * n) index (omega (arith, long, few)) in
    let all : length (numbers_part index) ≡ POSITION_TABLE = part_long NUMBERS_AT POSITION_TABLE index (omega (arith, long)) in
    record {
      long = omega (arith, w.long, own, all, few);
      is = λ i u.
          number_part Big 2 index NUMBERS_AT POSITION_TABLE (2 * i) (omega (arith, w.long, own, few))
          ∙ sym (number_part Big 2 index NUMBERS_AT (2 * n) (2 * i) (omega (arith, w.long, own)))
          ∙ w.is i u;
    }

-- ---- 17

module _ (C A B : List ℕ) (s : Stage) (w : Manner) (table places steps index : List ℕ) (read : StageRead C A B s (blocks_part table) (places_part places)) where
  abbrev o : ByteOrder
  o = s.inputs.order

  abbrev P : List Place
  P = places_in (places_part places) (line_count B)

  other_table : Table o A s.inputs.assembled.symbols
  other_table = view_table o A s.inputs.assembled read.read.assembled.is read.read.assembled.tabled

  -- it refuses
  module _ (steps1 : List ℕ) (r : Listing) (u : StaticsRead C o w.mode w.head r steps steps1) where
    pub statics_refused : (entry : ℕ) → r.fault ≡ Some entry → StaticsEnd C A B s w (Refused STATICS COMPILED entry) table table places places steps steps1 index
    unfolding end_verdict list_verdict
    statics_refused entry e = record {
      verdict = sym (also_refused _ _ STATICS COMPILED entry (finding_at STATICS COMPILED _ entry (sym u.listed.fault ∙ e)));
      held = λ n q. absurd (never STATICS COMPILED entry n q);
      kept_table = kept_same ROWS_AT table;
      kept_places = kept_same HOLDERS_AT places;
      kept_steps = u.kept;
    }

    module _ (held : BuffersHeld table places steps index) where
      pub statics_glabels : SymbolIndex o A (names_part index)
          → Table o A s.inputs.assembled.symbols × Laid P B (blocks_part table) (places_part places) × (s.inputs.blocks ≡ block_count B)
          × BuffersHeld table places steps1 index × SymbolIndex o A (names_part index)
      statics_glabels x = (
        other_table,
        read.read.laid,
        read.read.many,
        record {
          table_long = held.table_long;
          places_long = held.places_long;
          steps_long_lem = rw u.kept.long held.steps_long_lem;
          index_long_lem = held.index_long_lem;
        },
        x,
      )

      -- it does not: the glabels are read
      module _ (movable : Movable C B s P (late_step_part steps)) (passed : TakenPassed o C A P B) (marks : Within (used_bytes o A) 0 (used_part steps)) (steps2 : List ℕ)
          (g : GlabelsRead A B o P steps1 steps2) where
        early : KeptBefore STATIC_AT steps steps2
        early = kept_then STATIC_AT steps steps1 steps2 u.kept (kept_less GLABELS_AT STATIC_AT steps1 steps2 g.kept (omega arith))

        late_2 : late_step_part steps2 ≡ late_step_part steps
        late_2 = kept_part STATIC_AT steps steps2 early 0 LATE_TABLE (omega arith)

        used_2 : used_part steps2 ≡ used_part steps
        used_2 = kept_part STATIC_AT steps steps2 early USED_AT USED_TABLE (omega arith)

        statics_2 : statics_part steps2 ≡ statics_part steps1
        statics_2 = kept_part GLABELS_AT steps1 steps2 g.kept STATIC_AT STATIC_TABLE (omega arith)

        table_2 : StaticTable w.head C (statics_part steps2) r.tally
        table_2 = rw statics_2 u.listed.filled

        list_2 : statics_in (statics_part steps2) r.tally.count ≡ statics o C w.mode w.head
        list_2 = rw statics_2 u.listed.list

        sound_2 : StaticsSound o C w.head (statics_in (statics_part steps2) r.tally.count)
        sound_2 = rw list_2 (statics_sound o C w.mode w.head)

        fill_2 : FillStage C A P B (statics_part steps2) (late_step_part steps2) (filling_of s w.mode r.tally.count)
        unfolding filling_of
        fill_2 =
            fill_stage_of C A B s (blocks_part table) (places_part places) (statics_part steps2) (late_step_part steps2) w.head w.mode r.tally read (rw late_2 movable) passed table_2 sound_2

        marks_2 : Within (used_bytes o A) 0 (used_part steps2)
        marks_2 = rw used_2 marks

        pub statics_list : (f : Filling) → f ≡ filling_of s w.mode r.tally.count → (index1 : List ℕ) → length index1 ≡ length index → SymbolIndex o A (names_part index1)
            → FillReady C A (statics_part steps2) (used_part steps2) (late_step_part steps2) f × BuffersHeld table places steps2 index1 × SymbolIndex f.inputs.order A (names_part index1)
        unfolding filling_of
        statics_list f is index1 same x = (
          rw is (fill_ready C A P B (statics_part steps2) (late_step_part steps2) (filling_of s w.mode r.tally.count) fill_2 (used_part steps2) marks_2),
          record {
            table_long = held.table_long;
            places_long = held.places_long;
            steps_long_lem = rw early.long held.steps_long_lem;
            index_long_lem = rw same held.index_long_lem;
          },
          rw is x,
        )

        -- and the list answers
        module _ (clear : r.fault ≡ None) (e : SymbolsEnd) (table3 places3 steps3 index3 : List ℕ) (same : length index3 ≡ length index)
            (l : ListEnd C A (filling_of s w.mode r.tally.count) e table table3 places places3 steps2 steps3 index3) where
          abbrev f : Filling
          f = filling_of s w.mode r.tally.count

          abbrev T : List ℕ
          T = ids_part table3

          abbrev L : List ℕ
          L = list_part steps3

          abbrev H : List ℕ
          H = holders_part places3

          abbrev U : List ℕ
          U = statics_part steps2

          abbrev starts : List ℕ
          starts = group_starts T L H l.positions

          abbrev t : Candidates
          t = merge_candidates o C A P B w.mode w.head

          own_candidates : candidates f.inputs.order C A P B f.mode (statics_in U f.sources.statics) ≡ t
          unfolding merge_candidates filling_of
          own_candidates = rw list_2

          held_in : HoldersOf (symbols_in f.inputs.order C A U f.sources T) H l.positions
          held_in = l.held

          list_verdict_lem : end_verdict e ≡ symbols_verdict t
          list_verdict_lem = l.end.verdict ∙ chain_verdict C A U (late_step_part steps2) f T L l.positions l.listed H held_in P B fill_2 ∙ ap symbols_verdict own_candidates

          end_verdict_lem : end_verdict e ≡ list_verdict o C A P B w.mode w.head
          unfolding list_verdict
          end_verdict_lem = list_verdict_lem ∙ sym (also_passed _ _ (finding_clear STATICS COMPILED _ (sym u.listed.fault ∙ clear)))

          few : l.positions ≤ ID_LIMIT
          few = (chain_tables C A U (late_step_part steps2) f T L l.positions l.listed H held_in).few

          ids_few_2 : id_count f.sources ≤ ID_LIMIT
          unfolding filling_of
          ids_few_2 = ids_few C A U (late_step_part steps2) f (fill_ready C A P B U (late_step_part steps2) f fill_2 (used_part steps2) marks_2).places

          index_long_3 : INDEX_BUFFER ≤ length index3
          index_long_3 = rw same held.index_long_lem

          order_long : length (order_part index3) ≡ POSITION_TABLE
          order_long = part_long 0 POSITION_TABLE index3 (omega (arith, index_long_3))

          abbrev numbers_3 : List ℕ
          numbers_3 = part_at NUMBERS_AT (2 * id_count f.sources) index3

          numbers_long : length numbers_3 ≡ 2 * id_count f.sources
          numbers_long = part_long NUMBERS_AT (2 * id_count f.sources) index3 (omega (arith, index_long_3, ids_few_2))

          module _ (n : Counts) (q : e ≡ Numbered n) where
            numbered : SymbolsNumbered T L H l.positions starts (order_part index3) numbers_3
            numbered = l.end.tables n q

            starts_3 : StartsOf t starts
            starts_3 = rw (← own_candidates) (chain_starts C A U (late_step_part steps2) f T L l.positions l.listed H held_in P B fill_2 starts (order_part index3) numbers_3 numbered)

            glabels_long : length (glabels_part steps2) ≡ GLABEL_TABLE
            glabels_long =
                let long : STEP_BUFFER ≤ length steps2 = rw early.long held.steps_long_lem in
                part_long GLABELS_AT GLABEL_TABLE steps2 (omega (arith, long))

            stage_2 : TableStage C A P B U (late_step_part steps2) (glabels_part steps2) T L (order_part index3) l.positions (numbering_by s w (counts_of r.tally.count starts))
            unfolding numbering_by counts_of filling_of
            stage_2 = record {
              compiled = read.read.compiled_sound;
              assembled = read.read.assembled_sound;
              compiled_small = read.read.compiled_small;
              assembled_small = read.read.assembled_small;
              head = w.head;
              tally = r.tally;
              many = refl;
              table = table_2;
              statics = sound_2;
              room = omega (arith, glabels_long);
              marked = g.words.words;
              filled = fill_2;
              listed = l.listed;
              ordered = chain_order C A U (late_step_part steps2) f T L l.positions l.listed H held_in P B fill_2 starts (order_part index3) numbers_3 numbered (omega (arith, order_long, few));
              counted = starts_3.all ∙ ap merged_count (sym own_candidates);
            }

            late_3 : late_step_part steps3 ≡ late_step_part steps2
            late_3 = kept_part LIST_AT steps2 steps3 l.kept_steps 0 LATE_TABLE (omega arith)

            statics_3 : statics_part steps3 ≡ statics_part steps2
            statics_3 = kept_part LIST_AT steps2 steps3 l.kept_steps STATIC_AT STATIC_TABLE (omega arith)

            glabels_3 : glabels_part steps3 ≡ glabels_part steps2
            glabels_3 = kept_part LIST_AT steps2 steps3 l.kept_steps GLABELS_AT GLABEL_TABLE (omega arith)

            counts_are : n ≡ counts_of r.tally.count starts
            unfolding filling_of
            counts_are = l.end.is n q

            statics_by : statics_in (statics_part steps3) (counts_of r.tally.count starts).statics ≡ statics o C w.mode w.head
            unfolding counts_of
            statics_by = rw statics_3 list_2

            locals_by : (counts_of r.tally.count starts).locals ≡ local_count t
            unfolding counts_of
            locals_by = starts_3.locals

            held_by_lem : (x : Counts) → x ≡ counts_of r.tally.count starts → SymbolsHeld C A B P s w x table3 steps3 index3
            held_by_lem x is = rw is (record {
              positions = l.positions;
              tables = rw (late_3, statics_3, glabels_3) stage_2;
              statics_are = statics_by;
              numbers = rw (← own_candidates) (numbers_whole _ (id_count f.sources) index3 index_long_3 ids_few_2 (chain_numbers C A U (late_step_part steps2) f T L l.positions l.listed H held_in P B fill_2 starts (order_part index3) numbers_3 numbered (omega (arith, numbers_long))));
              locals_are = locals_by;
            })

          statics_held : StaticsEnd C A B s w e table table3 places places3 steps steps3 index3
          statics_held = record {
            verdict = end_verdict_lem;
            held = λ n q. held_by_lem n q n (counts_are n q);
            kept_table = l.kept_table;
            kept_places = l.kept_places;
            kept_steps = kept_then STATIC_AT steps steps2 steps3 early (kept_less LIST_AT STATIC_AT steps2 steps3 l.kept_steps (omega arith));
          }

        pub statics_end : r.fault ≡ None → (x : Filling) → x ≡ filling_of s w.mode r.tally.count → (e : SymbolsEnd) (table3 places3 steps3 index3 : List ℕ)
            → length index3 ≡ length index → ListEnd C A x e table table3 places places3 steps2 steps3 index3 → StaticsEnd C A B s w e table table3 places places3 steps steps3 index3
        statics_end clear x is e table3 places3 steps3 index3 same l = statics_held clear e table3 places3 steps3 index3 same (rw is at l)

  -- ---- 15 and 16

  module _ (movable : Movable C B s P (late_step_part steps)) (held : BuffersHeld table places steps index) where
    step_in : StepIn o A P B s.step.runs (late_step_part steps) s.inputs.blocks
    step_in = record {
      there = step_runs C A B s (blocks_part table) (places_part places) read;
      many = read.read.many;
      searched = coded_contents o C LATE_TARGET;
      moves = λ u. rw (← step_start C A B s (blocks_part table) (places_part places) read) (movable u);
    }

    pub stage_take : Viewed o A s.inputs.assembled × LateIn s.step.runs (late_step_part steps) s.inputs.blocks × (STEP_BUFFER ≤ length steps)
    stage_take = (read.read.assembled, step_late o A P B s.step.runs (late_step_part steps) s.inputs.blocks step_in, held.steps_long_lem)

    module _ (v : Verdict) (steps1 : List ℕ) (t : SymbolsTaken A s v steps steps1) where
      taken_as : v ≡ taken_verdict o C A P B
      taken_as =
          t.verdict
          ∙ taken_is o C A s.inputs.compiled s.inputs.assembled read.read.compiled.is read.read.assembled.is P B s.step.runs (late_step_part steps) s.inputs.blocks step_in

      late_1 : late_step_part steps1 ≡ late_step_part steps
      late_1 = kept_part USED_AT steps steps1 t.kept 0 LATE_TABLE (omega arith)

      pub stage_statics : v ≡ Passed → w.head ≤ HEAD_LIMIT → SymbolIndex o A (names_part index)
          → StageRead C A B s (blocks_part table) (places_part places) × Movable C B s P (late_step_part steps1) × TakenPassed o C A P B
          × Within (used_bytes o A) 0 (used_part steps1) × (w.head ≤ HEAD_LIMIT) × BuffersHeld table places steps1 index × SymbolIndex o A (names_part index)
      stage_statics p low x = (
        read,
        rw late_1 movable,
        taken_passed o C A P B (sym taken_as ∙ p),
        t.marks,
        low,
        record {
          table_long = held.table_long;
          places_long = held.places_long;
          steps_long_lem = rw t.kept.long held.steps_long_lem;
          index_long_lem = held.index_long_lem;
        },
        x,
      )

      pub stage_end : v ≡ Passed → (e : SymbolsEnd) (table2 places2 steps2 index2 : List ℕ) → StaticsEnd C A B s w e table table2 places places2 steps1 steps2 index2
          → StageEnd C A B s w e table table2 places places2 steps steps2 index2
      unfolding symbol_stages_verdict
      stage_end p e table2 places2 steps2 index2 x = record {
        verdict = x.verdict ∙ sym (also_passed _ _ (sym taken_as ∙ p));
        held = x.held;
        kept_table = x.kept_table;
        kept_places = x.kept_places;
        kept_steps = kept_then USED_AT steps steps1 steps2 t.kept (kept_less STATIC_AT USED_AT steps1 steps2 x.kept_steps (omega arith));
      }

      pub stage_refused : (a b c : ℕ) → v ≡ Refused a b c → StageEnd C A B s w (Refused a b c) table table places places steps steps1 index
      unfolding symbol_stages_verdict end_verdict
      stage_refused a b c p = record {
        verdict = sym (also_refused _ _ a b c (sym taken_as ∙ p));
        held = λ n q. absurd (never a b c n q);
        kept_table = kept_same ROWS_AT table;
        kept_places = kept_same HOLDERS_AT places;
        kept_steps = t.kept;
      }
