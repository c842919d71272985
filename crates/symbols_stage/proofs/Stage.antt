-- What each step asks and leaves, table by table. Assumes nothing.
use Prim.Native.Nat.{ℕ, ◌+◌, ◌-◌, ◌*◌, ◌≤◌}
use mathlib.Core.Path.{◌≡◌, refl, sym, ap, ◌∙◌}
use mathlib.Core.List.{List}
use native.Mathlib.Omega.{arith}
use lib.ListN.{length}
use Rattle.base_lists.specs.Windows.{Within, spliced}
use Rattle.base_fields.specs.declared.ByteOrder.{ByteOrder}
use Rattle.base_fields.specs.declared.ByteOrder.TheVariants.{Big}
use Rattle.base_fields.proofs.Numbers.{number_part}
use Rattle.base_index.specs.Index.{Room, hash_in}
use Rattle.base_scope.specs.Limits.{LATE_TABLE, STATIC_TABLE, USED_TABLE, GLABEL_TABLE, SYMBOL_LIMIT, ID_LIMIT, ID_ROW, ID_TABLE, POSITION_TABLE, SYMBOL_INDEX}
use Rattle.base_answers.specs.Verdicts.{Verdict}
use Rattle.elf_symbols.specs.Symbols.{symbol_count, symbol_name, Table}
use Rattle.elf_index.specs.Index.{SymbolIndex}
use Rattle.elf_check.specs.View.{Viewed}
use Rattle.blocks_file.specs.Blocks.{block_count}
use Rattle.blocks_places.specs.Lines.{line_count}
use Rattle.blocks_places.specs.Table.{places_in, Laid}
use Rattle.base_buffers.specs.Parts.{part_at, KeptBefore}
use Rattle.merge_buffers.specs.Buffers.{ROWS_AT, BLOCK_BUFFER, HOLDERS_AT, PLACE_BUFFER, USED_AT, STATIC_AT, GLABELS_AT, LIST_AT, STEP_BUFFER, NUMBERS_AT, NAMES_AT, INDEX_BUFFER, blocks_part, ids_part, places_part, late_step_part, used_part, statics_part, list_part, names_part, order_part, BuffersHeld}
use Rattle.base_buffers.proofs.Parts.{lent, put_back, kept_part, part_long, part_lent, put_table, put_kept}
use Rattle.symbols_table.specs.of_merge_inputs.declared.Inputs.{Inputs}
use Rattle.symbols_table.specs.of_merge_sections.declared.Stage.{Stage}
use Rattle.statics_walk.specs.declared.Listing.{Listing}
use Rattle.statics_walk.specs.Walk.{statics_fault, statics}
use Rattle.statics_walk.specs.Code.{StaticsListed}
use Rattle.symbols_merge.specs.Merged.{RESULT_GROUPS}
use Rattle.symbols_table.specs.of_symbols_taken.Code.{used_bytes, LateIn, taken_in}
use Rattle.symbols_table.proofs.of_symbols_taken.Marks.{used_within}
use Rattle.symbols_glabels.specs.Words.{glabel_word, Holds, GlabelsReady}
use Rattle.symbols_rows.specs.Rows.{halves_in, HoldersOf}
use Rattle.symbols_rows.specs.Steps.{ids_listed, Listing as IdsListing}
use Rattle.symbols_table.specs.of_symbols_holders.Ready.{known_in, KnownHashes, id_count, symbols_in, HoldersReady}
use Rattle.symbols_numbers.specs.Numbers.{Tables, IdRoom, order_in, group_starts, IdsNumbered}
use Rattle.symbols_table.specs.of_symbols_fill.declared.Filling.{Filling}
use Rattle.symbols_table.specs.of_symbols_fill.Fill.{FillReady, FilledRows}
use Rattle.symbols_table.proofs.of_symbols_fill.Filled.{ids_few}
use Rattle.symbols_table.specs.of_symbols_chain.Chain.{SymbolsNumbered}
use Rattle.symbols_table.proofs.of_symbols_chain.Chain.{symbols_listed, ready_few}
use Rattle.symbols_stage.specs.Stage.{SymbolsTaken, StaticsRead, GlabelsRead, IdsFilledIn, IdsListedIn, IdsHeldIn, IdRooms, OrderLeft, NumbersLeft}

-- ---- 15 and 16

module _ (A : List ℕ) (s : Stage) (from to : ℕ) (steps part : List ℕ) (starts : from ≡ USED_AT) (ends : to ≡ STATIC_AT) (v : Viewed s.inputs.order A s.inputs.assembled)
    (l : LateIn s.step.runs (late_step_part steps) s.inputs.blocks) (room : STEP_BUFFER ≤ length steps) (same : length part ≡ length (lent from to steps))
    (put : part ≡ spliced (lent from to steps) 0 (used_bytes s.inputs.order A)) where
  used_put : used_part (put_back from to steps part) ≡ part
  used_put = put_table USED_AT USED_TABLE from to steps part (put_back from to steps part) starts ends (omega (arith, room)) same refl

  used_kept : KeptBefore USED_AT steps (put_back from to steps part)
  used_kept = put_kept USED_AT USED_TABLE from to steps part (put_back from to steps part) starts ends (omega (arith, room)) same refl

  late_same : late_step_part (put_back from to steps part) ≡ late_step_part steps
  late_same = kept_part USED_AT steps (put_back from to steps part) used_kept 0 LATE_TABLE (omega arith)

  used_long : SYMBOL_LIMIT ≤ length (lent from to steps)
  used_long =
      let e : length (lent from to steps) ≡ USED_TABLE = ap length (part_lent USED_AT USED_TABLE from to steps starts ends) ∙ part_long USED_AT USED_TABLE steps (omega (arith, room)) in
      omega (arith, e)

  used_marks : Within (used_bytes s.inputs.order A) 0 (used_part (put_back from to steps part))
  used_marks = rw (used_put, put) (used_within s.inputs.order A (lent from to steps) v.tabled used_long)

  pub taken_ready : Viewed s.inputs.order A s.inputs.assembled × Within (used_bytes s.inputs.order A) 0 (used_part (put_back from to steps part))
      × LateIn s.step.runs (late_step_part (put_back from to steps part)) s.inputs.blocks × (STEP_BUFFER ≤ length (put_back from to steps part))
  taken_ready = (v, used_marks, rw late_same l, rw used_kept.long room)

  pub taken_of : (r : Verdict)
      → r ≡ taken_in s.inputs.compiled s.inputs.assembled s.inputs.order A s.step.runs (late_step_part (put_back from to steps part)) s.inputs.blocks
      → SymbolsTaken A s r steps (put_back from to steps part)
  taken_of r e = record { verdict = rw (← late_same) e; marks = used_marks; kept = used_kept }

-- ---- 17

pub statics_of : (C : List ℕ) (o : ByteOrder) (mode head from to : ℕ) (steps part : List ℕ) → from ≡ STATIC_AT → to ≡ GLABELS_AT → STEP_BUFFER ≤ length steps
    → length part ≡ length (lent from to steps) → (r : Listing) → StaticsListed head C (statics_fault o C mode head) (statics o C mode head) r (lent from to steps) part
    → StaticsRead C o mode head r steps (put_back from to steps part)
statics_of C o mode head from to steps part starts ends room same r w =
    let put = put_table STATIC_AT STATIC_TABLE from to steps part (put_back from to steps part) starts ends (omega (arith, room)) same refl in
    record {
      listed = rw (put, ← part_lent STATIC_AT STATIC_TABLE from to steps starts ends) w;
      kept = put_kept STATIC_AT STATIC_TABLE from to steps part (put_back from to steps part) starts ends (omega (arith, room)) same refl;
    }

-- ---- glabels

module _ (A B : List ℕ) (i : Inputs) (table places steps index blocks lines : List ℕ) (from to : ℕ) (b : blocks ≡ blocks_part table) (p : lines ≡ places_part places)
    (starts : from ≡ GLABELS_AT) (ends : to ≡ LIST_AT) (held : BuffersHeld table places steps index) where
  words_long : 4 * SYMBOL_LIMIT ≤ length (lent from to steps)
  words_long =
      let e : length (lent from to steps) ≡ GLABEL_TABLE = ap length (part_lent GLABELS_AT GLABEL_TABLE from to steps starts ends) ∙ part_long GLABELS_AT GLABEL_TABLE steps (omega (arith, held.steps_long_lem)) in
      omega (arith, e)

  pub glabels_ready : (names : List ℕ) → names ≡ names_part index → Table i.order A i.assembled.symbols → Laid (places_in (places_part places) (line_count B)) B (blocks_part table) (places_part places)
      → i.blocks ≡ block_count B → SymbolIndex i.order A (names_part index)
      → GlabelsReady i.order A i.assembled.symbols B blocks lines names × (i.blocks ≡ block_count B) × (4 * SYMBOL_LIMIT ≤ length (lent from to steps))
  glabels_ready names n t laid many x = (record { symbols = t; laid = rw (b, p) laid; indexed = rw n x }, many, words_long)

  pub glabels_of : (part : List ℕ) → length part ≡ length (lent from to steps)
      → Holds (λ k. glabel_word (places_in lines (line_count B)) B (symbol_name i.order A k)) (symbol_count i.order A) (lent from to steps) part
      → GlabelsRead A B i.order (places_in (places_part places) (line_count B)) steps (put_back from to steps part)
  glabels_of part same w =
      let put = put_table GLABELS_AT GLABEL_TABLE from to steps part (put_back from to steps part) starts ends (omega (arith, held.steps_long_lem)) same refl in
      record {
        words = rw (put, ← part_lent GLABELS_AT GLABEL_TABLE from to steps starts ends, ← p) w;
        kept = put_kept GLABELS_AT GLABEL_TABLE from to steps part (put_back from to steps part) starts ends (omega (arith, held.steps_long_lem)) same refl;
      }

-- ---- rows and list

module _ (C A : List ℕ) (f : Filling) (steps statics late : List ℕ) (u : statics ≡ statics_part steps) (x : late ≡ late_step_part steps) (from to : ℕ) (table : List ℕ)
    (starts : from ≡ ROWS_AT) (ends : to ≡ BLOCK_BUFFER) (room : BLOCK_BUFFER ≤ length table) where
  rows_long : length (lent from to table) ≡ ID_TABLE
  rows_long = ap length (part_lent ROWS_AT ID_TABLE from to table starts ends) ∙ part_long ROWS_AT ID_TABLE table (omega (arith, room))

  pub rows_room : (used : List ℕ) → FillReady C A (statics_part steps) used (late_step_part steps) f → ID_ROW * id_count f.sources ≤ length (lent from to table)
  rows_room used q = omega (arith, rows_long, ids_few C A (statics_part steps) (late_step_part steps) f q.places)

  pub filled_of : (part : List ℕ) → length part ≡ length (lent from to table) → (n : ℕ) → FilledRows C A statics late f (lent from to table) n part
      → IdsFilledIn C A f n steps table (put_back from to table part)
  filled_of part same n w =
      let put = put_table ROWS_AT ID_TABLE from to table part (put_back from to table part) starts ends (omega (arith, room)) same refl in
      record {
        rows = rw (put, ← part_lent ROWS_AT ID_TABLE from to table starts ends, ← u, ← x) w;
        kept = put_kept ROWS_AT ID_TABLE from to table part (put_back from to table part) starts ends (omega (arith, room)) same refl;
      }

module _ (C A : List ℕ) (f : Filling) (n : ℕ) (table tableAfter steps rows : List ℕ) (from to : ℕ) (filled : IdsFilledIn C A f n steps table tableAfter) (t : rows ≡ ids_part tableAfter)
    (starts : from ≡ LIST_AT) (ends : to ≡ STEP_BUFFER) (q : FillReady C A (statics_part steps) (used_part steps) (late_step_part steps) f) (blocks : BLOCK_BUFFER ≤ length table)
    (room : STEP_BUFFER ≤ length steps) where
  list_long : length (lent from to steps) ≡ POSITION_TABLE
  list_long = ap length (part_lent LIST_AT POSITION_TABLE from to steps starts ends) ∙ part_long LIST_AT POSITION_TABLE steps (omega (arith, room))

  ids_held : ID_ROW * id_count f.sources ≤ length (ids_part table)
  ids_held = omega (arith, part_long ROWS_AT ID_TABLE table (omega (arith, blocks)), ids_few C A (statics_part steps) (late_step_part steps) f q.places)

  pub ids_room : 2 * id_count f.sources ≤ length (lent from to steps)
  ids_room = omega (arith, list_long, ids_few C A (statics_part steps) (late_step_part steps) f q.places)

  pub listed_of : (m : ℕ) (part : List ℕ) → length part ≡ length (lent from to steps) → IdsListing (ids_listed rows n) 0 m (lent from to steps) part
      → IdsListedIn C A f m table tableAfter steps (put_back from to steps part)
  listed_of m part same w =
      let put = put_table LIST_AT POSITION_TABLE from to steps part (put_back from to steps part) starts ends (omega (arith, room)) same refl in
      record {
        listed =
            rw put
            (symbols_listed C A (statics_part steps) (late_step_part steps) f q.places (ids_part table) n (ids_part tableAfter) filled.rows ids_held (lent from to steps) part m ids_room
            (rw (← t) w));
        kept_table = filled.kept;
        kept_steps = put_kept LIST_AT POSITION_TABLE from to steps part (put_back from to steps part) starts ends (omega (arith, room)) same refl;
      }

  pub list_ready : (n ≤ ID_LIMIT) × (ID_ROW * n ≤ length rows) × (2 * n ≤ length (lent from to steps))
  list_ready =
      let few = ids_few C A (statics_part steps) (late_step_part steps) f q.places in
      let l = ap length t ∙ filled.rows.long ∙ part_long ROWS_AT ID_TABLE table (omega (arith, blocks)) in
      (omega (arith, few, filled.rows.many), omega (arith, few, filled.rows.many, l), omega (arith, ids_room, filled.rows.many))

-- ---- holders

module _ (C A : List ℕ) (f : Filling) (m : ℕ) (table steps places index statics rows list : List ℕ) (from to : ℕ) (u : statics ≡ statics_part steps) (t : rows ≡ ids_part table)
    (l : list ≡ list_part steps) (starts : from ≡ HOLDERS_AT) (ends : to ≡ PLACE_BUFFER)
    (ready : HoldersReady f.inputs.order C A (statics_part steps) f.sources (ids_part table) (list_part steps) m) (held : BuffersHeld table places steps index) where
  holders_long : length (lent from to places) ≡ POSITION_TABLE
  holders_long = ap length (part_lent HOLDERS_AT POSITION_TABLE from to places starts ends) ∙ part_long HOLDERS_AT POSITION_TABLE places (omega (arith, held.places_long))

  -- the hashes of A's index stand behind those of the list
  known_hashes : SymbolIndex f.inputs.order A (names_part index) → KnownHashes f.inputs.order A NAMES_AT index
  unfolding known_in hash_in part_at
  known_hashes x = record {
    apart = omega arith;
    room = omega (arith, held.index_long_lem, x.indexed.many);
    each = λ k h. sym (number_part Big 2 index NAMES_AT SYMBOL_INDEX (2 * k) (omega (arith, h, x.indexed.many))) ∙ x.hashes k h;
  }

  pub hold_ready : SymbolIndex f.inputs.order A (names_part index)
      → HoldersReady f.inputs.order C A statics f.sources rows list m × Room ID_LIMIT index × (2 * m ≤ length (lent from to places)) × KnownHashes f.inputs.order A NAMES_AT index
  hold_ready x =
      let few = ready_few f.inputs.order C A (statics_part steps) f.sources (ids_part table) (list_part steps) m ready in
      (rw (u, t, l) ready, record { few = omega arith; long = omega (arith, held.index_long_lem) }, omega (arith, holders_long, few), known_hashes x)

  pub held_of : (part : List ℕ) → length part ≡ length (lent from to places) → HoldersOf (symbols_in f.inputs.order C A statics f.sources rows) part m
      → IdsHeldIn (symbols_in f.inputs.order C A (statics_part steps) f.sources (ids_part table)) m places (put_back from to places part)
  held_of part same w =
      let put = put_table HOLDERS_AT POSITION_TABLE from to places part (put_back from to places part) starts ends (omega (arith, held.places_long)) same refl in
      record {
        held = rw (put, ← u, ← t) w;
        kept = put_kept HOLDERS_AT POSITION_TABLE from to places part (put_back from to places part) starts ends (omega (arith, held.places_long)) same refl;
      }

-- ---- order and numbers

module _ (T L H : List ℕ) (m from to : ℕ) (index : List ℕ) (room : INDEX_BUFFER ≤ length index) where
  module _ (starts : from ≡ 0) (ends : to ≡ NUMBERS_AT) where
    order_long : length (lent from to index) ≡ POSITION_TABLE
    order_long = ap length (part_lent 0 POSITION_TABLE from to index starts ends) ∙ part_long 0 POSITION_TABLE index (omega (arith, room))

    pub order_room : Tables T L H m → 2 * m ≤ length (lent from to index)
    order_room w = omega (arith, order_long, w.few)

    pub order_of_lem : (part : List ℕ) → length part ≡ length (lent from to index) → halves_in part (length (order_in T L H m RESULT_GROUPS)) ≡ order_in T L H m RESULT_GROUPS
        → OrderLeft T L H m (put_back from to index part)
    order_of_lem part same w =
        let put = put_table 0 POSITION_TABLE from to index part (put_back from to index part) starts ends (omega (arith, room)) same refl in
        record { order = rw put w }

  module _ (n : ℕ) (ids : IdRooms L m n) (starts : from ≡ NUMBERS_AT) (ends : to ≡ NUMBERS_AT + 2 * n) where
    number_long : length (lent from to index) ≡ 2 * n
    number_long = ap length (part_lent NUMBERS_AT (2 * n) from to index starts ends) ∙ part_long NUMBERS_AT (2 * n) index (omega (arith, room, ids.few))

    pub number_room : IdRoom L m (lent from to index)
    number_room = record { word = λ p h. omega (arith, ids.low p h, number_long) }

    pub numbers_of : (part : List ℕ) → length part ≡ length (lent from to index) → IdsNumbered T L H m m part → NumbersLeft T L H m n index (put_back from to index part)
    numbers_of part same w =
        let put = put_table NUMBERS_AT (2 * n) from to index part (put_back from to index part) starts ends (omega (arith, room, ids.few)) same refl in
        record {
          numbers = rw put w;
          kept = put_kept NUMBERS_AT (2 * n) from to index part (put_back from to index part) starts ends (omega (arith, room, ids.few)) same refl;
        }

pub numbered_of : (T L H : List ℕ) (m ids : ℕ) (starts before after : List ℕ) → starts ≡ group_starts T L H m → OrderLeft T L H m before → NumbersLeft T L H m ids before after
    → SymbolsNumbered T L H m starts (order_part after) (part_at NUMBERS_AT (2 * ids) after)
numbered_of T L H m ids starts before after g o n = record {
  groups = g;
  order = rw (kept_part NUMBERS_AT before after n.kept 0 POSITION_TABLE (omega arith)) o.order;
  numbers = n.numbers;
}
