-- What is made ready stands in the buffers, and the tables before it stay. Assumes nothing.
use Prim.Native.Nat.{ℕ, ◌≤◌}
use mathlib.Core.Path.{◌≡◌, refl, ap, ◌∙◌}
use mathlib.Core.List.{List}
use native.Mathlib.Omega.{arith}
use lib.ListN.{length}
use Rattle.base_fields.specs.declared.ByteOrder.{ByteOrder}
use Rattle.base_scope.specs.Codes.{TEXT}
use Rattle.base_scope.specs.Limits.{SPAN_TABLE, PLACE_TABLE}
use Rattle.elf_readers.specs.Readers.{section_count}
use Rattle.blocks_places.specs.Lines.{line_count}
use Rattle.blocks_places.specs.Table.{places_in, Laid}
use Rattle.blocks_spans.specs.Spans.{spans_of}
use Rattle.blocks_spans.specs.Table.{Gathered}
use Rattle.blocks_spans.proofs.Table.{gathered_is, rows_of}
use Rattle.merge_buffers.specs.Buffers.{PLACE_BUFFER, INDEX_BUFFER, blocks_part, places_part}
use Rattle.base_buffers.proofs.Parts.{lent, put_back, part_long, part_lent, put_table, put_kept, kept_part}
use Rattle.symbols_stage.specs.of_merge_sections.declared.Stage.{Stage}
use Rattle.merge_kept.specs.Kept.{kept}
use Rattle.merge_kept.proofs.Kept.{kept_le}
use Rattle.carry_homes.specs.declared.Homes.{Homes}
use Rattle.carry_homes.specs.Code.{HOME_TABLE, HomesFound}
use Rattle.carry_stage.specs.declared.Carry.{Carry}
use Rattle.carry_stage.specs.Tables.{CARRY_SPANS_AT, HOMES_AT, HOMES_END}
use Rattle.carry_stage.specs.Carry.{TextSpansLeft, HomesLeft, CarryMade}

-- ---- the spans of .text

module _ (from to : ℕ) (index : List ℕ) (starts : from ≡ CARRY_SPANS_AT) (ends : to ≡ INDEX_BUFFER) (room : INDEX_BUFFER ≤ length index) where
  text_spans_long : length (lent from to index) ≡ SPAN_TABLE
  text_spans_long = ap length (part_lent CARRY_SPANS_AT SPAN_TABLE from to index starts ends) ∙ part_long CARRY_SPANS_AT SPAN_TABLE index (omega (arith, room))

  pub text_spans_room : SPAN_TABLE ≤ length (lent from to index)
  text_spans_room = omega (arith, text_spans_long)

  pub text_spans_left : (B blocks lines table places : List ℕ) → blocks ≡ blocks_part table → lines ≡ places_part places
      → Laid (places_in (places_part places) (line_count B)) B (blocks_part table) (places_part places) → (n : ℕ) (part : List ℕ) → length part ≡ length (lent from to index)
      → Gathered (spans_of (places_in lines (line_count B)) B TEXT) n (lent from to index) part → TextSpansLeft B places n index (put_back from to index part)
  text_spans_left B blocks lines table places b p laid n part same g =
      let P = places_in (places_part places) (line_count B) in
      let put = put_table CARRY_SPANS_AT SPAN_TABLE from to index part (put_back from to index part) starts ends (omega (arith, room)) same refl in
      let w : Gathered (spans_of P B TEXT) n (lent from to index) part = rw (← p) g in
      record {
        rows = rw put (rows_of P B laid.fitting TEXT n (lent from to index) part text_spans_room w);
        replaced = rw put (gathered_is P B laid.fitting TEXT n (lent from to index) part text_spans_room w);
        kept = put_kept CARRY_SPANS_AT SPAN_TABLE from to index part (put_back from to index part) starts ends (omega (arith, room)) same refl;
      }

-- ---- the homes

module _ (from to : ℕ) (places : List ℕ) (starts : from ≡ HOMES_AT) (ends : to ≡ HOMES_END) (room : PLACE_BUFFER ≤ length places) where
  homes_long : length (lent from to places) ≡ HOME_TABLE
  homes_long = ap length (part_lent HOMES_AT HOME_TABLE from to places starts ends) ∙ part_long HOMES_AT HOME_TABLE places (omega (arith, room))

  pub homes_room : HOME_TABLE ≤ length (lent from to places)
  homes_room = omega (arith, homes_long)

  pub homes_left : (o : ByteOrder) (C A : List ℕ) (stay : ℕ) (h : Homes) (part : List ℕ) → length part ≡ length (lent from to places) → HomesFound o C A stay h part
      → HomesLeft o C A stay h places (put_back from to places part)
  homes_left o C A stay h part same w =
      let put = put_table HOMES_AT HOME_TABLE from to places part (put_back from to places part) starts ends (omega (arith, room)) same refl in
      record {
        found = rw put w;
        kept = put_kept HOMES_AT HOME_TABLE from to places part (put_back from to places part) starts ends (omega (arith, room)) same refl;
      }

-- ---- both

pub stay_few : (o : ByteOrder) (C : List ℕ) (flag stay : ℕ) → stay ≡ kept o C flag → stay ≤ section_count o C
stay_few o C flag stay e = rw e (kept_le o C flag)

pub carry_made : (C A B : List ℕ) (s : Stage) (flag : ℕ) (k : Carry) (places placesAfter index index_after : List ℕ) → k.stay ≡ kept s.inputs.order C flag
    → TextSpansLeft B places k.spans index index_after → HomesLeft s.inputs.order C A k.stay k.homes places placesAfter
    → CarryMade C A B s flag k places placesAfter index index_after
carry_made C A B s flag k places placesAfter index index_after e t h = record {
  held = record {
    stays = e;
    rows = t.rows;
    replaced = rw (kept_part HOMES_AT places placesAfter h.kept 0 PLACE_TABLE (omega arith)) t.replaced;
    found = h.found;
  };
  kept_places = h.kept;
  kept_index = t.kept;
}
