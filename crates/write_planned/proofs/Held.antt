-- What is in hand is what carrying reads, and stays so where what is read of the index does. Assumes nothing.
use Prim.Native.Nat.{ℕ}
use mathlib.Core.Path.{◌≡◌}
use mathlib.Core.List.{List}
use native.Mathlib.Omega.{arith}
use Rattle.base_scope.specs.Limits.{POSITION_TABLE}
use Rattle.merge_buffers.specs.Buffers.{NUMBERS_AT, SPANS_AT, order_part, numbers_part}
use Rattle.base_buffers.proofs.Parts.{kept_part, kept_same}
use Rattle.carry_stage.specs.Tables.{CARRY_SPANS_AT, HOMES_AT}
use Rattle.carry_stage.specs.Carry.{CarryRead}
use Rattle.carry_stage.proofs.Stage.{ready_carry}
use Rattle.write_planned.specs.declared.Writing.{Writing}
use Rattle.write_planned.specs.Held.{held_places, PlanHeld, SpansOver}

module _ (C A B path : List ℕ) (x : Writing) (table places steps index : List ℕ) (h : PlanHeld C A B path x table places steps index) where
  -- all that carrying reads
  pub held_carry : CarryRead C A (held_places B places) B x.stage x.manner x.carry steps index
  held_carry =
      ready_carry C A B x.stage x.manner x.counts table places steps index h.read h.movable h.symbols h.buffers x.flag x.carry places index
      (record { held = h.carried; kept_places = kept_same HOMES_AT places; kept_index = kept_same CARRY_SPANS_AT index })

  pub held_still : (after : List ℕ) → SpansOver index after → PlanHeld C A B path x table places steps after
  held_still after k =
      let order : order_part after ≡ order_part index = kept_part SPANS_AT index after k.kept 0 POSITION_TABLE (omega arith) in
      let numbers : numbers_part after ≡ numbers_part index = kept_part SPANS_AT index after k.kept NUMBERS_AT POSITION_TABLE (omega arith) in
      record {
        read = h.read;
        movable = h.movable;
        symbols = record {
          positions = h.symbols.positions;
          tables = rw order h.symbols.tables;
          statics_are = h.symbols.statics_are;
          numbers = rw numbers h.symbols.numbers;
          locals_are = h.symbols.locals_are;
        };
        carried = record {
          stays = h.carried.stays;
          rows = rw k.rows h.carried.rows;
          replaced = rw k.rows h.carried.replaced;
          found = h.carried.found;
        };
        buffers = record {
          table_long = h.buffers.table_long;
          places_long = h.buffers.places_long;
          steps_long_lem = h.buffers.steps_long_lem;
          index_long_lem = rw k.kept.long h.buffers.index_long_lem;
        };
        short = h.short;
        head = h.head;
      }
