-- Where all entries stay and do not fit, they are counted; else after k turns the bytes of the first k entries are appended. Assumes nothing.
use Prim.Native.Nat.{◌≤◌}
use mathlib.Core.Path.{◌≡◌, sym, ◌∙◌}
use native.Mathlib.Omega.{arith}
use Rattle.base_lists.proofs.Written.{written_short, written_as}
use Rattle.elf_relocations.specs.Relocations.{relocation_count}
use Rattle.carry_entries.specs.Code.{moves_of, goal_in, carrying_in, StandsAt}
use Rattle.carry_entries.proofs.Goals.{stays_for, stays_in}
use Rattle.carry_entries.proofs.Entries.{put_none, put_next, put_end, put_short, carried_short, still_long}
use Rattle.carry_entries.proofs.Entries.{stands_same, brings_placed, brought_same, size_read, table_in, table_index, table_entry}
use Rattle.carry_entries.proofs.append_entries.Goals as goal
use Rattle.carry_entries.proofs.append_entries.Goals.{then-not-is_in_gap, else-not-is_in_gap}

pub table_at-table-requires : goal.table_at-table-requires
table_at-table-requires c =
    (c.requires.0.goals.viewed, c.requires.1)

pub relocation_count-n-requires : goal.relocation_count-n-requires
relocation_count-n-requires c =
    (c.requires.0.goals.viewed.named.headed, c.requires.1)

pub overflow_mul-all : goal.overflow_mul-all
overflow_mul-all c =
    let a = c.args in
    let w = carrying_in a.file.now a.side a.rows.now a.late.now a.numbers.now in
    let l = still_long a.file.now a.side a.rows.now a.late.now a.numbers.now a.t _ c.table_at-table.ensures
    (sym c.is_still.ensures ∙ c.if-is_still.true) _ c.relocation_count-n.ensures in
    let s = carried_short a.side.order a.file.now w a.t c.requires.0.goals.viewed.named.headed c.requires.1 c.requires.2 in
    record { fits = omega (arith, l, s, c.requires.3) }

pub overflow_add-all : goal.overflow_add-all
overflow_add-all c =
    let a = c.args in
    let w = carrying_in a.file.now a.side a.rows.now a.late.now a.numbers.now in
    let l = still_long a.file.now a.side a.rows.now a.late.now a.numbers.now a.t _ c.table_at-table.ensures
    (sym c.is_still.ensures ∙ c.if-is_still.true) _ c.relocation_count-n.ensures in
    let s = carried_short a.side.order a.file.now w a.t c.requires.0.goals.viewed.named.headed c.requires.1 c.requires.2 in
    record { fits = omega (arith, l, s, c.requires.3, c.requires.4) }

pub returns-then-all-out : goal.returns-then-all-out
returns-then-all-out c =
    let a = c.args in
    let w = carrying_in a.file.now a.side a.rows.now a.late.now a.numbers.now in
    let l = still_long a.file.now a.side a.rows.now a.late.now a.numbers.now a.t _ c.table_at-table.ensures
    (sym c.is_still.ensures ∙ c.if-is_still.true) _ c.relocation_count-n.ensures in
    let s = carried_short a.side.order a.file.now w a.t c.requires.0.goals.viewed.named.headed c.requires.1 c.requires.2 in
    (written_short _ _ _ _ (omega (arith, l)) (omega (arith, c.if-all-out.true)), omega (arith, l, s, c.requires.3))

pub first_gap-gap-requires : goal.first_gap-gap-requires
first_gap-gap-requires c = c.requires.0.goals.spans

pub loop-k-init : goal.loop-k-init
loop-k-init c =
    let a = c.args in (
      omega arith,
      put_none a.side.order a.file.now (carrying_in a.file.now a.side a.rows.now a.late.now a.numbers.now) a.t a.out.now a.at,
      c.first_gap-gap.ensures a.late.now,
    )

pub entry_at-entry-requires : goal.entry_at-entry-requires
entry_at-entry-requires c =
    let table_at = c.table_at-table in
    let a = c.args in (
      c.requires.0.goals.viewed.named.headed,
      table_in a.side.order a.file.now a.t _ table_at.ensures c.requires.1 c.requires.2,
      table_entry a.side.order a.file.now a.t _ table_at.ensures _ _ c.relocation_count-n.ensures c.loop-k-test.true,
    )

pub gap_for-gap-requires : goal.gap_for-gap-requires
gap_for-gap-requires c = c.requires.0.goals.spans

pub place_asked-place-requires : goal.place_asked-place-requires
place_asked-place-requires c =
    let p = c.requires.0.goals in
    (p.spans, p.moves)

pub append_entry-next-requires : goal.append_entry-next-requires
append_entry-next-requires c =
    let a = c.args in
    let l = c.loop-k in
    let is = (table_in a.side.order a.file.now a.t _ c.table_at-table.ensures c.requires.1 c.requires.2).is in
    let h : l.k ≤ relocation_count a.side.order a.file.now a.t = omega (arith, l.invariant.0, c.relocation_count-n.ensures) in
    let s = put_short a.side.order a.file.now (carrying_in a.file.now a.side a.rows.now a.late.now a.numbers.now) a.t
    c.requires.0.goals.viewed.named.headed c.requires.1 c.requires.2 l.k h in (
      c.requires.0.symbols,
      size_read a.file.now a.side a.rows.now a.late.now a.numbers.now _ is l.k _ c.entry_at-entry.ensures,
      elim c.if-not-is_in_gap.branch [
        | then-not-is_in_gap w ↦ omega (arith, w.place_asked-place.ensures.below, w.place-is)
        | else-not-is_in_gap w ↦ omega (arith, w.place-is)
      ],
      omega (arith, s, l.invariant.1.end, c.requires.3, c.requires.4),
    )

pub loop-k-preserved : goal.loop-k-preserved
loop-k-preserved c =
    let a = c.args in
    let l = c.loop-k in
    let entry = c.entry_at-entry in
    let is = (table_in a.side.order a.file.now a.t _ c.table_at-table.ensures c.requires.1 c.requires.2).is in
    let gap = stays_for a.side _ a.rows.now a.late.now l.gap _ _ l.invariant.2 c.is_sought-sought.ensures c.gap_for-gap.ensures in
    let stands : StandsAt (goal_in (moves_of a.side) a.rows.now a.late.now c.table_at-table.result.code entry.result.r_offset) c.if-not-is_in_gap.place = elim c.if-not-is_in_gap.branch [
      | then-not-is_in_gap w ↦ rw w.place-is w.place_asked-place.ensures
      | else-not-is_in_gap w ↦
          let goal = stays_in a.side _ a.rows.now a.late.now _ gap _ _ c.is_in_gap.ensures w.if-not-is_in_gap.false in
          rw w.place-is (stands_same _ _ goal (omega arith))
    ] in
    let e = brought_same a.file.now a.side a.rows.now a.late.now a.numbers.now _ is l.k _ entry.ensures a.t
    (table_index a.side.order a.file.now a.t _ c.table_at-table.ensures) in
    let f = brings_placed a.side a.rows.now a.late.now a.numbers.now _ _ _ stands in (
      omega (arith, c.loop-k-test.true),
      put_next a.side.order a.file.now (carrying_in a.file.now a.side a.rows.now a.late.now a.numbers.now) a.t a.out.now a.at l.k
          l.next l.out _ _ l.invariant.1 (written_as _ _ _ _ _ _ (f ∙ e) c.append_entry-next.ensures),
      gap,
    )

pub shape_of-out : goal.shape_of-out
shape_of-out c = c.loop-k.invariant.1.long

pub returns : goal.returns
returns c =
    let a = c.args in
    let l = c.loop-k in
    let w = carrying_in a.file.now a.side a.rows.now a.late.now a.numbers.now in
    let e : l.k ≡ relocation_count a.side.order a.file.now a.t = omega (arith, c.loop-k-test.false, l.invariant.0, c.relocation_count-n.ensures) in
    let s = put_short a.side.order a.file.now w a.t c.requires.0.goals.viewed.named.headed c.requires.1 c.requires.2 l.k (omega (arith, e)) in (
      put_end a.side.order a.file.now w a.t a.out.now a.at l.k l.next l.out l.invariant.1 e,
      omega (arith, s, l.invariant.1.end, c.requires.3),
    )
