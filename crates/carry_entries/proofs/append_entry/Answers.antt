-- An entry that is left out brings nothing; the bytes of another are written where they fit, and counted where not. Assumes nothing.
use mathlib.Core.Path.{ap, ◌∙◌}
use lib.ListN.{length}
use native.Mathlib.Omega.{arith}
use Rattle.base_lists.proofs.Written.{written_none, written_copy, written_short, written_as}
use Rattle.elf_records.specs.Relocation.{has_addend}
use Rattle.carry_entries.proofs.Entries.{placed_none, placed_one, placed_long, width_same, bytes_same, width_few}
use Rattle.carry_entries.proofs.append_entry.Goals as goal

pub returns-then-place-eq-OFFSETS : goal.returns-then-place-eq-OFFSETS
returns-then-place-eq-OFFSETS c =
    let a = c.args in
    written_as _ _ _ _ _ _ (placed_none a.side a.numbers.now a.place a.entry c.if-place-eq-OFFSETS.true) (written_none _ _)

pub overflow_add-end : goal.overflow_add-end
overflow_add-end c =
    record { fits = omega (arith, c.requires.1, c.requires.3, width_few (has_addend c.args.entry)) }

pub overflow_cast-place : goal.overflow_cast-place
overflow_cast-place c = record { fits = omega (arith, c.if-place-eq-OFFSETS.false, c.requires.2) }

pub carried_entry-carried-requires : goal.carried_entry-carried-requires
carried_entry-carried-requires c = c.requires.0

pub write-requires : goal.write-requires
write-requires c =
    let a = c.args in
    let w = width_same a.side a.numbers.now a.place a.entry _ c.carried_entry-carried.ensures in
    omega (arith, w, c.requires.1, c.if-end-out.true)

pub returns-then-end-out : goal.returns-then-end-out
returns-then-end-out c =
    let a = c.args in
    let write = c.write in
    let l = placed_long a.side a.numbers.now a.place a.entry in
    let e = bytes_same a.side a.numbers.now a.place a.entry _ c.carried_entry-carried.ensures in
    let f = placed_one a.side a.numbers.now a.place a.entry c.if-place-eq-OFFSETS.false in
    written_as _ _ _ _ _ _ (e ∙ f) (written_copy _ _ _ _ _ (omega (arith, l, ap length e, c.requires.1)) write.auto.s write.ensures)

pub returns-else-end-out : goal.returns-else-end-out
returns-else-end-out c =
    let a = c.args in
    let l = placed_long a.side a.numbers.now a.place a.entry in
    let f = placed_one a.side a.numbers.now a.place a.entry c.if-place-eq-OFFSETS.false in
    written_as _ _ _ _ _ _ f (written_short _ _ _ _ (omega (arith, l, c.requires.1)) (omega (arith, c.if-end-out.false)))
