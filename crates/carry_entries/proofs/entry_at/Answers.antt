-- The entry lies in its table, and that in the file. Assumes nothing.
use native.Mathlib.Omega.{arith}
use mathlib.Core.Path.{◌∙◌}
use Rattle.carry_entries.proofs.Goals.{entry_width, entry_inside_lem, entry_read}
use Rattle.carry_entries.proofs.entry_at.Goals as goal

pub overflow_mul-table : goal.overflow_mul-table
overflow_mul-table c =
    let a = c.args in
    let h = entry_inside_lem a.order a.file.now a.table a.k c.requires.1 c.requires.0 c.requires.2 in
    record { fits = omega (arith, h) }

pub overflow_add-table : goal.overflow_add-table
overflow_add-table c =
    let a = c.args in
    let h = entry_inside_lem a.order a.file.now a.table a.k c.requires.1 c.requires.0 c.requires.2 in
    record { fits = omega (arith, h) }

pub new-requires : goal.new-requires
new-requires c =
    let a = c.args in
    let h = entry_inside_lem a.order a.file.now a.table a.k c.requires.1 c.requires.0 c.requires.2 in
    let w = entry_width a.order a.file.now a.table a.k c.requires.1 in
    omega (arith, h, w)

pub returns : goal.returns
returns c =
    let a = c.args in
    c.new.ensures ∙ entry_read a.order a.file.now a.table a.k c.requires.1
