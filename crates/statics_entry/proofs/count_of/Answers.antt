-- Above level 1 the next count of the name, else none. Assumes nothing.
use Rattle.statics_table.specs.Table.{statics_in}
use Rattle.statics_entry.specs.Entry.{count_of}
use Rattle.statics_entry.proofs.Entry.{count_nested, count_plain}
use native.Mathlib.Omega.{arith}
use mathlib.Core.Path.{◌≡◌, sym, ap, ◌∙◌}
use mathlib.Core.Bool.{true, false}
use Rattle.statics_entry.proofs.count_of.Goals as goal

pub next_number-requires : goal.next_number-requires
next_number-requires c = c.requires

pub returns-then-nested : goal.returns-then-nested
returns-then-nested c =
    let a = c.args in
    let e : a.nested ≡ true = c.if-nested.true in (
      c.next_number.ensures.0
          ∙ count_nested a.file.now a.table.now a.n a.name.now
          ∙ ap (count_of a.file.now (statics_in a.table.now a.n) a.name.now) (sym e),
      c.next_number.ensures.1,
    )

pub returns : goal.returns
returns c =
    let a = c.args in
    let e : a.nested ≡ false = c.if-nested.false in (
      count_plain a.file.now a.table.now a.n a.name.now ∙ ap (count_of a.file.now (statics_in a.table.now a.n) a.name.now) (sym e),
      omega arith,
    )
