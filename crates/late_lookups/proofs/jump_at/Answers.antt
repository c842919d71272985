-- `late_lookups::jump_at` meets its contract: the tests say which case of `jump_at` holds. Assumes nothing.
use Rattle.late_lookups.proofs.Fields.{jump_none, jump_is}
use native.Mathlib.Omega.{arith}
use Rattle.late_lookups.proofs.jump_at.Goals as goal

pub returns-then-i-n : goal.returns-then-i-n
returns-then-i-n c =
    let a = c.args in
    let p = c.requires in
    jump_none a.late.now a.n a.x (omega (arith, c.row_past-i.ensures.0))

pub is_table_word-requires : goal.is_table_word-requires
is_table_word-requires c =
    let p = c.requires in
    let g = c.row_past-i in
    (p.rows g.result (omega (arith, g.ensures.1)), omega arith)

pub returns : goal.returns
returns c =
    let a = c.args in
    let p = c.requires in
    let g = c.row_past-i in
    jump_is a.late.now a.n a.x g.result c.is_table_word.result g.ensures.0 (omega (arith, g.ensures.1)) c.is_table_word.ensures
