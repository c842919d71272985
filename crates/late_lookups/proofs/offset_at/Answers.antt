-- `late_lookups::offset_at` meets its contract: the tests say which case of `offset_at` holds. Assumes nothing.
use Rattle.late_lookups.proofs.Fields.{start_past, offset_none, offset_odd, offset_is, first_past_after}
use native.Mathlib.Omega.{arith}
use mathlib.Core.Path.{sym, ◌∙◌}
use Rattle.late_lookups.proofs.offset_at.Goals as goal

pub returns-then-i-n : goal.returns-then-i-n
returns-then-i-n c =
    let a = c.args in
    let p = c.requires in
    offset_none a.late.now a.n a.x (omega (arith, c.row_past-i.ensures.0))

pub is_start-requires : goal.is_start-requires
is_start-requires c =
    let p = c.requires in
    let g = c.row_past-i in
    p.rows g.result (omega (arith, g.ensures.1))

pub place_in_row-requires : goal.place_in_row-requires
place_in_row-requires c =
    let a = c.args in
    let p = c.requires in
    let g = c.row_past-i in
    let t = start_past a.late.now g.result a.x (sym c.is_start.ensures ∙ c.if-is_start.true) in
    let u = first_past_after a.late.now a.n p 0 (omega arith) a.x (omega (arith, g.ensures.0, g.ensures.1)) in
    (p.rows g.result (omega (arith, g.ensures.1)), t.0, rw g.ensures.0 u)

pub returns-then-is_start : goal.returns-then-is_start
returns-then-is_start c =
    let a = c.args in
    let p = c.requires in
    let g = c.row_past-i in
    offset_is a.late.now a.n a.x g.result c.place_in_row.result g.ensures.0 (omega (arith, g.ensures.1)) (sym c.is_start.ensures ∙ c.if-is_start.true)
    c.place_in_row.ensures

pub returns : goal.returns
returns c =
    let a = c.args in
    let p = c.requires in
    let g = c.row_past-i in
    offset_odd a.late.now a.n a.x g.result g.ensures.0 (omega (arith, g.ensures.1)) (sym c.is_start.ensures ∙ c.if-is_start.false)
