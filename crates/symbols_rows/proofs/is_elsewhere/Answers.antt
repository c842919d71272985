-- The three ways are those of the test: undefined, in the section of its holder, in another. Assumes nothing.
use Rattle.symbols_rows.proofs.Faults.{elsewhere_undefined, elsewhere_value, elsewhere_section}
use Rattle.symbols_rows.proofs.is_elsewhere.Goals as goal

pub row_at-held-requires : goal.row_at-held-requires
row_at-held-requires c =
    rw c.half_at.ensures.0 c.requires.holder

pub returns-then-row-eq-SHN_UNDEF : goal.returns-then-row-eq-SHN_UNDEF
returns-then-row-eq-SHN_UNDEF c =
    let a = c.args in
    elsewhere_undefined a.rows.now a.list.now a.holders.now a.p _ _ _ c.row_at-row.ensures c.row_at-held.ensures c.half_at.ensures.0 c.if-row-eq-SHN_UNDEF.true

pub returns-then-row-held : goal.returns-then-row-held
returns-then-row-held c =
    let a = c.args in
    elsewhere_value a.rows.now a.list.now a.holders.now a.p _ _ _ c.row_at-row.ensures c.row_at-held.ensures c.half_at.ensures.0 c.if-row-eq-SHN_UNDEF.false c.if-row-held.true

pub returns : goal.returns
returns c =
    let a = c.args in
    elsewhere_section a.rows.now a.list.now a.holders.now a.p _ _ _ c.row_at-row.ensures c.row_at-held.ensures c.half_at.ensures.0 c.if-row-eq-SHN_UNDEF.false c.if-row-held.false
