-- Entry 0 is zeros; another is the entry of the id that the order has for it. Assumes nothing.
use Rattle.symbols_table.proofs.Entries.{entry_null, entry_order, entry_row, entry_id, entry_made}
use Rattle.symbols_table.proofs.entry_at.Goals as goal

pub returns-then-k-eq0 : goal.returns-then-k-eq0
returns-then-k-eq0 c =
    let a = c.args in
    entry_null a.compiled.now a.assembled.now a.statics.now a.marks.now a.rows.now a.list.now a.order.now a.n a.k _ c.if-k-eq0.true c.null_entry.ensures

pub id_in_order-id-requires : goal.id_in_order-id-requires
id_in_order-id-requires c =
    let a = c.args in
    entry_order a.compiled.now a.assembled.now a.statics.now a.marks.now a.rows.now a.list.now a.order.now a.n c.requires.0 a.k c.requires.1 c.if-k-eq0.false

pub id_at-row-requires : goal.id_at-row-requires
id_at-row-requires c =
    let a = c.args in
    entry_row a.compiled.now a.assembled.now a.statics.now a.marks.now a.rows.now a.list.now a.order.now a.n c.requires.0 a.k c.requires.1 c.if-k-eq0.false _ c.id_in_order-id.ensures

pub entry_of_id-requires : goal.entry_of_id-requires
entry_of_id-requires c =
    let a = c.args in
    entry_id a.compiled.now a.assembled.now a.statics.now a.marks.now a.rows.now a.list.now a.order.now a.n c.requires.0 a.k c.requires.1 c.if-k-eq0.false _ c.id_in_order-id.ensures

pub returns : goal.returns
returns c =
    let a = c.args in
    entry_made a.compiled.now a.assembled.now a.statics.now a.marks.now a.rows.now a.list.now a.order.now a.n c.requires.0 a.k c.requires.1 c.if-k-eq0.false _ c.id_in_order-id.ensures _ _ c.id_at-row.ensures c.entry_of_id.ensures
