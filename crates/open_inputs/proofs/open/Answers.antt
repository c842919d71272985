-- Each test that refuses ends the walk; where all pass, what reading the blocks and placing their lines left are the tables in hand. Assumes nothing.
use Rattle.base_scope.proofs.Refusals.{err_through}
use Rattle.open_inputs.proofs.Order.{open_check, open_read, open_placed, open_sound, read_as, placed_as, placed_of}
use Rattle.open_inputs.proofs.Buffers.{parsed_rows, parsed_kept}
use Rattle.open_inputs.proofs.Opening.{opening_refused, opening_blocks, laid_open}
use mathlib.Core.Path.{sym, ◌∙◌}
use native.Mathlib.Omega.{arith}
use Rattle.open_inputs.proofs.open.Goals as goal

pub returns-in_err-check_verdict : goal.returns-in_err-check_verdict
returns-in_err-check_verdict c =
    let a = c.args in
    rw (err_through c.from_residual.ensures.1)
    (opening_refused a.compiled.now a.file.now _ _ _ _ _ (open_check a.compiled.now a.file.now _ _ _ (sym c.check_verdict.ensures ∙ c.in_err-check_verdict.was)))

pub returns-in_err-finding_verdict : goal.returns-in_err-finding_verdict
returns-in_err-finding_verdict c =
    let a = c.args in
    let x = sym c.check_verdict.ensures ∙ c.in_ok-check_verdict.was in
    let y = read_as a.file.now _ _ _ c.read_rows-blocks.ensures.fault c.finding_verdict.ensures c.in_err-finding_verdict.was in
    rw (err_through c.from_residual-in_err-finding_verdict.ensures.1)
    (opening_refused a.compiled.now a.file.now _ _ _ _ _ (open_read a.compiled.now a.file.now x _ _ _ y))

pub symbol_table-symbols-requires : goal.symbol_table-symbols-requires
symbol_table-symbols-requires c = (open_sound c.args.compiled.now _ (sym c.check_verdict.ensures ∙ c.in_ok-check_verdict.was) c.order_of-order.ensures).tabled

pub place_lines-placing-requires : goal.place_lines-placing-requires
place_lines-placing-requires c =
    let a = c.args in
    let r = c.read_rows-blocks in
    let s = open_sound a.compiled.now _ (sym c.check_verdict.ensures ∙ c.in_ok-check_verdict.was) c.order_of-order.ensures in (
      record { tabled = s.tabled; is = c.symbol_table-symbols.ensures },
      parsed_rows a.file.now _ a.table.now _ c.requires.0 c.requires.1 r.ensures,
      r.ensures.count,
      c.requires.2,
      omega (arith, c.requires.1, r.auto.table),
    )

pub returns-in_err-placing_verdict : goal.returns-in_err-placing_verdict
returns-in_err-placing_verdict c =
    let a = c.args in
    let x = sym c.check_verdict.ensures ∙ c.in_ok-check_verdict.was in
    let y = read_as a.file.now _ _ _ c.read_rows-blocks.ensures.fault c.finding_verdict.ensures c.in_ok-finding_verdict.was in
    let z = placed_as a.compiled.now a.file.now _ _ _ _ c.order_of-order.ensures c.place_lines-placing.ensures.0.answer c.placing_verdict.ensures c.in_err-placing_verdict.was in
    rw (err_through c.from_residual-in_err-placing_verdict.ensures.1)
    (opening_refused a.compiled.now a.file.now _ _ _ _ _ (open_placed a.compiled.now a.file.now x _ y z))

pub returns : goal.returns
returns c =
    let a = c.args in
    let q = c.requires in
    let r = c.read_rows-blocks in
    let w = c.place_lines-placing in
    let x = sym c.check_verdict.ensures ∙ c.in_ok-check_verdict.was in
    let y = read_as a.file.now _ _ _ r.ensures.fault c.finding_verdict.ensures c.in_ok-finding_verdict.was in
    let z = placed_as a.compiled.now a.file.now _ _ _ _ c.order_of-order.ensures w.ensures.0.answer c.placing_verdict.ensures c.in_ok-placing_verdict.was in
    let p = placed_of _ _ c.placing_verdict.ensures c.in_ok-placing_verdict.was in
    opening_blocks a.compiled.now a.file.now _ _ _ (open_placed a.compiled.now a.file.now x _ y z) r.ensures.count
    (laid_open a.compiled.now a.file.now _ _ _ _ c.order_of-order.ensures (sym w.ensures.0.answer ∙ p) (λ i. omega (arith, c.type_inv.compiled i))
    (parsed_kept a.file.now _ _ w.ensures.1 (parsed_rows a.file.now _ a.table.now _ q.0 q.1 r.ensures))
    q.2 w.auto.places w.ensures.0.rows)
