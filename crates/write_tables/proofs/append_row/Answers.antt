-- The entries of a table whose home the section is; none of another. Assumes nothing.
use mathlib.Core.Path.{sym, ap, ◌∙◌}
use native.Mathlib.Omega.{arith}
use Rattle.base_lists.proofs.Written.{written_none, written_as}
use Rattle.carry_entries.specs.Entries.{carried_bytes}
use Rattle.carry_entries.specs.Code.{carrying_in}
use Rattle.write_tables.proofs.Tables.{brought_here, brought_none}
use Rattle.write_tables.proofs.append_row.Goals as goal

pub append_entries-requires : goal.append_entries-requires
append_entries-requires c =
    let v-table-at = c.table_at-t in
    let v-pre = c.requires in
    let v-args = c.args in
    let e = v-table-at.ensures.0 in
    (v-pre.0, rw e (v-pre.1.below v-args.j v-pre.2), rw e (v-pre.1.kind v-args.j v-pre.2), v-pre.3, v-pre.4)

pub returns-then-home_at-i : goal.returns-then-home_at-i
returns-then-home_at-i c =
    let v-args = c.args in
    let v-home-at = c.home_at in
    let v-if1 = c.if-home_at-i in
    let v-table-at = c.table_at-t in
    let v-append-entries = c.append_entries in
    let w = carried_bytes v-args.side.order v-args.file.now (carrying_in v-args.file.now v-args.side v-args.rows.now v-args.late.now v-args.numbers.now) in
    let h = sym v-home-at.ensures.0 ∙ v-if1.true in
    (written_as _ _ _ _ _ _ (ap w v-table-at.ensures.0 ∙ brought_here v-args.homes.now w v-args.i v-args.j h) v-append-entries.ensures.0, v-append-entries.ensures.1)

pub returns : goal.returns
returns c =
    let v-args = c.args in
    let v-if1 = c.if-home_at-i in
    let v-home-at = c.home_at in
    let w = carried_bytes v-args.side.order v-args.file.now (carrying_in v-args.file.now v-args.side v-args.rows.now v-args.late.now v-args.numbers.now) in
    (written_as _ _ _ _ _ _ (brought_none v-args.homes.now w v-args.i v-args.j (λ q. v-if1.false (v-home-at.ensures.0 ∙ q))) (written_none _ _), omega arith)
