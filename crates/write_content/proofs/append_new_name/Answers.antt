-- The name of the table that opens the section, then a zero byte. Assumes nothing.
use native.Mathlib.Omega.{arith}
use Rattle.base_lists.proofs.Written.{written_then, written_as}
use Rattle.write_content.proofs.Content.{joined_short, name_ended}
use Rattle.write_content.proofs.append_new_name.Goals as goal

pub opened_by-j-requires : goal.opened_by-j-requires
opened_by-j-requires c =
    let v-pre = c.requires in
    (omega (arith, v-pre.1.rows, v-pre.1.tables.few), omega (arith, v-pre.1.low, v-pre.1.few, v-pre.2))

pub home_name-name-requires : goal.home_name-name-requires
home_name-name-requires c =
    let v-args = c.args in
    let v-pre = c.requires in
    let v-opened-by = c.opened_by-j in
    (v-pre.0, v-pre.1.tables, omega (arith, v-opened-by.ensures, v-pre.1.opened v-args.i v-pre.2, v-pre.1.rows))

pub append_name-end-requires : goal.append_name-end-requires
append_name-end-requires c =
    let v-pre = c.requires in
    let v-home-name = c.home_name-name in
    (omega (arith, v-pre.3), v-home-name.ensures.1, v-home-name.ensures.2)

pub append-requires : goal.append-requires
append-requires c =
    let v-pre = c.requires in
    let v-home-name = c.home_name-name in
    let v-append-name = c.append_name-end in
    let n = joined_short v-home-name.result.rela v-home-name.result.code v-home-name.ensures.1 v-home-name.ensures.2 in
    omega (arith, n, v-pre.3, v-append-name.ensures.end)

pub returns : goal.returns
returns c =
    let v-args = c.args in
    let v-home-name = c.home_name-name in
    let v-opened-by = c.opened_by-j in
    let v-append-name = c.append_name-end in
    let v-append = c.append in
    let n = joined_short v-home-name.result.rela v-home-name.result.code v-home-name.ensures.1 v-home-name.ensures.2 in
    let e = name_ended v-args.order v-args.assembled.now v-args.homes.now v-args.n v-args.stay v-args.i _ v-home-name.result v-opened-by.ensures v-home-name.ensures.0 in
    (written_as _ _ _ _ _ _ e (written_then _ _ _ _ _ _ _ _ v-append-name.ensures v-append.ensures), omega (arith, n, v-append-name.ensures.end, v-append.ensures.end))
