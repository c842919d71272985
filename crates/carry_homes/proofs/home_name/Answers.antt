-- The parts of the name, of the table in the row. Assumes nothing.
use native.Mathlib.Omega.{arith}
use mathlib.Core.Path.{◌≡◌, ap, ◌∙◌}
use Rattle.base_scope.specs.Codes.{target_code}
use Rattle.carry_clash.specs.Clash.{carried_code}
use Rattle.carry_homes.specs.Homes.{carried_table}
use Rattle.carry_homes.proofs.Tables.{carried_lt}
use Rattle.carry_homes.proofs.Steps.{key_is, key_lines}
use Rattle.carry_homes.proofs.home_name.Goals as goal

pub table_at-t-requires : goal.table_at-t-requires
table_at-t-requires c =
    let pre = c.requires in
    omega (arith, pre.1.few, pre.2)

pub carried_code-requires : goal.carried_code-requires
carried_code-requires c =
    let table_at = c.table_at-t in
    let pre = c.requires in
    let args = c.args in
    let e = table_at.ensures.0 ∙ pre.1.is args.j pre.2 in
    (pre.0, rw e (carried_lt args.order args.assembled.now args.j pre.2))

pub is_rela-rela-requires : goal.is_rela-rela-requires
is_rela-rela-requires c =
    let table_at = c.table_at-t in
    let pre = c.requires in
    let args = c.args in
    let e = table_at.ensures.0 ∙ pre.1.is args.j pre.2 in
    (pre.0.named.headed, rw e (carried_lt args.order args.assembled.now args.j pre.2))

pub returns : goal.returns
returns c =
    let args = c.args in
    let table_at = c.table_at-t in
    let pre = c.requires in
    let carried-code = c.carried_code in
    let coded = c.target_code-code in
    let is_rela_lem = c.is_rela-rela in
    let o = args.order in
    let A = args.assembled.now in
    let e : table_at.result ≡ carried_table o A args.j = table_at.ensures.0 ∙ pre.1.is args.j pre.2 in
    let l = key_lines o A args.j _ _ pre.2 (carried-code.ensures.0 ∙ ap (carried_code o A) e) coded.ensures in
    (key_is o A _ args.j _ _ e (coded.ensures ∙ ap target_code carried-code.ensures.0) is_rela_lem.ensures, l.0, l.1)
