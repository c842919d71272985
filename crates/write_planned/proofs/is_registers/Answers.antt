-- The two tests of .reginfo. Assumes nothing.
use Rattle.write_planned.proofs.OwnKinds.{registers_read}
use Rattle.write_planned.proofs.is_registers.Goals as goal

pub returns : goal.returns
returns c =
    let v-args = c.args in
    let v-has-coded = c.has_coded in
    let v-section = c.section in
    let v_both = c.both in
    registers_read v-args.view v-args.i _ _ _ v-has-coded.ensures v-section.ensures v_both.ensures
