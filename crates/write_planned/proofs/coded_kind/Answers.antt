-- Each test tells one kind. Assumes nothing.
use Rattle.write_planned.proofs.OwnKinds.{kind_registers, kind_copied, kind_other}
use Rattle.write_planned.proofs.coded_kind.Goals as goal

pub returns-then-is_registers : goal.returns-then-is_registers
returns-then-is_registers c =
    let v-args = c.args in
    let v-pre = c.requires in
    let v-is-registers = c.is_registers in
    let v-if1 = c.if-is_registers in
    kind_registers v-args.order v-args.compiled.now v-args.view v-pre.is v-args.i _ v-is-registers.ensures v-if1.true

pub returns-then-code_of-lt-BSS : goal.returns-then-code_of-lt-BSS
returns-then-code_of-lt-BSS c =
    let v-args = c.args in
    let v-pre = c.requires in
    let v-is-registers = c.is_registers in
    let v-if1 = c.if-is_registers in
    let v-code-of = c.code_of in
    let v-if2 = c.if-code_of-lt-BSS in
    kind_copied v-args.order v-args.compiled.now v-args.view v-pre.is v-args.i _ v-is-registers.ensures v-if1.false _ v-code-of.ensures.0
    v-if2.true

pub returns : goal.returns
returns c =
    let v-args = c.args in
    let v-pre = c.requires in
    let v-is-registers = c.is_registers in
    let v-if1 = c.if-is_registers in
    let v-code-of = c.code_of in
    let v-if2 = c.if-code_of-lt-BSS in
    kind_other v-args.order v-args.compiled.now v-args.view v-pre.is v-args.i _ v-is-registers.ensures v-if1.false _ v-code-of.ensures.0
    v-if2.false
