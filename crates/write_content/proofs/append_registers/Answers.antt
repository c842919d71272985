-- The bytes are counted first, and written where they fit. Assumes nothing.
use native.Mathlib.Omega.{arith}
use mathlib.Core.Path.{ap}
use lib.ListN.{length}
use Rattle.base_lists.proofs.Written.{written_copy, written_short}
use Rattle.base_scope.specs.Codes.{REGINFO}
use Rattle.elf_readers.proofs.Readers.{coded_short}
use Rattle.symbols_table.proofs.of_merge_sections.Sections.{registers_length}
use Rattle.write_content.proofs.append_registers.Goals as goal

pub write_registers-requires : goal.write_registers-requires
write_registers-requires c =
    let v-pre = c.requires in
    let v-coded-contents = c.coded_contents-part in
    let v-if1 = c.if-end-out in
    (v-pre.0, v-pre.1, omega (arith, ap length v-coded-contents.ensures, v-if1.true))

pub returns-then-end-out : goal.returns-then-end-out
returns-then-end-out c =
    let v-args = c.args in
    let v-coded-contents = c.coded_contents-part in
    let v-write-registers = c.write_registers in
    let e = ap length v-coded-contents.ensures in
    let n = registers_length v-args.inputs.order v-args.compiled.now v-args.assembled.now in
    let s = coded_short v-args.inputs.order v-args.compiled.now REGINFO in
    (written_copy _ _ _ _ _ (omega (arith, e, n)) v-write-registers.auto.out v-write-registers.ensures, omega (arith, e, s))

pub returns-else-end-out : goal.returns-else-end-out
returns-else-end-out c =
    let v-args = c.args in
    let v-coded-contents = c.coded_contents-part in
    let v-if1 = c.if-end-out in
    let e = ap length v-coded-contents.ensures in
    let n = registers_length v-args.inputs.order v-args.compiled.now v-args.assembled.now in
    let s = coded_short v-args.inputs.order v-args.compiled.now REGINFO in
    (written_short _ _ _ _ (omega (arith, e, n)) (omega (arith, v-if1.false)), omega (arith, e, s))
