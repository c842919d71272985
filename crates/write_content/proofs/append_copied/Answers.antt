-- The bytes are counted first, and written where they fit. Assumes nothing.
use native.Mathlib.Omega.{arith}
use mathlib.Core.Path.{ap}
use lib.ListN.{length}
use Rattle.base_lists.proofs.Written.{written_copy, written_short}
use Rattle.blocks_places.specs.Lines.{line_count}
use Rattle.blocks_places.specs.Table.{places_in}
use Rattle.elf_readers.proofs.Readers.{coded_short}
use Rattle.symbols_table.proofs.of_merge_sections.Sections.{section_length}
use Rattle.write_content.proofs.append_copied.Goals as goal

pub coded_contents-part-requires : goal.coded_contents-part-requires
coded_contents-part-requires c =
    let v-pre = c.requires in
    (v-pre.0.read.compiled, v-pre.2, omega (arith, v-pre.3))

pub write_coded-requires : goal.write_coded-requires
write_coded-requires c =
    let v-pre = c.requires in
    let v-coded-contents = c.coded_contents-part in
    let v-if1 = c.if-end-out in
    (v-pre.0, v-pre.1, omega (arith, ap length v-coded-contents.ensures, v-if1.true), v-pre.2, v-pre.3)

pub returns-then-end-out : goal.returns-then-end-out
returns-then-end-out c =
    let v-args = c.args in
    let v-pre = c.requires in
    let v-coded-contents = c.coded_contents-part in
    let v-write-coded = c.write_coded in
    let P = places_in v-args.places.now (line_count v-args.file.now) in
    let e = ap length v-coded-contents.ensures in
    let n = section_length v-args.stage.inputs.order v-args.compiled.now v-args.assembled.now P v-args.file.now v-args.code in
    let s = coded_short v-args.stage.inputs.order v-args.compiled.now v-args.code in
    (written_copy _ _ _ _ _ (omega (arith, e, n)) v-write-coded.auto.out v-write-coded.ensures, omega (arith, e, s, v-pre.0.read.compiled_small))

pub returns-else-end-out : goal.returns-else-end-out
returns-else-end-out c =
    let v-args = c.args in
    let v-pre = c.requires in
    let v-coded-contents = c.coded_contents-part in
    let v-if1 = c.if-end-out in
    let P = places_in v-args.places.now (line_count v-args.file.now) in
    let e = ap length v-coded-contents.ensures in
    let n = section_length v-args.stage.inputs.order v-args.compiled.now v-args.assembled.now P v-args.file.now v-args.code in
    let s = coded_short v-args.stage.inputs.order v-args.compiled.now v-args.code in
    (written_short _ _ _ _ (omega (arith, e, n)) (omega (arith, v-if1.false)), omega (arith, e, s, v-pre.0.read.compiled_small))
