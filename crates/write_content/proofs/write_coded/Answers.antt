-- The late target is written with its late moves; what block copying makes of another section is its result. Assumes nothing.
use native.Mathlib.Omega.{arith}
use Prim.Native.Nat.{ℕ}
use mathlib.Core.Path.{ap}
use lib.ListN.{length}
use Rattle.elf_readers.specs.Readers.{coded_contents}
use Rattle.blocks_places.specs.Lines.{line_count}
use Rattle.blocks_places.specs.Table.{places_in}
use Rattle.write_content.proofs.Content.{copied_holds, target_written, copied_written}
use Rattle.write_content.proofs.write_coded.Goals as goal

pub write_late_target-requires : goal.write_late_target-requires
write_late_target-requires c =
    let v-args = c.args in
    let v-pre = c.requires in
    let v-if1 = c.if-code-eq-LATE_TARGET in
    let e = ap (λ (x : ℕ). length (coded_contents v-args.stage.inputs.order v-args.compiled.now x)) v-if1.true in
    (v-pre.0, v-pre.1, omega (arith, e, v-pre.2))

pub returns-then-code-eq-LATE_TARGET : goal.returns-then-code-eq-LATE_TARGET
returns-then-code-eq-LATE_TARGET c =
    let v-args = c.args in
    let v-if1 = c.if-code-eq-LATE_TARGET in
    let v-write-late-target = c.write_late_target in
    let P = places_in v-args.places.now (line_count v-args.file.now) in
    target_written v-args.stage.inputs.order v-args.compiled.now v-args.assembled.now P v-args.file.now v-args.code v-args.out.now v-args.at v-write-late-target.new.out v-if1.true v-write-late-target.ensures.1

pub write_section-requires : goal.write_section-requires
write_section-requires c =
    let v-args = c.args in
    let v-pre = c.requires in
    let v-if1 = c.if-code-eq-LATE_TARGET in
    (v-pre.0.read, v-pre.0.agrees.complete, copied_holds v-args.code v-pre.3 v-pre.4 v-if1.false, v-pre.2)

pub returns : goal.returns
returns c =
    let v-args = c.args in
    let v-pre = c.requires in
    let v-if1 = c.if-code-eq-LATE_TARGET in
    let v-write-section = c.write_section in
    let P = places_in v-args.places.now (line_count v-args.file.now) in
    copied_written v-args.stage.inputs.order v-args.compiled.now v-args.assembled.now P v-args.file.now v-args.code v-args.out.now v-args.at v-write-section.new.out v-pre.3 v-pre.4 v-if1.false v-write-section.ensures.1
