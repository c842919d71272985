-- The symbol table's sh_info is how many entries are local. Assumes nothing.
use mathlib.Core.Path.{refl, ◌∙◌}
use native.Mathlib.Omega.{arith}
use Rattle.merge_kept.proofs.Kept.{kept_le}
use Rattle.write_planned.proofs.Headings.{locals_fit, heading_symbols, heading_other}
use Rattle.write_planned.proofs.kept_heading.Goals as goal

pub section_at-h-requires : goal.section_at-h-requires
section_at-h-requires c =
    let v-pre = c.requires in
    let v-args = c.args in (
      v-pre.0.read.read.compiled.named.headed,
      omega (
        arith,
        v-pre.1,
        v-pre.0.carried.stays,
        kept_le v-args.x.stage.inputs.order v-args.compiled.now
            v-args.x.flag,
      ),
    )

pub overflow_cast-locals : goal.overflow_cast-locals
overflow_cast-locals c =
    let v-args = c.args in
    let v-pre = c.requires in
    record {
      fits = omega (
        arith,
        locals_fit v-args.compiled.now v-args.assembled.now v-args.file.now v-args.path.now v-args.x v-args.table.now v-args.places.now v-args.steps.now v-args.index.now v-pre.0,
      );
    }

pub returns-then-i-own : goal.returns-then-i-own
returns-then-i-own c =
    let v-with-info = c.with_info in
    let v-args = c.args in
    let v-pre = c.requires in
    let v-section-at = c.section_at-h in
    let v-if1 = c.if-i-own in
    v-with-info.ensures ∙ heading_symbols v-args.compiled.now v-args.assembled.now v-args.file.now v-args.path.now v-args.x v-args.table.now v-args.places.now v-args.steps.now v-args.index.now v-pre.0 v-args.i v-pre.1 _ v-section-at.ensures _ refl v-if1.true

pub returns : goal.returns
returns c =
    let v-args = c.args in
    let v-pre = c.requires in
    let v-section-at = c.section_at-h in
    let v-if1 = c.if-i-own in
    heading_other v-args.compiled.now v-args.assembled.now v-args.file.now v-args.path.now v-args.x v-args.table.now v-args.places.now
    v-args.steps.now v-args.index.now v-pre.0 v-args.i v-pre.1 _ v-section-at.ensures v-if1.false
