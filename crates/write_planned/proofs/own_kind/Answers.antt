-- Each test tells one kind. Assumes nothing.
use Rattle.write_planned.proofs.OwnKinds.{kind_debug, kind_symbols, kind_strings, kind_coded}
use Rattle.write_planned.proofs.own_kind.Goals as goal

pub returns-then-h-eq-SHT_MIPS_DEBUG : goal.returns-then-h-eq-SHT_MIPS_DEBUG
returns-then-h-eq-SHT_MIPS_DEBUG c =
    let v-args = c.args in
    let v-pre = c.requires in
    let v-section-at = c.section_at-h in
    let v-if1 = c.if-h-eq-SHT_MIPS_DEBUG in
    kind_debug v-args.order v-args.compiled.now v-args.view v-pre.0.is v-args.i _ v-section-at.ensures v-if1.true

pub returns-then-i-view : goal.returns-then-i-view
returns-then-i-view c =
    let v-args = c.args in
    let v-pre = c.requires in
    let v-section-at = c.section_at-h in
    let v-if1 = c.if-h-eq-SHT_MIPS_DEBUG in
    let v-if2 = c.if-i-view in
    kind_symbols v-args.order v-args.compiled.now v-args.view v-pre.0.is v-args.i _ v-section-at.ensures v-if1.false v-if2.true

pub returns-then-i-view-2 : goal.returns-then-i-view-2
returns-then-i-view-2 c =
    let v-args = c.args in
    let v-pre = c.requires in
    let v-section-at = c.section_at-h in
    let v-if1 = c.if-h-eq-SHT_MIPS_DEBUG in
    let v-if2 = c.if-i-view in
    let v-if3 = c.if-i-view-2 in
    kind_strings v-args.order v-args.compiled.now v-args.view v-pre.0.is v-args.i _ v-section-at.ensures v-if1.false v-if2.false v-if3.true

pub coded_kind-requires : goal.coded_kind-requires
coded_kind-requires c =
    let v-pre = c.requires in
    v-pre.0

pub returns : goal.returns
returns c =
    let v-args = c.args in
    let v-pre = c.requires in
    let v-section-at = c.section_at-h in
    let v-if1 = c.if-h-eq-SHT_MIPS_DEBUG in
    let v-if2 = c.if-i-view in
    let v-if3 = c.if-i-view-2 in
    let v-coded-kind = c.coded_kind in
    kind_coded v-args.order v-args.compiled.now v-args.view v-pre.0.is v-args.i _ v-section-at.ensures v-if1.false v-if2.false _ v-if3.false
    v-coded-kind.ensures
