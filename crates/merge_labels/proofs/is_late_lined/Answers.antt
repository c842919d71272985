-- `merge_labels::is_late_lined` meets its contract. Assumes nothing.
use Rattle.base_scope.specs.Codes.{LATE_RODATA}
use Rattle.base_scope.specs.Text.{text}
use Rattle.elf_check.proofs.Views.{view_section, view_table}
use Rattle.merge_labels.specs.Labels.{late_label, late_lined}
use Rattle.merge_labels.proofs.Labels.{late_read, late_elsewhere, late_absent}
use Prim.Native.Nat.{◌+◌}
use mathlib.Core.Path.{ap, ◌∙◌}
use mathlib.Core.Bool.{Bool, ◌&&◌}
use lib.Dec.{leb}
use lib.ListN.{length}
use native.Mathlib.Omega.{arith}
use Rattle.merge_labels.proofs.is_late_lined.Goals as goal

pub is_label_at-there-requires : goal.is_label_at-there-requires
is_label_at-there-requires c =
    let a = c.args in
    (view_table a.order a.assembled.now a.view c.requires.0.is c.requires.0.tabled, c.requires.3)

pub returns-then-start-section : goal.returns-then-start-section
unfolding late_label late_lined text
returns-then-start-section c =
    let a = c.args in
    c.both.ensures ∙ ap (λ (x : Bool). x && leb (a.start.value + a.size) (length c.coded_contents-bytes.result.now)) c.is_label_at-there.ensures
    ∙ late_read a.order a.assembled.now a.size _ a.start c.requires.1 (c.section-section.ensures ∙ view_section a.order a.assembled.now a.view c.requires.0.is LATE_RODATA (omega arith) (omega arith)) _ c.coded_contents-bytes.ensures c.if-start.true c.if-start-section.true

pub returns-else-start-section : goal.returns-else-start-section
returns-else-start-section c =
    let a = c.args in
    late_elsewhere a.order a.assembled.now a.size _ a.start c.requires.1 (c.section-section.ensures ∙ view_section a.order a.assembled.now a.view c.requires.0.is LATE_RODATA (omega arith) (omega arith)) c.if-start-section.false

pub returns-else-start : goal.returns-else-start
returns-else-start c =
    let a = c.args in
    late_absent a.order a.assembled.now a.size _ a.start c.requires.1 (c.section-section.ensures ∙ view_section a.order a.assembled.now a.view c.requires.0.is LATE_RODATA (omega arith) (omega arith)) c.if-start.false
