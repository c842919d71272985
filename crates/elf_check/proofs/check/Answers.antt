-- Refusal 2, then 3, then the names, in the byte order that the file states. Assumes nothing.
use Rattle.base_scope.proofs.Refusals.{err_through}
use Rattle.elf_sections.proofs.Bounds.{headed_of}
use Rattle.elf_header.proofs.FileHeader.{header_long}
use Rattle.elf_check.specs.Object.{check_in}
use Rattle.elf_check.proofs.Object.{refuse_clear, refuse_kept, none_refused, check_in_lem}
use mathlib.Core.Path.{◌∙◌}
use Rattle.elf_check.proofs.check.Goals as goal

pub returns-in_err-refuse : goal.returns-in_err-refuse
unfolding check_in
returns-in_err-refuse c =
    err_through c.from_residual.ensures.1
    ∙ refuse_kept 2 _ _ _ _ _ c.header_fault-header.ensures c.refuse.ensures c.in_err-refuse.was ∙ check_in_lem _ _ c.order_of-order.ensures

pub section_fault-sections-requires : goal.section_fault-sections-requires
section_fault-sections-requires c = header_long _ c.args.file.now (none_refused 2 _ _ _ _ c.header_fault-header.ensures c.refuse.ensures c.in_ok-refuse.was)

pub returns-in_err-refuse-2 : goal.returns-in_err-refuse-2
unfolding check_in
returns-in_err-refuse-2 c =
    let header = none_refused 2 _ _ _ _ c.header_fault-header.ensures c.refuse.ensures c.in_ok-refuse.was in
    err_through c.from_residual-in_err-refuse-2.ensures.1
    ∙ refuse_kept 3 _ _ _ _ _ c.section_fault-sections.ensures c.refuse-2.ensures c.in_err-refuse-2.was ∙ refuse_clear 2 _ _ header ∙ check_in_lem _ _ c.order_of-order.ensures

pub check_names-requires : goal.check_names-requires
check_names-requires c =
    let header = none_refused 2 _ _ _ _ c.header_fault-header.ensures c.refuse.ensures c.in_ok-refuse.was in
    headed_of _ c.args.file.now header (none_refused 3 _ _ _ _ c.section_fault-sections.ensures c.refuse-2.ensures c.in_ok-refuse-2.was)

pub returns : goal.returns
unfolding check_in
returns c =
    let header = none_refused 2 _ _ _ _ c.header_fault-header.ensures c.refuse.ensures c.in_ok-refuse.was in
    let sections = none_refused 3 _ _ _ _ c.section_fault-sections.ensures c.refuse-2.ensures c.in_ok-refuse-2.was in
    c.check_names.ensures ∙ refuse_clear 3 _ _ sections ∙ refuse_clear 2 _ _ header ∙ check_in_lem _ _ c.order_of-order.ensures
