-- Refusal 4, then 3 by name, then the tables. Assumes nothing.
use Rattle.base_scope.proofs.Refusals.{err_through}
use Rattle.elf_sections.proofs.Bounds.{named_of}
use Rattle.elf_check.specs.Object.{check_names}
use Rattle.elf_check.proofs.Object.{refuse_clear, refuse_kept, none_refused}
use mathlib.Core.Path.{◌∙◌}
use Rattle.elf_check.proofs.check_names.Goals as goal

pub returns-in_err-refuse : goal.returns-in_err-refuse
unfolding check_names
returns-in_err-refuse c = err_through c.from_residual.ensures.1 ∙ refuse_kept 4 _ _ _ _ _ c.name_fault-named.ensures c.refuse.ensures c.in_err-refuse.was

pub type_fault-typed-requires : goal.type_fault-typed-requires
type_fault-typed-requires c =
    let a = c.args in
    named_of a.order a.file.now c.requires (none_refused 4 _ _ _ _ c.name_fault-named.ensures c.refuse.ensures c.in_ok-refuse.was)

pub returns-in_err-refuse-2 : goal.returns-in_err-refuse-2
unfolding check_names
returns-in_err-refuse-2 c =
    let named = none_refused 4 _ _ _ _ c.name_fault-named.ensures c.refuse.ensures c.in_ok-refuse.was in
    err_through c.from_residual-in_err-refuse-2.ensures.1
    ∙ refuse_kept 3 _ _ _ _ _ c.type_fault-typed.ensures c.refuse-2.ensures c.in_err-refuse-2.was ∙ refuse_clear 4 _ _ named

pub check_tables-requires : goal.check_tables-requires
check_tables-requires c =
    let a = c.args in
    named_of a.order a.file.now c.requires (none_refused 4 _ _ _ _ c.name_fault-named.ensures c.refuse.ensures c.in_ok-refuse.was)

pub returns : goal.returns
unfolding check_names
returns c =
    let named = none_refused 4 _ _ _ _ c.name_fault-named.ensures c.refuse.ensures c.in_ok-refuse.was in
    let typed = none_refused 3 _ _ _ _ c.type_fault-typed.ensures c.refuse-2.ensures c.in_ok-refuse-2.was in
    c.check_tables.ensures ∙ refuse_clear 3 _ _ typed ∙ refuse_clear 4 _ _ named
