-- Refusal 5, then 6; what they leave true gives the view its bounds. Assumes nothing.
use Rattle.std.specs.Prelude.{Option}
use Prim.Native.Nat.{ℕ}
use mathlib.Core.Path.{ap, ◌∙◌}
use Rattle.base_scope.proofs.Refusals.{err_through}
use Rattle.elf_check.specs.Object.{Accepted, refuse, check_tables}
use Rattle.elf_check.proofs.Object.{refuse_clear, refuse_kept, none_refused}
use Rattle.elf_check.proofs.check_tables.Goals as goal

pub returns-in_err-refuse : goal.returns-in_err-refuse
unfolding check_tables
returns-in_err-refuse c = err_through c.from_residual.ensures.1 ∙ refuse_kept 5 _ _ _ _ _ c.symbol_fault-symbols.ensures c.refuse.ensures c.in_err-refuse.was

pub returns : goal.returns
unfolding check_tables
returns c =
    c.refuse-2.ensures
    ∙ ap (λ (f : Option ℕ). refuse 6 f Accepted) c.relocation_fault-relocations.ensures
    ∙ refuse_clear 5 _ _ (none_refused 5 _ _ _ _ c.symbol_fault-symbols.ensures c.refuse.ensures c.in_ok-refuse.was)
