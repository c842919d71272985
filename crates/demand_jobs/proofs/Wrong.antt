-- Demand 3 is refuted for wrong outputs of the job: C handed back; an entry lost, doubled, swapped with another, numbered by the other object's symbols, or over the other object's word;
-- a wrong count of local symbols; and a byte that the merge does not write. Each by one clause that computes to an equation of two different values. Assumes nothing.
use mathlib.Core.Path.{refl}
use mathlib.Core.List.{[], ◌∷◌}
use lib.Dec.{lit<, lit≤}
use borrow.Author.Tests.{eqb-false}
use Rattle.base_lists.proofs.Ranges.{both}
use Rattle.base_lists.proofs.Strings.{same_false}
use Rattle.base_scope.specs.Text.{text}
use Rattle.elf_samples.specs.Samples.{words}
use Rattle.demand_clauses.specs.Demand.{DemandThree}
use Rattle.demand_jobs.specs.Job.{C, A, B, path, lost, doubled, swapped, renumbered, reworded, raised, altered}
use Rattle.demand_jobs.proofs.Everything.{everything}

-- C's second entry is at 4, where the second that is owed is at 8
pub not_compiled : DemandThree C A B path 0 1 C → ⊥
unfolding everything
not_compiled d = eqb-false 4 8 refl (d.same 1 (lit< tt)).place

-- three are owed
pub not_lost : DemandThree C A B path 0 1 lost → ⊥
unfolding everything
not_lost d = eqb-false 2 3 refl d.many

pub not_doubled : DemandThree C A B path 0 1 doubled → ⊥
unfolding everything
not_doubled d = eqb-false 4 3 refl d.many

pub not_swapped : DemandThree C A B path 0 1 swapped → ⊥
unfolding everything
not_swapped d = eqb-false 4 8 refl (d.same 1 (lit< tt)).place

-- the first leads to g
pub not_renumbered : DemandThree C A B path 0 1 renumbered → ⊥
unfolding everything
not_renumbered d = same_false (text "f") (text "g") refl (d.same 0 (lit< tt)).leads.name

-- the third has A's word
pub not_reworded : DemandThree C A B path 0 1 reworded → ⊥
unfolding everything
not_reworded d = same_false (words (0x0C000001 ∷ [])) (words (0x0C000004 ∷ [])) refl ((d.same 2 (lit< tt)).word (lit≤ tt) refl)

-- symbol 1 is global
pub not_raised : DemandThree C A B path 0 1 raised → ⊥
unfolding everything
not_raised d = both (d.symbols.locals 1 (lit< tt)) refl

-- byte 15 of .text is C's
pub not_altered : DemandThree C A B path 0 1 altered → ⊥
unfolding everything
not_altered d = eqb-false 1 0 refl (d.bytes 1 15 (lit< tt) (lit< tt) refl)
