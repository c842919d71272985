use Rattle.base_lists.specs.Ranges.{least}
use Rattle.elf_readers.specs.Readers.{section_count}
use Rattle.carry_clash.specs.Clash.{joined_section, is_misjoined}
use Prim.Native.Nat.{◌≤◌}
use mathlib.Core.Path.{◌≡◌}
use Rattle.carry_clash.proofs.first_clash.Given as goal

abbrev pub invariant-loop-t : goal.invariant-loop-t
invariant-loop-t l =
    (l.t ≤ l.n) × (l.best ≡ least (joined_section l.order l.compiled l.assembled) (is_misjoined l.order l.compiled l.assembled l.stay) (section_count l.order l.compiled) l.t)
