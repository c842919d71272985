use Rattle.base_lists.specs.Ranges.{first}
use Rattle.elf_readers.specs.Readers.{section_count}
use Rattle.carry_clash.specs.Clash.{is_cut}
use Prim.Native.Nat.{◌≤◌}
use mathlib.Core.Path.{◌≡◌}
use Rattle.carry_clash.proofs.first_cut.Given as goal

abbrev pub invariant-loop-i : goal.invariant-loop-i
invariant-loop-i l = (l.i ≤ l.n) × (first (is_cut l.order l.compiled l.stay) 0 (section_count l.order l.compiled) ≡ first (is_cut l.order l.compiled l.stay) l.i (section_count l.order l.compiled))
