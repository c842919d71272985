use Rattle.base_lists.specs.Ranges.{first}
use Rattle.elf_symbols.specs.Symbols.{symbol_count}
use Rattle.carry_clash.proofs.Cut.{in_section}
use Prim.Native.Nat.{◌≤◌}
use mathlib.Core.Path.{◌≡◌}
use Rattle.carry_clash.proofs.holds_symbol.Given as goal

abbrev pub invariant-loop-k : goal.invariant-loop-k
invariant-loop-k l = (l.k ≤ l.n) × (first (in_section l.order l.compiled l.i) 0 (symbol_count l.order l.compiled) ≡ first (in_section l.order l.compiled l.i) l.k (symbol_count l.order l.compiled))
