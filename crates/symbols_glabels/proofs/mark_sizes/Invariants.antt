use Rattle.elf_symbols.specs.Symbols.{symbol_count, symbol_name}
use Rattle.blocks_places.specs.Lines.{line_count}
use Rattle.blocks_places.specs.Table.{places_in}
use Rattle.symbols_glabels.specs.Words.{Holds, size_below}
use Prim.Native.Nat.{◌≤◌}
use Rattle.symbols_glabels.proofs.mark_sizes.Given as goal

abbrev pub invariant-loop-i : goal.invariant-loop-i
invariant-loop-i l = (l.i ≤ l.blocks) × Holds (λ k. size_below (places_in l.places (line_count l.file)) l.file (symbol_name l.order l.assembled k) l.i) (symbol_count l.order l.assembled) l.initial.marks l.marks
