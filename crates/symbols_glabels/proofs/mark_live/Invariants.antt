use Rattle.elf_symbols.specs.Symbols.{symbol_count, symbol_name}
use Rattle.blocks_places.specs.Lines.{line_count}
use Rattle.blocks_places.specs.Table.{places_in}
use Rattle.symbols_glabels.specs.Words.{Marked}
use Rattle.symbols_glabels.proofs.Groups.{is_glabel_below}
use Prim.Native.Nat.{◌≤◌}
use Rattle.symbols_glabels.proofs.mark_live.Given as goal

abbrev pub invariant-loop-block : goal.invariant-loop-block
invariant-loop-block l = (l.block ≤ l.blocks) × Marked (λ k. is_glabel_below (places_in l.places (line_count l.file)) l.file (symbol_name l.order l.assembled k) l.block) 0 (symbol_count l.order l.assembled) l.initial.marks l.marks
