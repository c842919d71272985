-- Zeros. Assumes nothing.
use mathlib.Core.Path.{refl}
use Rattle.symbols_entries.specs.of_symbols_ids.Table.{null_entry}
use Rattle.symbols_table.proofs.null_entry.Goals as goal

pub returns : goal.returns
unfolding null_entry
returns c = refl
