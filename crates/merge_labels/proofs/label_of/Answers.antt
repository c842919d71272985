-- `merge_labels::label_of` meets its contract. Assumes nothing.
use Rattle.elf_symbols.proofs.Symbols.{table_count, table_at}
use Rattle.merge_labels.proofs.Labels.{label_there, label_none}
use mathlib.Core.List.{◌++◌}
use native.Mathlib.Omega.{arith}
use Rattle.merge_labels.proofs.label_of.Goals as goal

pub symbol_at-s-requires : goal.symbol_at-s-requires
symbol_at-s-requires c =
    let a = c.args in
    (c.requires.0.tabled, table_at a.order a.assembled.now a.table c.requires.0, omega (arith, c.if-k-n.true, table_count a.order a.assembled.now a.table c.requires.0))

pub returns-then-k-n : goal.returns-then-k-n
returns-then-k-n c =
    let a = c.args in
    (label_there a.order a.assembled.now (a.label.now ++ a.suffix.now) _ _ c.symbol_joined-k.ensures (table_count a.order a.assembled.now a.table c.requires.0) _ c.if-k-n.true c.symbol_at-s.ensures, omega arith)

pub returns : goal.returns
returns c =
    let a = c.args in
    (label_none a.order a.assembled.now (a.label.now ++ a.suffix.now) _ _ c.symbol_joined-k.ensures (table_count a.order a.assembled.now a.table c.requires.0) c.if-k-n.false, omega arith)
