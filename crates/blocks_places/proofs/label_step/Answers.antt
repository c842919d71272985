-- `blocks_places::label_step` meets its contract: a line with a label is sound, so its parts are read; a label with a symbol gives a span, and one with none switches
-- its block off. Assumes nothing.
use Rattle.elf_symbols.proofs.Symbols.{table_at, table_count}
use Rattle.blocks_places.specs.Places.{label_symbol}
use Rattle.blocks_places.specs.Table.{on_step}
use Rattle.blocks_places.proofs.Lines.{value_sound_lem, parts_label, parts_size, parts_align8}
use Rattle.blocks_places.proofs.Places.{symbol_read}
use Rattle.blocks_places.proofs.Walk.{step_found, step_lost}
use native.Mathlib.Omega.{arith}
use mathlib.Core.Path.{◌≡◌, ◌∙◌}
use Rattle.blocks_places.proofs.label_step.Goals as goal
use Rattle.blocks_places.proofs.label_step.Goals.{After-symbol_indexed-k}

-- what is looked up among the symbols is the label
found : (c : After-symbol_indexed-k) → let a = c.args in
    c.symbol_indexed-k.result ≡ label_symbol a.order a.compiled.now a.file.now a.j
found c =
    let a = c.args in
    let v = c.span_value-v in
    let x = c.line_parts-parts in
    let k = c.symbol_indexed-k in
    symbol_read a.order a.compiled.now a.file.now a.j k.result _
    (parts_label a.file.now a.j v.result.now v.ensures x.result x.ensures.0) k.ensures

pub line_parts-parts-requires : goal.line_parts-parts-requires
line_parts-parts-requires c =
    let v = c.span_value-v in
    value_sound_lem c.args.file.now c.args.j v.result.now v.ensures c.requires.0.inside c.requires.2

pub symbol_at-s-requires : goal.symbol_at-s-requires
symbol_at-s-requires c =
    let a = c.args in
    let x = c.requires.0.symbols in
    (x.tabled, table_at a.order a.compiled.now a.symbols x, omega (arith, table_count a.order a.compiled.now a.symbols x))

pub returns-then-k-symbols : goal.returns-then-k-symbols
returns-then-k-symbols c =
    let a = c.args in
    let p = c.requires in
    let v = c.span_value-v in
    let x = c.line_parts-parts in
    let y = c.symbol_at-s in
    let r = c.on_after in
    ◌∙◌ {b = on_step y.result.st_value x.result.size x.result.align8 a.end r.result} c.on_step.ensures
    (step_found a.order a.compiled.now a.file.now a.j a.end c.symbol_indexed-k.result a.symbols.count x.result.size r.result p.0.inside p.2 p.3 p.1
    (found (goal.at.returns-then-k-symbols c).After-symbol_indexed-k) (table_count a.order a.compiled.now a.symbols p.0.symbols) (parts_size a.file.now a.j v.result.now v.ensures x.result x.ensures.0)
    y.result x.result.align8 c.if-k-symbols.true y.ensures (parts_align8 a.file.now a.j v.result.now v.ensures x.result x.ensures.0) r.ensures)

pub returns : goal.returns
returns c =
    let a = c.args in
    let p = c.requires in
    let v = c.span_value-v in
    let x = c.line_parts-parts in
    let r = c.on_after-2 in
    c.off_step.ensures
    ∙ step_lost a.order a.compiled.now a.file.now a.j a.end c.symbol_indexed-k.result a.symbols.count x.result.size r.result p.0.inside p.2 p.3 p.1
    (found (goal.at.returns c).After-symbol_indexed-k) (table_count a.order a.compiled.now a.symbols p.0.symbols) (parts_size a.file.now a.j v.result.now v.ensures x.result x.ensures.0)
    c.if-k-symbols.false r.ensures
