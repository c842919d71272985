-- Over zeros the sizes, then the bits: the words are then whole. Assumes nothing.
use Rattle.elf_symbols.proofs.Symbols.{table_count}
use Rattle.blocks_file.specs.Blocks.{block_count}
use Rattle.blocks_places.specs.Lines.{line_count}
use Rattle.blocks_places.specs.Table.{places_in}
use Rattle.symbols_glabels.specs.Words.{size_below}
use Rattle.symbols_glabels.proofs.Marks.{uniform_holds}
use Rattle.symbols_glabels.proofs.Words.{words_whole}
use native.Mathlib.Omega.{arith}
use Rattle.symbols_glabels.proofs.mark_glabels.Goals as goal

pub clear_marks-requires : goal.clear_marks-requires
clear_marks-requires c =
    let a = c.args in
    (omega (arith, table_count a.order a.assembled.now a.symbols c.requires.0.symbols, c.requires.0.symbols.tabled.few), c.requires.2)

pub mark_sizes-requires : goal.mark_sizes-requires
mark_sizes-requires c =
    let a = c.args in
    let z = c.clear_marks in
    let n = table_count a.order a.assembled.now a.symbols c.requires.0.symbols in
    (c.requires.0, c.requires.1, omega (arith, c.requires.2, z.ensures.long), λ k h. z.ensures.words k (omega (arith, n)))

pub mark_live-requires : goal.mark_live-requires
mark_live-requires c =
    let a = c.args in
    let z = c.clear_marks in
    let s = c.mark_sizes in
    (c.requires.0, c.requires.1, uniform_holds a.order a.assembled.now (λ name. size_below (places_in a.places.now (line_count a.file.now)) a.file.now name (block_count a.file.now)) _ _ (omega (arith, c.requires.2, z.ensures.long)) s.ensures)

pub returns : goal.returns
returns c =
    let a = c.args in
    let z = c.clear_marks in
    let s = c.mark_sizes in
    words_whole (places_in a.places.now (line_count a.file.now)) a.file.now a.order a.assembled.now a.marks.now _ _ _ z.ensures.long s.ensures c.mark_live.ensures
