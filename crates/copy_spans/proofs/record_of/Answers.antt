-- `copy_spans::record_of` meets its contract: the table of places has the place and the size of a line that is taken. Assumes nothing.
use Rattle.blocks_places.proofs.Walk.{laid_place, laid_inside}
use Rattle.blocks_places.specs.Table.{places_in}
use Rattle.blocks_places.specs.Lines.{line_count}
use Rattle.blocks_file.proofs.Blocks.{count_high}
use Rattle.copy_spans.specs.Records.{record_of}
use native.Mathlib.Omega.{arith}
use mathlib.Core.Path.{◌∙◌}
use Rattle.copy_spans.proofs.record_of.Goals as goal

pub size_of-size-requires : goal.size_of-size-requires
size_of-size-requires c =
    let a = c.args in
    laid_inside (places_in a.places.now (line_count a.file.now)) a.file.now a.table.now a.places.now c.requires.0 a.j c.requires.1

pub place_of-place-requires : goal.place_of-place-requires
place_of-place-requires c =
    let a = c.args in
    laid_inside (places_in a.places.now (line_count a.file.now)) a.file.now a.table.now a.places.now c.requires.0 a.j c.requires.1

pub overflow_cast-result-3 : goal.overflow_cast-result-3
overflow_cast-result-3 c = record { fits = omega (arith, c.line_block.ensures, c.requires.1, count_high c.args.file.now) }

pub returns : goal.returns
unfolding record_of
returns c =
    let a = c.args in
    let P = places_in a.places.now (line_count a.file.now) in
    λ k. record {
      code = c.line_code.ensures.0 k;
      place = (c.place_of-place.ensures.0 ∙ laid_place P a.file.now a.table.now a.places.now c.requires.0 a.j c.requires.1) k;
      size = (c.size_of-size.ensures.0 ∙ c.requires.0.sizes a.j c.requires.2) k;
      block = c.line_block.ensures k;
    }
