-- `copy_spans::copy_many` meets its contract: a block file has no more lines than the list has records. Assumes nothing.
use Rattle.blocks_file.proofs.Blocks.{count_high}
use native.Mathlib.Omega.{arith}
use Rattle.copy_spans.proofs.copy_many.Goals as goal

pub splice_section-requires : goal.splice_section-requires
splice_section-requires c =
    (c.requires.0, c.requires.1, c.requires.2, c.requires.3, omega (arith, c.no_spans-spans.ensures, c.requires.1, count_high c.args.file.now))

pub returns : goal.returns
returns c = c.splice_section.ensures
