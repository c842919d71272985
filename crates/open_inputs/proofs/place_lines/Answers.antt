-- The index of names is put behind the table of blocks, which stays, and both are read. Assumes nothing.
use Rattle.open_inputs.proofs.Buffers.{parsed_kept}
use Rattle.open_inputs.proofs.place_lines.Goals as goal

pub place_spans-requires : goal.place_spans-requires
place_spans-requires c =
    let a = c.args in
    let i = c.index_names in (
      c.requires.0,
      rw c.part-own.ensures (parsed_kept a.file.now a.table.now _ i.ensures.1 c.requires.1),
      c.requires.2,
      c.requires.3,
      rw c.part-index.ensures i.ensures.0,
    )

pub returns : goal.returns
returns c = (c.place_spans.ensures, c.index_names.ensures.1)
