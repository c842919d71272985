-- `copy_spans::write_copied` meets its contract: the part that is copied over has C's bytes. Assumes nothing.
use Rattle.blocks_places.specs.Table.{places_in}
use Rattle.blocks_places.specs.Lines.{line_count}
use Rattle.blocks_spans.specs.Spans.{spans_of}
use Rattle.copy_spans.proofs.Records.{part_ends, section_written}
use native.Mathlib.Omega.{arith}
use Prim.Native.Nat.{◌+◌, ◌-◌}
use mathlib.Core.Path.{◌≡◌}
use lib.ListN.{length}
use Rattle.copy_spans.proofs.write_copied.Goals as goal

pub copy_section-requires : goal.copy_section-requires
copy_section-requires c =
    let a = c.args in
    let w : a.at + length a.target.now - a.at ≡ length a.target.now = omega arith in
    (c.requires.0, c.requires.1, part_ends a.out.now a.at a.target.now _ c.requires.4 c.write_bytes.ensures _ w (spans_of (places_in a.places.now (line_count a.file.now)) a.file.now a.code) c.requires.2, c.requires.3)

pub returns : goal.returns
returns c =
    let a = c.args in
    let w : a.at + length a.target.now - a.at ≡ length a.target.now = omega arith in
    section_written a.out.now a.at a.target.now _ c.requires.4 c.write_bytes.ensures _ w _ _ _ c.copy_section.ensures
