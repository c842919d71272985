-- `merge_sections::write_section` meets its contract: the spans of the code end inside both sections. Assumes nothing.
use Rattle.blocks_spans.specs.Spans.{spans_of}
use Rattle.blocks_places.specs.Table.{places_in}
use Rattle.blocks_places.specs.Lines.{line_count}
use Rattle.merge_sections.proofs.Sections.{holds_code, copied_as}
use native.Mathlib.Omega.{arith}
use Prim.Native.Nat.{ℕ, ◌+◌}
use mathlib.Core.Path.{ap}
use mathlib.Core.List.{List}
use lib.ListN.{length}
use Rattle.merge_sections.proofs.write_section.Goals as goal

pub coded_contents-target-requires : goal.coded_contents-target-requires
coded_contents-target-requires c =
    let a = c.args in
    (c.requires.0.compiled, (holds_code a.code c.requires.2).0, (holds_code a.code c.requires.2).1)

pub coded_contents-source-requires : goal.coded_contents-source-requires
coded_contents-source-requires c =
    let a = c.args in
    (c.requires.0.assembled, (holds_code a.code c.requires.2).0, (holds_code a.code c.requires.2).1)

pub write_copied-requires : goal.write_copied-requires
write_copied-requires c =
    let a = c.args in
    let x = c.coded_contents-target.ensures in
    let y = c.coded_contents-source.ensures in
    (c.requires.0.laid, c.requires.0.many, rw x (c.requires.1.compiled_ends a.code c.requires.2), rw y (c.requires.1.assembled_ends a.code c.requires.2), rw x c.requires.3)

pub overflow_add-result : goal.overflow_add-result
overflow_add-result c =
    omega (arith, c.requires.3, ap length c.coded_contents-target.ensures)

pub returns : goal.returns
returns c =
    let a = c.args in
    let x = c.coded_contents-target.ensures in
    (ap (λ (l : List ℕ). a.at + length l) x, copied_as a.out.now a.at (spans_of (places_in a.places.now (line_count a.file.now)) a.file.now a.code) _ _ _ _ _ x c.coded_contents-source.ensures c.write_copied.ensures)
