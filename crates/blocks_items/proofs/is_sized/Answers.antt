-- `blocks_items::is_sized` meets its contract: the line `text=` of the block is taken, and a line `glabel=` stands at the start of its group. Assumes nothing.
use Rattle.base_scope.specs.Codes.{TEXT, line_of}
use Rattle.blocks_lines.specs.Keys.{KEY_GLABEL}
use Rattle.blocks_file.proofs.Blocks.{count_high}
use Rattle.blocks_file.proofs.Table.{parsed_inside, group_in_lem}
use Rattle.blocks_places.specs.Lines.{line_count}
use Rattle.blocks_places.specs.Table.{place_in, places_in}
use Rattle.blocks_places.proofs.Walk.{taken_row_lem}
use Rattle.blocks_items.proofs.Items.{sized_taken, sized_not}
use Prim.Native.Nat.{ℕ}
use mathlib.Core.Path.{sym, ap, ◌∙◌}
use native.Mathlib.Omega.{arith}
use Rattle.blocks_items.proofs.is_sized.Goals as goal

pub line_of-requires : goal.line_of-requires
line_of-requires c = (omega (arith, count_high c.args.file.now), omega arith, omega arith)

pub group_start-at-requires : goal.group_start-at-requires
group_start-at-requires c =
    let r = parsed_inside c.args.file.now c.args.table.now c.requires.0 c.args.i c.requires.2 in
    (r.0, r.1, omega arith)

pub returns-then-is_taken : goal.returns-then-is_taken
returns-then-is_taken c =
    let a = c.args in
    let j = c.line_of in
    let t = c.is_taken in
    let g = c.group_start-at in
    let e = taken_row_lem a.places.now (line_count a.file.now) (line_of a.i TEXT) (omega arith) ∙ ap (λ (k : ℕ). (place_in a.places.now k).taken) (sym j.ensures.0) ∙ sym t.ensures ∙ c.if-is_taken.true in
    sized_taken (places_in a.places.now (line_count a.file.now)) a.file.now a.i g.result c.is_key_line.result e (g.ensures.0 ∙ group_in_lem a.file.now a.table.now c.requires.0 a.i KEY_GLABEL c.requires.2 (omega arith)) c.is_key_line.ensures

pub returns : goal.returns
returns c =
    let a = c.args in
    let j = c.line_of in
    let e = taken_row_lem a.places.now (line_count a.file.now) (line_of a.i TEXT) (omega arith) ∙ ap (λ (k : ℕ). (place_in a.places.now k).taken) (sym j.ensures.0) ∙ sym c.is_taken.ensures ∙ c.if-is_taken.false in
    sized_not (places_in a.places.now (line_count a.file.now)) a.file.now a.i e
