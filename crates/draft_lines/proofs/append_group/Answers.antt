-- `draft_lines::append_group` meets its contract: the values written so far, and the group from the line reached, are the group from the start; `to` is where
-- both groups end. A value and its LF are shorter than its line, so the end never runs ahead of the place in the file. Assumes nothing.
use Rattle.blocks_lines.specs.Lines.{line_end}
use Rattle.blocks_lines.specs.Keys.{is_key_line}
use Rattle.base_lists.proofs.Written.{written_none, written_as}
use Rattle.base_lists.proofs.Windows.{length_part}
use Rattle.draft_lines.proofs.Groups.{key_fits, turn_inside, value_lined, turn_key, turn_end, group_turn, group_done}
use native.Mathlib.Omega.{arith}
use Prim.Native.Nat.{ℕ, ◌+◌, ◌-◌, ◌≤◌, ◌<◌}
use mathlib.Core.Path.{◌≡◌, refl, ap}
use mathlib.Core.List.{[]}
use mathlib.Core.Bool.{true}
use lib.ListN.{length}
use Rattle.draft_lines.proofs.append_group.Goals as goal
use Rattle.draft_lines.proofs.append_group.Goals.{After-line_end-next}

-- a line of the key stands at i
line_here : (c : After-line_end-next)
    → is_key_line c.args.file.now c.args.k c.loop-i.i ≡ true
line_here c =
    let a = c.args in
    let l = c.loop-i in
    turn_key a.file.now a.k a.to l.i l.invariant.1 c.loop-i-test.true

-- its key and the next line's start lie in the file
places : (c : After-line_end-next)
    → (c.loop-i.i + c.key_length-n.result < c.line_end-next.result + 1)
    × (c.line_end-next.result + 1 ≤ length c.args.file.now)
places c =
    let a = c.args in
    let l = c.loop-i in
    let n = c.key_length-n in
    let j : c.line_end-next.result + 1 ≡ _ = ap (λ (e : ℕ). e + 1) c.line_end-next.ensures in (
      key_fits a.file.now a.k l.i n.result (c.line_end-next.result + 1) (line_here c) n.ensures j,
      (turn_inside a.file.now a.k l.i n.result (c.line_end-next.result + 1) (line_here c) n.ensures j).1,
    )

pub loop-i-init : goal.loop-i-init
loop-i-init c =
    let a = c.args in
    let p = c.requires in
    (p.2, p.3, omega arith, [], written_none a.out.now a.at, refl)

pub overflow_add-next : goal.overflow_add-next
overflow_add-next c = omega (arith, (places (goal.at.overflow_add-next c).After-line_end-next).1)

pub overflow_add-i : goal.overflow_add-i
overflow_add-i c = omega (arith, (places (goal.at.overflow_add-i c).After-line_end-next).0, (places (goal.at.overflow_add-i c).After-line_end-next).1)

pub slice_bounds-append-count : goal.slice_bounds-append-count
slice_bounds-append-count c = omega (arith, (places (goal.at.slice_bounds-append-count c).After-line_end-next).0)

pub slice_bounds-append-start : goal.slice_bounds-append-start
slice_bounds-append-start c = omega (arith, (places (goal.at.slice_bounds-append-start c).After-line_end-next).0)

pub slice_bounds-append-end : goal.slice_bounds-append-end
slice_bounds-append-end c = omega (arith, (places (goal.at.slice_bounds-append-end c).After-line_end-next).1)

pub append-end-requires : goal.append-end-requires
append-end-requires c =
    let a = c.args in
    let p = c.requires in
    let l = c.loop-i in
    let b = l.i + c.key_length-n.result in
    let j = c.line_end-next.result + 1 in
    let f : b < j = (places (goal.at.append-end-requires c).After-line_end-next).0 in
    let g : j ≤ length a.file.now = (places (goal.at.append-end-requires c).After-line_end-next).1 in
    omega (arith, p.0, l.invariant.2, length_part a.file.now b (j - b) (omega arith))

pub loop-i-smaller : goal.loop-i-smaller
loop-i-smaller c =
    let p = places (goal.at.loop-i-smaller c).After-line_end-next in
    omega (arith, p.0, p.1)

pub loop-i-preserved : goal.loop-i-preserved
loop-i-preserved c =
    let a = c.args in
    let p = c.requires in
    let l = c.loop-i in
    let n = c.key_length-n in
    let e = c.line_end-next in
    let g = c.append-end in
    let t = line_here (goal.at.loop-i-preserved c).After-line_end-next in
    let j : e.result + 1 ≡ line_end a.file.now l.i + 1 = ap (λ (x : ℕ). x + 1) e.ensures in
    group_turn a.file.now a.k a.out.now a.at a.from l.out l.end l.i l.invariant.3 a.to g.result g.new.out (e.result + 1)
    p.1 t j l.invariant.1 l.invariant.2 l.invariant.4 l.invariant.5
    (written_as _ _ _ _ _ _ (value_lined a.file.now a.k l.i n.result (e.result + 1) t n.ensures j) g.ensures)

pub returns : goal.returns
returns c =
    let a = c.args in
    let l = c.loop-i in
    group_done a.file.now a.k a.out.now a.at a.from l.out l.end l.i l.invariant.3
    (turn_end a.file.now a.k a.to l.i l.invariant.1 (omega arith)) l.invariant.4 l.invariant.5
