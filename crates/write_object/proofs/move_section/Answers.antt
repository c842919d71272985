-- A section that does not move its words keeps its bytes; else its part of the output is moved and put back. Assumes nothing.
use Rattle.write_object.proofs.Steps.{moved_other, moved_still, moved_header, kept_there, moved_there}
use native.Mathlib.Omega.{arith}
use Prim.Native.Nat.{◌+◌, ◌-◌}
use mathlib.Core.Path.{◌≡◌}
use lib.ListN.{take, drop}
use Rattle.write_object.proofs.move_section.Goals as goal

pub returns-then-kind-ne-SHT_MIPS_DEBUG : goal.returns-then-kind-ne-SHT_MIPS_DEBUG
returns-then-kind-ne-SHT_MIPS_DEBUG c =
    let a = c.args in
    kept_there a.order a.kind a.out.now a.start a.size a.old a.new c.requires.0 (moved_other a.order a.kind _ a.old a.new c.if-kind-ne-SHT_MIPS_DEBUG.true)

pub returns-then-old-new : goal.returns-then-old-new
returns-then-old-new c =
    let a = c.args in
    kept_there a.order a.kind a.out.now a.start a.size a.old a.new c.requires.0 (moved_still a.order a.kind _ a.old a.new c.if-kind-ne-SHT_MIPS_DEBUG.false c.if-old-new.true)

pub move_debug-requires : goal.move_debug-requires
move_debug-requires c =
    let a = c.args in
    let e : a.start + a.size - a.start ≡ a.size = omega arith in
    rw e (moved_header a.order a.kind (take a.size (drop a.start a.out.now)) a.old a.new c.if-kind-ne-SHT_MIPS_DEBUG.false c.if-old-new.false c.requires.1)

pub returns : goal.returns
returns c =
    let a = c.args in
    let e : a.start + a.size - a.start ≡ a.size = omega arith in
    moved_there a.order a.kind a.out.now a.start a.size a.old a.new c.requires.0 c.move_debug.new.debug (a.start + a.size - a.start) c.if-kind-ne-SHT_MIPS_DEBUG.false c.if-old-new.false c.requires.1 e c.move_debug.ensures
