-- `RelocationEntry::write` meets its contract: the addend's variant says how many words the entry has, and they are written one behind the other.
-- Assumes nothing.
use native.Mathlib.Omega.{arith}
use Prim.Native.Nat.{◌+◌, ◌≤◌}
use lib.ListN.{length}
use Rattle.elf_records.specs.Relocation.{has_addend}
use Rattle.elf_records.proofs.Writes.{rela_written, rel_written, room_rela, room_rel, has_addend_lem, no_addend}
use Rattle.elf_records.proofs.relocation.RelocationEntry.write.Goals as goal

pub write32-requires : goal.write32-requires
write32-requires c = omega (arith, room_rela (has_addend c.args.self) c.args.at (length c.args.s.now) (has_addend_lem c.args.self c.in-Some.value c.in-Some.is) c.requires)

pub write32-requires-in-Some : goal.write32-requires-in-Some
write32-requires-in-Some c = omega (arith, room_rela (has_addend c.args.self) c.args.at (length c.args.s.now) (has_addend_lem c.args.self c.in-Some.value c.in-Some.is) c.requires)

pub write32-requires-in-Some-2 : goal.write32-requires-in-Some-2
write32-requires-in-Some-2 c = omega (arith, room_rela (has_addend c.args.self) c.args.at (length c.args.s.now) (has_addend_lem c.args.self c.in-Some.value c.in-Some.is) c.requires)

pub write32-requires-in-None : goal.write32-requires-in-None
write32-requires-in-None c = omega (arith, room_rel (has_addend c.args.self) c.args.at (length c.args.s.now) (no_addend c.args.self c.in-None.is) c.requires)

pub write32-requires-in-None-2 : goal.write32-requires-in-None-2
write32-requires-in-None-2 c = omega (arith, room_rel (has_addend c.args.self) c.args.at (length c.args.s.now) (no_addend c.args.self c.in-None.is) c.requires)

pub returns-in-Some : goal.returns-in-Some
returns-in-Some c =
    let a = c.args in
    let h : a.at + 12 ≤ length a.s.now = room_rela (has_addend a.self) a.at (length a.s.now) (has_addend_lem a.self c.in-Some.value c.in-Some.is) c.requires in
    rela_written a.order a.self c.in-Some.value a.s.now a.at _ _ _ c.in-Some.is h c.write32.ensures c.write32-in-Some.ensures c.write32-in-Some-2.ensures

pub returns-in-None : goal.returns-in-None
returns-in-None c =
    let a = c.args in
    let e = c.in-None.is in
    let h : a.at + 8 ≤ length a.s.now = room_rel (has_addend a.self) a.at (length a.s.now) (no_addend a.self e) c.requires in
    rel_written a.order a.self a.s.now a.at _ _ e h c.write32-in-None.ensures c.write32-in-None-2.ensures
