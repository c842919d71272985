-- `RelocationEntry::new` meets its contract: the test on `rela` says how many words an entry has, and each is read where its law of
-- proofs/Offsets.antt says.
-- Assumes nothing.
use native.Mathlib.Omega.{arith}
use lib.ListN.{length}
use Rattle.elf_records.proofs.Offsets.{rela_made, rel_made}
use Rattle.elf_records.proofs.Writes.{room_rela, room_rel}
use Rattle.elf_records.proofs.relocation.RelocationEntry.new.Goals as goal

pub read32-requires : goal.read32-requires
read32-requires c = omega (arith, room_rela c.args.rela c.args.at (length c.args.s.now) c.if-rela.true c.requires)

pub read32-requires-then-rela : goal.read32-requires-then-rela
read32-requires-then-rela c = omega (arith, room_rela c.args.rela c.args.at (length c.args.s.now) c.if-rela.true c.requires)

pub read32-requires-then-rela-2 : goal.read32-requires-then-rela-2
read32-requires-then-rela-2 c = omega (arith, room_rela c.args.rela c.args.at (length c.args.s.now) c.if-rela.true c.requires)

pub returns-then-rela : goal.returns-then-rela
returns-then-rela c =
    let a = c.args in
    rela_made a.order a.s.now a.at a.rela _ _ _ c.if-rela.true c.read32.ensures c.read32-then-rela.ensures c.read32-then-rela-2.ensures

pub read32-requires-2 : goal.read32-requires-2
read32-requires-2 c = omega (arith, room_rel c.args.rela c.args.at (length c.args.s.now) c.if-rela.false c.requires)

pub read32-requires-3 : goal.read32-requires-3
read32-requires-3 c = omega (arith, room_rel c.args.rela c.args.at (length c.args.s.now) c.if-rela.false c.requires)

pub returns : goal.returns
returns c =
    let a = c.args in
    rel_made a.order a.s.now a.at a.rela _ _ c.if-rela.false c.read32-2.ensures c.read32-3.ensures
