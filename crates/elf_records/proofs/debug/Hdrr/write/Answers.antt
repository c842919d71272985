-- `Hdrr::write` meets its contract: two halves and 23 words, one behind the other, are the bytes of the header.
-- Assumes nothing.
use native.Mathlib.Omega.{arith}
use mathlib.Core.Path.{◌≡◌}
use lib.ListN.{length}
use Rattle.elf_records.proofs.Writes.{debug_written}
use Rattle.elf_records.proofs.debug.Hdrr.write.Goals as goal
use Rattle.elf_records.proofs.debug.Hdrr.write.Goals.{Start}

-- what owning the header tells of its array
long : (c : Start) → length c.args.self.words ≡ 23
long c = c.well_formed.0.1.1.1.1.0.1.0.1

pub write_words-requires : goal.write_words-requires
write_words-requires c = omega (arith, long (goal.at.write_words-requires c).Start)

pub returns : goal.returns
returns c =
    let a = c.args in
    debug_written a.order a.self a.s.now a.at _ _ _ (long (goal.at.returns c).Start) c.requires.0
    c.write16.ensures
    c.write16-2.ensures
    c.write_words.ensures
