-- From the end of the row before up to the place of the row. Assumes nothing.
use native.Mathlib.Omega.{arith}
use Rattle.carry_entries.specs.Entries.{OFFSETS}
use Rattle.carry_entries.proofs.Goals.{gap_rows}
use Rattle.carry_entries.proofs.gap_before.Goals as goal

pub end_before-requires : goal.end_before-requires
end_before-requires c =
    let p = c.requires in
    (omega (arith, p.0.fits, p.1), omega (arith, p.0.few, p.1))

pub place_of-requires : goal.place_of-requires
place_of-requires c = c.requires.0

pub returns : goal.returns
returns c =
    let a = c.args in
    gap_rows a.rows.now a.n c.requires.0 a.r c.requires.1 _ c.end_before.ensures OFFSETS _ c.place_of.ensures
