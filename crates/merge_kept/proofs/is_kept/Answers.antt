-- `merge_kept::is_kept` meets its contract. Assumes nothing.
use Rattle.merge_kept.proofs.Kept.{stays_not, stays_read}
use Rattle.merge_kept.proofs.is_kept.Goals as goal

pub returns-then-h-eq-SHT_MIPS_GPTAB : goal.returns-then-h-eq-SHT_MIPS_GPTAB
returns-then-h-eq-SHT_MIPS_GPTAB c =
    let a = c.args in
    stays_not a.order a.file.now a.i c.section_at-h.result c.section_at-h.ensures c.if-h-eq-SHT_MIPS_GPTAB.true

pub returns : goal.returns
returns c =
    let a = c.args in
    stays_read a.order a.file.now a.i c.section_at-h.result c.section_at-h.ensures c.if-h-eq-SHT_MIPS_GPTAB.false
