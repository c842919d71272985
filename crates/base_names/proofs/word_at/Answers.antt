-- Eight bytes are two numbers of four. Assumes nothing.
use native.Mathlib.Omega.{arith}
use Rattle.base_names.proofs.Words.{word_eight}
use Rattle.base_names.proofs.word_at.Goals as goal

pub returns : goal.returns
returns c =
    let a = c.args in
    omega (arith, c.read32-high.ensures, c.read32-low.ensures, word_eight a.t.now a.at c.requires)
