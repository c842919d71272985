-- `late_dummies::is_word_at` meets its contract: the number that is read is compared with the word. Assumes nothing.
use Rattle.late_dummies.proofs.Dummies.{word_is}
use Rattle.late_dummies.proofs.is_word_at.Goals as goal

pub returns : goal.returns
returns c =
    let a = c.args in
    word_is a.order a.part.now a.word a.at c.read32.result c.read32.ensures
