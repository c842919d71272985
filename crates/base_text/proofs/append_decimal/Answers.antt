-- `base_text::append_decimal` meets its contract: the ten bytes from the first digit on are the digits, and they are appended. Assumes nothing.
use Rattle.base_lists.proofs.Written.{written_as}
use Rattle.base_text.proofs.Decimals.{digits_part}
use Rattle.base_text.proofs.append_decimal.Goals as goal

pub returns : goal.returns
returns c =
    let a = c.args in
    let g = c.put_digits-i in
    written_as _ _ _ _ _ _ (digits_part a.n g.result g.new.d g.auto.d g.ensures.1) c.append.ensures
