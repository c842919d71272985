-- `blocks_values::are_digits` meets its contract: what `all` says of the bytes is what `every` says of them. Assumes nothing.
use Rattle.std.proofs.Common.{rules, ◌≡◌, ◌↔◌, IsTrue, EachIndex, slice_index, true}
use Rattle.blocks_values.specs.Values.{is_digit}
use Rattle.blocks_values.proofs.Values.{every_is}
use Rattle.blocks_values.proofs.are_digits.Goals as goal

pub returns : goal.returns
returns c =
    let v = c.args.v.now in
    let h : IsTrue c.all.result ↔ EachIndex v (λ k. is_digit (slice_index v k) ≡ true) = search rules in
    every_is is_digit v c.all.result h
