-- Nothing is behind the string, so its bytes stand before 0. Assumes nothing.
use Rattle.base_index.specs.Index.{spread, hash_of}
use Rattle.std.proofs.Common.{ℕ, ◌+◌, ◌%◌, ◌^◌, length, ap, ◌∙◌}
use Rattle.base_index.proofs.hash_of.Goals as goal

pub returns : goal.returns
unfolding hash_of
returns c =
    let s = c.args.s.now in
    c.hash_end.ensures ∙ ap (λ (h : ℕ). (spread h + length s) % 2 ^ 16) c.hash_before.ensures
