-- The part of the string that there is room for. Assumes nothing.
use Rattle.std.proofs.Common.{ℕ, List, ap, ◌∙◌, arith}
use Rattle.base_index.specs.Index.{mixed}
use Rattle.base_index.proofs.Hashes.{taken_whole}
use Rattle.base_index.proofs.hash_before.Goals as goal

pub slice_bounds-mix_string-end : goal.slice_bounds-mix_string-end
slice_bounds-mix_string-end c = omega (arith, c.shorter-end.ensures)

pub returns : goal.returns
returns c =
    let a = c.args in
    c.mix_string.ensures ∙ ap (λ (s : List ℕ). mixed s a.h) (taken_whole a.s.now a.room c.shorter-end.result c.shorter-end.ensures)
