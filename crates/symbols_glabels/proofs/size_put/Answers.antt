-- The size is that of the line in hand. Assumes nothing.
use Rattle.blocks_file.proofs.Blocks.{count_high}
use Rattle.blocks_places.specs.Lines.{span_size}
use native.Mathlib.Omega.{arith}
use Prim.Native.Nat.{ℕ, ◌+◌}
use mathlib.Core.Path.{ap, ◌∙◌}
use Rattle.symbols_glabels.proofs.size_put.Goals as goal

pub line_of-requires : goal.line_of-requires
line_of-requires c = (omega (arith, count_high c.args.file.now), omega arith, omega arith)

pub span_size-size-requires : goal.span_size-size-requires
span_size-size-requires c =
    let a = c.args in
    (c.requires.0, omega (arith, c.line_of.ensures.0, c.requires.1), rw c.line_of.ensures.0 c.requires.2)

pub returns : goal.returns
returns c =
    let a = c.args in
    (ap (λ (n : ℕ). n + 1) (c.span_size-size.ensures.0 ∙ ap (span_size a.file.now) c.line_of.ensures.0), omega (arith, c.span_size-size.ensures.1))
