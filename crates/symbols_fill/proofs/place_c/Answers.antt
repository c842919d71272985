-- The entry is read once. Assumes nothing.
use Rattle.symbols_fill.proofs.Places.{place_own, index_lt}
use native.Mathlib.Omega.{arith}
use Rattle.symbols_fill.proofs.place_c.Goals as goal

pub returns : goal.returns
returns c =
    let a = c.args in (
      place_own a.order a.compiled.now a.k _ _ c.symbol_at-entry.ensures c.binding_of-binding.ensures,
      (omega (arith, c.binding_of-binding.ensures), index_lt a.order a.compiled.now a.k _ c.symbol_at-entry.ensures (λ i. omega (arith, c.type_inv.compiled i))),
    )
