-- What a finding says of the search behind it. Assumes nothing.
use Rattle.std.specs.Prelude.{Option, None, Some, Result, Err}
use Rattle.std.specs.Result.{IsErrAnd}
use Rattle.std.proofs.lemmas.Result.{err_from_is_err_and}
use native.Mathlib.Omega.{arith}
use Rattle.base_lists.specs.Ranges.{first}
use Rattle.base_lists.proofs.Ranges.{first_high, none_first}
use mathlib.Core.Path.{◌≡◌, refl, ap, ◌∙◌}
use mathlib.Core.Bool.{Bool, true, false}
use Prim.Native.Nat.{ℕ, ◌≤◌, ◌<◌}
use lib.Dec.{ltb}
use borrow.Author.Tests.{ltb-false}
use Rattle.base_scope.specs.Refusals.{expect, pick_finding, found_below}

-- what `?` passes on of an error is the error
pub err_through : {T E : Type 0} {r : Result T E} {e : E} → IsErrAnd r (λ y. y ≡ e) → r ≡ Err e
err_through {r = r} {e = e} h = let p = err_from_is_err_and r h in p.1 ∙ ap Err p.2

-- a test whose fault is not there holds, and the tests after it found none either
pub expect_clear : (b : Bool) (place : ℕ) (rest : Option ℕ) → expect b place rest ≡ None → (b ≡ true) × (rest ≡ None)
unfolding expect
expect_clear true place rest e = (refl, e)
expect_clear false place rest e = (cc, cc)

-- a search that found none ended at its bound
pub found_clear : (n i : ℕ) → found_below n i ≡ None → n ≤ i
unfolding found_below
found_clear n i e = ltb-false i n (expect_no (ltb i n) i e)
  where
    expect_no : (b : Bool) (i : ℕ) → pick_finding b (Some i) None ≡ None → b ≡ false
    expect_no true i e = cc
    expect_no false i e = refl

-- a test that holds leaves the rest; one that does not is the fault
pub expect_true : (b : Bool) (place : ℕ) (rest : Option ℕ) → b ≡ true → expect b place rest ≡ rest
unfolding expect
expect_true b place rest e = rw e

pub expect_false : (b : Bool) (place : ℕ) (rest : Option ℕ) → b ≡ false → expect b place rest ≡ Some place
unfolding expect
expect_false b place rest e = rw e

-- a search that found no fault passed every index
pub none_found : (p : ℕ → Bool) (n : ℕ) → found_below n (first p 0 n) ≡ None → (i : ℕ) → i < n → p i ≡ false
none_found p n e i l =
    let g : first p 0 n ≡ n = omega (arith, found_clear n (first p 0 n) e, first_high p 0 n (omega arith)) in
    none_first p 0 n i g (omega arith) l
