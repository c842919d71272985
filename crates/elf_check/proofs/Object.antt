-- Laws of the check: a fault is refused under its number, and a test without one leaves the rest to decide. Assumes nothing.
use Rattle.std.specs.Prelude.{Option, None, Some, Ok, Err}
use mathlib.Core.Path.{◌≡◌, refl, sym, ap, ◌∙◌}
use mathlib.Core.List.{List}
use Prim.Native.Nat.{ℕ}
use Rattle.base_fields.specs.declared.ByteOrder.{ByteOrder}
use Rattle.elf_readers.specs.Readers.{order_of}
use Rattle.elf_check.specs.declared.Fault.{Fault}
use Rattle.elf_check.specs.Object.{Accepted, Refused, Checked, refuse, check_in, check_of}

module _ (number : ℕ) (f : Option ℕ) (rest : Checked) where
  pub refuse_at : (place : ℕ) → f ≡ Some place → Refused number place ≡ refuse number f rest
  unfolding refuse
  refuse_at place e = rw e

  pub refuse_clear : f ≡ None → rest ≡ refuse number f rest
  unfolding refuse
  refuse_clear e = rw e

-- a test by itself: the one that passes found nothing, and what refuses it refuses also where others stand behind it
pub none_refused : (number : ℕ) (f g : Option ℕ) (r : Checked) (u : Unit {0}) → g ≡ f → r ≡ refuse number g Accepted → r ≡ Ok u → f ≡ None
unfolding refuse
none_refused number f None r u same is told = sym same
none_refused number f (Some p) r u same is told = cc

pub refuse_kept : (number : ℕ) (f g : Option ℕ) (r rest : Checked) (e : Fault) → g ≡ f → r ≡ refuse number g Accepted → r ≡ Err e → Err e ≡ refuse number f rest
unfolding refuse
refuse_kept number f None r rest e same is told = cc
refuse_kept number f (Some p) r rest e same is told = let z : Err e ≡ Refused number p = sym told ∙ is in rw (sym same) z

pub check_in_lem : (o : ByteOrder) (F : List ℕ) → o ≡ order_of F → check_in o F ≡ check_of F
unfolding check_of
check_in_lem o F e = ap (λ (x : ByteOrder). check_in x F) e
