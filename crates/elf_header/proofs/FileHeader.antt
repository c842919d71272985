-- Laws of refusal 2. Assumes nothing.
use Rattle.std.specs.Prelude.{None, Some, Option}
use mathlib.Core.Path.{◌≡◌, ap, ◌∙◌}
use mathlib.Core.Bool.{Bool}
use mathlib.Core.List.{List}
use Prim.Native.Nat.{ℕ, ◌≤◌, ◌<◌}
use native.Mathlib.Omega.{arith}
use lib.ListN.{length}
use borrow.Author.Tests.{lt-ltb, le-ltb}
use Rattle.base_lists.proofs.Ranges.{by-lt}
use Rattle.base_fields.specs.declared.ByteOrder.{ByteOrder}
use Rattle.base_scope.specs.Refusals.{expect}
use Rattle.elf_readers.specs.Readers.{header}
use Rattle.elf_header.specs.FileHeader.{field_fault, header_fault}

-- one test in front of the others
pub expected_then : (b : Bool) (place : ℕ) (rest rest' r : Option ℕ) → r ≡ expect b place rest → rest ≡ rest' → r ≡ expect b place rest'
expected_then b place rest rest' r e f = e ∙ ap (expect b place) f

module _ (o : ByteOrder) (F : List ℕ) where
  pub header_short : length F < 52 → Some (length F) ≡ header_fault o F
  unfolding header_fault
  header_short h = rw (lt-ltb _ _ h)

  pub header_whole : 52 ≤ length F → field_fault (header o F) ≡ header_fault o F
  unfolding header_fault
  header_whole h = rw (le-ltb _ _ h)

  -- a file that passes has a whole header, and its fields pass
  pub header_long : header_fault o F ≡ None → 52 ≤ length F
  header_long e = by-lt (length F) 52 (λ h. let z : ◌≡◌ {A = Option ℕ} (Some (length F)) None = header_short h ∙ e in let n : ◌≡◌ {A = ℕ} 0 1 = cc in absurd (omega arith)) (λ h. h)

  pub header_fields : header_fault o F ≡ None → field_fault (header o F) ≡ None
  header_fields e = header_whole (header_long e) ∙ e
