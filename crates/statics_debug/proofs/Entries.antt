-- Laws of the readers: which bytes the header's words are, and what a type or a storage class in no row of a list means. Assumes nothing.
use mathlib.Core.Path.{◌≡◌, refl, sym}
use mathlib.Core.Bool.{false}
use mathlib.Core.List.{List, [], ◌∷◌}
use Prim.Native.Nat.{ℕ, ◌≤◌}
use native.Mathlib.Omega.{arith}
use lib.Dec.{eqb}
use borrow.Author.Tests.{ne_eqb}
use Rattle.base_lists.proofs.Ranges.{by-test}
use Rattle.base_fields.specs.declared.ByteOrder.{ByteOrder}
use Rattle.base_fields.specs.Numbers.{number}
use Rattle.base_scope.specs.Codes.{CODES}
use Rattle.elf_records.proofs.Offsets.{debug_word}
use Rattle.statics_debug.specs.Entries.{tables_in, among, lists_static, opens_scope, storage_code}

-- the four words that are read
pub tables_read : (o : ByteOrder) (D : List ℕ) (a b c d : ℕ) → a ≡ number o 4 D 72 → b ≡ number o 4 D 76 → c ≡ number o 4 D 36 → d ≡ number o 4 D 60
    → record { files = a; descriptors = b; symbols = c; strings = d } ≡ tables_in o D
unfolding tables_in
tables_read o D a b c d e f g h =
    rw (debug_word o D 0 17 (omega arith), debug_word o D 0 18 (omega arith), debug_word o D 0 8 (omega arith), debug_word o D 0 14 (omega arith), e, f, g, h)

-- a number that is not in a list
among_not : (x y : ℕ) (l : List ℕ) → (x ≡ y → ⊥) → among x l ≡ false → among x (y ∷ l) ≡ false
unfolding among
among_not x y l n f = rw (ne_eqb _ _ n, f)

among_nil : (x : ℕ) → among x [] ≡ false
unfolding among
among_nil x = refl

pub lists_other : (k : ℕ) → (k ≡ 2 → ⊥) → (k ≡ 14 → ⊥) → false ≡ lists_static k
unfolding lists_static
lists_other k a b = sym (among_not k _ _ a (among_not k _ _ b (among_nil k)))

pub opens_other : (k : ℕ) → (k ≡ 6 → ⊥) → (k ≡ 7 → ⊥) → (k ≡ 11 → ⊥) → (k ≡ 14 → ⊥) → (k ≡ 26 → ⊥) → (k ≡ 27 → ⊥) → (k ≡ 28 → ⊥) → false ≡ opens_scope k
unfolding opens_scope
opens_other k a b c d e f g =
    sym (among_not k _ _ a (among_not k _ _ b (among_not k _ _ c (among_not k _ _ d (among_not k _ _ e (among_not k _ _ f (among_not k _ _ g (among_nil k))))))))

pub code_other : (s : ℕ) → (s ≡ 1 → ⊥) → (s ≡ 2 → ⊥) → (s ≡ 3 → ⊥) → (s ≡ 15 → ⊥) → 0 ≡ storage_code s
unfolding storage_code
code_other s a b c d = rw (ne_eqb _ _ a, ne_eqb _ _ b, ne_eqb _ _ c, ne_eqb _ _ d)

-- it is a code, or 0
pub code_high : (s : ℕ) → storage_code s ≤ CODES
unfolding storage_code
code_high s =
    by-test (eqb s 1) (λ t. rw t (omega arith))
    (λ f. by-test (eqb s 2) (λ t. rw (f, t) (omega arith))
    (λ g. by-test (eqb s 3) (λ t. rw (f, g, t) (omega arith))
    (λ h. by-test (eqb s 15) (λ t. rw (f, g, h, t) (omega arith)) (λ i. rw (f, g, h, i) (omega arith)))))
