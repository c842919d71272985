-- The turns of the loop over the rows of homes, and what joins by them. Assumes nothing.
use Prim.Native.Nat.{ℕ, ◌+◌}
use mathlib.Core.Path.{◌≡◌, sym, ap, ◌∙◌}
use mathlib.Core.List.{List, [], ◌++◌, append-nil}
use lib.Dec.{eqb}
use borrow.Author.Tests.{eq-eqb, ne_eqb}
use Rattle.base_lists.specs.Written.{Written}
use Rattle.base_lists.proofs.Ranges.{by-test, gather_zero, gather_yes, gather_no, gather_same}
use Rattle.base_lists.proofs.Written.{written_none, written_then, written_as}
use Rattle.base_fields.specs.declared.ByteOrder.{ByteOrder}
use Rattle.carry_homes.specs.Homes.{carried_count, joined_bytes}
use Rattle.carry_homes.specs.Code.{listed_table, home_in, HomesListed}
use Rattle.write_tables.specs.Tables.{brought_by, joined_in}

module _ (homes : List ℕ) (bytes : ℕ → List ℕ) (i : ℕ) where
  module _ (j : ℕ) where
    pub brought_here : home_in homes j ≡ i → bytes (listed_table homes j) ≡ brought_by homes bytes i j
    unfolding brought_by
    brought_here e = rw (eq-eqb (home_in homes j) i e)

    pub brought_none : (home_in homes j ≡ i → ⊥) → [] ≡ brought_by homes bytes i j
    unfolding brought_by
    brought_none n = rw (ne_eqb (home_in homes j) i n)

    joined_next : joined_in homes bytes i j ++ brought_by homes bytes i j ≡ joined_in homes bytes i (j + 1)
    unfolding joined_in brought_by
    joined_next = by-test (eqb (home_in homes j) i)
        (λ t. rw t (sym (gather_yes (λ k. eqb (home_in homes k) i) (λ k. bytes (listed_table homes k)) j t)))
        (λ f. rw f (append-nil _ ∙ sym (gather_no (λ k. eqb (home_in homes k) i) (λ k. bytes (listed_table homes k)) j f)))

  module _ (o : List ℕ) (at : ℕ) where
    pub joined_start : Written o at (joined_in homes bytes i 0) at o
    unfolding joined_in
    joined_start = written_as o at [] _ at o (sym (gather_zero _ _)) (written_none o at)

    pub joined_turn : (j r : ℕ) (p : List ℕ) (q : ℕ) (u : List ℕ) → Written o at (joined_in homes bytes i j) r p → Written p r (brought_by homes bytes i j) q u
        → Written o at (joined_in homes bytes i (j + 1)) q u
    joined_turn j r p q u a b = written_as o at _ _ q u (joined_next j) (written_then o at _ r p _ q u a b)

-- the rows of the homes say what joins
pub joined_is : (o : ByteOrder) (C A : List ℕ) (stay : ℕ) (homes : List ℕ) → HomesListed o C A stay (carried_count o A) homes → (bytes : ℕ → List ℕ) (i : ℕ)
    → joined_in homes bytes i (carried_count o A) ≡ joined_bytes o C A stay bytes i
unfolding joined_in joined_bytes
joined_is o C A stay homes w bytes i = gather_same _ _ _ _ (carried_count o A)
    (λ j h. ap (λ (x : ℕ). eqb x i) (w.is j h))
    (λ j h t. ap bytes (w.tables.is j h))
