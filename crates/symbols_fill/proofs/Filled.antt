-- The rows one by one, and those of both objects and of the statics put together: a row that is written leaves the others. Assumes nothing.
use Prim.Native.Nat.{ℕ, ◌+◌, ◌-◌, ◌*◌, ◌≤◌, ◌<◌}
use mathlib.Core.Path.{◌≡◌, refl, ap, ◌∙◌}
use mathlib.Core.List.{List}
use native.Mathlib.Omega.{arith}
use lib.ListN.{length}
use Rattle.base_lists.specs.Windows.{spliced}
use Rattle.base_lists.proofs.Ranges.{by-lt}
use Rattle.base_scope.specs.Limits.{ID_LIMIT, ID_ROW}
use Rattle.symbols_holders.proofs.of_symbols_names.Names.{rows_held}
use Rattle.symbols_rows.specs.declared.IdRow.{IdRow}
use Rattle.symbols_rows.specs.Rows.{id_row, id_row_bytes}
use Rattle.symbols_rows.proofs.Rows.{written_long, written_same, written_other}
use Rattle.elf_symbols.specs.Symbols.{symbol_count}
use Rattle.symbols_holders.specs.Ready.{id_count}
use Rattle.symbols_fill.specs.declared.Filling.{Filling}
use Rattle.symbols_fill.specs.Fill.{row_c, row_a, row_static, row_of, PlacesReady, RowsPut, FilledRows}
use Rattle.symbols_fill.proofs.Origins.{own, other, row_own, row_other, row_static_lem}

module _ (row : ℕ → IdRow) (from : ℕ) (before : List ℕ) where
  pub put_none : RowsPut row from 0 before before
  put_none = record { long = refl; put = λ k h. absurd (omega arith); kept = λ i h. refl }

  -- row k, x, is written behind the rows before it
  module _ (L m : List ℕ) (k : ℕ) (x : IdRow) (s : RowsPut row from k before L) (h : ID_ROW * (from + k) + ID_ROW ≤ length L) (is : x ≡ row k) (small : x.binding < 16) (e : m ≡ spliced L (ID_ROW * (from + k)) (id_row_bytes x)) where
    put_other : (j : ℕ) → (j ≡ from + k → ⊥) → id_row m j ≡ id_row L j
    put_other j d = rw e (written_other L (from + k) x h j d)

    pub put_next : RowsPut row from (k + 1) before m
    put_next = record {
      long = ap length e ∙ written_long L (from + k) x h ∙ s.long;
      put = λ j l. by-lt j k
          (λ u. put_other (from + j) (λ z. absurd (omega arith)) ∙ s.put j u)
          (λ u. let z : j ≡ k = omega arith in rw (z, e) (written_same L (from + k) x h small ∙ is));
      kept = λ i l. put_other i (λ z. absurd (omega arith)) ∙ s.kept i l;
    }

  -- all of them
  pub put_all : (L : List ℕ) (k n : ℕ) → RowsPut row from k before L → k ≡ n → RowsPut row from n before L
  put_all L k n s e = rw (← e) s

module _ (C A T late : List ℕ) (f : Filling) (q : PlacesReady C A T late f) where
  pub ids_few : id_count f.sources ≤ ID_LIMIT
  ids_few = let h = rows_held f.inputs.order C A T f.sources q.names in omega (arith, h.symbols, h.few)

  abbrev n : ℕ
  n = f.sources.compiled.count

  abbrev m : ℕ
  m = f.sources.assembled.count

  -- C's rows, then A's, then those of the statics
  module _ (before L M N : List ℕ) (first : ℕ) (c : RowsPut (row_c f.inputs.order C) 0 (symbol_count f.inputs.order C) before L)
      (a : RowsPut (row_a A late f) n (symbol_count f.inputs.order A) L M) (is : first ≡ n + m) (t : RowsPut (row_static C T f) first f.sources.statics M N) where
    in_c : (i : ℕ) → i < n → id_row N i ≡ row_of C A T late f i
    in_c i l =
        let z : 0 + i ≡ i = omega arith in
        t.kept i (omega (arith, is)) ∙ a.kept i l ∙ rw z at (c.put i (omega (arith, own C A T late f q))) ∙ row_own C A T late f q i l

    in_a : (i : ℕ) → n ≤ i → i < n + m → id_row N i ≡ row_of C A T late f i
    in_a i l u =
        let z : n + (i - n) ≡ i = omega arith in
        t.kept i (omega (arith, is)) ∙ rw z at (a.put (i - n) (omega (arith, other C A T late f q))) ∙ row_other C A T late f q i l u

    in_static : (i : ℕ) → n + m ≤ i → i < id_count f.sources → id_row N i ≡ row_of C A T late f i
    in_static i l u =
        let z : first + (i - (n + m)) ≡ i = omega (arith, is) in
        rw z at (t.put (i - (n + m)) (omega arith)) ∙ row_static_lem C A T late f q i l u

    pub filled_all : (r : ℕ) → r ≡ id_count f.sources → FilledRows C A T late f before r N
    filled_all r e = record {
      many = e;
      long = t.long ∙ a.long ∙ c.long;
      rows = λ i h. by-lt i n (λ l. in_c i l) (λ l. by-lt i (n + m) (λ u. in_a i l u) (λ u. in_static i u h));
    }
