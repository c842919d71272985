-- Which object an id comes from: what the counts in hand say is what `by_origin` says, so a row is put together from its parts. Assumes nothing.
use Prim.Native.Nat.{ℕ, ◌+◌, ◌-◌, ◌*◌, ◌≤◌, ◌<◌}
use mathlib.Core.Path.{◌≡◌, sym, ap, ◌∙◌}
use mathlib.Core.Bool.{Bool, true, false}
use mathlib.Core.List.{List}
use native.Mathlib.Omega.{arith}
use lib.ListN.{length}
use lib.Dec.{eqb}
use borrow.Author.Tests.{lt-ltb, le-ltb}
use Rattle.base_lists.specs.Strings.{same}
use Rattle.base_lists.proofs.Ranges.{by-lt}
use Rattle.base_fields.specs.declared.ByteOrder.{ByteOrder}
use Rattle.base_scope.specs.Limits.{SYMBOL_LIMIT}
use Rattle.base_scope.specs.Text.{text}
use Rattle.elf_symbols.specs.Symbols.{symbol_count}
use Rattle.elf_symbols.proofs.Symbols.{table_count}
use Rattle.symbols_holders.specs.of_symbols_taken.Taken.{is_taken_c, is_taken_a}
use Rattle.symbols_holders.specs.of_symbols_ids.Ids.{first_a, first_static, by_origin}
use Rattle.symbols_holders.proofs.of_symbols_names.Names.{rows_held, name_own, name_other, name_static}
use Rattle.symbols_rows.specs.declared.IdRow.{IdRow}
use Rattle.symbols_rows.specs.Rows.{Fits}
use Rattle.symbols_holders.specs.Ready.{id_count}
use Rattle.symbols_holders.specs.of_symbols_names.declared.NameKind.{NameKind}
use Rattle.symbols_holders.specs.of_symbols_names.Names.{kind_of}
use Rattle.symbols_fill.specs.declared.SymbolPlace.{SymbolPlace}
use Rattle.symbols_fill.specs.declared.Filling.{Filling}
use Rattle.symbols_fill.specs.Fill.{place_c, place_a, place_static, taken_kind, is_taken, id_place, row_by, row_c, row_a, row_static, row_of, taken_row, no_row, SmallSections, PlacesReady}
use Rattle.symbols_fill.proofs.Places.{small_sections}

-- n symbols of C, m of A
module _ (o : ByteOrder) (C A : List ℕ) (n m : ℕ) (own : n ≡ symbol_count o C) (other : m ≡ symbol_count o A) (i : ℕ) where
  first_other : first_a o C A ≡ n
  unfolding first_a
  first_other = sym own

  first_behind : first_static o C A ≡ n + m
  unfolding first_static
  first_behind = omega (arith, first_other, other)

  module _ (X : Type 0) (f g h : ℕ → X) where
    pub origin_own : i < n → by_origin o C A f g h i ≡ f i
    unfolding by_origin
    origin_own l = rw (first_other, lt-ltb i n l)

    pub origin_other : n ≤ i → i < n + m → by_origin o C A f g h i ≡ g (i - n)
    unfolding by_origin
    origin_other l u = rw (first_other, first_behind, le-ltb i n l, lt-ltb i (n + m) u)

    pub origin_static : n + m ≤ i → by_origin o C A f g h i ≡ h (i - (n + m))
    unfolding by_origin
    origin_static l =
        let k : n ≤ i = omega arith in
        rw (first_other, first_behind, le-ltb i n k, le-ltb i (n + m) l)

  -- what is related by origin is related
  pub origin_related : (X Y : Type 0) (t : Y → X) (f g h : ℕ → X) (u v w : ℕ → Y) → f i ≡ t (u i) → (n ≤ i → i < n + m → g (i - n) ≡ t (v (i - n)))
      → (n + m ≤ i → h (i - (n + m)) ≡ t (w (i - (n + m)))) → by_origin o C A f g h i ≡ t (by_origin o C A u v w i)
  origin_related X Y t f g h u v w a b c = by-lt i n
      (λ l. origin_own X f g h l ∙ a ∙ ap t (sym (origin_own Y u v w l)))
      (λ l. by-lt i (n + m)
      (λ k. origin_other X f g h l k ∙ b l k ∙ ap t (sym (origin_other Y u v w l k)))
      (λ k. origin_static X f g h k ∙ c k ∙ ap t (sym (origin_static Y u v w k))))

-- ---- rows

-- the name of an id that is taken
module _ (t : Bool) (name : List ℕ) (taken : t ≡ true) where
  pub kind_unnamed : (taken_kind t name).unnamed ≡ eqb (length name) 0
  unfolding taken_kind kind_of
  kind_unnamed = rw taken

  pub kind_gp : (taken_kind t name).gp_disp ≡ same name (text "_gp_disp")
  unfolding taken_kind kind_of
  kind_gp = rw taken

-- a row by the test whether it is taken
module _ (t : Bool) (name : List ℕ) (p : SymbolPlace) where
  pub row_taken : (r : IdRow) (x : SymbolPlace) (k : NameKind) → t ≡ true → r ≡ taken_row x k → x ≡ p → k ≡ kind_of name → r ≡ row_by t name p
  unfolding taken_kind
  row_taken r x k taken is place kind = is ∙ rw (place, kind, taken)

  pub row_none : (r : IdRow) → t ≡ false → r ≡ no_row → r ≡ row_by t name p
  unfolding taken_kind
  row_none r left is = is ∙ rw left

-- its binding and section fit into a row
pub taken_fits : (r : IdRow) (x : SymbolPlace) (k : NameKind) → r ≡ taken_row x k → Fits x.binding x.section → Fits r.binding r.section
taken_fits r x k is h = rw is h

pub none_fits : (r : IdRow) → r ≡ no_row → Fits r.binding r.section
none_fits r is = rw is (omega arith, omega arith)

-- by what is in hand
module _ (C A T late : List ℕ) (f : Filling) (q : PlacesReady C A T late f) where
  abbrev n : ℕ
  n = f.sources.compiled.count

  abbrev m : ℕ
  m = f.sources.assembled.count

  pub own : n ≡ symbol_count f.inputs.order C
  own = table_count f.inputs.order C f.sources.compiled q.names.compiled

  pub other : m ≡ symbol_count f.inputs.order A
  other = table_count f.inputs.order A f.sources.assembled q.names.assembled

  pub small : SmallSections f.inputs.compiled
  small = small_sections f.inputs.order C f.inputs.compiled q.compiled

  pub symbols_few : n + m ≤ 2 * SYMBOL_LIMIT
  symbols_few = (rows_held f.inputs.order C A T f.sources q.names).symbols

  -- the row of id i is that of the symbol or the static that it is
  module _ (i : ℕ) where
    pub row_own : i < n → row_c f.inputs.order C i ≡ row_of C A T late f i
    unfolding row_c row_of is_taken id_place
    row_own l = sym (rw (
      origin_own f.inputs.order C A n m own other i Bool (is_taken_c f.inputs.order C) (is_taken_a f.inputs.order A) (λ k. true) l,
      origin_own f.inputs.order C A n m own other i SymbolPlace (place_c f.inputs.order C) (place_a A late f) (place_static T f) l,
      ← name_own f.inputs.order C A T f.sources q.names i l,
    ))

    pub row_other : n ≤ i → i < n + m → row_a A late f (i - n) ≡ row_of C A T late f i
    unfolding row_a row_of is_taken id_place
    row_other l u = sym (rw (
      origin_other f.inputs.order C A n m own other i Bool (is_taken_c f.inputs.order C) (is_taken_a f.inputs.order A) (λ k. true) l u,
      origin_other f.inputs.order C A n m own other i SymbolPlace (place_c f.inputs.order C) (place_a A late f) (place_static T f) l u,
      ← name_other f.inputs.order C A T f.sources q.names i l u,
    ))

    pub row_static_lem : n + m ≤ i → i < id_count f.sources → row_static C T f (i - (n + m)) ≡ row_of C A T late f i
    unfolding row_static row_of is_taken id_place
    row_static_lem l u = sym (rw (
      origin_static f.inputs.order C A n m own other i Bool (is_taken_c f.inputs.order C) (is_taken_a f.inputs.order A) (λ k. true) l,
      origin_static f.inputs.order C A n m own other i SymbolPlace (place_c f.inputs.order C) (place_a A late f) (place_static T f) l,
      ← name_static f.inputs.order C A T f.sources q.names i l u,
    ))
