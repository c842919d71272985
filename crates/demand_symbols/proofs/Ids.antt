-- The candidates of a merge by where they come from: id k is C's symbol k, then come A's symbols, then the statics S. What demand 3 has taken over is what they say, id by id.
-- Assumes nothing.
use Prim.Native.Nat.{ℕ, ◌+◌, ◌-◌, ◌<◌}
use mathlib.Core.Path.{◌≡◌, refl, sym, ap, ◌∙◌, subst}
use mathlib.Core.Bool.{Bool, true, false}
use mathlib.Core.List.{List, [], ◌∷◌, ◌++◌, append_assoc}
use native.Mathlib.Omega.{arith}
use lib.ListN.{length, get_or}
use borrow.Author.Tests.{ne_eqb}
use Rattle.base_lists.specs.Ranges.{count, select}
use Rattle.base_lists.proofs.Ranges.{by-lt, count_lt, count_hit, gather_append, select_length, select_at, select_same}
use Rattle.base_fields.specs.declared.ByteOrder.{ByteOrder}
use Rattle.elf_records.specs.declared.symbol.SymbolEntry.{SymbolEntry}
use Rattle.elf_symbols.specs.Symbols.{symbol_count, symbol, symbol_name}
use Rattle.blocks_places.specs.Places.{Place}
use Rattle.statics_table.specs.declared.Static.{Static}
use Rattle.statics_table.specs.Statics.{working_name}
use Rattle.statics_entry.specs.Entry.{nth}
use Rattle.statics_symbols.specs.Entries.{symbol_of_static, static_symbol}
use Rattle.symbols_merge.specs.Candidates.{Candidates, is_unnamed}
use Rattle.symbols_merge.proofs.Merged.{Taken}
use Rattle.symbols_taken.specs.Taken.{is_taken_c, is_taken_a}
use Rattle.symbols_ids.specs.Entries.{finished, entry_a}
use Rattle.symbols_ids.specs.Ids.{first_a, first_static, by_origin, name_of, entry_static, entry_of, candidates}
use Rattle.demand_clauses.proofs.of_symbols_fill.Origins.{origin_own, origin_other, origin_static}
use Rattle.demand_clauses.specs.TakenOver.{Definition, no_definition, definition_c, definition_a, definition_static, taken_over}

-- ---- any candidates

-- what candidate i says of its name
unfoldable pub definition_of : Candidates → ℕ → Definition
definition_of s i = record { name = s.name i; section = s.section i; value = s.value i }

pub named_not : (s : Candidates) (i : ℕ) → 0 < length (s.name i) → is_unnamed s i ≡ false
unfolding is_unnamed
named_not s i h = ne_eqb (length (s.name i)) 0 (λ e. omega (arith, h, e))

-- ---- by origin

module _ (o : ByteOrder) (C A : List ℕ) where
  -- how many symbols C and A have
  abbrev n : ℕ
  n = symbol_count o C

  abbrev m : ℕ
  m = symbol_count o A

  -- what holds of C's symbols, of A's and of so many statics holds of every id
  pub by_id : (many : ℕ) (Z : ℕ → Type 0) → ((k : ℕ) → k < n → Z k) → ((k : ℕ) → k < m → Z (n + k)) → ((k : ℕ) → k < many → Z (n + m + k)) → (i : ℕ) → i < n + m + many → Z i
  by_id many Z own other static i h = by-lt i n
      (own i)
      (λ l. by-lt i (n + m)
      (λ u. subst Z (omega arith) (other (i - n) (omega arith)))
      (λ u. subst Z (omega arith) (static (i - (n + m)) (omega arith))))

  -- the ids of C's symbol k, of A's and of static k
  module _ (X : Type 0) (f g h : ℕ → X) (k : ℕ) where
    pub of_c : k < n → by_origin o C A f g h k ≡ f k
    of_c l = origin_own o C A n m refl refl k X f g h l

    pub of_a : k < m → by_origin o C A f g h (n + k) ≡ g k
    of_a l = origin_other o C A n m refl refl (n + k) X f g h (omega arith) (omega arith) ∙ ap g (omega arith)

    pub of_static : by_origin o C A f g h (n + m + k) ≡ h k
    of_static = origin_static o C A n m refl refl (n + m + k) X f g h (omega arith) ∙ ap h (omega arith)

  module _ (P : List Place) (B : List ℕ) (mode : ℕ) (S : List Static) where
    abbrev s : Candidates
    s = candidates o C A P B mode S

    pub many_is : s.many ≡ n + m + length S
    unfolding candidates first_static first_a
    many_is = refl

    -- ---- what each id says

    -- it is what its name and the entry that it comes from say
    says : (i : ℕ) (name : List ℕ) (e : SymbolEntry) → name_of o C A S i ≡ name → by_origin o C A (symbol o C) (entry_a o C A P B) (entry_static o C A P B mode S) i ≡ e
        → definition_of s i ≡ record { name = name; section = e.st_shndx; value = e.st_value }
    unfolding definition_of candidates entry_of finished
    says i name e p q = λ j. record { name = p j; section = (q j).st_shndx; value = (q j).st_value }

    module _ (k : ℕ) where
      pub definition_c_lem : k < n → definition_of s k ≡ definition_c o C A P B k
      unfolding definition_c name_of
      definition_c_lem h = says k (symbol_name o C k) (symbol o C k)
          (of_c (List ℕ) (symbol_name o C) (symbol_name o A) (λ j. working_name C (nth S j)) k h)
          (of_c SymbolEntry (symbol o C) (entry_a o C A P B) (entry_static o C A P B mode S) k h)

      pub definition_a_lem : k < m → definition_of s (n + k) ≡ definition_a o C A P B k
      unfolding definition_a name_of entry_a
      definition_a_lem h = says (n + k) (symbol_name o A k) (entry_a o C A P B k)
          (of_a (List ℕ) (symbol_name o C) (symbol_name o A) (λ j. working_name C (nth S j)) k h)
          (of_a SymbolEntry (symbol o C) (entry_a o C A P B) (entry_static o C A P B mode S) k h)

      definition_static_lem : definition_of s (n + m + k) ≡ definition_static o C A P B (nth S k)
      unfolding definition_static name_of entry_static static_symbol symbol_of_static
      definition_static_lem = says (n + m + k) (working_name C (nth S k)) (entry_static o C A P B mode S k)
          (of_static (List ℕ) (symbol_name o C) (symbol_name o A) (λ j. working_name C (nth S j)) k)
          (of_static SymbolEntry (symbol o C) (entry_a o C A P B) (entry_static o C A P B mode S) k)

      taken_c : k < n → is_taken_c o C k ≡ s.taken k
      unfolding candidates
      taken_c h = sym (of_c Bool (is_taken_c o C) (is_taken_a o A) (λ j. true) k h)

      taken_a : k < m → is_taken_a o A k ≡ s.taken (n + k)
      unfolding candidates
      taken_a h = sym (of_a Bool (is_taken_c o C) (is_taken_a o A) (λ j. true) k h)

      taken_static : true ≡ s.taken (n + m + k)
      unfolding candidates
      taken_static = sym (of_static Bool (is_taken_c o C) (is_taken_a o A) (λ j. true) k)

    -- ---- what is taken over

    abbrev over : List Definition
    over = taken_over o C A P B S

    -- what ids say that are taken, the first i of them; k from i on
    abbrev said : ℕ → List Definition
    said i = select s.taken (definition_of s) i

    abbrev part : ℕ → ℕ → List Definition
    part i k = select (λ j. s.taken (i + j)) (λ j. definition_of s (i + j)) k

    said_parts : (i k : ℕ) → said (i + k) ≡ said i ++ part i k
    unfolding select
    said_parts i k = gather_append s.taken (λ j. definition_of s j ∷ []) i k

    part_c : select (is_taken_c o C) (definition_c o C A P B) n ≡ said n
    part_c = select_same (is_taken_c o C) s.taken (definition_c o C A P B) (definition_of s) n taken_c (λ k h t. sym (definition_c_lem k h))

    part_a : select (is_taken_a o A) (definition_a o C A P B) m ≡ part n m
    part_a = select_same (is_taken_a o A) (λ j. s.taken (n + j)) (definition_a o C A P B) (λ j. definition_of s (n + j)) m taken_a (λ k h t. sym (definition_a_lem k h))

    part_static : select (λ j. true) (λ j. definition_static o C A P B (nth S j)) (length S) ≡ part (n + m) (length S)
    part_static =
        select_same (λ j. true) (λ j. s.taken (n + m + j)) (λ j. definition_static o C A P B (nth S j)) (λ j. definition_of s (n + m + j)) (length S)
        (λ k h. taken_static k) (λ k h t. sym (definition_static_lem k))

    over_is : over ≡ said s.many
    unfolding taken_over
    over_is =
        rw (part_c, part_a, part_static)
        (sym (append_assoc (said n) (part n m) (part (n + m) (length S)))
        ∙ ap (λ (l : List Definition). l ++ part (n + m) (length S)) (sym (said_parts n m))
        ∙ sym (said_parts (n + m) (length S))
        ∙ ap said (sym many_is))

    -- what an id says that is taken stands there
    pub over_at_lem : (i : ℕ) → Taken s i → (j : ℕ) × (j < length over) × (get_or over j no_definition ≡ definition_of s i)
    over_at_lem i t = (
      count s.taken i,
      rw (over_is, select_length s.taken (definition_of s) s.many) (count_lt s.taken i s.many t.0 t.1),
      rw over_is (select_at s.taken (definition_of s) i s.many no_definition t.0 t.1),
    )

    -- and what stands there, an id says that is taken
    abbrev Said : List Definition → Type 0
    Said l = (j : ℕ) → j < length l → (i : ℕ) × Taken s i × (get_or l j no_definition ≡ definition_of s i)

    said_at : (j i : ℕ) → i < s.many → s.taken i ≡ true → count s.taken i ≡ j → get_or (said s.many) j no_definition ≡ definition_of s i
    said_at j i l t e = ap (λ (k : ℕ). get_or (said s.many) k no_definition) (sym e) ∙ select_at s.taken (definition_of s) i s.many no_definition l t

    said_all : Said (said s.many)
    said_all j h =
        let r = count_hit s.taken s.many j (rw (select_length s.taken (definition_of s) s.many) at h) in
        (r.0, (r.1, r.2), said_at j r.0 r.1 r.2 r.3)

    pub over_of : (j : ℕ) → j < length over → (i : ℕ) × Taken s i × (get_or over j no_definition ≡ definition_of s i)
    over_of = subst Said (sym over_is) said_all
