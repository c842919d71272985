-- The walk through a bucket of the index finds the holder: positions that are alike have one name and so one hash, and a position is like itself, so the walk need not go
-- past it. Assumes nothing.
use Prim.Native.Nat.{ℕ, ◌≤◌, ◌<◌}
use mathlib.Core.Path.{◌≡◌, refl, sym, ap, ◌∙◌}
use mathlib.Core.Bool.{Bool, true, false}
use mathlib.Core.List.{List, []}
use native.Mathlib.Omega.{arith}
use lib.ListN.{length}
use lib.Dec.{eqb}
use borrow.Author.Tests.{eq-eqb, ne_eqb, eqb-false}
use Rattle.base_lists.specs.Ranges.{first}
use Rattle.base_lists.specs.Strings.{same}
use Rattle.base_lists.proofs.Ranges.{by-test, first_to, first_low_lem}
use Rattle.base_scope.specs.Limits.{ID_LIMIT}
use Rattle.base_groups.specs.Holders.{holder}
use Rattle.base_groups.proofs.Holders.{holder_alike}
use Rattle.base_fields.specs.declared.ByteOrder.{ByteOrder}
use Rattle.base_index.specs.Index.{hash_of, bucket_of, hash_in, next_in, head_in}
use Rattle.base_index.proofs.Index.{Reached, Implies, reach_here, reach_first, reach_next}
use Rattle.base_index.proofs.Hashes.{same_hash}
use Rattle.symbols_merge.specs.Candidates.{Candidates, is_unnamed}
use Rattle.symbols_merge.specs.Listed.{listed, listed_at, is_alike, holder_of}
use Rattle.symbols_merge.proofs.Names.{alike_named, alike_name, unnamed_one, alike_parts}
use Rattle.symbols_names.specs.declared.Sources.{Sources}
use Rattle.symbols_rows.specs.declared.IdRow.{IdRow}
use Rattle.symbols_rows.specs.Rows.{id_unnamed, id_row, candidates_in, RowsOf, half_in, ListOf}
use Rattle.symbols_rows.specs.Steps.{ids_listed, Position}
use Rattle.symbols_rows.proofs.Rows.{row_fields}
use Rattle.symbols_rows.proofs.Listing.{listed_names, listed_few}
use Rattle.symbols_rows.proofs.Tables.{list_long, list_at, list_taken, listed_row, positions_of}
use Rattle.symbols_holders.specs.Ready.{ListIndexed, ListHeld, PositionHeld, HoldersReady, id_count, id_name, symbols_in, alike_in, PositionReady}

-- the walk for the holder of position p stands at k
abbrev pub Walked : ByteOrder → List ℕ → List ℕ → List ℕ → Sources → List ℕ → List ℕ → ℕ → ℕ → Type 0
Walked o C A U s T I p k = Reached (is_alike (symbols_in o C A U s T) p) (hash_in I p) I (length (listed (symbols_in o C A U s T))) k

-- what the comparison of p with k reads, in its order: both hashes, both ids, both names
module _ (o : ByteOrder) (C A U : List ℕ) (s : Sources) (L I : List ℕ) (p k x y : ℕ) (hash-k : x ≡ hash_in I k) (hash-p : y ≡ hash_in I p) where
  pub alike_read : (i j : ℕ) (r : Bool) → x ≡ y → i ≡ half_in L p → j ≡ half_in L k → r ≡ same (id_name o C A U s i) (id_name o C A U s j)
      → r ≡ alike_in o C A U s L I p k
  unfolding alike_in
  alike_read i j r e id-p id-k told = rw (eq-eqb _ _ (sym hash-k ∙ e ∙ hash-p), ← id-p, ← id-k) told

  pub alike_unread : (x ≡ y → ⊥) → false ≡ alike_in o C A U s L I p k
  unfolding alike_in
  alike_unread d = rw (ne_eqb _ _ (λ e. d (hash-k ∙ e ∙ sym hash-p)))

-- the list has at most as many positions as there are ids
pub list_few : (T L : List ℕ) (n m : ℕ) (name : ℕ → List ℕ) → RowsOf T n name → ListOf (candidates_in T n name) L m → m ≤ ID_LIMIT
unfolding ids_listed
list_few T L n m name rows list =
    omega (arith, rows.few, list_long (candidates_in T n name) L m list, ap length (listed_names T n name (λ i. [])), listed_few T n)

-- each position of the list has its word, and that is an id
pub list_held : (o : ByteOrder) (C A U : List ℕ) (s : Sources) (T L : List ℕ) (m : ℕ) → HoldersReady o C A U s T L m → ListHeld s L m
unfolding candidates_in
list_held o C A U s T L m h p l = (omega (arith, h.list.long), (list_taken (symbols_in o C A U s T) L m h.list p l).0)

-- S are the candidates in hand, and p is a position of their list of m
module _ (o : ByteOrder) (C A U : List ℕ) (s : Sources) (T L I : List ℕ) (items p : ℕ) (q : PositionReady o C A U s T L I items p) where
  abbrev S : Candidates
  S = symbols_in o C A U s T

  abbrev m : ℕ
  m = length (listed S)

  abbrev name : ℕ → List ℕ
  name = id_name o C A U s

  pub position_here : Position T L p
  position_here = positions_of T (id_count s) name q.ready.rows L m q.ready.list p q.low

  word_at_lem : (k : ℕ) → k < m → listed_at S k ≡ half_in L k
  word_at_lem k l = sym (list_at S L m q.ready.list k l)

  id_low : (k : ℕ) → k < m → half_in L k < id_count s
  unfolding candidates_in
  id_low k l = (list_taken S L m q.ready.list k l).0

  unnamed_here : id_unnamed T (half_in L p) ≡ is_unnamed S (listed_at S p)
  unnamed_here = rw (word_at_lem p q.low) (q.ready.rows.unnamed (half_in L p) (id_low p q.low) (listed_row T (id_count s) name q.ready.rows L m q.ready.list p q.low))

  pub position_held : (k : ℕ) → k < m → PositionHeld s L I k
  position_held k l = record {
    item = omega (arith, q.index.indexed.room.long, q.index.indexed.many);
    word = omega (arith, q.ready.list.long);
    id = id_low k l;
  }

  -- ---- hashes

  -- the names of positions that are alike have one hash
  pub alike_ids : (k : ℕ) → k < m → is_alike S p k ≡ true → hash_of (name (half_in L k)) ≡ hash_of (name (half_in L p))
  unfolding candidates_in
  alike_ids k l t =
      let e : name (listed_at S p) ≡ name (listed_at S k) = alike_name S p k t in
      let f : name (half_in L p) ≡ name (half_in L k) = rw (word_at_lem p q.low, word_at_lem k l) at e in
      same_hash _ _ (sym f)

  implied : Implies (is_alike S p) (hash_in I p) I m
  implied k l t = q.index.hashed.each k l ∙ alike_ids k l t ∙ sym (q.index.hashed.each p q.low)

  -- what the code compares is what makes a holder, where p has a name
  pub alike_told : (k : ℕ) → k < m → id_unnamed T (half_in L p) ≡ false → alike_in o C A U s L I p k ≡ is_alike S p k
  unfolding alike_in candidates_in
  alike_told k l named =
      let e : is_alike S p k ≡ same (name (listed_at S p)) (name (listed_at S k)) = alike_named S p k (sym unnamed_here ∙ named) in
      let f : is_alike S p k ≡ same (name (half_in L p)) (name (half_in L k)) = rw (word_at_lem p q.low, word_at_lem k l) at e in
      by-test (eqb (hash_in I k) (hash_in I p))
      (λ t. rw t (sym f))
      (λ g. rw g (by-test (is_alike S p k) (λ t. absurd (eqb-false _ _ g (implied k l t))) (λ n. sym n)))

  -- ---- holders

  holder_first : holder_of S p ≡ first (is_alike S p) 0 m
  unfolding holder_of holder
  holder_first = refl

  -- none before p is like it
  pub walk_own : (k : ℕ) → Walked o C A U s T I p k → p ≤ k → p ≡ holder_of S p
  walk_own k w l = omega (
    arith,
    holder_first,
    w.rest,
    first_low_lem (is_alike S p) k m,
    first_to (is_alike S p) 0 m p (omega arith) q.low ((alike_parts S).itself p),
  )

  -- the walk starts at the head of the bucket of its hash
  pub walk_first : (h k : ℕ) → h ≡ hash_in I p → k ≡ head_in ID_LIMIT I (bucket_of items h) → Walked o C A U s T I p k
  walk_first h k g e = rw (e, q.many, g) (reach_first (is_alike S p) (hash_in I p) I m implied ID_LIMIT q.index.indexed)

  -- the row of p's id
  module _ (row : IdRow) (is : row ≡ id_row T (half_in L p)) where
    unnamed_told : id_unnamed T (half_in L p) ≡ row.unnamed
    unnamed_told = (row_fields T (half_in L p) row (sym is)).unnamed

    -- an unnamed position holds itself
    pub own_unnamed : row.unnamed ≡ true → p ≡ holder_of S p
    unfolding holder_of
    own_unnamed t =
        unnamed_one S p (holder_of S p) (sym unnamed_here ∙ unnamed_told ∙ t) (holder_alike (is_alike S) (length (listed S)) (alike_parts S) p q.low)

    -- r is what the comparison with k said
    module _ (named : row.unnamed ≡ false) (k : ℕ) (w : Walked o C A U s T I p k) (r : Bool) (l : k < p) (told : r ≡ alike_in o C A U s L I p k) where
      within : k < m
      within = omega (arith, q.low)

      alike_is : r ≡ is_alike S p k
      alike_is = told ∙ alike_told k within (unnamed_told ∙ named)

      pub walk_here : r ≡ true → k ≡ holder_of S p
      walk_here t = sym (holder_first ∙ reach_here (is_alike S p) (hash_in I p) I m k w within (sym alike_is ∙ t))

      pub walk_next : (n : ℕ) → r ≡ false → n ≡ next_in ID_LIMIT I k → Walked o C A U s T I p n
      walk_next n f e = rw e (reach_next (is_alike S p) (hash_in I p) I m implied ID_LIMIT q.index.indexed k w within (sym alike_is ∙ f))

-- a list of m positions is the whole list
pub ready_at : (o : ByteOrder) (C A U : List ℕ) (s : Sources) (T L I : List ℕ) (m p : ℕ)
    → HoldersReady o C A U s T L m → ListIndexed (id_name o C A U s) L I m → p < m → PositionReady o C A U s T L I m p
ready_at o C A U s T L I m p ready index low =
    let e : m ≡ length (listed (symbols_in o C A U s T)) = list_long (symbols_in o C A U s T) L m ready.list in
    record { many = e; low = rw e at low; ready = rw e at ready; index = rw e at index }
