-- What one more word changes: it is there, and the words before it and all that stands behind it are as before. Assumes nothing.
use Prim.Native.Nat.{ℕ, ◌+◌, ◌-◌, ◌*◌, ◌≤◌, ◌<◌}
use mathlib.Core.Path.{◌≡◌, refl, sym, ap, ◌∙◌}
use mathlib.Core.List.{List}
use native.Mathlib.Omega.{arith}
use lib.ListN.{length, drop}
use lib.Seq.{drop-drop}
use Rattle.base_lists.proofs.Ranges.{by_last}
use Rattle.base_lists.proofs.Windows.{drop_spliced}
use Rattle.base_fields.specs.declared.ByteOrder.{ByteOrder}
use Rattle.base_fields.specs.declared.ByteOrder.TheVariants.{Big}
use Rattle.base_fields.specs.Numbers.{encoded}
use Rattle.base_fields.proofs.Numbers.{length_encoded}
use Rattle.base_scope.specs.Limits.{ID_LIMIT}
use Rattle.base_index.specs.Index.{hash_of, hash_place, Built}
use Rattle.base_index.proofs.Table.{with_number, number_long, number_same, number_other, hash_same, hash_other}
use Rattle.symbols_merge.specs.Candidates.{Candidates}
use Rattle.symbols_merge.specs.Listed.{holder_of}
use Rattle.symbols_names.specs.declared.Sources.{Sources}
use Rattle.symbols_names.specs.Names.{first_in, SourcesRead}
use Rattle.symbols_names.proofs.Names.{other_count, name_other}
use Rattle.symbols_rows.specs.Rows.{half_in}
use Rattle.symbols_holders.specs.Ready.{known_in, KnownHashes, Hashed, ListIndexed, id_name, NamesHeld}

-- ---- hashes that are known

-- the hash of A's symbol is that of its id
pub known_is : (o : ByteOrder) (C A U : List ℕ) (s : Sources) (I : List ℕ) (known i r : ℕ) → SourcesRead o C A U s → KnownHashes o A known I → s.compiled.count ≤ i → i < first_in s
    → r ≡ known_in I known (i - s.compiled.count) → r ≡ hash_of (id_name o C A U s i)
known_is o C A U s I known i r q h l u e =
    e ∙ h.each (i - s.compiled.count) (omega (arith, other_count o C A U s q)) ∙ ap hash_of (name_other o C A U s q i l u)

-- they stand behind all that is put
pub known_kept : (o : ByteOrder) (A I J : List ℕ) (known p x : ℕ) → hash_place p + 2 ≤ 2 * ID_LIMIT → J ≡ with_number 2 I (hash_place p) x → KnownHashes o A known I → KnownHashes o A known J
unfolding known_in
known_kept o A I J known p x low e h =
    let fits : hash_place p + 2 ≤ length I = omega (arith, h.apart, h.room) in
    rw e (record {
      apart = h.apart;
      room = rw (number_long 2 I (hash_place p) x fits) h.room;
      each = λ k l. number_other 2 I (hash_place p) x fits 2 (known + 2 * k) (λ u. omega (arith, h.apart)) ∙ h.each k l;
    })

-- ---- hashes put

module _ (name : ℕ → List ℕ) (L : List ℕ) where
  -- what `put_hash` reads and writes, in its order: the id at p, the hash of its name, the word
  pub hash_put : (I J : List ℕ) (p i h : ℕ) → i ≡ half_in L p → h ≡ hash_of (name i) → J ≡ with_number 2 I (hash_place p) h
      → J ≡ with_number 2 I (hash_place p) (hash_of (name (half_in L p)))
  hash_put I J p i h id is put = put ∙ ap (with_number 2 I (hash_place p)) (is ∙ ap (λ (k : ℕ). hash_of (name k)) id)

  pub hashed_none : (I : List ℕ) → Hashed name L I 0
  hashed_none I = record { each = λ p l. absurd (omega arith) }

  pub hashed_next : (I J : List ℕ) (p : ℕ) → hash_place p + 2 ≤ length I → J ≡ with_number 2 I (hash_place p) (hash_of (name (half_in L p))) → Hashed name L I p → Hashed name L J (p + 1)
  hashed_next I J p fits e h = rw e (record {
    each = λ k l. by_last k p (omega arith)
        (λ d. hash_other I p (hash_of (name (half_in L p))) fits k (λ q. absurd (omega arith)) ∙ h.each k d)
        (λ q. rw q (hash_same I p (hash_of (name (half_in L p))) fits));
  })

  -- building the index keeps the hashes
  pub list_indexed : (I J : List ℕ) (m : ℕ) → Hashed name L I m → Built ID_LIMIT m I J → ListIndexed name L J m
  list_indexed I J m h b = record { indexed = b.indexed; hashed = record { each = λ p l. b.kept p l ∙ h.each p l } }

-- ---- holders put

module _ (s : Candidates) where
  pub names_none : (H : List ℕ) → NamesHeld s 0 H H
  names_none H = record { held = record { long = omega arith; is = λ p l. absurd (omega arith) }; kept = refl }

  module _ (G H J : List ℕ) (p : ℕ) (fits : 2 * p + 2 ≤ length H) (put : J ≡ with_number 2 H (2 * p) (holder_of s p)) (n : NamesHeld s p G H) where
    abbrev X : List ℕ
    X = with_number 2 H (2 * p) (holder_of s p)

    holder_same : half_in X p ≡ holder_of s p
    unfolding half_in
    holder_same = number_same 1 H (2 * p) (holder_of s p) fits

    holder_other : (k : ℕ) → k < p → half_in X k ≡ half_in H k
    unfolding half_in
    holder_other k l = number_other 2 H (2 * p) (holder_of s p) fits 2 (2 * k) (omega arith)

    further : (K : List ℕ) → drop (2 * (p + 1)) K ≡ drop 2 (drop (2 * p) K)
    further K =
        let e : 2 * (p + 1) ≡ 2 * p + 2 = omega arith in
        ap (λ (x : ℕ). drop x K) e ∙ sym (drop-drop 2 (2 * p) K)

    behind : drop (2 * (p + 1)) X ≡ drop (2 * (p + 1)) H
    behind =
        let w = encoded Big 2 (holder_of s p) in
        let e : 2 * p + length w ≡ 2 * (p + 1) = omega (arith, length_encoded Big 2 (holder_of s p)) in
        rw (← e) (drop_spliced H (2 * p) w (rw (length_encoded Big 2 (holder_of s p)) fits))

    pub names_next : NamesHeld s (p + 1) G J
    names_next = rw put (record {
      held = record {
        long = rw (number_long 2 H (2 * p) (holder_of s p) fits) (omega arith);
        is = λ k l. by_last k p (omega arith) (λ d. holder_other k d ∙ n.held.is k d) (λ q. rw q holder_same);
      };
      kept = behind ∙ further H ∙ ap (drop 2) n.kept ∙ sym (further G);
    })
