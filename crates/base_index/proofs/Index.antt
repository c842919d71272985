-- The walk through a bucket finds what a search over all items finds: an item that passes the test has the hash h, so it is in h's bucket, and the search may pass over
-- the items of other buckets. Assumes nothing.
use Rattle.std.proofs.Common.{◌≡◌, ℕ, ◌+◌, ◌%◌, ◌<◌, ◌≤◌, Bool, true, false, List, refl, ap, ◌∙◌, mod-lt, arith, le-ltb, lt-ltb, eq-eqb, ne_eqb, eqb-true}
use Rattle.base_lists.specs.Ranges.{first, IsFirst}
use Rattle.base_lists.proofs.Ranges.{by-test, by-lt, both, first_is, first_over, first_here, first_next, first_end, first_low_lem}
use Rattle.base_index.specs.Index.{BUCKETS, buckets_of, bucket_of, hash_in, next_in, head_in, in_bucket, Indexed}

-- 64 buckets, 1,024, or all
pub buckets_64 : (n : ℕ) → n < 64 → 64 ≡ buckets_of n
unfolding buckets_of
buckets_64 n l = rw (lt-ltb n 64 l)

pub buckets_1024 : (n : ℕ) → 64 ≤ n → n < 1024 → 1024 ≡ buckets_of n
unfolding buckets_of
buckets_1024 n m l = rw (le-ltb n 64 m, lt-ltb n 1024 l)

pub buckets_all : (n : ℕ) → 1024 ≤ n → BUCKETS ≡ buckets_of n
unfolding buckets_of
buckets_all n m = let k : 64 ≤ n = omega arith in rw (le-ltb n 64 k, le-ltb n 1024 m)

pub buckets_bound : (n : ℕ) → (0 < buckets_of n) × (buckets_of n ≤ BUCKETS)
buckets_bound n = by-lt n 64
    (λ l. rw (← buckets_64 n l) (omega arith, omega arith))
    (λ m. by-lt n 1024
    (λ l. rw (← buckets_1024 n m l) (omega arith, omega arith))
    (λ k. rw (← buckets_all n k) (omega arith, omega arith)))

pub bucket_low : (n h : ℕ) → bucket_of n h < buckets_of n
unfolding bucket_of
bucket_low n h = mod-lt h (buckets_bound n).0

-- the bucket of a hash, by how many buckets there are
pub bucket_by : (n h m r : ℕ) → m ≡ buckets_of n → r ≡ h % m → (r ≡ bucket_of n h) × (r < BUCKETS)
unfolding bucket_of
bucket_by n h m r e f =
    let q : r ≡ bucket_of n h = f ∙ ap (λ (k : ℕ). h % k) e in
    (q, omega (arith, q, bucket_low n h, (buckets_bound n).1))

-- an item is in the bucket of its hash alone
module _ (n : ℕ) (T : List ℕ) (b k : ℕ) where
  pub in_bucket_lem : bucket_of n (hash_in T k) ≡ b → in_bucket n T b k ≡ true
  unfolding in_bucket
  in_bucket_lem e = eq-eqb _ _ e

  pub not_in_bucket : (bucket_of n (hash_in T k) ≡ b → ⊥) → in_bucket n T b k ≡ false
  unfolding in_bucket
  not_in_bucket d = ne_eqb _ _ d

  pub bucket_in : in_bucket n T b k ≡ true → bucket_of n (hash_in T k) ≡ b
  unfolding in_bucket
  bucket_in t = eqb-true _ _ t

pub bucket_same : (n : ℕ) (T U : List ℕ) (b k : ℕ) → hash_in T k ≡ hash_in U k → in_bucket n T b k ≡ in_bucket n U b k
unfolding in_bucket
bucket_same n T U b k e = rw e

-- the walk through h's bucket stands at item k, or behind the last one where k is n: the search for p has come as far
pub record Reached (p : ℕ → Bool) (h : ℕ) (T : List ℕ) (n k : ℕ) : Type 0 where
  pub high : k ≤ n
  pub here : k < n → in_bucket n T (bucket_of n h) k ≡ true
  pub rest : first p 0 n ≡ first p k n

-- what passes the test p has the hash h
abbrev pub Implies : (ℕ → Bool) → ℕ → List ℕ → ℕ → Type 0
Implies p h T n = (k : ℕ) → k < n → p k ≡ true → hash_in T k ≡ h

module _ (p : ℕ → Bool) (h : ℕ) (T : List ℕ) (n : ℕ) where
  -- an item that passes ends the walk, and so does the end of the bucket
  pub reach_here : (k : ℕ) → Reached p h T n k → k < n → p k ≡ true → first p 0 n ≡ k
  reach_here k r l t = r.rest ∙ first_here p k n l t

  pub reach_end : (k : ℕ) → Reached p h T n k → n ≤ k → first p 0 n ≡ n
  reach_end k r l = let u = r.high in let e : k ≡ n = omega arith in r.rest ∙ first_end p k n l ∙ e

  module _ (implies : Implies p h T n) where
    -- an item with another hash need not be tested
    pub other_hash : (k : ℕ) → k < n → (hash_in T k ≡ h → ⊥) → p k ≡ false
    other_hash k l d = by-test (p k) (λ t. absurd (d (implies k l t))) (λ f. f)

    other_bucket : (k : ℕ) → k < n → in_bucket n T (bucket_of n h) k ≡ false → p k ≡ false
    other_bucket k l f = by-test (p k) (λ t. both (in_bucket_lem n T (bucket_of n h) k (ap (bucket_of n) (implies k l t))) f) (λ g. g)

    -- the walk goes on at m, the first item from i on in a bucket b that is h's
    reach : (i b m : ℕ) → i ≤ n → b ≡ bucket_of n h → m ≡ first (in_bucket n T b) i n → first p 0 n ≡ first p i n → Reached p h T n m
    reach i b m l e f g =
        let q : m ≡ first (in_bucket n T (bucket_of n h)) i n = f ∙ ap (λ (c : ℕ). first (in_bucket n T c) i n) e in
        let r : IsFirst (in_bucket n T (bucket_of n h)) i n m = rw q (first_is (in_bucket n T (bucket_of n h)) i n l) in
        record {
          high = r.high;
          here = r.here;
          rest = g ∙ first_over p i m n r.low r.high (λ j a u. other_bucket j (omega (arith, r.high)) (r.below j a u));
        }

    module _ (capacity : ℕ) (x : Indexed capacity T n) where
      -- it starts at the head of h's bucket
      pub reach_first : Reached p h T n (head_in capacity T (bucket_of n h))
      reach_first = reach 0 (bucket_of n h) _ (omega arith) refl (x.head (bucket_of n h) (bucket_low n h)) refl

      -- and goes on at the next of an item that does not pass
      pub reach_next : (k : ℕ) → Reached p h T n k → k < n → p k ≡ false → Reached p h T n (next_in capacity T k)
      reach_next k r l f =
          reach (k + 1) _ _ (omega arith) (bucket_in n T (bucket_of n h) k (r.here l)) (x.next k l) (r.rest ∙ first_next p k n l f)

-- the walk goes forward only
pub next_far : (capacity : ℕ) (T : List ℕ) (n k : ℕ) → Indexed capacity T n → k < n → k < next_in capacity T k
next_far capacity T n k x l = rw (x.next k l) (omega (arith, first_low_lem (in_bucket n T (bucket_of n (hash_in T k))) (k + 1) n))
