-- What a number written into a table changes: itself, and no other one, since the numbers of an index do not overlap. Assumes nothing.
use Rattle.std.proofs.Common.{◌≡◌, ℕ, suc, ◌+◌, ◌*◌, ◌<◌, ◌≤◌, ◌≢◌, List, length, inl, inr, arith}
use Rattle.base_lists.specs.Windows.{spliced}
use Rattle.base_lists.proofs.Ranges.{by-lt}
use Rattle.base_lists.proofs.Windows.{length_spliced}
use Rattle.base_fields.specs.declared.ByteOrder.TheVariants.{Big}
use Rattle.base_fields.specs.Numbers.{number, encoded}
use Rattle.base_fields.proofs.Numbers.{length_encoded, number_spliced, number_outside}
use Rattle.base_index.specs.Index.{BUCKETS, hash_place, next_place, head_place, Room, hash_in, next_in, head_in}

-- T with number x of w bytes at o
abbrev pub with_number : ℕ → List ℕ → ℕ → ℕ → List ℕ
with_number w T o x = spliced T o (encoded Big w x)

module _ (w : ℕ) (T : List ℕ) (o x : ℕ) (fits : o + w ≤ length T) where
  within : o + length (encoded Big w x) ≤ length T
  within = rw (length_encoded Big w x) fits

  pub number_long : length (with_number w T o x) ≡ length T
  number_long = length_spliced T o (encoded Big w x) within

  -- the number of v bytes at p ends at o at the latest, or starts behind x
  pub number_other : (v p : ℕ) → (o < p + v → o + w ≤ p) → number Big v (with_number w T o x) p ≡ number Big v T p
  number_other v p apart =
      number_outside Big v p T o (encoded Big w x) within (rw (length_encoded Big w x) (by-lt o (p + v) (λ l. inr (apart l)) (λ l. inl l)))

-- it is read back
pub number_same : (w : ℕ) (T : List ℕ) (o x : ℕ) → o + suc w ≤ length T → number Big (suc w) (with_number (suc w) T o x) o ≡ x
number_same w T o x fits = number_spliced Big w x o T fits

-- the hashes of items after one of them is put
module _ (T : List ℕ) (k h : ℕ) (fits : hash_place k + 2 ≤ length T) where
  pub hash_same : hash_in (with_number 2 T (hash_place k) h) k ≡ h
  unfolding hash_in
  hash_same = number_same 1 T (hash_place k) h fits

  pub hash_other : (j : ℕ) → j ≢ k → hash_in (with_number 2 T (hash_place k) h) j ≡ hash_in T j
  unfolding hash_in
  hash_other j d = number_other 2 T (hash_place k) h fits 2 (hash_place j) (omega arith)

-- they stand before everything that building writes
pub hash_before : (capacity : ℕ) (T : List ℕ) (o x k : ℕ) → o + 2 ≤ length T → 2 * capacity ≤ o → k < capacity → hash_in (with_number 2 T o x) k ≡ hash_in T k
unfolding hash_in
hash_before capacity T o x k fits behind l = number_other 2 T o x fits 2 (hash_place k) (omega arith)

-- item j's next is written
module _ (capacity : ℕ) (T : List ℕ) (j x : ℕ) (room : Room capacity T) (l : j < capacity) where
  pub next_same : next_in capacity (with_number 2 T (next_place capacity j) x) j ≡ x
  unfolding next_in
  next_same = number_same 1 T (next_place capacity j) x (omega (arith, room.long))

  pub next_other : (k : ℕ) → j < k → next_in capacity (with_number 2 T (next_place capacity j) x) k ≡ next_in capacity T k
  unfolding next_in
  next_other k d = number_other 2 T (next_place capacity j) x (omega (arith, room.long)) 2 (next_place capacity k) (omega arith)

  pub next_not_head : (b : ℕ) → head_in capacity (with_number 2 T (next_place capacity j) x) b ≡ head_in capacity T b
  unfolding head_in
  next_not_head b = number_other 2 T (next_place capacity j) x (omega (arith, room.long)) 2 (head_place capacity b) (omega arith)

-- bucket b's head is written
module _ (capacity : ℕ) (T : List ℕ) (b x : ℕ) (room : Room capacity T) (l : b < BUCKETS) where
  pub head_same : head_in capacity (with_number 2 T (head_place capacity b) x) b ≡ x
  unfolding head_in
  head_same = number_same 1 T (head_place capacity b) x (omega (arith, room.long))

  pub head_other : (c : ℕ) → c ≢ b → head_in capacity (with_number 2 T (head_place capacity b) x) c ≡ head_in capacity T c
  unfolding head_in
  head_other c d = number_other 2 T (head_place capacity b) x (omega (arith, room.long)) 2 (head_place capacity c) (omega arith)

  pub head_not_next : (k : ℕ) → k < capacity → next_in capacity (with_number 2 T (head_place capacity b) x) k ≡ next_in capacity T k
  unfolding next_in
  head_not_next k u = number_other 2 T (head_place capacity b) x (omega (arith, room.long)) 2 (next_place capacity k) (omega arith)
