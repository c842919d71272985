-- Of the code, not of document 01: an index of items by a hash each, in one table. A bucket has the items whose hashes agree modulo the number of buckets, which is one of
-- three by how many items there are, so that few items cost little; for each bucket the table has its first item, and for each item the next one of its bucket. Hashes decide no answer: they
-- only say which items a search may pass over.
use Rattle.std.specs.Prelude.{◌≡◌, ℕ, ◌+◌, ◌-◌, ◌*◌, ◌/◌, ◌%◌, ◌^◌, ◌<◌, ◌≤◌, Bool, cond, List, length, take, ◌==◌, nat_lt}
use Rattle.base_lists.specs.Ranges.{first}
use Rattle.base_lists.specs.Windows.{spliced}
use Rattle.base_fields.specs.declared.ByteOrder.TheVariants.{Big}
use Rattle.base_fields.specs.Numbers.{number, encoded}
use Rattle.base_names.specs.Words.{word_at}

-- the most buckets
abbrev pub BUCKETS : ℕ
BUCKETS = 4096

-- the most items that an index holds
abbrev pub ITEM_LIMIT : ℕ
ITEM_LIMIT = 12288

-- how many bytes of a string take part in its hash: strings that share their storage may be long, and strings of one length do not share it, so few of them begin alike
-- for so long
abbrev pub HASH_BYTES : ℕ
HASH_BYTES = 2048

-- words are summed up by this number, which leaves 1 of 2 ^ 64
abbrev pub ROUND : ℕ
ROUND = 2 ^ 64 - 1

-- the n bytes of s at a before a sum: their number, the first byte the lowest, with the sum above it
unfoldable pub mixed_at : List ℕ → ℕ → ℕ → ℕ → ℕ
mixed_at s a n h = (word_at s a n + 256 ^ n * h) % ROUND

-- a string before a sum
unfoldable pub mixed : List ℕ → ℕ → ℕ
mixed s h = mixed_at s 0 (length s) h

-- a sum as sixteen bits, in which all of its bits play a part
unfoldable pub spread : ℕ → ℕ
spread x = (x % 2 ^ 32 * 666958599 + x / 2 ^ 32 * 1988613485) / 2 ^ 24 % 2 ^ 16

-- the hash of a string: of its first bytes, and of its length, since strings that share their first bytes may differ in it alone
unfoldable pub hash_of : List ℕ → ℕ
hash_of s = (spread (mixed (take HASH_BYTES s) 0) + length s) % 2 ^ 16

-- how many buckets n items have, a power of two, and the bucket of a hash among them
unfoldable pub buckets_of : ℕ → ℕ
buckets_of n = cond (nat_lt n 64) 64 (cond (nat_lt n 1024) 1024 BUCKETS)

unfoldable pub bucket_of : ℕ → ℕ → ℕ
bucket_of n h = h % buckets_of n

-- the layout of a table for `capacity` items, two bytes for each number: their hashes, their nexts, then the heads of the buckets
abbrev pub hash_place : ℕ → ℕ
hash_place k = 2 * k

abbrev pub next_place : ℕ → ℕ → ℕ
next_place capacity k = 2 * capacity + 2 * k

abbrev pub head_place : ℕ → ℕ → ℕ
head_place capacity b = 4 * capacity + 2 * b

pub record Room (capacity : ℕ) (T : List ℕ) : Type 0 where
  pub few : capacity ≤ ITEM_LIMIT
  pub long : 4 * capacity + 2 * BUCKETS ≤ length T

unfoldable pub hash_in : List ℕ → ℕ → ℕ
hash_in T k = number Big 2 T (hash_place k)

unfoldable pub next_in : ℕ → List ℕ → ℕ → ℕ
next_in capacity T k = number Big 2 T (next_place capacity k)

unfoldable pub head_in : ℕ → List ℕ → ℕ → ℕ
head_in capacity T b = number Big 2 T (head_place capacity b)

-- item k is in bucket b of those of n items
unfoldable pub in_bucket : ℕ → List ℕ → ℕ → ℕ → Bool
in_bucket n T b k = bucket_of n (hash_in T k) == b

-- n items are indexed: n itself stands where a bucket has no item, or none any more
pub record Indexed (capacity : ℕ) (T : List ℕ) (n : ℕ) : Type 0 where
  pub room : Room capacity T
  pub many : n ≤ capacity
  pub head : (b : ℕ) → b < buckets_of n → head_in capacity T b ≡ first (in_bucket n T b) 0 n
  pub next : (k : ℕ) → k < n → next_in capacity T k ≡ first (in_bucket n T (bucket_of n (hash_in T k))) (k + 1) n

-- what building the index of n items leaves
pub record Built (capacity n : ℕ) (before after : List ℕ) : Type 0 where
  pub indexed : Indexed capacity after n
  pub kept : (k : ℕ) → k < n → hash_in after k ≡ hash_in before k

-- the turns of building: the first i buckets are empty, no hash has changed
pub record Emptied (capacity n i : ℕ) (before after : List ℕ) : Type 0 where
  pub kept : (k : ℕ) → k < capacity → hash_in after k ≡ hash_in before k
  pub head : (b : ℕ) → b < i → head_in capacity after b ≡ n

-- item j of n goes to the front of its bucket
unfoldable pub linked : ℕ → ℕ → List ℕ → ℕ → List ℕ
linked capacity n T j =
    spliced (spliced T (next_place capacity j) (encoded Big 2 (head_in capacity T (bucket_of n (hash_in T j))))) (head_place capacity (bucket_of n (hash_in T j))) (encoded Big 2 j)
