-- Building goes from the last item to the first, and at each turn the heads are the first items of their buckets among those passed: the item of the turn comes before
-- all of them, so it is the new head of its bucket and the old head is its next. Assumes nothing.
use Rattle.std.proofs.Common.{◌≡◌, ℕ, ◌+◌, ◌<◌, ◌≤◌, eqb, List, length, sym, refl, ap, ◌∙◌, arith, eqb-true}
use borrow.Author.Tests.{eqb-false}
use Rattle.base_lists.specs.Ranges.{first}
use Rattle.base_lists.proofs.Ranges.{by-test, by-lt, by_last, first_here, first_next, first_end, first_ext}
use Rattle.base_index.specs.Index.{BUCKETS, buckets_of, bucket_of, next_place, head_place, Room, hash_in, next_in, head_in, in_bucket, Built, Emptied, linked}
use Rattle.base_index.proofs.Table.{with_number, number_long, hash_before, next_same, next_other, next_not_head, head_same, head_other, head_not_next}
use Rattle.base_index.proofs.Index.{buckets_bound, bucket_low, in_bucket_lem, not_in_bucket, bucket_same}

pub room_same : (capacity : ℕ) (T U : List ℕ) → length U ≡ length T → Room capacity T → Room capacity U
room_same capacity T U e r = record { few = r.few; long = rw e r.long }

room_word : (capacity : ℕ) (T : List ℕ) (o x : ℕ) → Room capacity T → o + 2 ≤ length T → Room capacity (with_number 2 T o x)
room_word capacity T o x r fits = room_same capacity T (with_number 2 T o x) (number_long 2 T o x fits) r

-- ---- emptying

pub empty_none : (capacity n : ℕ) (T : List ℕ) → Emptied capacity n 0 T T
empty_none capacity n T = record { kept = λ k l. refl; head = λ b l. absurd (omega arith) }

pub empty_next : (capacity n i o : ℕ) (T U X : List ℕ) → Room capacity U → i < BUCKETS → o ≡ head_place capacity i → X ≡ with_number 2 U o n
    → Emptied capacity n i T U → Emptied capacity n (i + 1) T X
empty_next capacity n i o T U X room l at e m =
    let fits : head_place capacity i + 2 ≤ length U = omega (arith, room.long) in
    rw (e, at) (record {
      kept = λ k u. hash_before capacity U (head_place capacity i) n k fits (omega arith) u ∙ m.kept k u;
      head = λ b u. by_last b i (omega arith)
          (λ d. head_other capacity U i n room l b (λ q. absurd (omega arith)) ∙ m.head b d)
          (λ q. rw q (head_same capacity U i n room l));
    })

-- ---- linking

-- the items of n from j on are linked, by the hashes of T
pub record Chained (capacity n j : ℕ) (T U : List ℕ) : Type 0 where
  pub kept : (k : ℕ) → k < capacity → hash_in U k ≡ hash_in T k
  pub head : (b : ℕ) → b < buckets_of n → head_in capacity U b ≡ first (in_bucket n T b) j n
  pub next : (k : ℕ) → j ≤ k → k < n → next_in capacity U k ≡ first (in_bucket n T (bucket_of n (hash_in T k))) (k + 1) n

pub chain_none : (capacity n : ℕ) (S T : List ℕ) → Emptied capacity n (buckets_of n) S T → Chained capacity n n T T
chain_none capacity n S T m = record {
  kept = λ k l. refl;
  head = λ b l. m.head b l ∙ sym (first_end (in_bucket n T b) n n (omega arith));
  next = λ k l u. absurd (omega arith);
}

-- what `link` reads and writes, in its order: the hash, the head of its bucket, and the two numbers at their places
pub link_is : (capacity n j h x b o p : ℕ) (T A B : List ℕ) → h ≡ hash_in T j → x ≡ head_in capacity T (bucket_of n h) → o ≡ next_place capacity j → A ≡ with_number 2 T o x
    → b ≡ bucket_of n h → p ≡ head_place capacity b → B ≡ with_number 2 A p j → B ≡ linked capacity n T j
unfolding linked
link_is capacity n j h x b o p T A B hash head place next bucket front done = rw (done, next, front, place, head, bucket, hash)

-- a turn: U is the table before it, X that with item j's next, Y that with the head of its bucket b
module _ (capacity n j : ℕ) (T U : List ℕ) (room : Room capacity U) (l : j < n) (most : n ≤ capacity) (m : Chained capacity n (j + 1) T U) where
  abbrev b : ℕ
  b = bucket_of n (hash_in U j)

  abbrev X : List ℕ
  X = with_number 2 U (next_place capacity j) (head_in capacity U b)

  abbrev Y : List ℕ
  Y = with_number 2 X (head_place capacity b) j

  own : b ≡ bucket_of n (hash_in T j)
  own = ap (bucket_of n) (m.kept j (omega arith))

  inside : b < buckets_of n
  inside = bucket_low n (hash_in U j)

  small : b < BUCKETS
  small = omega (arith, inside, (buckets_bound n).1)

  fits : next_place capacity j + 2 ≤ length U
  fits = omega (arith, room.long)

  room_x : Room capacity X
  room_x = room_word capacity U (next_place capacity j) (head_in capacity U b) room fits

  turn_kept : (k : ℕ) → k < capacity → hash_in Y k ≡ hash_in T k
  turn_kept k u =
      hash_before capacity X (head_place capacity b) j k (omega (arith, room_x.long, small)) (omega arith) u
      ∙ hash_before capacity U (next_place capacity j) (head_in capacity U b) k fits (omega arith) u
      ∙ m.kept k u

  turn_head : (c : ℕ) → c < buckets_of n → head_in capacity Y c ≡ first (in_bucket n T c) j n
  turn_head c u = by-test (eqb c b)
      (λ t. let q : c ≡ b = eqb-true c b t in
      rw q (head_same capacity X b j room_x small ∙ sym (first_here (in_bucket n T b) j n l (in_bucket_lem n T b j (sym own)))))
      (λ t. let d = eqb-false c b t in
      head_other capacity X b j room_x small c d
      ∙ next_not_head capacity U j (head_in capacity U b) room (omega arith) c
      ∙ m.head c u
      ∙ sym (first_next (in_bucket n T c) j n l (not_in_bucket n T c j (λ q. d (sym q ∙ sym own)))))

  turn_next : (k : ℕ) → j ≤ k → k < n → next_in capacity Y k ≡ first (in_bucket n T (bucket_of n (hash_in T k))) (k + 1) n
  turn_next k low high = head_not_next capacity X b j room_x small k (omega arith) ∙ by-lt j k
      (λ d. next_other capacity U j (head_in capacity U b) room (omega arith) k d ∙ m.next k (omega arith) high)
      (λ d. let q : k ≡ j = omega arith in
      rw q (next_same capacity U j (head_in capacity U b) room (omega arith) ∙ m.head b inside ∙ ap (λ (c : ℕ). first (in_bucket n T c) (j + 1) n) own))

  pub chain_next : Chained capacity n j T (linked capacity n U j)
  unfolding linked
  chain_next = record { kept = turn_kept; head = turn_head; next = turn_next }

-- at the end the chains are by the table's own hashes, which are those of T and of the table S before it was emptied
pub chain_end : (capacity n : ℕ) (S T U : List ℕ) → Room capacity U → n ≤ capacity → Emptied capacity n (buckets_of n) S T → Chained capacity n 0 T U → Built capacity n S U
chain_end capacity n S T U room most e m =
    let same : (b i : ℕ) → first (in_bucket n T b) i n ≡ first (in_bucket n U b) i n =
    λ b i. first_ext (in_bucket n T b) (in_bucket n U b) i n (λ k l u. sym (bucket_same n U T b k (m.kept k (omega arith)))) in
    let own : (k : ℕ) → k < n → first (in_bucket n U (bucket_of n (hash_in T k))) (k + 1) n ≡ first (in_bucket n U (bucket_of n (hash_in U k))) (k + 1) n =
    λ k l. ap (λ (h : ℕ). first (in_bucket n U (bucket_of n h)) (k + 1) n) (sym (m.kept k (omega arith))) in
    record {
      indexed = record {
        room = room;
        many = most;
        head = λ b l. m.head b l ∙ same b 0;
        next = λ k l. m.next k (omega arith) l ∙ same (bucket_of n (hash_in T k)) (k + 1) ∙ own k l;
      };
      kept = λ k l. m.kept k (omega arith) ∙ e.kept k (omega arith);
    }
