-- Words made new, one by one: a walk through a bucket makes those of all items that pass the test new, since an item that passes is in the bucket of its hash, and the
-- walk meets each item of the bucket once. Assumes nothing.
use Prim.Native.Nat.{ℕ, ◌+◌, ◌*◌, ◌≤◌, ◌<◌}
use mathlib.Core.Path.{◌≡◌, refl, sym, ap, ◌∙◌}
use mathlib.Core.Bool.{Bool, true, false, cond, ◌||◌}
use mathlib.Core.Logic.{◌≢◌}
use mathlib.Core.List.{List}
use native.Mathlib.Omega.{arith}
use lib.ListN.{length}
use lib.Dec.{eqb}
use borrow.Author.Tests.{eq-eqb, ne_eqb, eqb-true}
use Rattle.base_lists.specs.Ranges.{first, IsFirst}
use Rattle.base_lists.specs.Windows.{spliced}
use Rattle.base_lists.proofs.Ranges.{by-test, both, by-lt, first_is}
use Rattle.base_lists.proofs.Strings.{same_true}
use Rattle.base_fields.specs.declared.ByteOrder.{ByteOrder}
use Rattle.base_fields.specs.declared.ByteOrder.TheVariants.{Big}
use Rattle.base_fields.specs.Numbers.{encoded}
use Rattle.base_scope.specs.Limits.{SYMBOL_LIMIT}
use Rattle.base_index.specs.Index.{bucket_of, next_in, head_in, in_bucket, Indexed}
use Rattle.base_index.proofs.Table.{with_number, number_long, number_same, number_other}
use Rattle.base_index.proofs.Index.{bucket_low, Implies, in_bucket_lem, bucket_in}
use Rattle.elf_symbols.specs.Symbols.{symbol_count, symbol_name, is_symbol_named}
use Rattle.symbols_glabels.specs.Words.{mark_in, new_word, Marked, Holds, is_item, Visited, Uniform}

-- ---- one word

module _ (M : List ℕ) (k x : ℕ) (fits : 4 * k + 4 ≤ length M) where
  new_same : mark_in (with_number 4 M (4 * k) x) k ≡ x
  unfolding mark_in
  new_same = number_same 3 M (4 * k) x fits

  new_other : (j : ℕ) → j ≢ k → mark_in (with_number 4 M (4 * k) x) j ≡ mark_in M j
  unfolding mark_in
  new_other j d = number_other 4 M (4 * k) x fits 4 (4 * j) (omega arith)

module _ (put k n : ℕ) (before : List ℕ) where
  -- a word that changes
  pub visit_new : (after : List ℕ) → 4 * k + 4 ≤ length before → after ≡ spliced before (4 * k) (encoded Big 4 (new_word put (mark_in before k)))
      → Visited (λ j. true) put k n true before after
  unfolding is_item
  visit_new after fits e =
      let w : ℕ = new_word put (mark_in before k) in
      rw e (record {
        marked = record {
          long = number_long 4 before (4 * k) w fits;
          words = λ j h. by-test (eqb k j)
              (λ s. let q : k ≡ j = eqb-true k j s in rw (← q, eq-eqb k k refl) (new_same before k w fits))
              (λ s. rw s (new_other before k w fits j (λ q. both (eq-eqb k j (sym q)) s)));
        };
        stop = λ f. both refl f;
      })

  -- and one that stays
  pub visit_same : new_word put (mark_in before k) ≡ mark_in before k → Visited (λ j. true) put k n false before before
  unfolding is_item
  visit_same e =
      record {
        marked = record {
          long = refl;
          words = λ j h. by-test (eqb k j)
              (λ s. let q : k ≡ j = eqb-true k j s in rw (← q, eq-eqb k k refl) (sym e))
              (λ s. rw s);
        };
        stop = λ f. (refl, e);
      }

  -- by a test: an item that passes, and one that does not
  pub visit_yes : (p : ℕ → Bool) (m : ℕ) (r : Bool) (after : List ℕ) → p k ≡ true → m ≤ n → Visited (λ j. true) put k n r before after → Visited p put k m r before after
  unfolding is_item
  visit_yes p m r after t l v =
      record {
        marked = record {
          long = v.marked.long;
          words = λ j h. v.marked.words j (omega arith) ∙ by-test (eqb k j)
              (λ s. let q : k ≡ j = eqb-true k j s in rw (s, ← q, t))
              (λ s. rw s);
        };
        stop = λ f. (t, (v.stop f).1);
      }

  pub visit_no : (p : ℕ → Bool) → p k ≡ false → Visited p put k n true before before
  unfolding is_item
  visit_no p f =
      record {
        marked = record {
          long = refl;
          words = λ j h. by-test (eqb k j)
              (λ s. let q : k ≡ j = eqb-true k j s in rw (← q, eq-eqb k k refl, f))
              (λ s. rw s);
        };
        stop = λ g. both refl g;
      }

-- ---- the walk through a bucket

-- it stands at item k, or behind the last one: the words of the items before it are done, those from it on have stayed
pub record Walked (p : ℕ → Bool) (put h : ℕ) (T : List ℕ) (n : ℕ) (before after : List ℕ) (k : ℕ) : Type 0 where
  pub high : k ≤ n
  pub here : k < n → in_bucket n T (bucket_of n h) k ≡ true
  pub long : length after ≡ length before
  pub done : (j : ℕ) → j < k → mark_in after j ≡ cond (p j) (new_word put (mark_in before j)) (mark_in before j)
  pub rest : (j : ℕ) → k ≤ j → j < n → mark_in after j ≡ mark_in before j

module _ (p : ℕ → Bool) (put h : ℕ) (T : List ℕ) (n capacity : ℕ) (before : List ℕ) where
  pub walked_end : (after : List ℕ) (k : ℕ) → n ≤ k → Walked p put h T n before after k → Marked p put n before after
  walked_end after k l w = record { long = w.long; words = λ j u. w.done j (omega arith) }

  -- an item that passes and has its new word already ends the walk, where those that pass have one word
  pub walked_stop : ((i j : ℕ) → i < n → j < n → p i ≡ true → p j ≡ true → mark_in before i ≡ mark_in before j) → (m after : List ℕ) (k : ℕ) (on : Bool) → k < n
      → Walked p put h T n before m k → on ≡ false → Visited p put k n on m after → Marked p put n before after
  unfolding is_item
  walked_stop one m after k on l w f v =
      let s = v.stop f in
      let c : mark_in m k ≡ mark_in before k = w.rest k (omega arith) l in
      let e : new_word put (mark_in before k) ≡ mark_in before k = rw c at s.1 in
      let kept : (j : ℕ) → j < n → mark_in after j ≡ mark_in m j = λ j u. v.marked.words j u ∙ by-test (eqb k j)
      (λ t. let q : k ≡ j = eqb-true k j t in rw (← q, eq-eqb k k refl, s.0) s.1)
      (λ t. rw t) in
      record {
        long = v.marked.long ∙ w.long;
        words = λ j u. kept j u ∙ by-lt j k (λ g. w.done j g) (λ g. w.rest j g u ∙ by-test (p j)
            (λ t. let d : mark_in before j ≡ mark_in before k = one j k u l t s.0 in rw (t, d) (sym e))
            (λ t. rw t));
      }

  module _ (implies : Implies p h T n) (x : Indexed capacity T n) where
    other_bucket : (k : ℕ) → k < n → in_bucket n T (bucket_of n h) k ≡ false → p k ≡ false
    other_bucket k l f = by-test (p k) (λ t. both (in_bucket_lem n T (bucket_of n h) k (ap (bucket_of n) (implies k l t))) f) (λ g. g)

    pub walked_none : Walked p put h T n before before (head_in capacity T (bucket_of n h))
    walked_none =
        let e : head_in capacity T (bucket_of n h) ≡ first (in_bucket n T (bucket_of n h)) 0 n = x.head (bucket_of n h) (bucket_low n h) in
        let r : IsFirst (in_bucket n T (bucket_of n h)) 0 n (head_in capacity T (bucket_of n h)) = rw e (first_is (in_bucket n T (bucket_of n h)) 0 n (omega arith)) in
        record {
          high = r.high;
          here = r.here;
          long = refl;
          done = λ j l. rw (other_bucket j (omega (arith, r.high)) (r.below j (omega arith) l));
          rest = λ j l u. refl;
        }

    pub walked_next : (m after : List ℕ) (k : ℕ) → k < n → Walked p put h T n before m k → Marked (is_item p k) put n m after → Walked p put h T n before after (next_in capacity T k)
    unfolding is_item
    walked_next m after k l w a =
        let b : bucket_of n _ ≡ bucket_of n h = bucket_in n T (bucket_of n h) k (w.here l) in
        let e : next_in capacity T k ≡ first (in_bucket n T (bucket_of n h)) (k + 1) n = x.next k l ∙ ap (λ (c : ℕ). first (in_bucket n T c) (k + 1) n) b in
        let r : IsFirst (in_bucket n T (bucket_of n h)) (k + 1) n (next_in capacity T k) = rw e (first_is (in_bucket n T (bucket_of n h)) (k + 1) n (omega arith)) in
        let stays : (j : ℕ) → j < n → j ≢ k → mark_in after j ≡ mark_in m j = λ j u d. a.words j u ∙ rw (ne_eqb k j (λ q. d (sym q))) in
        record {
          high = r.high;
          here = r.here;
          long = a.long ∙ w.long;
          done = λ j u. by-lt j k
              (λ v. stays j (omega (arith, r.high)) (λ q. absurd (omega arith)) ∙ w.done j v)
              (λ v. by-lt k j
              (λ g. stays j (omega (arith, r.high)) (λ q. absurd (omega arith)) ∙ w.rest j v (omega (arith, r.high))
              ∙ rw (other_bucket j (omega (arith, r.high)) (r.below j (omega arith) u)))
              (λ g.
              let q : j ≡ k = omega arith in
              rw q (a.words k l ∙ rw (eq-eqb k k refl, w.rest k (omega arith) l))));
          rest = λ j u v. stays j v (λ q. absurd (omega (arith, r.low))) ∙ w.rest j (omega (arith, r.low)) v;
        }

-- ---- one change as another, and two in a row

module _ (p q : ℕ → Bool) (put n : ℕ) (before after : List ℕ) where
  pub marked_as : ((k : ℕ) → p k ≡ q k) → Marked p put n before after → Marked q put n before after
  marked_as each a = record { long = a.long; words = λ k h. a.words k h ∙ ap (λ (b : Bool). cond b (new_word put (mark_in before k)) (mark_in before k)) (each k) }

pub marked_none : (p : ℕ → Bool) (put n : ℕ) (before : List ℕ) → ((k : ℕ) → p k ≡ false) → Marked p put n before before
marked_none p put n before none = record { long = refl; words = λ k h. rw (none k) }

-- bit 0 is set once
flag_twice : (w : ℕ) → new_word 0 (new_word 0 w) ≡ new_word 0 w
unfolding new_word
flag_twice w = omega arith

pub marked_then : (p q r : ℕ → Bool) (n : ℕ) (before m after : List ℕ) → ((k : ℕ) → r k ≡ (p k || q k)) → Marked p 0 n before m → Marked q 0 n m after → Marked r 0 n before after
marked_then p q r n before m after either a b =
    record {
      long = b.long ∙ a.long;
      words = λ k h. b.words k h ∙ rw (a.words k h, either k) (joined (p k) (q k) (mark_in before k));
    }
  where
    joined : (a b : Bool) (w : ℕ) → cond b (new_word 0 (cond a (new_word 0 w) w)) (cond a (new_word 0 w) w) ≡ cond (a || b) (new_word 0 w) w
    joined true true w = flag_twice w
    joined true false w = refl
    joined false true w = refl
    joined false false w = refl

-- ---- symbols of one name have one word

module _ (o : ByteOrder) (F : List ℕ) where
  -- it is so where the words are given by the names
  pub uniform_holds : (word : List ℕ → ℕ) (before after : List ℕ) → 4 * SYMBOL_LIMIT ≤ length before → Holds (λ k. word (symbol_name o F k)) (symbol_count o F) before after → Uniform o F after
  uniform_holds word before after r x =
      record { room = rw x.long r; one = λ j k g h e. x.words j g ∙ ap word e ∙ sym (x.words k h) }

  -- and stays so where the names say which are made new
  pub uniform_marked : (test : List ℕ → Bool) (put : ℕ) (before after : List ℕ) → Uniform o F before → Marked (λ k. test (symbol_name o F k)) put (symbol_count o F) before after → Uniform o F after
  uniform_marked test put before after u x =
      record {
        room = rw x.long u.room;
        one = λ j k g h e. x.words j g ∙ rw (u.one j k g h e, e) (sym (x.words k h));
      }

  -- so of a name
  pub uniform_named : (name marks : List ℕ) → Uniform o F marks
      → (i j : ℕ) → i < symbol_count o F → j < symbol_count o F → is_symbol_named o F name i ≡ true → is_symbol_named o F name j ≡ true → mark_in marks i ≡ mark_in marks j
  unfolding is_symbol_named
  uniform_named name marks u i j g h s t = u.one i j g h (same_true (symbol_name o F i) name s ∙ sym (same_true (symbol_name o F j) name t))
