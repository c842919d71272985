-- The laws of one block: what the answer for an item tells, the loop over its dummies, and that its dummies and its jump table together are its items. Assumes
-- nothing.
use Rattle.std.specs.Prelude.{None, Some, Option}
use Prim.Native.Nat.{ℕ, zero, suc, ◌+◌, ◌*◌, ◌≤◌, ◌<◌}
use mathlib.Core.Path.{◌≡◌, refl, sym, ap, ◌∙◌}
use mathlib.Core.Bool.{Bool, true, false, cond, ◌&&◌, ◌||◌}
use mathlib.Core.List.{List, [], ◌++◌}
use native.Mathlib.Numerals.{add-one}
use native.Mathlib.Omega.{arith}
use lib.ListN.{length}
use lib.Dec.{eqb, ltb}
use borrow.Author.Tests.{lt-ltb, le-ltb, ne_eqb, ltb-true, ltb-false}
use Rattle.base_lists.specs.Ranges.{first, select}
use Rattle.base_lists.specs.Records.{flat}
use Rattle.base_lists.specs.Windows.{spliced}
use Rattle.base_lists.proofs.Ranges.{by-test, by-lt, first_here, first_next, first_end, first_is, first_high, first_unique, first_none, none_first, first_more, select_zero, select_yes, select_all_length}
use Rattle.base_lists.proofs.Records.{flat_append, flat_none, flat_one, length_flat}
use Rattle.base_lists.proofs.Windows.{length_spliced, spliced_nil, spliced_then}
use Rattle.base_fields.specs.declared.ByteOrder.{ByteOrder}
use Rattle.base_fields.specs.declared.ByteOrder.TheVariants.{Big}
use Rattle.base_fields.specs.Numbers.{encoded}
use Rattle.base_fields.proofs.Numbers.{length_encoded}
use Rattle.late_moves.specs.of_blocks_items.Items.{dummy_count, dummy_word, jump_table}
use Rattle.late_dummies.specs.Spots.{pick_spot, spot}
use Rattle.late_moves.specs.Moves.{first_of_many, item_place, item_fault, last_from}
use Rattle.late_moves.proofs.Moves.{length_dummy, length_table, place_dummy, place_table_lem, fault_dummy, fault_table, item_fits, last_from_zero, last_from_next}
use Rattle.late_blocks.specs.Items.{table_spot, place_from, fault_from, sound_items, place_words, items_spot}

-- ---- what an answer tells

at_inj : (a b : ℕ) → Some a ≡ Some b → a ≡ b
at_inj a b e = cc

at_lost : {A : Type 0} (x y : A) (a : ℕ) → Some a ≡ None → x ≡ y
at_lost x y a e = cc

-- a place is the place asked for, and nothing is at fault; no place, and something is
pub spot_at : (b : Bool) (x p : ℕ) (r : Option ℕ) → r ≡ pick_spot b None (Some x) → r ≡ Some p → (b ≡ false) × (p ≡ x)
spot_at true x p r e q = (at_lost true false p (sym q ∙ e), at_lost p x p (sym q ∙ e))
spot_at false x p r e q = (refl, at_inj p x (sym q ∙ e))

pub spot_lost : (b : Bool) (x : ℕ) (r : Option ℕ) → r ≡ pick_spot b None (Some x) → r ≡ None → b ≡ true
spot_lost true x r e q = refl
spot_lost false x r e q = at_lost false true x (sym e ∙ q)

-- ---- a dummy

pub item_spot : (o : ByteOrder) (B R : List ℕ) (i last k count w : ℕ) (many : Bool) (r : Option ℕ) → count ≡ dummy_count B i → k < count
    → many ≡ (eqb k 0 && ltb 1 count) → w ≡ dummy_word B i k → r ≡ spot o R many last w
    → r ≡ pick_spot (item_fault o B R i last k) None (Some (item_place o B R i last k))
unfolding spot first_of_many
item_spot o B R i last k count w many r e h m q is =
    let l : k < dummy_count B i = omega arith in
    is ∙ rw (m, q, e, place_dummy o B R i last k l, fault_dummy o B R i last k l)

-- ---- a jump table

module _ (R : List ℕ) (count n last : ℕ) where
  pub table_none : n ≡ 0 → Some last ≡ table_spot R count n last
  unfolding table_spot
  table_none e = let q : last + 0 ≡ last = omega arith in rw (e, q)

  pub table_alone : (n ≡ 0 → ⊥) → count ≡ 0 → None ≡ table_spot R count n last
  unfolding table_spot
  table_alone d e = let h : 0 < n = omega arith in rw (lt-ltb _ _ h, e)

  pub table_past : (n ≡ 0 → ⊥) → (count ≡ 0 → ⊥) → length R < last + n → None ≡ table_spot R count n last
  unfolding table_spot
  table_past d f g = let h : 0 < n = omega arith in rw (lt-ltb _ _ h, ne_eqb _ _ f, lt-ltb _ _ g)

  pub table_fits : (n ≡ 0 → ⊥) → (count ≡ 0 → ⊥) → last + n ≤ length R → Some (last + n) ≡ table_spot R count n last
  unfolding table_spot
  table_fits d f g = let h : 0 < n = omega arith in rw (lt-ltb _ _ h, ne_eqb _ _ f, le-ltb _ _ g)

-- ---- the loop over the dummies of a block

module _ (o : ByteOrder) (B R : List ℕ) (i last : ℕ) where
  -- the places of the first k items
  abbrev pub first_words : ℕ → List ℕ
  first_words k = flat (encoded Big 3) (select (λ j. true) (place_from o B R i last) k)

  length_words : (k : ℕ) → length (first_words k) ≡ 3 * k
  length_words k =
      length_flat (encoded Big 3) 3 (length_encoded Big 3) (select (λ j. true) (place_from o B R i last) k)
      ∙ ap (λ (n : ℕ). 3 * n) (select_all_length (place_from o B R i last) k)

  words_next : (k : ℕ) → first_words (k + 1) ≡ first_words k ++ encoded Big 3 (place_from o B R i last k)
  words_next k = rw (select_yes (λ j. true) (place_from o B R i last) k refl, flat_append, flat_one)

  pub words_zero : first_words 0 ≡ []
  words_zero = rw (select_zero (λ j. true) (place_from o B R i last), flat_none)

  -- the answer for n items, where so many are sound
  pub spot_stop : (n k : ℕ) → sound_items o B R i last n ≡ k → k < n → None ≡ items_spot o B R i last n
  unfolding items_spot
  spot_stop n k e h = rw (e, lt-ltb _ _ h)

  pub spot_go : (n : ℕ) → sound_items o B R i last n ≡ n → Some (last_from o B R i last n) ≡ items_spot o B R i last n
  unfolding items_spot
  spot_go n e = let h : ltb n n ≡ false = le-ltb n n (omega arith) in rw (e, h)

-- k dummies were placed, whose words stand from `at` on, and the next search begins at `here`
pub record PlacingDummies (o : ByteOrder) (B R : List ℕ) (i last count : ℕ) (before : List ℕ) (at k here : ℕ) (late : List ℕ) : Type 0 where
  pub few : k ≤ count
  pub from : here ≡ last_from o B R i last k
  pub inside : here ≤ length R
  pub sound : sound_items o B R i last count ≡ first (fault_from o B R i last) k count
  pub long : length late ≡ length before
  pub words : late ≡ spliced before at (first_words o B R i last k)

pub placing_none : (o : ByteOrder) (B R : List ℕ) (i last count : ℕ) (late : List ℕ) (at : ℕ) → last ≤ length R
    → PlacingDummies o B R i last count late at 0 last late
unfolding sound_items
placing_none o B R i last count late at h = record {
  few = omega arith;
  from = sym (last_from_zero o B R i last);
  inside = h;
  sound = refl;
  long = refl;
  words = sym (rw (words_zero o B R i last) (spliced_nil late at));
}

module _ (o : ByteOrder) (B R : List ℕ) (i last count : ℕ) (before : List ℕ) (at k here : ℕ) (late : List ℕ)
    (w : PlacingDummies o B R i last count before at k here late) where
  fault_here : fault_from o B R i last k ≡ item_fault o B R i here k
  unfolding fault_from
  fault_here = rw w.from

  place_here : place_from o B R i last k ≡ item_place o B R i here k
  unfolding place_from
  place_here = rw w.from

  -- what the turns and the ends of the loop leave, where so many dummies are sound
  words_of : sound_items o B R i last count ≡ k → late ≡ spliced before at (place_words o B R i last count)
  unfolding place_words
  words_of e = w.words ∙ ap (λ (n : ℕ). spliced before at (first_words o B R i last n)) (sym e)

  module _ (h : k < count) where
    -- dummy k is lost
    pub placing_lost : item_fault o B R i here k ≡ true
        → (None ≡ items_spot o B R i last count) × (late ≡ spliced before at (place_words o B R i last count))
    placing_lost t =
        let e : sound_items o B R i last count ≡ k = w.sound ∙ first_here (fault_from o B R i last) k count h (fault_here ∙ t) in
        (spot_stop o B R i last count k e h, words_of e)

    -- its place is written
    module _ (p : ℕ) (f : item_fault o B R i here k ≡ false) (is : p ≡ item_place o B R i here k) (dummies : count ≡ dummy_count B i) where
      pub placing_fits : p + 4 ≤ length R
      placing_fits =
          let l : k < dummy_count B i = omega arith in
          omega (arith, item_fits o B R i here k f w.inside, length_dummy B i k l)

      pub placing_next : at + 3 * count ≤ length before
          → PlacingDummies o B R i last count before at (k + 1) (p + 4) (spliced late (at + 3 * k) (encoded Big 3 p))
      placing_next room =
          let l : k < dummy_count B i = omega arith in
          let n : 3 * k ≡ length (first_words o B R i last k) = sym (length_words o B R i last k) in
          let m : at + 3 * k ≡ at + length (first_words o B R i last k) = omega arith in
          let r : at + 3 * k + length (encoded Big 3 p) ≤ length before = omega (arith, length_encoded Big 3 p) in
          record {
            few = omega arith;
            from = sym (last_from_next o B R i last k ∙ rw (← w.from, ← is, length_dummy B i k l));
            inside = placing_fits;
            sound = w.sound ∙ first_next (fault_from o B R i last) k count h (fault_here ∙ f);
            long = length_spliced late (at + 3 * k) (encoded Big 3 p) (rw w.long r) ∙ w.long;
            words =
                ap (λ (x : List ℕ). spliced x (at + 3 * k) (encoded Big 3 p)) w.words
                ∙ spliced_then before at (first_words o B R i last k) (encoded Big 3 p) (at + 3 * k) m r
                ∙ ap (spliced before at) (rw (is, ← place_here) (sym (words_next o B R i last k)));
          }

  -- all are placed
  pub placing_end : count ≤ k → (Some here ≡ items_spot o B R i last count) × (late ≡ spliced before at (place_words o B R i last count))
  placing_end h =
      let q : k ≡ count = omega (arith, w.few) in
      let e : sound_items o B R i last count ≡ k = w.sound ∙ first_end (fault_from o B R i last) k count h in
      (rw (w.from, q) (spot_go o B R i last count (e ∙ q)), words_of e)

-- ---- a block

module _ (o : ByteOrder) (B R : List ℕ) (i last : ℕ) where
  pub sound_high : (n : ℕ) → sound_items o B R i last n ≤ n
  unfolding sound_items
  sound_high n = first_high (fault_from o B R i last) 0 n (omega arith)

  -- what the answer for n items tells
  pub spot_sound : (n p : ℕ) (r : Option ℕ) → r ≡ items_spot o B R i last n → r ≡ Some p → (sound_items o B R i last n ≡ n) × (p ≡ last_from o B R i last n)
  unfolding items_spot
  spot_sound n p r e q =
      let t = spot_at (ltb (sound_items o B R i last n) n) (last_from o B R i last n) p r e q in
      (omega (arith, sound_high n, ltb-false (sound_items o B R i last n) n t.0), t.1)

  pub spot_unsound : (n : ℕ) (r : Option ℕ) → r ≡ items_spot o B R i last n → r ≡ None → sound_items o B R i last n < n
  unfolding items_spot
  spot_unsound n r e q = ltb-true (sound_items o B R i last n) n (spot_lost (ltb (sound_items o B R i last n) n) (last_from o B R i last n) r e q)

  -- the end of items that are sound lies inside .rodata
  inside_to : (n : ℕ) → last ≤ length R → ((k : ℕ) → k < n → fault_from o B R i last k ≡ false) → last_from o B R i last n ≤ length R
  unfolding fault_from
  inside_to zero h sound = rw (last_from_zero o B R i last) h
  inside_to (suc n) h sound =
      rw (← add-one n) (rw (last_from_next o B R i last n)
      (item_fits o B R i (last_from o B R i last n) n (sound n (omega arith)) (inside_to n h (λ k l. sound k (omega arith)))))

  pub sound_inside : (n : ℕ) → last ≤ length R → sound_items o B R i last n ≡ n → last_from o B R i last n ≤ length R
  unfolding sound_items
  sound_inside n h e = inside_to n h (λ k l. none_first (fault_from o B R i last) 0 n k e (omega arith) l)

  -- one item more
  sound_more : (n : ℕ) → sound_items o B R i last n < n → sound_items o B R i last (n + 1) ≡ sound_items o B R i last n
  unfolding sound_items
  sound_more n h = first_more (fault_from o B R i last) 0 n (n + 1) h (omega arith)

  sound_last : (n : ℕ) (b : Bool) → sound_items o B R i last n ≡ n → fault_from o B R i last n ≡ b → sound_items o B R i last (n + 1) ≡ cond b n (n + 1)
  unfolding sound_items
  sound_last n true e t =
      first_unique (fault_from o B R i last) 0 (n + 1) _ n (first_is (fault_from o B R i last) 0 (n + 1) (omega arith))
      (record { low = omega arith; high = omega arith; below = λ k l u. none_first (fault_from o B R i last) 0 n k e l u; here = λ u. t })
  sound_last n false e f =
      first_none (fault_from o B R i last) 0 (n + 1) (omega arith) (λ k l u. by-lt k n
      (λ g. none_first (fault_from o B R i last) 0 n k e l g)
      (λ g. let q : k ≡ n = omega arith in rw q f))

  table_fault : (count n p : ℕ) → count ≡ dummy_count B i → n ≡ jump_table B i → dummy_count B i ≤ count → p ≡ last_from o B R i last count
      → fault_from o B R i last count ≡ (ltb 0 n && (eqb count 0 || ltb (length R) (p + n)))
  unfolding fault_from
  table_fault count n p d j h q = fault_table o B R i (last_from o B R i last count) count h ∙ rw (← d, ← j, ← q)

  -- a block whose dummies are placed: its jump table is its last item
  pub block_table_lem : (count n p : ℕ) → count ≡ dummy_count B i → n ≡ jump_table B i → sound_items o B R i last count ≡ count
      → p ≡ last_from o B R i last count → table_spot R count n p ≡ items_spot o B R i last (count + 1)
  unfolding table_spot
  block_table_lem count n p d j e q =
      let h : dummy_count B i ≤ count = omega arith in
      let f : fault_from o B R i last count ≡ (ltb 0 n && (eqb count 0 || ltb (length R) (p + n))) = table_fault count n p d j h q in
      let m : last_from o B R i last (count + 1) ≡ p + n =
      last_from_next o B R i last count ∙ rw (place_table_lem o B R i (last_from o B R i last count) count h, length_table B i count h, ← j, ← q) in
      by-test (ltb 0 n && (eqb count 0 || ltb (length R) (p + n)))
      (λ t. rw t (spot_stop o B R i last (count + 1) count (sound_last count true e (f ∙ t)) (omega arith)))
      (λ t. rw (t, ← m) (spot_go o B R i last (count + 1) (sound_last count false e (f ∙ t))))

  -- a block with a dummy that is lost
  pub block_lost : (count : ℕ) → sound_items o B R i last count < count → None ≡ items_spot o B R i last (count + 1)
  block_lost count h = spot_stop o B R i last (count + 1) (sound_items o B R i last count) (sound_more count h) (omega arith)
