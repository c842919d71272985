-- Listing ids: a turn writes one id or none behind those before it, so the turns of a group write its ids in order, and the two groups are the list; no id is in both, so the
-- list has at most as many ids as there are rows. Assumes nothing.
use Prim.Native.Nat.{ℕ, zero, suc, ◌+◌, ◌*◌, ◌≤◌, ◌<◌}
use mathlib.Core.Path.{◌≡◌, refl, sym, ap, ◌∙◌}
use mathlib.Core.Bool.{Bool, true, false, ◌&&◌}
use mathlib.Core.List.{List, [], ◌∷◌, ◌++◌, append-nil}
use native.Mathlib.Omega.{arith}
use lib.ListN.{length, length-append}
use lib.Dec.{eqb}
use borrow.Author.Tests.{eqb-true, ne_eqb}
use Rattle.base_lists.specs.Ranges.{count, gather, select, pick_list}
use Rattle.base_lists.specs.Records.{flat}
use Rattle.base_lists.specs.Windows.{spliced}
use Rattle.base_lists.proofs.Ranges.{by-test, and_parts, count_mono, select_zero, select_yes, select_no, select_length}
use Rattle.base_lists.proofs.Records.{flat_none, flat_one, flat_append, length_flat}
use Rattle.base_lists.proofs.Windows.{spliced_nil, spliced_then}
use Rattle.base_fields.specs.declared.ByteOrder.TheVariants.{Big}
use Rattle.base_fields.specs.Numbers.{encoded}
use Rattle.base_fields.proofs.Numbers.{length_encoded}
use Rattle.base_groups.specs.Groups.{in_group, of_group, grouped}
use Rattle.symbols_merge.specs.Candidates.{is_defined}
use Rattle.symbols_merge.specs.Listed.{list_group, listed}
use Rattle.symbols_rows.specs.declared.IdRow.{IdRow}
use Rattle.symbols_rows.specs.Rows.{id_taken, id_section, id_row, candidates_in}
use Rattle.symbols_rows.specs.Steps.{section_group, in_list, ids_of, ids_listed, Listing}

-- ---- ids written

abbrev bytes : List ℕ → List ℕ
bytes ids = flat (encoded Big 2) ids

length_bytes : (ids : List ℕ) → length (bytes ids) ≡ 2 * length ids
length_bytes ids = length_flat (encoded Big 2) 2 (length_encoded Big 2) ids

pub listing_none : (m : ℕ) (a : List ℕ) → Listing [] m m a a
listing_none m a = record { many = omega arith; words = sym (ap (spliced a (2 * m)) (flat_none (encoded Big 2)) ∙ spliced_nil a (2 * m)) }

pub listing_one : (i m : ℕ) (a b : List ℕ) → b ≡ spliced a (2 * m) (encoded Big 2 i) → Listing (i ∷ []) m (m + 1) a b
listing_one i m a b e = record { many = omega arith; words = e ∙ ap (spliced a (2 * m)) (sym (flat_one (encoded Big 2) i)) }

-- some ids, then others
pub listing_then : (xs ys : List ℕ) (m r q : ℕ) (a b c : List ℕ) → 2 * (m + length xs + length ys) ≤ length a → Listing xs m r a b → Listing ys r q b c → Listing (xs ++ ys) m q a c
listing_then xs ys m r q a b c h f g =
    let e : 2 * r ≡ 2 * m + length (bytes xs) = omega (arith, f.many, length_bytes xs) in
    let room : 2 * r + length (bytes ys) ≤ length a = omega (arith, f.many, length_bytes ys) in
    record {
      many = rw length-append (omega (arith, f.many, g.many));
      words =
          g.words
          ∙ ap (λ (x : List ℕ). spliced x (2 * r) (bytes ys)) f.words
          ∙ spliced_then a (2 * m) (bytes xs) (bytes ys) (2 * r) e room
          ∙ ap (spliced a (2 * m)) (sym (flat_append (encoded Big 2) xs ys));
    }

-- ---- the ids of a group

module _ (T : List ℕ) (n g : ℕ) where
  -- those below i
  abbrev pub so_far : ℕ → List ℕ
  so_far i = select (in_list T g) (λ i. i) i

  abbrev pub turn : ℕ → List ℕ
  turn i = pick_list (in_list T g i) (i ∷ []) []

  ids_all : ids_of T n g ≡ so_far n
  unfolding ids_of
  ids_all = refl

  so_far_next : (i : ℕ) → so_far (i + 1) ≡ so_far i ++ turn i
  so_far_next i = by-test (in_list T g i)
      (λ t. rw t (select_yes (in_list T g) (λ i. i) i t))
      (λ f. rw f (select_no (in_list T g) (λ i. i) i f ∙ sym (append-nil _)))

  so_far_mono : (i k : ℕ) → i ≤ k → length (so_far i) ≤ length (so_far k)
  so_far_mono i k h = rw (select_length (in_list T g) (λ i. i) i, select_length (in_list T g) (λ i. i) k) (count_mono (in_list T g) i k h)

  -- the room that all ids of the group need is there for those up to i
  room_next : (m i w : ℕ) → 2 * (m + length (ids_of T n g)) ≤ w → i < n → 2 * (m + length (so_far i) + length (turn i)) ≤ w
  room_next m i w h l =
      let e : length (ids_of T n g) ≡ length (so_far n) = ap length ids_all in
      let f : length (so_far (i + 1)) ≡ length (so_far i) + length (turn i) = ap length (so_far_next i) ∙ length-append (so_far i) (turn i) in
      omega (arith, so_far_mono (i + 1) n (omega arith))

  turn_one : (i : ℕ) → in_list T g i ≡ true → length (turn i) ≡ 1
  turn_one i t = rw t

  -- the ids below i stand behind m words
  pub record Appending (m : ℕ) (before : List ℕ) (i r : ℕ) (after : List ℕ) : Type 0 where
    pub few : i ≤ n
    pub long : length after ≡ length before
    pub listing : Listing (so_far i) m r before after

  pub appending_none : (m : ℕ) (before : List ℕ) → Appending m before 0 m before
  appending_none m before = record { few = omega arith; long = refl; listing = rw (select_zero (in_list T g) (λ i. i)) (listing_none m before) }

  module _ (m : ℕ) (before : List ℕ) (i r : ℕ) (after : List ℕ) (w : Appending m before i r after) where
    -- an id that is written has room
    pub appending_room : 2 * (m + length (ids_of T n g)) ≤ length before → i < n → in_list T g i ≡ true → 2 * r + 2 ≤ length after
    appending_room h l t = omega (arith, room_next m i (length before) h l, turn_one i t, w.listing.many, w.long)

    pub appending_next : (q : ℕ) (last : List ℕ) → 2 * (m + length (ids_of T n g)) ≤ length before → i < n → length last ≡ length after
        → Listing (turn i) r q after last → Appending m before (i + 1) q last
    appending_next q last h l e t = record {
      few = omega arith;
      long = e ∙ w.long;
      listing = rw (so_far_next i) (listing_then (so_far i) (turn i) m r q before after last (room_next m i (length before) h l) w.listing t);
    }

    pub appending_end : n ≤ i → Listing (ids_of T n g) m r before after
    appending_end h =
        let e : i ≡ n = omega (arith, w.few) in
        let f : Listing (so_far n) m r before after = rw e at w.listing in
        rw ids_all f

-- the ways of a turn
pub turn_yes : (b : Bool) (i m : ℕ) (a c : List ℕ) → b ≡ true → c ≡ spliced a (2 * m) (encoded Big 2 i) → Listing (pick_list b (i ∷ []) []) m (m + 1) a c
turn_yes b i m a c t e = rw t (listing_one i m a c e)

pub turn_no : (b : Bool) (i m : ℕ) (a : List ℕ) → b ≡ false → Listing (pick_list b (i ∷ []) []) m m a a
turn_no b i m a f = rw f (listing_none m a)

-- a row tells whether its id is in the list
pub in_read : (T : List ℕ) (g i x : ℕ) (row : IdRow) (r : Bool) → row ≡ id_row T i → x ≡ section_group row.section → r ≡ (row.taken && eqb x g) → r ≡ in_list T g i
unfolding in_list id_row
in_read T g i x row r e f h = rw (h, f, e)

-- ---- the two groups

module _ (T : List ℕ) (n : ℕ) where
  -- the list is the ids of the two groups; names play no part in it
  pub listed_groups : (name : ℕ → List ℕ) → listed (candidates_in T n name) ≡ ids_of T n 0 ++ ids_of T n 1
  unfolding listed list_group is_defined candidates_in ids_of in_list section_group grouped of_group in_group gather
  listed_groups name = refl

  pub listed_names : (f g : ℕ → List ℕ) → listed (candidates_in T n f) ≡ listed (candidates_in T n g)
  listed_names f g = listed_groups f ∙ sym (listed_groups g)

  in_apart : (i : ℕ) → in_list T 0 i ≡ true → in_list T 1 i ≡ false
  unfolding in_list
  in_apart i t =
      let k = and_parts (id_taken T i) (eqb (section_group (id_section T i)) 0) t in
      let e : section_group (id_section T i) ≡ 0 = eqb-true _ _ k.1 in
      rw (k.0, e) (ne_eqb 0 1 (λ e. absurd (omega arith)))

  count_apart : (k : ℕ) → count (in_list T 0) k + count (in_list T 1) k ≤ k
  unfolding count
  count_apart zero = omega arith
  count_apart (suc k) = by-test (in_list T 0 k)
      (λ t. rw (t, in_apart k t) (omega (arith, count_apart k)))
      (λ f. by-test (in_list T 1 k) (λ s. rw (f, s) (omega (arith, count_apart k))) (λ s. rw (f, s) (omega (arith, count_apart k))))

  length_ids : (g : ℕ) → length (ids_of T n g) ≡ count (in_list T g) n
  length_ids g = ap length (ids_all T n g) ∙ select_length (in_list T g) (λ i. i) n

  pub groups_few : length (ids_of T n 0) + length (ids_of T n 1) ≤ n
  groups_few = omega (arith, length_ids 0, length_ids 1, count_apart n)

  pub listed_few : length (ids_listed T n) ≤ n
  unfolding ids_listed
  listed_few = rw (listed_groups (λ i. []), length-append) groups_few

  -- both groups, one behind the other
  pub list_both : (r q : ℕ) (a b c : List ℕ) → 2 * n ≤ length a → Listing (ids_of T n 0) 0 r a b → Listing (ids_of T n 1) r q b c → Listing (ids_listed T n) 0 q a c
  unfolding ids_listed
  list_both r q a b c h f g = rw (listed_groups (λ i. []))
      (listing_then (ids_of T n 0) (ids_of T n 1) 0 r q a b c (omega (arith, groups_few)) f g)

  -- the first has room, and the second behind it
  pub first_room : (a : List ℕ) → 2 * n ≤ length a → 2 * (0 + length (ids_of T n 0)) ≤ length a
  first_room a h = omega (arith, groups_few)

  pub second_room : (r : ℕ) (a b : List ℕ) → 2 * n ≤ length a → length b ≡ length a → Listing (ids_of T n 0) 0 r a b → 2 * (r + length (ids_of T n 1)) ≤ length b
  second_room r a b h e f = omega (arith, groups_few, f.many)
