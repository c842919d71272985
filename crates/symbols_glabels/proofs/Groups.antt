-- The lines of a group, one more at a time: a line of the key counts itself and those behind it, and a name is among the first n + 1 where it is among the first n or is
-- that of the last. Assumes nothing.
use Prim.Native.Nat.{ℕ, zero, suc, ◌+◌, ◌-◌, ◌≤◌, ◌<◌}
use mathlib.Core.Path.{◌≡◌, refl, sym, ap, ◌∙◌}
use mathlib.Core.Bool.{Bool, true, false, ◌||◌}
use mathlib.Core.List.{List}
use native.Mathlib.Numerals.{add-one}
use native.Mathlib.Omega.{arith}
use lib.ListN.{length}
use lib.Dec.{ltb}
use borrow.Author.Tests.{lt-ltb, le-ltb}
use Rattle.base_lists.specs.Ranges.{first}
use Rattle.base_lists.specs.Rows.{index_in, has_index, row_in, has_row}
use Rattle.base_lists.proofs.Ranges.{by-test, first_ext, first_past, past_here, past_next, some_zero, some_next}
use Rattle.base_lists.proofs.Rows.{index_none}
use Rattle.base_lists.proofs.Strings.{same_sym}
use Rattle.base_fields.specs.declared.ByteOrder.{ByteOrder}
use Rattle.elf_symbols.specs.Symbols.{symbol_count, symbol_name, is_symbol_named}
use Rattle.blocks_lines.specs.Lines.{line_end, next}
use Rattle.blocks_lines.specs.Keys.{KEY_GLABEL, is_key_line, value_at}
use Rattle.blocks_lines.proofs.Lines.{next_low, next_high}
use Rattle.blocks_lines.proofs.Keys.{key_line_whole}
use Rattle.blocks_file.specs.Blocks.{count_from, group_size, line_behind, group_at, block_at, block_count}
use Rattle.blocks_file.proofs.Blocks.{key_past, key_inside}
use Rattle.blocks_places.specs.Places.{Place, live}
use Rattle.blocks_glabels.specs.Glabels.{glabel_count, glabel, is_glabel_at, is_glabel}
use Rattle.symbols_glabels.specs.Words.{Marked, is_line_named, is_among, is_in_group}
use Rattle.symbols_glabels.proofs.Marks.{marked_as, marked_none, marked_then}

-- ---- how many lines a group has

module _ (B : List ℕ) (k : ℕ) where
  stop : (a n : ℕ) → is_key_line B k a ≡ false → count_from B k a n ≡ 0
  unfolding count_from
  stop a zero f = refl
  stop a (suc n) f = rw f

  step : (a n : ℕ) → is_key_line B k a ≡ true → count_from B k a (suc n) ≡ count_from B k (next B a) n + 1
  unfolding count_from
  step a n t = rw t

  -- as many turns as bytes are left are enough
  enough : (n m a : ℕ) → length B ≤ a + n → n ≤ m → count_from B k a n ≡ count_from B k a m
  enough zero m a h l = let f : is_key_line B k a ≡ false = key_past B k a (omega arith) in stop a zero f ∙ sym (stop a m f)
  enough (suc n) zero a h l = absurd (omega arith)
  enough (suc n) (suc m) a h l = by-test (is_key_line B k a)
      (λ t. step a n t ∙ ap (λ (c : ℕ). c + 1) (enough n m (next B a) (omega (arith, next_low B a)) (omega arith)) ∙ sym (step a m t))
      (λ f. stop a (suc n) f ∙ sym (stop a (suc m) f))

  pub size_here : (a : ℕ) → is_key_line B k a ≡ false → group_size B k a ≡ 0
  unfolding group_size
  size_here a f = stop a (length B - a) f

  pub size_next : (a : ℕ) → is_key_line B k a ≡ true → group_size B k a ≡ group_size B k (next B a) + 1
  unfolding group_size
  size_next a t =
      let h : a < length B = key_inside B k a t in
      let l : a < next B a = next_low B a in
      let e : length B - a ≡ suc (length B - (a + 1)) = omega arith in
      ap (count_from B k a) e ∙ step a (length B - (a + 1)) t
      ∙ ap (λ (c : ℕ). c + 1) (sym (enough (length B - next B a) (length B - (a + 1)) (next B a) (omega arith) (omega arith)))

-- the line behind a line of the key starts behind it, and inside the file or at its end
pub key_line_turn : (B : List ℕ) (k a : ℕ) → is_key_line B k a ≡ true → (a < line_end B a + 1) × (line_end B a + 1 ≤ length B)
unfolding next
key_line_turn B k a t = (next_low B a, next_high B a (key_line_whole B k a t))

-- ---- the walk over the lines of a group

-- it stands at the line at p, which is line m behind the one at a
pub record Turned (o : ByteOrder) (F B : List ℕ) (a : ℕ) (before after : List ℕ) (p m : ℕ) : Type 0 where
  pub place : p ≡ line_behind B a m
  pub left : group_size B KEY_GLABEL a ≡ m + group_size B KEY_GLABEL p
  pub marked : Marked (λ k. is_among B a (symbol_name o F k) m) 0 (symbol_count o F) before after

module _ (o : ByteOrder) (F B : List ℕ) (a : ℕ) (before : List ℕ) where
  behind_none : a ≡ line_behind B a 0
  unfolding line_behind
  behind_none = refl

  behind_next : (m p : ℕ) → p ≡ line_behind B a m → next B p ≡ line_behind B a (m + 1)
  unfolding line_behind
  behind_next m p e = rw (add-one m, e)

  among_none : (name : List ℕ) → is_among B a name 0 ≡ false
  unfolding is_among
  among_none name = some_zero (is_line_named B a name)

  among_next : (m p k : ℕ) → p ≡ line_behind B a m → is_among B a (symbol_name o F k) (m + 1) ≡ (is_among B a (symbol_name o F k) m || is_symbol_named o F (value_at B KEY_GLABEL p) k)
  unfolding is_among is_line_named is_symbol_named
  among_next m p k e =
      some_next (is_line_named B a (symbol_name o F k)) m
      ∙ ap (λ (b : Bool). ltb (first (is_line_named B a (symbol_name o F k)) 0 m) m || b) (rw (← e) (same_sym (value_at B KEY_GLABEL p) (symbol_name o F k)))

  pub turned_none : Turned o F B a before before a 0
  turned_none =
      record { place = behind_none; left = omega arith; marked = marked_none (λ k. is_among B a (symbol_name o F k) 0) 0 (symbol_count o F) before (λ k. among_none (symbol_name o F k)) }

  pub turned_next : (l after : List ℕ) (p q m : ℕ) → is_key_line B KEY_GLABEL p ≡ true → q ≡ line_end B p + 1 → Turned o F B a before l p m
      → Marked (is_symbol_named o F (value_at B KEY_GLABEL p)) 0 (symbol_count o F) l after → Turned o F B a before after q (m + 1)
  unfolding next
  turned_next l after p q m t e x y =
      let n : q ≡ next B p = e in
      rw n (record {
        place = behind_next m p x.place;
        left = omega (arith, x.left, size_next B KEY_GLABEL p t);
        marked = marked_then (λ k. is_among B a (symbol_name o F k) m) (is_symbol_named o F (value_at B KEY_GLABEL p)) (λ k. is_among B a (symbol_name o F k) (m + 1)) (symbol_count o F) before l after
            (λ k. among_next m p k x.place) x.marked y;
      })

  pub turned_end : (after : List ℕ) (p m : ℕ) → is_key_line B KEY_GLABEL p ≡ false → Turned o F B a before after p m
      → Marked (λ k. is_in_group B a (symbol_name o F k)) 0 (symbol_count o F) before after
  unfolding is_in_group
  turned_end after p m f x =
      let e : m ≡ group_size B KEY_GLABEL a = omega (arith, x.left, size_here B KEY_GLABEL p f) in
      rw e at x.marked

-- ---- the group of a block, and the blocks

module _ (P : List Place) (B : List ℕ) (i : ℕ) where
  live_line : (name : List ℕ) (k : ℕ) → live P B i ≡ true → is_line_named B (group_at B (block_at B i) KEY_GLABEL) name k ≡ is_glabel_at P B name i k
  unfolding is_line_named is_glabel_at glabel
  live_line name k t = rw t

  live_group : (name : List ℕ) (a : ℕ) → live P B i ≡ true → a ≡ group_at B (block_at B i) KEY_GLABEL → is_in_group B a name ≡ has_index (is_glabel_at P B name) (glabel_count B) i
  unfolding is_in_group is_among has_index index_in glabel_count
  live_group name a t e =
      let g : ℕ = group_at B (block_at B i) KEY_GLABEL in
      let n : ℕ = group_size B KEY_GLABEL g in
      rw e (ap (λ (m : ℕ). ltb m n) (first_ext (is_line_named B g name) (is_glabel_at P B name i) 0 n (λ j l u. live_line name j t)))

  off_group : (name : List ℕ) → live P B i ≡ false → has_index (is_glabel_at P B name) (glabel_count B) i ≡ false
  unfolding is_glabel_at
  off_group name f = index_none _ _ i (λ k h. rw f)

  module _ (o : ByteOrder) (F before : List ℕ) where
    pub block_live : (after : List ℕ) (a : ℕ) → live P B i ≡ true → a ≡ group_at B (block_at B i) KEY_GLABEL
        → Marked (λ k. is_in_group B a (symbol_name o F k)) 0 (symbol_count o F) before after
        → Marked (λ k. has_index (is_glabel_at P B (symbol_name o F k)) (glabel_count B) i) 0 (symbol_count o F) before after
    block_live after a t e x = marked_as _ _ 0 (symbol_count o F) before after (λ k. live_group (symbol_name o F k) a t e) x

    pub block_off : live P B i ≡ false → Marked (λ k. has_index (is_glabel_at P B (symbol_name o F k)) (glabel_count B) i) 0 (symbol_count o F) before before
    block_off f = marked_none _ 0 (symbol_count o F) before (λ k. off_group (symbol_name o F k) f)

-- the name is a glabel of one of the first n blocks, one that stays on
unfoldable pub is_glabel_below : List Place → List ℕ → List ℕ → ℕ → Bool
is_glabel_below P B name n = has_row (is_glabel_at P B name) (glabel_count B) n

module _ (P : List Place) (B : List ℕ) where
  below_none : (name : List ℕ) → is_glabel_below P B name 0 ≡ false
  unfolding is_glabel_below has_row row_in
  below_none name = some_zero (has_index (is_glabel_at P B name) (glabel_count B))

  below_next : (name : List ℕ) (i : ℕ) → is_glabel_below P B name (i + 1) ≡ (is_glabel_below P B name i || has_index (is_glabel_at P B name) (glabel_count B) i)
  unfolding is_glabel_below has_row row_in
  below_next name i = some_next (has_index (is_glabel_at P B name) (glabel_count B)) i

  module _ (o : ByteOrder) (F before : List ℕ) where
    pub blocks_none : Marked (λ k. is_glabel_below P B (symbol_name o F k) 0) 0 (symbol_count o F) before before
    blocks_none = marked_none _ 0 (symbol_count o F) before (λ k. below_none (symbol_name o F k))

    pub blocks_next : (m after : List ℕ) (i : ℕ) → Marked (λ k. is_glabel_below P B (symbol_name o F k) i) 0 (symbol_count o F) before m
        → Marked (λ k. has_index (is_glabel_at P B (symbol_name o F k)) (glabel_count B) i) 0 (symbol_count o F) m after
        → Marked (λ k. is_glabel_below P B (symbol_name o F k) (i + 1)) 0 (symbol_count o F) before after
    blocks_next m after i x y = marked_then _ _ _ (symbol_count o F) before m after (λ k. below_next (symbol_name o F k) i) x y

    pub blocks_end : (after : List ℕ) (i : ℕ) → i ≡ block_count B → Marked (λ k. is_glabel_below P B (symbol_name o F k) i) 0 (symbol_count o F) before after
        → Marked (λ k. is_glabel P B (symbol_name o F k)) 0 (symbol_count o F) before after
    unfolding is_glabel_below is_glabel
    blocks_end after i e x = rw e at x
