-- What stands where in a list, and what overwriting a part of it leaves. A list that is cut at o is what was taken and what was dropped, so each
-- law comes from where the seams of that cut lie. Assumes nothing.
use mathlib.Core.Path.{◌≡◌, refl, sym, ap, ◌∙◌}
use mathlib.Core.Logic.{◌⊎◌, ⊎_elim}
use mathlib.Core.Bool.{Bool, true}
use mathlib.Core.List.{List, [], ◌∷◌, ◌++◌, append_assoc, append-nil}
use Prim.Native.Nat.{ℕ, zero, suc, ◌+◌, ◌-◌, ◌≤◌, ◌<◌}
use native.Mathlib.Nat.{zero-add, suc-add, add-zero}
use native.Mathlib.Numerals.{add-one}
use native.Mathlib.Omega.{arith}
use lib.ListN.{length, take, drop, get_or, set, length-append, length-take, length-drop, take-append-drop, get_or-append}
use lib.Seq.{ext_get_or, take-nil, take-suc, drop-cons, drop-drop, drop-length, take_all, take-take, length-take-le, take_at, drop_at, take-append_seam, get_or-append-add, get_or-take, get_or-drop, set_split}
use Rattle.base_lists.specs.Ranges.{gather}
use Rattle.base_lists.specs.Windows.{Within, spliced}
use Rattle.base_lists.proofs.Ranges.{by-lt, gather_split}

-- one element further, in the code's i + 1
pub drop_next : {A : Type 0} (l : List A) (i : ℕ) (d : A) → i < length l → drop i l ≡ get_or l i d ∷ drop (i + 1) l
drop_next l i d h = rw (add-one i) (drop-cons l i d h)

pub take_next : {A : Type 0} (l : List A) (i : ℕ) (d : A) → i < length l → take (i + 1) l ≡ take i l ++ (get_or l i d ∷ [])
take_next l i d h = rw (add-one i) (take-suc l i d h)

-- what is left of a front when its own front is dropped
pub drop_take : {A : Type 0} (k m : ℕ) (l : List A) → drop k (take (k + m) l) ≡ take m (drop k l)
drop_take zero m l = rw (zero-add m)
drop_take (suc k) m [] = rw (take-nil (suc k + m)) (sym (take-nil m))
drop_take (suc k) m (x ∷ l) = rw (suc-add k m) (drop_take k m l)

-- a part of a part is a part of the whole
pub part_of_part : {A : Type 0} (l : List A) (o n k w : ℕ) → k + w ≤ n → take w (drop k (take n (drop o l))) ≡ take w (drop (o + k) l)
part_of_part l o n k w h =
    let e : n ≡ k + (n - k) = omega arith in
    let s : w ≤ n - k = omega arith in
    rw e (ap (take w) (drop_take k (n - k) (drop o l)) ∙ take-take w (n - k) (drop k (drop o l)) s ∙ ap (take w) (drop-drop k o l))

-- a part has the length asked for
pub length_part : {A : Type 0} (l : List A) (o w : ℕ) → o + w ≤ length l → length (take w (drop o l)) ≡ w
length_part l o w h = length-take-le w (drop o l) (rw length-drop (omega arith))

-- two parts that are as long are equal where their bytes are
pub part_ext : (a b : List ℕ) (p q w : ℕ) → length (take w (drop p a)) ≡ length (take w (drop q b))
    → ((j : ℕ) → j < w → get_or a (p + j) 0 ≡ get_or b (q + j) 0) → take w (drop p a) ≡ take w (drop q b)
part_ext a b p q w e each = ext_get_or 0 (take w (drop p a)) (take w (drop q b)) e (λ j h.
    let u : j < w = omega (arith, rw (length-take w (drop p a)) at h) in
    rw (get_or-take w (drop p a) j 0 u, get_or-take w (drop q b) j 0 u, get_or-drop p a j 0, get_or-drop q b j 0) (each j u))

-- so are two that lie inside their lists
pub part_same : (a b : List ℕ) (p q w : ℕ) → p + w ≤ length a → q + w ≤ length b
    → ((j : ℕ) → j < w → get_or a (p + j) 0 ≡ get_or b (q + j) 0) → take w (drop p a) ≡ take w (drop q b)
part_same a b p q w h k each = part_ext a b p q w (length_part a p w h ∙ sym (length_part b q w k)) each

module _ (l : List ℕ) (o : ℕ) (b : List ℕ) (h : o + length b ≤ length l) where
  front_long : length (take o l) ≡ o
  front_long = length-take-le o l (omega arith)

  head_long : length (take o l ++ b) ≡ o + length b
  head_long = rw (length-append, front_long)

  pub length_spliced : length (spliced l o b) ≡ length l
  unfolding spliced
  length_spliced = rw (length-append, length-append, front_long, length-drop) (omega arith)

  -- what was in front, and what was behind
  pub take_spliced : take o (spliced l o b) ≡ take o l
  unfolding spliced
  take_spliced = take_at (take o l) (b ++ drop (o + length b) l) o front_long

  pub drop_spliced : drop (o + length b) (spliced l o b) ≡ drop (o + length b) l
  unfolding spliced
  drop_spliced = rw (← append_assoc (take o l) b) (drop_at (take o l ++ b) (drop (o + length b) l) (o + length b) head_long)

  pub take_through : take (o + length b) (spliced l o b) ≡ take o l ++ b
  unfolding spliced
  take_through = rw (← append_assoc (take o l) b) (take_at (take o l ++ b) (drop (o + length b) l) (o + length b) head_long)

  -- what was written stands there
  pub within_spliced : Within b o (spliced l o b)
  unfolding spliced
  within_spliced = record { front = take o l; rest = drop (o + length b) l; whole = refl; starts = front_long }

-- windows: the list itself; a window with more behind it, or in front of it; the first and the second of two lists
pub within_all : (b : List ℕ) → Within b 0 b
within_all b = record { front = []; rest = []; whole = sym (append-nil b); starts = refl }

pub within_right : (b l m : List ℕ) (o : ℕ) → Within b o l → Within b o (l ++ m)
within_right b l m o v = record {
  front = v.front;
  rest = v.rest ++ m;
  whole = ap (λ (x : List ℕ). x ++ m) v.whole ∙ simp append_assoc;
  starts = v.starts;
}

pub within_left : (b a l : List ℕ) (o : ℕ) → Within b o l → Within b (length a + o) (a ++ l)
within_left b a l o v = record {
  front = a ++ v.front;
  rest = v.rest;
  whole = ap (λ (x : List ℕ). a ++ x) v.whole ∙ simp append_assoc;
  starts = length-append a v.front ∙ ap (λ (n : ℕ). length a + n) v.starts;
}

pub within_at : (b l : List ℕ) (o p : ℕ) → o ≡ p → Within b o l → Within b p l
within_at b l o p e v = record { front = v.front; rest = v.rest; whole = v.whole; starts = v.starts ∙ e }

pub within_first : (b m : List ℕ) → Within b 0 (b ++ m)
within_first b m = record { front = []; rest = m; whole = refl; starts = refl }

pub within_second : (a b : List ℕ) (o : ℕ) → length a ≡ o → Within b o (a ++ b)
within_second a b o e = record { front = a; rest = []; whole = rw (append-nil b); starts = e }

-- a window inside a window
pub within_within : (c b l : List ℕ) (o p : ℕ) → Within c p b → Within b o l → Within c (o + p) l
within_within c b l o p u v = record {
  front = v.front ++ u.front;
  rest = u.rest ++ v.rest;
  whole = v.whole ∙ ap (λ (x : List ℕ). v.front ++ (x ++ v.rest)) u.whole ∙ simp append_assoc;
  starts = rw (length-append, v.starts, u.starts);
}

-- the two parts of a window of two lists
pub within_head : (a b l : List ℕ) (o : ℕ) → Within (a ++ b) o l → Within a o l
within_head a b l o v = within_at a l (o + 0) o (add-zero o) (within_within a (a ++ b) l o 0 (within_first a b) v)

pub within_tail : (a b l : List ℕ) (o p : ℕ) → o + length a ≡ p → Within (a ++ b) o l → Within b p l
within_tail a b l o p e v = within_at b l (o + length a) p e (within_within b (a ++ b) l o (length a) (within_second a b (length a) refl) v)

-- in a list that is gathered, what an index that passes gives stands behind what those before it give
pub within_gather : (p : ℕ → Bool) (f : ℕ → List ℕ) (i n o : ℕ) → length (gather p f i) ≡ o → i < n → p i ≡ true → Within (f i) o (gather p f n)
within_gather p f i n o e h t =
    let s = gather_split p f i n h t in
    rw s.1 (within_head (f i) s.0 _ o (within_second (gather p f i) (f i ++ s.0) o e))

-- a window lies inside its list, and is what is read there
pub within_fits : (b l : List ℕ) (o : ℕ) → Within b o l → o + length b ≤ length l
within_fits b l o v = rw (v.whole, length-append, length-append, v.starts) (omega arith)

pub within_read : (b l : List ℕ) (o : ℕ) → Within b o l → take (length b) (drop o l) ≡ b
within_read b l o v = rw (v.whole, drop_at v.front (b ++ v.rest) o v.starts, take-append_seam)

pub within_byte : (b l : List ℕ) (o k : ℕ) → Within b o l → k < length b → get_or l (o + k) 0 ≡ get_or b k 0
within_byte b l o k v h = rw (v.whole, ← v.starts, get_or-append-add) (get_or-append b v.rest 0 k h)

-- every part is a window
pub within_take : (l : List ℕ) (o w : ℕ) → o + w ≤ length l → Within (take w (drop o l)) o l
within_take l o w h = record {
  front = take o l;
  rest = drop w (drop o l);
  whole = sym (rw (take-append-drop w (drop o l), take-append-drop o l));
  starts = length-take-le o l (omega arith);
}

part_of_front : (l : List ℕ) (n p w : ℕ) → p + w ≤ n → take w (drop p (take n l)) ≡ take w (drop p l)
part_of_front l n p w h = part_of_part l 0 n p w h ∙ ap (λ (k : ℕ). take w (drop k l)) (zero-add p)

module _ (l : List ℕ) (o : ℕ) (b : List ℕ) (h : o + length b ≤ length l) where
  -- what is overwritten reads as what was written
  pub spliced_in : (i : ℕ) → o ≤ i → i < o + length b → get_or (spliced l o b) i 0 ≡ get_or b (i - o) 0
  spliced_in i p q =
      let e : i ≡ o + (i - o) = omega arith in
      ap (λ (j : ℕ). get_or (spliced l o b) j 0) e ∙ within_byte b (spliced l o b) o (i - o) (within_spliced l o b h) (omega arith)

  -- parts that lie in front of it or behind it are as they were
  pub part_before : (p w : ℕ) → p + w ≤ o → take w (drop p (spliced l o b)) ≡ take w (drop p l)
  part_before p w k =
      sym (part_of_front (spliced l o b) o p w k) ∙ ap (λ (x : List ℕ). take w (drop p x)) (take_spliced l o b h) ∙ part_of_front l o p w k

  pub part_after : (p w : ℕ) → o + length b ≤ p → take w (drop p (spliced l o b)) ≡ take w (drop p l)
  part_after p w k =
      let e : p ≡ o + length b + (p - (o + length b)) = omega arith in
      ap (take w)
      (ap (λ (j : ℕ). drop j (spliced l o b)) e
      ∙ sym (drop-drop (p - (o + length b)) (o + length b) (spliced l o b))
      ∙ ap (drop (p - (o + length b))) (drop_spliced l o b h)
      ∙ drop-drop (p - (o + length b)) (o + length b) l
      ∙ ap (λ (j : ℕ). drop j l) (sym e))

  -- and so is every byte outside
  pub spliced_before : (i : ℕ) → i < o → get_or (spliced l o b) i 0 ≡ get_or l i 0
  spliced_before i k =
      sym (get_or-take o (spliced l o b) i 0 k) ∙ ap (λ (x : List ℕ). get_or x i 0) (take_spliced l o b h) ∙ get_or-take o l i 0 k

  pub spliced_after : (i : ℕ) → o + length b ≤ i → get_or (spliced l o b) i 0 ≡ get_or l i 0
  spliced_after i k =
      let e : o + length b + (i - (o + length b)) ≡ i = omega arith in
      ap (λ (j : ℕ). get_or (spliced l o b) j 0) (sym e)
      ∙ sym (get_or-drop (o + length b) (spliced l o b) (i - (o + length b)) 0)
      ∙ ap (λ (x : List ℕ). get_or x (i - (o + length b)) 0) (drop_spliced l o b h)
      ∙ get_or-drop (o + length b) l (i - (o + length b)) 0
      ∙ ap (λ (j : ℕ). get_or l j 0) e

  pub spliced_outside : (i : ℕ) → (i < o) ⊎ (o + length b ≤ i) → get_or (spliced l o b) i 0 ≡ get_or l i 0
  spliced_outside i k = ⊎_elim (spliced_before i) (spliced_after i) k

-- writing nothing, and writing what stands there, changes nothing
pub spliced_nil : (l : List ℕ) (o : ℕ) → spliced l o [] ≡ l
unfolding spliced
spliced_nil l o = rw (add-zero o) (take-append-drop o l)

pub spliced_same : (l : List ℕ) (o : ℕ) (b : List ℕ) → Within b o l → spliced l o b ≡ l
unfolding spliced
spliced_same l o b v =
    let f : take o l ≡ v.front = ap (take o) v.whole ∙ take_at v.front (b ++ v.rest) o v.starts in
    let g : length (v.front ++ b) ≡ o + length b = rw (length-append, v.starts) in
    let r : drop (o + length b) l ≡ v.rest = ap (drop (o + length b)) (v.whole ∙ sym (append_assoc v.front b v.rest)) ∙ drop_at (v.front ++ b) v.rest (o + length b) g in
    rw (f, r) (sym v.whole)

-- two writes, the second right behind the first, are one
parts : (l : List ℕ) (o : ℕ) (b : List ℕ) → spliced l o b ≡ take o l ++ (b ++ drop (o + length b) l)
unfolding spliced
parts l o b = refl

pub spliced_then : (l : List ℕ) (o : ℕ) (a b : List ℕ) (p : ℕ) → p ≡ o + length a → p + length b ≤ length l → spliced (spliced l o a) p b ≡ spliced l o (a ++ b)
spliced_then l o a b p e h =
    let q = o + length a in
    let k : o + length a ≤ length l = omega arith in
    let n : o + length (a ++ b) ≡ q + length b = rw length-append (omega arith) in
    let d : drop (q + length b) (spliced l o a) ≡ drop (q + length b) l =
    sym (drop-drop (length b) q (spliced l o a)) ∙ ap (drop (length b)) (drop_spliced l o a k) ∙ drop-drop (length b) q l in
    ap (λ (j : ℕ). spliced (spliced l o a) j b) e
    ∙ parts (spliced l o a) q b
    ∙ rw (take_through l o a k, d, append_assoc, parts l o (a ++ b), append_assoc, n)

-- a longer write over a write at the same place
pub spliced_over : (l : List ℕ) (o : ℕ) (a b : List ℕ) → length a ≤ length b → o + length b ≤ length l → spliced (spliced l o a) o b ≡ spliced l o b
unfolding spliced
spliced_over l o a b h k =
    let m = length b - length a in
    let e : o + length b ≡ o + length a + m = omega arith in
    let t : take o (spliced l o a) ≡ take o l = take_spliced l o a (omega arith) in
    let d : drop (o + length b) (spliced l o a) ≡ drop (o + length b) l =
    rw e (sym (drop-drop m (o + length a) (spliced l o a)) ∙ ap (drop m) (drop_spliced l o a (omega arith)) ∙ drop-drop m (o + length a) l) in
    rw (t, d)

-- two writes beside each other
module _ (l : List ℕ) (o : ℕ) (a : List ℕ) (p : ℕ) (b : List ℕ) (apart : o + length a ≤ p) (room : p + length b ≤ length l) where
  first_room : o + length a ≤ length (spliced l p b)
  first_room = rw (length_spliced l p b room) (omega arith)

  second_room : p + length b ≤ length (spliced l o a)
  second_room = rw (length_spliced l o a (omega arith)) room

  byte_same : (x : ℕ) → get_or (spliced (spliced l p b) o a) x 0 ≡ get_or (spliced (spliced l o a) p b) x 0
  byte_same x = by-lt x o
      (λ h.
      spliced_before (spliced l p b) o a first_room x h
      ∙ spliced_before l p b room x (omega arith)
      ∙ sym (spliced_before (spliced l o a) p b second_room x (omega arith) ∙ spliced_before l o a (omega arith) x h))
      (λ h. by-lt x (o + length a)
      (λ g.
      spliced_in (spliced l p b) o a first_room x h g
      ∙ sym (spliced_before (spliced l o a) p b second_room x (omega arith) ∙ spliced_in l o a (omega arith) x h g))
      (λ g. by-lt x p
      (λ u.
      spliced_after (spliced l p b) o a first_room x g
      ∙ spliced_before l p b room x u
      ∙ sym (spliced_before (spliced l o a) p b second_room x u ∙ spliced_after l o a (omega arith) x g))
      (λ u. by-lt x (p + length b)
      (λ v.
      spliced_after (spliced l p b) o a first_room x g
      ∙ spliced_in l p b room x u v
      ∙ sym (spliced_in (spliced l o a) p b second_room x u v))
      (λ v.
      spliced_after (spliced l p b) o a first_room x g
      ∙ spliced_after l p b room x v
      ∙ sym (spliced_after (spliced l o a) p b second_room x v ∙ spliced_after l o a (omega arith) x g)))))

  -- they may be made in either order
  pub spliced_comm : spliced (spliced l p b) o a ≡ spliced (spliced l o a) p b
  spliced_comm =
      ext_get_or 0 (spliced (spliced l p b) o a) (spliced (spliced l o a) p b)
      (length_spliced (spliced l p b) o a first_room
      ∙ length_spliced l p b room
      ∙ sym (length_spliced (spliced l o a) p b second_room ∙ length_spliced l o a (omega arith)))
      (λ x h. byte_same x)

-- one byte stored
pub spliced_one : (l : List ℕ) (o x : ℕ) → o < length l → set l o x ≡ spliced l o (x ∷ [])
unfolding spliced
spliced_one l o x h = rw (add-one o) (set_split l o x h)

-- and stored right behind what was written before
pub spliced_put : (l : List ℕ) (o : ℕ) (a : List ℕ) (p x : ℕ) → p ≡ o + length a → p < length l → set (spliced l o a) p x ≡ spliced l o (a ++ (x ∷ []))
spliced_put l o a p x e h =
    let k : o + length a ≤ length l = omega arith in
    let n : p < length (spliced l o a) = rw (length_spliced l o a k) h in
    spliced_one (spliced l o a) p x n ∙ spliced_then l o a (x ∷ []) p e (omega arith)

-- a turn of a loop that copies
pub spliced_copy : (l : List ℕ) (o : ℕ) (b : List ℕ) (i : ℕ) → o + length b ≤ length l → i < length b
    → set (spliced l o (take i b)) (o + i) (get_or b i 0) ≡ spliced l o (take (i + 1) b)
spliced_copy l o b i h k =
    let e : o + i ≡ o + length (take i b) = rw (length-take-le i b (omega arith)) in
    spliced_put l o (take i b) (o + i) (get_or b i 0) e (omega arith) ∙ rw (take_next b i 0 k)

-- a list overwritten from its front to its end is what was written; a turn of a loop that fills it so
pub spliced_whole : (l b : List ℕ) → length b ≡ length l → spliced l 0 b ≡ b
unfolding spliced
spliced_whole l b e = rw (zero-add (length b), e, drop-length, append-nil b)

pub spliced_fill : (l b m : List ℕ) (i x : ℕ) → length b ≡ length l → i < length b → x ≡ get_or b i 0 → m ≡ spliced l 0 (take i b)
    → set m i x ≡ spliced l 0 (take (i + 1) b)
spliced_fill l b m i x e h is before =
    let k : 0 + length b ≤ length l = omega arith in
    rw (before, is) (ap (λ (n : ℕ). set (spliced l 0 (take i b)) n (get_or b i 0)) (sym (zero-add i)) ∙ spliced_copy l 0 b i k h)

pub spliced_filled : (l b m : List ℕ) (i : ℕ) → length b ≡ length l → length b ≤ i → m ≡ spliced l 0 (take i b) → m ≡ b
spliced_filled l b m i e h before = before ∙ ap (spliced l 0) (take_all i b h) ∙ spliced_whole l b e

-- a tail, read as the part from n to the end
pub tail_part : (l : List ℕ) (n : ℕ) → take (length l - n) (drop n l) ≡ drop n l
tail_part l n = take_all (length l - n) (drop n l) (rw length-drop (omega arith))
