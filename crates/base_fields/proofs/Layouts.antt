-- A record is read back as it was written, for any layout without an empty field: its first field stands at the front of its bytes, and the
-- other fields are the record of the layout's rest, right behind. Assumes nothing.
use mathlib.Core.Path.{◌≡◌, refl, sym, ap, ◌∙◌}
use mathlib.Core.Logic.{◌⊎◌, ⊎_elim}
use mathlib.Core.Bool.{Bool, true, false}
use mathlib.Core.List.{List, [], ◌∷◌, ◌++◌, append_assoc, append-nil}
use Prim.Native.Nat.{ℕ, zero, suc, ◌+◌, ◌*◌, ◌≤◌, ◌<◌}
use native.Mathlib.Nat.{add-zero, mul-zero, mul-suc}
use native.Mathlib.Omega.{arith}
use lib.ListN.{length, take, drop, get_or, replicate, length-append}
use Rattle.base_lists.specs.Windows.{Within, spliced}
use Rattle.base_lists.specs.Records.{flat}
use Rattle.base_lists.proofs.Windows.{part_of_part, part_before, part_after, within_at, within_head, within_tail, within_spliced, spliced_then, drop_next}
use Rattle.base_lists.proofs.Records.{flat_none, flat_cons}
use Rattle.base_fields.specs.declared.ByteOrder.{ByteOrder}
use Rattle.base_fields.specs.Numbers.{number, encoded}
use Rattle.base_fields.specs.Layouts.{width_of, fields_from, fields_at, record_bytes}
use Rattle.base_fields.proofs.Numbers.{length_encoded, within_number, number_same, number_byte, encoded_byte}

-- no field of the layout is empty
abbrev pub positive : List ℕ → Bool
positive [] = true
positive (zero ∷ ws) = false
positive (suc w ∷ ws) = positive ws

-- the clauses of a record's definitions
bytes_cons : (order : ByteOrder) (w : ℕ) (ws : List ℕ) (v : ℕ) (vs : List ℕ) → record_bytes order (w ∷ ws) (v ∷ vs) ≡ encoded order w v ++ record_bytes order ws vs
unfolding record_bytes
bytes_cons order w ws v vs = refl

bytes_none : (order : ByteOrder) (vs : List ℕ) → record_bytes order [] vs ≡ []
unfolding record_bytes
bytes_none order vs = refl

pub length_record : (order : ByteOrder) (ws vs : List ℕ) → length vs ≡ length ws → length (record_bytes order ws vs) ≡ width_of ws
unfolding record_bytes width_of
length_record order [] vs e = refl
length_record order (w ∷ ws) [] e = absurd (omega arith)
length_record order (w ∷ ws) (v ∷ vs) e = rw (length-append, length_encoded, length_record order ws vs (omega arith))

from_within : (order : ByteOrder) (ws vs l : List ℕ) (o k : ℕ) → positive ws ≡ true → length vs ≡ length ws
    → Within (record_bytes order ws vs) (o + k) l → fields_from order ws l o k ≡ vs
unfolding fields_from
from_within order [] [] l o k p e v = refl
from_within order [] (x ∷ vs) l o k p e v = absurd (omega arith)
from_within order (w ∷ ws) [] l o k p e v = absurd (omega arith)
from_within order (zero ∷ ws) (x ∷ vs) l o k p e v = let z : ◌≡◌ {A = ℕ} 0 1 = cc in absurd (omega arith)
from_within order (suc w ∷ ws) (x ∷ vs) l o k p e v =
    let f = encoded order (suc w) x in
    let u : Within (f ++ record_bytes order ws vs) (o + k) l = rw (bytes_cons order (suc w) ws x vs) at v in
    let n : o + k + length f ≡ o + (k + suc w) = rw (length_encoded order (suc w) x) (omega arith) in
    let a : number order (suc w) l (o + k) ≡ x = within_number order w x (o + k) l (within_head f (record_bytes order ws vs) l (o + k) u) in
    let b : fields_from order ws l o (k + suc w) ≡ vs =
    from_within order ws vs l o (k + suc w) p (omega arith) (within_tail f (record_bytes order ws vs) l (o + k) (o + (k + suc w)) n u) in
    rw (a, b)

-- what is read where a record's bytes stand is its fields
pub within_fields : (order : ByteOrder) (ws vs l : List ℕ) (o : ℕ) → positive ws ≡ true → length vs ≡ length ws
    → Within (record_bytes order ws vs) o l → fields_at order ws l o ≡ vs
within_fields order ws vs l o p e v = from_within order ws vs l o 0 p e (within_at (record_bytes order ws vs) l o (o + 0) (sym (add-zero o)) v)

pub fields_spliced : (order : ByteOrder) (ws vs l : List ℕ) (o : ℕ) → positive ws ≡ true → length vs ≡ length ws → o + width_of ws ≤ length l
    → fields_at order ws (spliced l o (record_bytes order ws vs)) o ≡ vs
fields_spliced order ws vs l o p e h =
    within_fields order ws vs (spliced l o (record_bytes order ws vs)) o p e (within_spliced l o (record_bytes order ws vs) (rw (length_record order ws vs e) h))

-- equal parts hold equal fields: so a record outside what is overwritten is as it was, and a record of a part is one of the whole
from_same : (order : ByteOrder) (n : ℕ) (l m : List ℕ) (o p : ℕ) → take n (drop o l) ≡ take n (drop p m)
    → (ws : List ℕ) (k : ℕ) → k + width_of ws ≤ n → fields_from order ws l o k ≡ fields_from order ws m p k
unfolding fields_from width_of
from_same order n l m o p e [] k h = refl
from_same order n l m o p e (w ∷ ws) k h =
    let s : take w (drop (o + k) l) ≡ take w (drop (p + k) m) =
    sym (part_of_part l o n k w (omega arith)) ∙ ap (λ (x : List ℕ). take w (drop k x)) e ∙ part_of_part m p n k w (omega arith) in
    let a : number order w l (o + k) ≡ number order w m (p + k) = number_same order w l m (o + k) (p + k) s in
    rw (a, from_same order n l m o p e ws (k + w) (omega arith))

pub fields_same : (order : ByteOrder) (ws l m : List ℕ) (o p : ℕ) → take (width_of ws) (drop o l) ≡ take (width_of ws) (drop p m)
    → fields_at order ws l o ≡ fields_at order ws m p
fields_same order ws l m o p e = from_same order (width_of ws) l m o p e ws 0 (omega arith)

pub fields_outside : (order : ByteOrder) (ws : List ℕ) (p : ℕ) (l : List ℕ) (o : ℕ) (b : List ℕ) → o + length b ≤ length l
    → (p + width_of ws ≤ o) ⊎ (o + length b ≤ p) → fields_at order ws (spliced l o b) p ≡ fields_at order ws l p
fields_outside order ws p l o b h k =
    fields_same order ws (spliced l o b) l p p (⊎_elim (part_before l o b h p (width_of ws)) (part_after l o b h p (width_of ws)) k)

pub fields_part : (order : ByteOrder) (ws l : List ℕ) (o n k : ℕ) → k + width_of ws ≤ n → fields_at order ws (take n (drop o l)) k ≡ fields_at order ws l (o + k)
fields_part order ws l o n k h = fields_same order ws (take n (drop o l)) l k (o + k) (part_of_part l o n k (width_of ws) h)

-- two layouts, one behind the other
pub record_append : (order : ByteOrder) (ws us vs xs : List ℕ) → length vs ≡ length ws
    → record_bytes order (ws ++ us) (vs ++ xs) ≡ record_bytes order ws vs ++ record_bytes order us xs
record_append order [] us [] xs e = rw (bytes_none order [])
record_append order [] us (v ∷ vs) xs e = absurd (omega arith)
record_append order (w ∷ ws) us [] xs e = absurd (omega arith)
record_append order (w ∷ ws) us (v ∷ vs) xs e =
    rw (bytes_cons order w (ws ++ us) v (vs ++ xs), bytes_cons order w ws v vs, record_append order ws us vs xs (omega arith), append_assoc)

-- n fields of one width
pub record_words : (order : ByteOrder) (w n : ℕ) (xs : List ℕ) → length xs ≡ n → record_bytes order (replicate n w) xs ≡ flat (encoded order w) xs
record_words order w zero [] e = rw (bytes_none order [], flat_none)
record_words order w zero (x ∷ xs) e = absurd (omega arith)
record_words order w (suc n) [] e = absurd (omega arith)
record_words order w (suc n) (x ∷ xs) e =
    rw (bytes_cons order w (replicate n w) x xs, flat_cons (encoded order w) x xs, record_words order w n xs (omega arith))

pub record_one : (order : ByteOrder) (w x : ℕ) → encoded order w x ≡ record_bytes order (w ∷ []) (x ∷ [])
record_one order w x = sym (rw (bytes_cons order w [] x [], bytes_none order []) (append-nil (encoded order w x)))

-- a record written part by part: more fields, put right behind those before them
pub record_then : (order : ByteOrder) (l : List ℕ) (o : ℕ) (ws vs us xs m b n : List ℕ) (p : ℕ) → length vs ≡ length ws → p ≡ o + width_of ws
    → p + length b ≤ length l → b ≡ record_bytes order us xs → m ≡ spliced l o (record_bytes order ws vs) → n ≡ spliced m p b
    → n ≡ spliced l o (record_bytes order (ws ++ us) (vs ++ xs))
record_then order l o ws vs us xs m b n p e at fits is before after =
    let q : p ≡ o + length (record_bytes order ws vs) = rw (length_record order ws vs e) at in
    after
    ∙ ap (λ (x : List ℕ). spliced x p b) before
    ∙ spliced_then l o (record_bytes order ws vs) b p q fits
    ∙ rw (is, record_append order ws us vs xs e)

pub field_then : (order : ByteOrder) (l : List ℕ) (o : ℕ) (ws vs : List ℕ) (w x : ℕ) (m n : List ℕ) (p : ℕ) → length vs ≡ length ws → p ≡ o + width_of ws
    → p + w ≤ length l → m ≡ spliced l o (record_bytes order ws vs) → n ≡ spliced m p (encoded order w x)
    → n ≡ spliced l o (record_bytes order (ws ++ (w ∷ [])) (vs ++ (x ∷ [])))
field_then order l o ws vs w x m n p e at fits before after =
    record_then order l o ws vs (w ∷ []) (x ∷ []) m (encoded order w x) n p e at (rw (length_encoded order w x) fits) (record_one order w x) before after

-- n fields of one byte are the bytes themselves
pub flat_bytes : (order : ByteOrder) (xs : List ℕ) → flat (encoded order 1) xs ≡ xs
flat_bytes order [] = flat_none (encoded order 1)
flat_bytes order (x ∷ xs) = rw (flat_cons (encoded order 1) x xs, encoded_byte order x, flat_bytes order xs)

pub record_bytes_lem : (order : ByteOrder) (n : ℕ) (xs : List ℕ) → length xs ≡ n → record_bytes order (replicate n 1) xs ≡ xs
record_bytes_lem order n xs e = record_words order 1 n xs e ∙ flat_bytes order xs

pub fields_bytes : (order : ByteOrder) (n : ℕ) (l : List ℕ) (o k : ℕ) → o + k + n ≤ length l → fields_from order (replicate n 1) l o k ≡ take n (drop (o + k) l)
unfolding fields_from
fields_bytes order zero l o k h = refl
fields_bytes order (suc n) l o k h =
    let e : o + k + 1 ≡ o + (k + 1) = omega arith in
    rw (drop_next l (o + k) 0 (omega arith), number_byte order l (o + k) (omega arith), e, fields_bytes order n l o (k + 1) (omega arith))

-- field i of n fields of one width
pub length_words : (order : ByteOrder) (w n : ℕ) (l : List ℕ) (o k : ℕ) → length (fields_from order (replicate n w) l o k) ≡ n
unfolding fields_from
length_words order w zero l o k = refl
length_words order w (suc n) l o k = rw (length_words order w n l o (k + w))

pub words_at : (order : ByteOrder) (w n : ℕ) (l : List ℕ) (o k i : ℕ) → i < n → get_or (fields_from order (replicate n w) l o k) i 0 ≡ number order w l (o + k + w * i)
unfolding fields_from
words_at order w zero l o k i h = absurd (omega arith)
words_at order w (suc n) l o k zero h = rw (mul-zero w, add-zero (o + k))
words_at order w (suc n) l o k (suc i) h =
    let e : o + (k + w) + w * i ≡ o + k + w * suc i = rw mul-suc (omega arith) in
    words_at order w n l o (k + w) i (omega arith) ∙ rw e
