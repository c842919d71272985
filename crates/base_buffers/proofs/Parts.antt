-- A table that is written over a part of a buffer: it stands there then, and what stands before it stays. Assumes nothing.
use Prim.Native.Nat.{ℕ, ◌+◌, ◌-◌, ◌≤◌}
use mathlib.Core.Path.{◌≡◌, refl, sym, ap, ◌∙◌}
use mathlib.Core.List.{List, ◌++◌}
use native.Mathlib.Nat.{zero-add}
use native.Mathlib.Omega.{arith}
use lib.ListN.{length, take, drop}
use lib.Seq.{drop-drop, take-take}
use Rattle.base_lists.specs.Windows.{spliced}
use Rattle.base_lists.proofs.Windows.{part_of_part, length_part, length_spliced, take_spliced, within_spliced, within_read}
use Rattle.base_buffers.specs.Parts.{part_at, front_of, KeptBefore}

part_front : (l : List ℕ) (at p n : ℕ) → p + n ≤ at → part_at p n (front_of at l) ≡ part_at p n l
unfolding part_at front_of
part_front l at p n h = part_of_part l 0 at p n h ∙ ap (λ (k : ℕ). take n (drop k l)) (zero-add p)

-- ---- what stays

-- a table before `at`
pub kept_part : (at : ℕ) (before after : List ℕ) → KeptBefore at before after → (p n : ℕ) → p + n ≤ at → part_at p n after ≡ part_at p n before
kept_part at before after k p n h =
    sym (part_front after at p n h) ∙ ap (λ (l : List ℕ). part_at p n l) k.front ∙ part_front before at p n h

pub kept_same : (at : ℕ) (l : List ℕ) → KeptBefore at l l
kept_same at l = record { front = refl; long = refl }

front_less : (at less : ℕ) (l : List ℕ) → less ≤ at → front_of less (front_of at l) ≡ front_of less l
unfolding front_of
front_less at less l h = take-take less at l h

pub kept_less : (at less : ℕ) (before after : List ℕ) → KeptBefore at before after → less ≤ at → KeptBefore less before after
kept_less at less before after k h = record {
  front = sym (front_less at less after h) ∙ ap (front_of less) k.front ∙ front_less at less before h;
  long = k.long;
}

pub kept_then : (at : ℕ) (a b c : List ℕ) → KeptBefore at a b → KeptBefore at b c → KeptBefore at a c
kept_then at a b c x y = record { front = y.front ∙ x.front; long = y.long ∙ x.long }

-- ---- a part that was lent

abbrev pub lent : ℕ → ℕ → List ℕ → List ℕ
lent from to l = take (to - from) (drop from l)

-- and came back as `part`
abbrev pub put_back : ℕ → ℕ → List ℕ → List ℕ → List ℕ
put_back from to l part = take from l ++ (part ++ drop (to - from) (drop from l))

-- a table of a buffer is as long as it is said to be
pub part_long : (at size : ℕ) (l : List ℕ) → at + size ≤ length l → length (part_at at size l) ≡ size
unfolding part_at
part_long at size l h = length_part l at size h

-- the part from `from` to `to` is the table there
pub part_lent : (at size from to : ℕ) (l : List ℕ) → from ≡ at → to ≡ at + size → lent from to l ≡ part_at at size l
unfolding part_at
part_lent at size from to l f t =
    let e : to - from ≡ size = omega (arith, f, t) in
    ap (λ (n : ℕ). take n (drop from l)) e ∙ ap (λ (n : ℕ). take size (drop n l)) f

-- it comes back with what was written
module _ (at size from to : ℕ) (before part after : List ℕ) (starts : from ≡ at) (ends : to ≡ at + size) (inside : at + size ≤ length before)
    (same : length part ≡ length (take (to - from) (drop from before)))
    (back : after ≡ take from before ++ (part ++ drop (to - from) (drop from before))) where
  long : length part ≡ size
  long = same ∙ ap length (part_lent at size from to before starts ends) ∙ part_long at size before inside

  fits : at + length part ≤ length before
  fits = omega (arith, inside, long, starts, ends)

  as_spliced : after ≡ spliced before at part
  unfolding spliced
  as_spliced =
      let e : from + (to - from) ≡ at + length part = omega (arith, long, starts, ends) in
      back
      ∙ ap (λ (l : List ℕ). take from before ++ (part ++ l)) (drop-drop (to - from) from before ∙ ap (λ (k : ℕ). drop k before) e)
      ∙ ap (λ (k : ℕ). take k before ++ (part ++ drop (at + length part) before)) starts

  pub put_table : part_at at size after ≡ part
  unfolding part_at
  put_table =
      let e : size ≡ length part = omega (arith, long, starts, ends) in
      rw (as_spliced, e) (within_read part (spliced before at part) at (within_spliced before at part fits))

  pub put_kept : KeptBefore at before after
  unfolding front_of
  put_kept = rw as_spliced (record { front = take_spliced before at part fits; long = length_spliced before at part fits })
