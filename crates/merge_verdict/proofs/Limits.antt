-- Refusal 1: what is known where no limit is broken, and the search for a byte that may not stand in a path. Assumes nothing.
use Prim.Native.Nat.{ℕ, ◌+◌, ◌≤◌, ◌<◌}
use mathlib.Core.Path.{◌≡◌, refl, ◌∙◌}
use mathlib.Core.Bool.{Bool, true, false, not, ◌||◌}
use mathlib.Core.List.{List}
use native.Mathlib.Omega.{arith}
use lib.ListN.{length, get_or}
use lib.Dec.{leb}
use borrow.Author.Tests.{le-leb, lt-leb, leb-true, ltb-true, eqb-true, eq-eqb, ne_eqb, not-false}
use Rattle.base_lists.specs.Ranges.{first}
use Rattle.base_lists.proofs.Ranges.{and_parts, or_parts, first_here, first_next, first_end, none_first}
use Rattle.base_scope.specs.Limits.{FILE_LIMIT, PATH_LIMIT, over_limits, Kept}
use Rattle.base_scope.proofs.Limits.{in_limits}
use Rattle.write_plan.proofs.of_write_strings.Names.{Full}
use Rattle.merge_buffers.specs.Buffers.{BLOCK_BUFFER, PLACE_BUFFER, STEP_BUFFER, INDEX_BUFFER}
use Rattle.merge_verdict.specs.Verdict.{merge_bounds, is_path_byte, is_path}

-- ---- the path

abbrev pub bad_byte : List ℕ → ℕ → Bool
bad_byte p k = not (is_path_byte (get_or p k 0))

module _ (p : List ℕ) where
  pub path_long : PATH_LIMIT < length p → false ≡ is_path p
  unfolding is_path
  path_long h = rw (lt-leb (length p) PATH_LIMIT h)

  module _ (short : length p ≤ PATH_LIMIT) (k : ℕ) (so_far : first (bad_byte p) 0 (length p) ≡ first (bad_byte p) k (length p)) where
    pub path_bad : k < length p → is_path_byte (get_or p k 0) ≡ false → false ≡ is_path p
    unfolding is_path
    path_bad h t =
        let e : first (bad_byte p) 0 (length p) ≡ k = so_far ∙ first_here (bad_byte p) k (length p) h (rw t) in
        let n : k ≡ length p → ⊥ = λ q. omega (arith, q, h) in
        rw (le-leb (length p) PATH_LIMIT short, e, ne_eqb k (length p) n)

    pub path_good : k < length p → is_path_byte (get_or p k 0) ≡ true → first (bad_byte p) 0 (length p) ≡ first (bad_byte p) (k + 1) (length p)
    path_good h t = so_far ∙ first_next (bad_byte p) k (length p) h (rw t)

    pub path_all : k ≤ length p → length p ≤ k → true ≡ is_path p
    unfolding is_path
    path_all u l =
        let q : k ≡ length p = omega (arith, u, l) in
        let e : first (bad_byte p) 0 (length p) ≡ length p = so_far ∙ first_end (bad_byte p) k (length p) l ∙ q in
        rw (le-leb (length p) PATH_LIMIT short, e, eq-eqb (length p) (length p) refl)

  pub path_short : is_path p ≡ true → length p ≤ PATH_LIMIT
  unfolding is_path
  path_short e = leb-true (length p) PATH_LIMIT (and_parts (leb (length p) PATH_LIMIT) _ e).0

  -- no byte of a path is zero
  pub path_full : is_path p ≡ true → Full p
  unfolding is_path is_path_byte
  path_full e k h z =
      let whole = eqb-true _ _ (and_parts (leb (length p) PATH_LIMIT) _ e).1 in
      let good = not-false (is_path_byte (get_or p k 0)) (none_first (bad_byte p) 0 (length p) k whole (omega arith) h) in
      omega (arith, ltb-true 0 (get_or p k 0) (and_parts _ _ good).0, z)

-- ---- all of them

pub record MergeLimits (compiled assembled blocks flag mode : ℕ) (table places steps index : ℕ) (path : List ℕ) : Type 0 where
  pub compiled_limit_lem : compiled ≤ FILE_LIMIT
  pub assembled_limit_lem : assembled ≤ FILE_LIMIT
  pub blocks_limit_lem : blocks ≤ FILE_LIMIT
  pub flag_limit_lem : flag ≤ 1
  pub mode_limit_lem : mode ≤ 3
  pub table_size : BLOCK_BUFFER ≤ table
  pub places_size : PLACE_BUFFER ≤ places
  pub steps_size : STEP_BUFFER ≤ steps
  pub index_size : INDEX_BUFFER ≤ index
  pub path_is : is_path path ≡ true

pub merge_limits : (compiled assembled blocks flag mode table places steps index : ℕ) (path : List ℕ)
    → (over_limits (merge_bounds compiled assembled blocks flag mode table places steps index) || not (is_path path)) ≡ false
    → MergeLimits compiled assembled blocks flag mode table places steps index path
unfolding merge_bounds Kept
merge_limits compiled assembled blocks flag mode table places steps index path x =
    let e = or_parts _ _ x in
    let a = in_limits _ _ e.0 in
    let b = in_limits _ _ a.1 in
    let c = in_limits _ _ b.1 in
    let d = in_limits _ _ c.1 in
    let f = in_limits _ _ d.1 in
    let g = in_limits _ _ f.1 in
    let h = in_limits _ _ g.1 in
    let i = in_limits _ _ h.1 in
    let j = in_limits _ _ i.1 in
    record {
      compiled_limit_lem = a.0;
      assembled_limit_lem = b.0;
      blocks_limit_lem = c.0;
      flag_limit_lem = d.0;
      mode_limit_lem = f.0;
      table_size = g.0;
      places_size = h.0;
      steps_size = i.0;
      index_size = j.0;
      path_is = not-false (is_path path) e.1;
    }
