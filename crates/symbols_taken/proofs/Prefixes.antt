-- A prefix without a zero byte: a name begins with it where its table does from there on, since a name ends at a zero byte or with the table. Assumes nothing.
use Prim.Native.Nat.{ℕ, zero, suc, ◌+◌, ◌-◌, ◌≤◌, ◌<◌}
use mathlib.Core.Path.{◌≡◌, sym, ap, ◌∙◌}
use mathlib.Core.Bool.{false}
use mathlib.Core.List.{List}
use native.Mathlib.Omega.{arith}
use lib.ListN.{length, drop, get_or, get_or-eq_default, get_or-append}
use lib.Seq.{take-take, get_or-drop}
use Rattle.base_lists.specs.Strings.{same, prefixed, name_end, name_at}
use Rattle.base_lists.proofs.Ranges.{by-lt, by-test}
use Rattle.base_lists.proofs.Strings.{prefixed_true, prefixed_short, end_low, lt_has_end, end_zero, name_past, name_length}
use Rattle.base_scope.specs.Text.{text}

-- what stands where a name ends is zero, in the table or past it
end_is_zero : (t : List ℕ) (at : ℕ) → get_or t (name_end t at) 0 ≡ 0
end_is_zero t at = by-lt (name_end t at) (length t)
    (λ l. end_zero t at (lt_has_end t at l))
    (λ l. get_or-eq_default t 0 l)

module _ (t p : List ℕ) (at : ℕ) (whole : (i : ℕ) → i < length p → get_or p i 0 ≡ 0 → ⊥) where
  -- a name that ends within the prefix does not begin with it, and the table does not either
  cut : name_end t at - at < length p → prefixed p (drop at t) ≡ false
  cut l = by-test (prefixed p (drop at t))
      (λ y.
      let k = name_end t at - at in
      let e : at + k ≡ name_end t at = omega (arith, end_low t at) in
      let z : get_or (drop at t) k 0 ≡ 0 = get_or-drop at t k 0 ∙ ap (λ (i : ℕ). get_or t i 0) e ∙ end_is_zero t at in
      let f : get_or (drop at t) k 0 ≡ get_or p k 0 = ap (λ (s : List ℕ). get_or s k 0) (prefixed_true p (drop at t) y) ∙ get_or-append p (drop (length p) (drop at t)) 0 k l in
      absurd (whole k l (sym f ∙ z)))
      (λ n. n)

  -- a longer one has the table's bytes there
  as_table : length p ≤ name_end t at - at → prefixed p (drop at t) ≡ prefixed p (name_at t at)
  unfolding prefixed name_at
  as_table l = ap (λ (s : List ℕ). same s p) (sym (take-take (length p) (name_end t at - at) (drop at t) l))

  pub begins_as_table : prefixed p (drop at t) ≡ prefixed p (name_at t at)
  begins_as_table = by-lt (name_end t at - at) (length p)
      (λ l. cut l ∙ sym (prefixed_short p (name_at t at) (omega (arith, name_length t at, l))))
      (λ l. as_table l)

-- `_asmpp_` is one
pub helper_whole : (i : ℕ) → i < length (text "_asmpp_") → get_or (text "_asmpp_") i 0 ≡ 0 → ⊥
unfolding text
helper_whole zero h e = absurd (omega arith)
helper_whole (suc zero) h e = absurd (omega arith)
helper_whole (suc (suc zero)) h e = absurd (omega arith)
helper_whole (suc (suc (suc zero))) h e = absurd (omega arith)
helper_whole (suc (suc (suc (suc zero)))) h e = absurd (omega arith)
helper_whole (suc (suc (suc (suc (suc zero))))) h e = absurd (omega arith)
helper_whole (suc (suc (suc (suc (suc (suc zero)))))) h e = absurd (omega arith)
helper_whole (suc (suc (suc (suc (suc (suc (suc k))))))) h e = absurd (omega arith)

-- past the table there is no name
pub helper_past : (t : List ℕ) (at : ℕ) → length t ≤ at → false ≡ prefixed (text "_asmpp_") (name_at t at)
unfolding text
helper_past t at h = sym (prefixed_short (text "_asmpp_") (name_at t at) (omega (arith, ap length (name_past t at h))))
