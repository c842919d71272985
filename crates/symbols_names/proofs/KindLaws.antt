-- The kind of a name: its first byte tells that of most, and two comparisons that of any. Assumes nothing.
use Prim.Native.Nat.{ℕ, ◌+◌, ◌<◌}
use mathlib.Core.Path.{◌≡◌, refl, sym, ap, ◌∙◌}
use mathlib.Core.Bool.{Bool, true, false, not, ◌&&◌}
use mathlib.Core.List.{List, [], ◌∷◌}
use native.Mathlib.Omega.{arith}
use lib.ListN.{length, get_or}
use lib.Dec.{eqb}
use borrow.Author.Tests.{not-true, eqb-false, ne_eqb}
use Rattle.base_lists.specs.Strings.{same, name_at}
use Rattle.base_lists.proofs.Ranges.{and_parts}
use Rattle.base_lists.proofs.Strings.{name_cons, name_is_apart}
use Rattle.base_scope.specs.Text.{text}
use Rattle.statics_table.specs.declared.Static.{Static}
use Rattle.statics_table.specs.Statics.{stored_name, working_name}
use Rattle.symbols_names.specs.declared.NameKind.{NameKind}
use Rattle.symbols_names.specs.Names.{kind_of}
use Rattle.symbols_names.proofs.Tails.{joined_none, kind_counted}

-- a string without bytes
empty_same : (a : List ℕ) → same a [] ≡ eqb (length a) 0
unfolding same
empty_same [] = refl
empty_same (x ∷ a) = sym (ne_eqb (length (x ∷ a)) 0 (λ e. omega arith))

module _ (t : List ℕ) (at : ℕ) where
  pub kind_other : at < length t → (not (eqb (get_or t at 0) 0) && not (eqb (get_or t at 0) 95)) ≡ true → ◌≡◌ {A = NameKind} (record { unnamed = false; gp_disp = false }) (kind_of (name_at t at))
  unfolding kind_of text
  kind_other h told =
      let b = and_parts (not (eqb (get_or t at 0) 0)) (not (eqb (get_or t at 0) 95)) told in
      let e = ap length (name_cons t at h (eqb-false _ _ (not-true _ b.0))) in
      let u : false ≡ eqb (length (name_at t at)) 0 = sym (ne_eqb (length (name_at t at)) 0 (λ z. omega (arith, e, z))) in
      let same_at : get_or t (at + 0) 0 ≡ get_or t at 0 = ap (λ (k : ℕ). get_or t k 0) (omega arith) in
      let g : false ≡ same (name_at t at) (text "_gp_disp") = sym (name_is_apart t (text "_gp_disp") at 0 (omega arith) (λ e. eqb-false _ _ (not-true _ b.1) (sym same_at ∙ e))) in
      λ k. record { unnamed = u k; gp_disp = g k }

  pub kind_asked : (u g : Bool) → u ≡ same (name_at t at) [] → g ≡ same (name_at t at) (text "_gp_disp") → ◌≡◌ {A = NameKind} (record { unnamed = u; gp_disp = g }) (kind_of (name_at t at))
  unfolding kind_of
  kind_asked u g empty gp =
      let x : u ≡ eqb (length (name_at t at)) 0 = empty ∙ empty_same (name_at t at) in
      λ k. record { unnamed = x k; gp_disp = gp k }

-- a static's name, with a count and with none
module _ (C : List ℕ) (s : Static) where
  pub static_counted : (s.number ≡ 0 → ⊥) → ◌≡◌ {A = NameKind} (record { unnamed = false; gp_disp = false }) (kind_of (working_name C s))
  unfolding working_name
  static_counted d = kind_counted _ (stored_name C s) s.number refl d

  pub static_plain : (r : NameKind) → s.number ≡ 0 → r ≡ kind_of (name_at C s.start) → r ≡ kind_of (working_name C s)
  unfolding working_name stored_name
  static_plain r z e = e ∙ ap kind_of (joined_none (name_at C s.start) s.number z)
