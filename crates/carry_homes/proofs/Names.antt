-- The names of tables: two are the same where both parts are, because a name tells both. Assumes nothing.
use Prim.Native.Nat.{ℕ, ◌+◌, ◌≤◌}
use mathlib.Core.Path.{◌≡◌, refl, sym, ap, ◌∙◌}
use mathlib.Core.Bool.{Bool, true, false, cond, not}
use mathlib.Core.List.{List}
use native.Mathlib.Omega.{arith}
use lib.ListN.{length, get_or, length-append}
use lib.Dec.{eqb}
use borrow.Author.Tests.{eq-eqb, ne_eqb, eqb-true}
use Rattle.base_lists.specs.Strings.{same}
use Rattle.base_lists.specs.Written.{Written}
use Rattle.base_lists.proofs.Ranges.{by-lt, both, and_parts, and_true}
use Rattle.base_lists.proofs.Strings.{same_true, same_eq}
use Rattle.base_lists.proofs.Written.{written_then}
use Rattle.base_scope.specs.Text.{text}
use Rattle.base_scope.specs.Codes.{TEXT, DATA, RODATA, BSS, LINES, section_codes, code_name}
use Rattle.base_groups.proofs.Holders.{test_ext}
use Rattle.carry_clash.specs.Clash.{joined_name}
use Rattle.carry_homes.specs.declared.TableName.{TableName}
use Rattle.carry_homes.specs.Code.{kind_name, same_key}

-- the four codes
pub by_code {ℓ} : {R : Type ℓ} (c : ℕ) → 1 ≤ c → c ≤ LINES → (c ≡ TEXT → R) → (c ≡ DATA → R) → (c ≡ RODATA → R) → (c ≡ BSS → R) → R
by_code c l u a b d e = by-lt c DATA
    (λ h. a (omega arith))
    (λ h. by-lt c RODATA
    (λ k. b (omega arith))
    (λ k. by-lt c BSS (λ q. d (omega arith)) (λ q. e (omega arith))))

-- ---- the parts of a name, read back

abbrev kind_of : List ℕ → Bool
kind_of l = eqb (get_or l 4 0) 97

-- the code of a letter: t, d, r, b
abbrev letter_code : ℕ → ℕ
letter_code x = cond (eqb x 116) TEXT (cond (eqb x 100) DATA (cond (eqb x 114) RODATA BSS))

abbrev line_in : Bool → List ℕ → ℕ
line_in rela l = letter_code (get_or l (cond rela 6 5) 0)

kind_back : (r : Bool) (c : ℕ) → 1 ≤ c → c ≤ LINES → kind_of (joined_name r c) ≡ r
unfolding joined_name code_name section_codes text
kind_back true c l u = refl
kind_back false c l u = by_code c l u (λ e. rw e) (λ e. rw e) (λ e. rw e) (λ e. rw e)

code_back : (r : Bool) (c : ℕ) → 1 ≤ c → c ≤ LINES → line_in r (joined_name r c) ≡ c
unfolding joined_name code_name section_codes text
code_back true c l u = by_code c l u (λ e. rw e) (λ e. rw e) (λ e. rw e) (λ e. rw e)
code_back false c l u = by_code c l u (λ e. rw e) (λ e. rw e) (λ e. rw e) (λ e. rw e)

-- ---- names that are the same

kinds_equal : (r s : Bool) → cond r s (not s) ≡ true → r ≡ s
kinds_equal true s e = sym e
kinds_equal false true e = both e refl
kinds_equal false false e = refl

equal_kinds : (s : Bool) → cond s s (not s) ≡ true
equal_kinds true = refl
equal_kinds false = refl

module _ (a b : TableName) (al : 1 ≤ a.code) (au : a.code ≤ LINES) (bl : 1 ≤ b.code) (bu : b.code ≤ LINES) where
  pub parts_equal : joined_name a.rela a.code ≡ joined_name b.rela b.code → (a.rela ≡ b.rela) × (a.code ≡ b.code)
  parts_equal e =
      let r : a.rela ≡ b.rela = sym (kind_back a.rela a.code al au) ∙ ap kind_of e ∙ kind_back b.rela b.code bl bu in
      let q : joined_name b.rela a.code ≡ joined_name b.rela b.code = ap (λ (x : Bool). joined_name x a.code) (sym r) ∙ e in
      (r, sym (code_back b.rela a.code al au) ∙ ap (line_in b.rela) q ∙ code_back b.rela b.code bl bu)

  keys_told : same (joined_name a.rela a.code) (joined_name b.rela b.code) ≡ true → same_key a b ≡ true
  unfolding same_key
  keys_told t =
      let e = parts_equal (same_true _ _ t) in
      and_true _ _ (eq-eqb a.code b.code e.1) (rw e.0 (equal_kinds b.rela))

  told_keys : same_key a b ≡ true → same (joined_name a.rela a.code) (joined_name b.rela b.code) ≡ true
  unfolding same_key
  told_keys t =
      let p = and_parts (eqb a.code b.code) (cond a.rela b.rela (not b.rela)) t in
      same_eq _ _ (ap (λ (x : Bool). joined_name x a.code) (kinds_equal a.rela b.rela p.1) ∙ ap (joined_name b.rela) (eqb-true a.code b.code p.0))

  pub same_names : same (joined_name a.rela a.code) (joined_name b.rela b.code) ≡ same_key a b
  same_names = test_ext _ _ keys_told told_keys

-- as the code tests them
module _ (a b : TableName) where
  pub key_other : (a.code ≡ b.code → ⊥) → false ≡ same_key a b
  unfolding same_key
  key_other d = rw (ne_eqb a.code b.code d)

  pub key_with : a.code ≡ b.code → a.rela ≡ true → b.rela ≡ same_key a b
  unfolding same_key
  key_with e t = rw (eq-eqb a.code b.code e, t)

  pub key_without : a.code ≡ b.code → a.rela ≡ false → not b.rela ≡ same_key a b
  unfolding same_key
  key_without e f = rw (eq-eqb a.code b.code e, f)

-- ---- names written

pub kind_yes : (r : Bool) → r ≡ true → text ".rela" ≡ kind_name r
unfolding kind_name
kind_yes r t = rw t

pub kind_no : (r : Bool) → r ≡ false → text ".rel" ≡ kind_name r
unfolding kind_name
kind_no r f = rw f

pub name_written_lem : (out : List ℕ) (at : ℕ) (rela : Bool) (c r : ℕ) (mid : List ℕ) (end : ℕ) (last : List ℕ) → Written out at (kind_name rela) r mid
    → Written mid r (code_name c) end last
    → Written out at (joined_name rela c) end last
unfolding joined_name kind_name
name_written_lem out at rela c r mid end last f g = written_then out at (kind_name rela) r mid (code_name c) end last f g

-- ---- their lengths

pub long_of : (c d n : ℕ) → c ≡ d → n ≡ length (code_name d) → n ≡ length (code_name c)
long_of c d n e is = is ∙ ap (λ (x : ℕ). length (code_name x)) (sym e)

pub name_long : (rela : Bool) (c n k : ℕ) → k ≡ length (kind_name rela) → n ≡ length (code_name c) → k + n ≡ length (joined_name rela c)
unfolding joined_name kind_name
name_long rela c n k e f = rw (length-append, ← e, ← f)
