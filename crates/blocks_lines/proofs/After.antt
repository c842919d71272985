-- The laws of a test of a line that answers where the next one starts. Assumes nothing.
use Prim.Native.Nat.{ℕ, ◌+◌, ◌-◌, ◌≤◌, ◌<◌}
use mathlib.Core.Path.{◌≡◌, sym, ap, ◌∙◌}
use mathlib.Core.Bool.{true, false}
use mathlib.Core.List.{List}
use native.Mathlib.Omega.{arith}
use lib.ListN.{length, take, drop}
use lib.Dec.{ltb}
use borrow.Author.Tests.{lt-ltb}
use Rattle.base_lists.specs.Strings.{prefixed}
use Rattle.base_lists.proofs.Ranges.{by-test}
use Rattle.blocks_lines.specs.Lines.{line_end, next}
use Rattle.blocks_lines.specs.Keys.{KEYS, key_name, value_sound, is_key_line}
use Rattle.blocks_lines.specs.After.{line_after}
use Rattle.blocks_lines.proofs.Lines.{end_low, lt_whole, next_low}
use Rattle.blocks_lines.proofs.Keys.{key_line_not, key_line_other, key_line_from}

module _ (B : List ℕ) (k a : ℕ) where
  pub after_line : is_key_line B k a ≡ true → line_after B k a ≡ next B a
  unfolding line_after
  after_line t = rw t

  pub after_none : is_key_line B k a ≡ false → line_after B k a ≡ 0
  unfolding line_after
  after_none t = rw t

  -- the tests, one by one
  pub after_past : length B ≤ a → line_after B k a ≡ 0
  after_past h = after_none (key_line_not B k a (omega (arith, end_low B a)))

  pub after_other : prefixed (key_name k) (drop a B) ≡ false → line_after B k a ≡ 0
  after_other f = after_none (key_line_other B k a f)

  -- the key is there, its value begins at b and ends at e
  module _ (h : a < length B) (t : prefixed (key_name k) (drop a B) ≡ true) (u : k < KEYS) (b e : ℕ) (from : b ≡ a + length (key_name k)) (is : e ≡ line_end B b) where
    abbrev value : List ℕ
    value = take (e - b) (drop b B)

    pub after_short : length B ≤ e → line_after B k a ≡ 0
    after_short l = after_none (key_line_not B k a (omega (arith, (key_line_from B k a h t u b e from is).0, l)))

    whole_told : e < length B → is_key_line B k a ≡ value_sound k value
    whole_told l =
        let r = key_line_from B k a h t u b e from is in
        r.1 ∙ rw (lt_whole B a (omega (arith, r.0, l)))

    pub after_yes : e < length B → value_sound k value ≡ true → line_after B k a ≡ e + 1
    unfolding next
    after_yes l s = after_line (whole_told l ∙ s) ∙ ap (λ (n : ℕ). n + 1) (key_line_from B k a h t u b e from is).0

    pub after_no : e < length B → value_sound k value ≡ false → line_after B k a ≡ 0
    after_no l s = after_none (whole_told l ∙ s)

  -- no line starts at 0 behind another, so the answer tells whether a line of the key stands at a
  pub after_told : ltb 0 (line_after B k a) ≡ is_key_line B k a
  after_told =
      by-test (is_key_line B k a)
      (λ t. lt-ltb 0 (line_after B k a) (omega (arith, after_line t, next_low B a)) ∙ sym t)
      (λ t. rw (after_none t, t))

  pub after_some : 0 < line_after B k a → is_key_line B k a ≡ true
  after_some h = sym after_told ∙ lt-ltb 0 (line_after B k a) h

  pub after_zero : line_after B k a ≡ 0 → is_key_line B k a ≡ false
  after_zero z = sym after_told ∙ ap (ltb 0) z
