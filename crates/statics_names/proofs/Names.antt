-- Laws of written names: what a mode puts in front, what a count puts behind, and how long they are. Assumes nothing.
use mathlib.Core.Path.{◌≡◌, refl, sym, ap, ◌∙◌}
use mathlib.Core.List.{List, [], ◌∷◌, ◌++◌}
use Prim.Native.Nat.{ℕ, ◌+◌, ◌≤◌}
use native.Mathlib.Omega.{arith}
use lib.ListN.{length, length-append}
use lib.Dec.{eqb}
use borrow.Author.Tests.{eq-eqb, ne_eqb, eqb-true, eqb-false}
use Rattle.base_lists.proofs.Ranges.{by-test}
use Rattle.base_lists.specs.Strings.{name_at}
use Rattle.base_scope.specs.Text.{text}
use Rattle.base_scope.specs.Elf.{STT_OBJECT, STT_FUNC, STB_LOCAL, STB_GLOBAL}
use Rattle.base_scope.specs.Codes.{TEXT}
use Rattle.base_text.specs.Decimals.{decimal_text}
use Rattle.statics_table.specs.declared.Static.{Static}
use Rattle.statics_table.specs.Statics.{MODE_LOCAL, MODE_FILENAME, stored_name, count_tail, working_name, name_head, written_name, static_type, static_binding}

module _ (mode : ℕ) (path : List ℕ) where
  pub head_path : mode ≡ MODE_FILENAME → path ++ text ":" ≡ name_head mode path
  unfolding name_head
  head_path e = rw (eq-eqb mode MODE_FILENAME e)

  pub head_other : (mode ≡ MODE_FILENAME → ⊥) → [] ≡ name_head mode path
  unfolding name_head
  head_other d = rw (ne_eqb mode MODE_FILENAME d)

  colon : length (path ++ text ":") ≡ length path + 1
  unfolding text
  colon = length-append path (58 ∷ [])

  pub head_long : mode ≡ MODE_FILENAME → length path + 1 ≡ length (name_head mode path)
  head_long e = sym colon ∙ ap length (head_path e)

  pub head_none : (mode ≡ MODE_FILENAME → ⊥) → 0 ≡ length (name_head mode path)
  head_none d = ap length (head_other d)

  pub head_short : length (name_head mode path) ≤ length path + 1
  head_short = by-test (eqb mode MODE_FILENAME)
      (λ t. omega (arith, head_long (eqb-true mode MODE_FILENAME t)))
      (λ f. omega (arith, head_none (eqb-false mode MODE_FILENAME f)))

pub tail_none : (n : ℕ) → n ≡ 0 → [] ≡ count_tail n
unfolding count_tail
tail_none n e = rw e

pub tail_some : (n : ℕ) → (n ≡ 0 → ⊥) → text ":" ++ decimal_text n ≡ count_tail n
unfolding count_tail
tail_some n d = rw (ne_eqb n 0 d)

pub working_parts : (C : List ℕ) (s : Static) → name_at C s.start ++ count_tail s.number ≡ working_name C s
unfolding working_name stored_name
working_parts C s = refl

pub written_parts : (mode : ℕ) (path C : List ℕ) (s : Static) → name_head mode path ++ working_name C s ≡ written_name mode path C s
unfolding written_name
written_parts mode path C s = refl

pub type_text : (s : Static) → s.code ≡ TEXT → STT_FUNC ≡ static_type s
unfolding static_type
type_text s e = rw (eq-eqb s.code TEXT e)

pub type_other : (s : Static) → (s.code ≡ TEXT → ⊥) → STT_OBJECT ≡ static_type s
unfolding static_type
type_other s d = rw (ne_eqb s.code TEXT d)

pub binding_local : (mode : ℕ) → mode ≡ MODE_LOCAL → STB_LOCAL ≡ static_binding mode
unfolding static_binding
binding_local mode e = rw (eq-eqb mode MODE_LOCAL e)

pub binding_other : (mode : ℕ) → (mode ≡ MODE_LOCAL → ⊥) → STB_GLOBAL ≡ static_binding mode
unfolding static_binding
binding_other mode d = rw (ne_eqb mode MODE_LOCAL d)
