-- The symbols that a merge may take over (document 01, "Symbols"): C's, A's and the statics, numbered without a gap, as functions of that number. A reader of the merge's
-- definitions needs no more of them than this.
use Rattle.std.specs.Prelude.{ℕ, Bool, not, List, length, eqb}
use Rattle.base_lists.specs.Strings.{same}
use Rattle.base_scope.specs.Text.{text}
use Rattle.base_scope.specs.Elf.{SHN_UNDEF, STB_LOCAL}

pub record Candidates : Type 0 where
  pub many : ℕ
  -- it is taken over
  pub taken : ℕ → Bool
  -- its working name: the symbol's name; for a static, the name before mode 3 puts path and colon in front
  pub name : ℕ → List ℕ
  -- section index and value as they stand in the result
  pub section : ℕ → ℕ
  pub value : ℕ → ℕ
  pub binding : ℕ → ℕ

module _ (s : Candidates) where
  -- document 01, "Demand 3": "defined: section index not 0"
  unfoldable pub is_defined : ℕ → Bool
  is_defined i = not (eqb (s.section i) SHN_UNDEF)

  unfoldable pub is_unnamed : ℕ → Bool
  is_unnamed i = eqb (length (s.name i)) 0

  unfoldable pub is_local : ℕ → Bool
  is_local i = eqb (s.binding i) STB_LOCAL

  unfoldable pub is_gp_disp : ℕ → Bool
  is_gp_disp i = same (s.name i) (text "_gp_disp")
