-- Laws of the table of section codes. Assumes nothing.
use mathlib.Core.Path.{◌≡◌, refl, sym, ap, ◌∙◌}
use mathlib.Core.Bool.{true, false, cond}
use mathlib.Core.List.{List, []}
use Prim.Native.Nat.{ℕ, zero, suc, ◌+◌, ◌≤◌, ◌<◌}
use native.Mathlib.Omega.{arith}
use lib.ListN.{get_or, get_or-eq_default}
use lib.Dec.{eqb}
use borrow.Author.Tests.{ne_eqb}
use Rattle.base_lists.specs.Strings.{same}
use Rattle.base_scope.specs.Text.{text}
use Rattle.base_scope.specs.Elf.{SHT_NULL}
use Rattle.base_scope.specs.Codes.{Coded, section_codes, code_name, code_type, holds_bytes, leaves_out, is_late_target, CODES, TEXT, DATA, RODATA, BSS, LATE_RODATA, REGINFO, LATE_TARGET}

-- the row of what is no code
abbrev none : Coded
none = record { name = []; type = SHT_NULL; holds = false; leaves = false; late = false }

pub no_code_lem : (c : ℕ) → (1 ≤ c → CODES < c) → get_or section_codes c none ≡ none
unfolding section_codes
no_code_lem zero h = refl
no_code_lem (suc c) h =
    let g : 6 < suc c = h (omega arith) in
    get_or-eq_default section_codes none {n = suc c} (omega arith)

pub past_codes : (c : ℕ) → (1 ≤ c → CODES < c) → SHT_NULL ≡ code_type c
unfolding code_type
past_codes c h = ap (λ (x : Coded). x.type) (sym (no_code_lem c h))

pub past_holds : (c : ℕ) → (1 ≤ c → CODES < c) → holds_bytes c ≡ false
unfolding holds_bytes
past_holds c h = ap (λ (x : Coded). x.holds) (no_code_lem c h)

pub past_leaves : (c : ℕ) → (1 ≤ c → CODES < c) → leaves_out c ≡ false
unfolding leaves_out
past_leaves c h = ap (λ (x : Coded). x.leaves) (no_code_lem c h)

pub past_late : (c : ℕ) → (1 ≤ c → CODES < c) → is_late_target c ≡ false
unfolding is_late_target
past_late c h = ap (λ (x : Coded). x.late) (no_code_lem c h)

-- the late target is the code whose column says so
pub late_target_lem : is_late_target LATE_TARGET ≡ true
unfolding is_late_target section_codes
late_target_lem = refl

-- the columns with one row that says so, as tests of the code
pub leaves_text : (c : ℕ) → eqb c TEXT ≡ leaves_out c
unfolding leaves_out section_codes
leaves_text zero = refl
leaves_text (suc zero) = refl
leaves_text (suc (suc zero)) = refl
leaves_text (suc (suc (suc zero))) = refl
leaves_text (suc (suc (suc (suc zero)))) = refl
leaves_text (suc (suc (suc (suc (suc zero))))) = refl
leaves_text (suc (suc (suc (suc (suc (suc zero)))))) = refl
leaves_text (suc (suc (suc (suc (suc (suc (suc c))))))) = ne_eqb _ _ (λ (e : suc (suc (suc (suc (suc (suc (suc c)))))) ≡ 1). omega arith) ∙ sym (past_leaves (suc (suc (suc (suc (suc (suc (suc c))))))) (omega arith))

pub late_is : (c : ℕ) → eqb c LATE_TARGET ≡ is_late_target c
unfolding is_late_target section_codes
late_is zero = refl
late_is (suc zero) = refl
late_is (suc (suc zero)) = refl
late_is (suc (suc (suc zero))) = refl
late_is (suc (suc (suc (suc zero)))) = refl
late_is (suc (suc (suc (suc (suc zero))))) = refl
late_is (suc (suc (suc (suc (suc (suc zero)))))) = refl
late_is (suc (suc (suc (suc (suc (suc (suc c))))))) = ne_eqb _ _ (λ (e : suc (suc (suc (suc (suc (suc (suc c)))))) ≡ 3). omega arith) ∙ sym (past_late (suc (suc (suc (suc (suc (suc (suc c))))))) (omega arith))

-- ---- the codes have different names

-- the code of a name
code_of_lem : List ℕ → ℕ
code_of_lem name =
    cond (same name (text ".text")) TEXT
    (cond (same name (text ".data")) DATA
    (cond (same name (text ".rodata")) RODATA
    (cond (same name (text ".bss")) BSS
    (cond (same name (text ".late_rodata")) LATE_RODATA
    (cond (same name (text ".reginfo")) REGINFO 0)))))

name_code : (c : ℕ) → 1 ≤ c → c ≤ CODES → code_of_lem (code_name c) ≡ c
unfolding code_of_lem code_name section_codes same text
name_code zero l h = absurd (omega arith)
name_code (suc zero) l h = refl
name_code (suc (suc zero)) l h = refl
name_code (suc (suc (suc zero))) l h = refl
name_code (suc (suc (suc (suc zero)))) l h = refl
name_code (suc (suc (suc (suc (suc zero))))) l h = refl
name_code (suc (suc (suc (suc (suc (suc zero)))))) l h = refl
name_code (suc (suc (suc (suc (suc (suc (suc c))))))) l h = absurd (omega arith)

pub names_apart : (c d : ℕ) → 1 ≤ c → c ≤ CODES → 1 ≤ d → d ≤ CODES → code_name c ≡ code_name d → c ≡ d
names_apart c d l h m k e = sym (name_code c l h) ∙ ap code_of_lem e ∙ name_code d m k
