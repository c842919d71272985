-- Document 01, "Section codes": 1 .text, 2 .data, 3 .rodata, 4 .bss, 5 .late_rodata, 6 .reginfo; and what goes with each. A code is an index into this one
-- table, and everything that depends on the code of a section is a column of it.
use Rattle.std.specs.Prelude.{ℕ, ◌+◌, ◌-◌, ◌*◌, ◌/◌, ◌%◌, Bool, true, false, cond, List, [], ◌∷◌, get_or, eqb}
use Rattle.base_scope.specs.Text.{text}
use Rattle.base_scope.specs.Elf.{SHT_NULL, SHT_PROGBITS, SHT_NOBITS, SHT_MIPS_REGINFO}

pub record Coded : Type 0 where
  pub name : List ℕ
  -- sh_type, as document 01 asks it of the first section of that name
  pub type : ℕ
  -- the section has bytes, so that blocks are copied into it
  pub holds : Bool
  -- C's relocations at words that a block's copy replaces are left out
  pub leaves : Bool
  -- A's late words go into it
  pub late : Bool

abbrev coded : List ℕ → ℕ → Bool → Bool → Bool → Coded
coded n t h l r = record { name = n; type = t; holds = h; leaves = l; late = r }

-- 0 is no code
abbrev no_code : Coded
no_code = coded [] SHT_NULL false false false

unfoldable pub section_codes : List Coded
section_codes =
    no_code
    ∷ coded (text ".text") SHT_PROGBITS true true false
    ∷ coded (text ".data") SHT_PROGBITS true false false
    ∷ coded (text ".rodata") SHT_PROGBITS true false true
    ∷ coded (text ".bss") SHT_NOBITS false false false
    ∷ coded (text ".late_rodata") SHT_PROGBITS true false false
    ∷ coded (text ".reginfo") SHT_MIPS_REGINFO true false false
    ∷ []

-- the codes by name
abbrev pub TEXT : ℕ
TEXT = 1

abbrev pub DATA : ℕ
DATA = 2

abbrev pub RODATA : ℕ
RODATA = 3

abbrev pub BSS : ℕ
BSS = 4

abbrev pub LATE_RODATA : ℕ
LATE_RODATA = 5

abbrev pub REGINFO : ℕ
REGINFO = 6

-- how many codes there are
abbrev pub CODES : ℕ
CODES = 6

-- the code of the late target (proofs/Codes.antt: it is the one whose column says so)
abbrev pub LATE_TARGET : ℕ
LATE_TARGET = RODATA

unfoldable pub code_name : ℕ → List ℕ
code_name c = (get_or section_codes c no_code).name

unfoldable pub code_type : ℕ → ℕ
code_type c = (get_or section_codes c no_code).type

unfoldable pub holds_bytes : ℕ → Bool
holds_bytes c = (get_or section_codes c no_code).holds

unfoldable pub leaves_out : ℕ → Bool
leaves_out c = (get_or section_codes c no_code).leaves

unfoldable pub is_late_target : ℕ → Bool
is_late_target c = (get_or section_codes c no_code).late

-- where the bytes of A's section of code a go in C
unfoldable pub target_code : ℕ → ℕ
target_code a = cond (eqb a LATE_RODATA) LATE_TARGET a

-- A block has a line for each of the codes 1 to LINES, in this order. The lines of all blocks are counted in one row: the code and the block of line j, the line
-- of a code in block i, and the first line of block i.
abbrev pub LINES : ℕ
LINES = 4

abbrev pub line_code : ℕ → ℕ
line_code j = j % LINES + 1

abbrev pub line_block : ℕ → ℕ
line_block j = j / LINES

abbrev pub first_line : ℕ → ℕ
first_line i = LINES * i

abbrev pub line_of : ℕ → ℕ → ℕ
line_of i c = first_line i + (c - 1)
