-- A small merge with a late word, as bytes. C's .text is two words and has a RELA table; the block takes the word at 4 and has one dummy, at 4 of C's .rodata. A's .text and
-- .late_rodata have an entry each: the first joins C's table, the second opens a new one, .rel.rodata, and moves from 0 to 4. All three are for f, which nobody defines.
use Rattle.std.specs.Prelude.{ℕ, ◌+◌, ◌*◌, List, [], ◌∷◌, ◌++◌, length}
use Rattle.base_lists.specs.Windows.{spliced}
use Rattle.base_fields.specs.declared.ByteOrder.TheVariants.{Big}
use Rattle.base_fields.specs.Numbers.{encoded}
use Rattle.base_scope.specs.Text.{text}
use Rattle.elf_samples.specs.Samples.{words}

-- an object with so many sections, one of them the names: the bytes of its sections, then their headers
abbrev object : ℕ → ℕ → List ℕ → List ℕ → List ℕ
object sections names bytes headers =
    words (0x7F454C46 ∷ 0x01020100 ∷ 0 ∷ 0 ∷ 0x00010008 ∷ 1 ∷ 0 ∷ 0 ∷ (52 + length bytes) ∷ 0 ∷ 0x00340000 ∷ 0x00000028 ∷ (0x10000 * sections + names) ∷ [])
    ++ bytes
    ++ words (0 ∷ 0 ∷ 0 ∷ 0 ∷ 0 ∷ 0 ∷ 0 ∷ 0 ∷ 0 ∷ 0 ∷ [])
    ++ headers

-- ---- the inputs

-- strings of C: .text 1, .rodata 7, .rela.text 15, f 26, the block's label 28
abbrev strings_c : List ℕ
strings_c = 0 ∷ text ".text" ++ 0 ∷ text ".rodata" ++ 0 ∷ text ".rela.text" ++ 0 ∷ text "f" ++ 0 ∷ text "_asmpp_t" ++ 0 ∷ 0 ∷ 0 ∷ 0 ∷ []

-- of A: .text 1, .late_rodata 7, .rela.text 20, f 31, the block's labels 33 and 52, the late labels 69 and 94
abbrev strings_a : List ℕ
strings_a =
    0 ∷ text ".text" ++ 0 ∷ text ".late_rodata" ++ 0 ∷ text ".rela.text" ++ 0 ∷ text "f" ++ 0 ∷ text "_asmpp_t_asm_start" ++ 0 ∷ text "_asmpp_t_asm_end"
    ++ 0 ∷ text "_asmpp_late_rodata_start" ++ 0 ∷ text "_asmpp_late_rodata_end" ++ 0 ∷ 0 ∷ 0 ∷ 0 ∷ []

-- .text, .rodata, the table (offset, r_info, addend), the symbols (name, value, size, a word with st_info and section index), the strings
abbrev pub C : List ℕ
C =
    object 6 5
    (words (0x0C000000 ∷ 0 ∷ [])
    ++ words (0x11111111 ∷ 0xE0123456 ∷ [])
    ++ words (0 ∷ 0x0104 ∷ 8 ∷ [])
    ++ words (0 ∷ 0 ∷ 0 ∷ 0 ∷ 26 ∷ 0 ∷ 0 ∷ 0x10000000 ∷ 28 ∷ 4 ∷ 0 ∷ 0x10000001 ∷ [])
    ++ strings_c)
    (words (1 ∷ 1 ∷ 6 ∷ 0 ∷ 52 ∷ 8 ∷ 0 ∷ 0 ∷ 4 ∷ 0 ∷ [])
    ++ words (7 ∷ 1 ∷ 2 ∷ 0 ∷ 60 ∷ 8 ∷ 0 ∷ 0 ∷ 4 ∷ 0 ∷ [])
    ++ words (15 ∷ 4 ∷ 0 ∷ 0 ∷ 68 ∷ 12 ∷ 4 ∷ 1 ∷ 4 ∷ 12 ∷ [])
    ++ words (0 ∷ 2 ∷ 0 ∷ 0 ∷ 80 ∷ 48 ∷ 5 ∷ 1 ∷ 4 ∷ 16 ∷ [])
    ++ words (0 ∷ 3 ∷ 0 ∷ 0 ∷ 128 ∷ 40 ∷ 0 ∷ 0 ∷ 1 ∷ 0 ∷ []))

-- .text, .late_rodata, their tables, the symbols, the strings
abbrev pub A : List ℕ
A =
    object 7 6
    (words (0 ∷ 0x0C000000 ∷ [])
    ++ words (0x00000020 ∷ [])
    ++ words (4 ∷ 0x0104 ∷ 16 ∷ [])
    ++ words (0 ∷ 0x0102 ∷ [])
    ++ words (0 ∷ 0 ∷ 0 ∷ 0 ∷ 31 ∷ 0 ∷ 0 ∷ 0x10000000 ∷ 33 ∷ 4 ∷ 0 ∷ 0x10000001 ∷ 52 ∷ 8 ∷ 0 ∷ 0x10000001 ∷ 69 ∷ 0 ∷ 0 ∷ 0x10000002 ∷ 94 ∷ 4 ∷ 0 ∷ 0x10000002 ∷ [])
    ++ strings_a)
    (words (1 ∷ 1 ∷ 6 ∷ 0 ∷ 52 ∷ 8 ∷ 0 ∷ 0 ∷ 4 ∷ 0 ∷ [])
    ++ words (7 ∷ 1 ∷ 2 ∷ 0 ∷ 60 ∷ 4 ∷ 0 ∷ 0 ∷ 4 ∷ 0 ∷ [])
    ++ words (20 ∷ 4 ∷ 0 ∷ 0 ∷ 64 ∷ 12 ∷ 5 ∷ 1 ∷ 4 ∷ 12 ∷ [])
    ++ words (0 ∷ 9 ∷ 0 ∷ 0 ∷ 76 ∷ 8 ∷ 5 ∷ 2 ∷ 4 ∷ 8 ∷ [])
    ++ words (0 ∷ 2 ∷ 0 ∷ 0 ∷ 84 ∷ 96 ∷ 6 ∷ 1 ∷ 4 ∷ 16 ∷ [])
    ++ words (0 ∷ 3 ∷ 0 ∷ 0 ∷ 180 ∷ 120 ∷ 0 ∷ 0 ∷ 1 ∷ 0 ∷ []))

abbrev pub B : List ℕ
B = text "desc=\ntext=_asmpp_t 4 0\ndata=\nrodata=\nbss=\ndummy=e0123456\njtbl=0\nend=\n"

abbrev pub path : List ℕ
path = text "c"

-- ---- the result, and others like it

-- with this word in .rodata, this addend of A's entry in .rela.text, and in the new table this offset and this section
abbrev output : ℕ → ℕ → ℕ → ℕ → List ℕ
output word addend offset target =
    object 7 5
    (words (0x0C000000 ∷ 0x0C000000 ∷ [])
    ++ words (0x11111111 ∷ word ∷ [])
    ++ words (0 ∷ 0x0104 ∷ 8 ∷ 4 ∷ 0x0104 ∷ addend ∷ [])
    ++ words (0 ∷ 0 ∷ 0 ∷ 0 ∷ 26 ∷ 0 ∷ 0 ∷ 0x10000000 ∷ [])
    ++ (strings_c ++ strings_a ++ text ".rel.rodata" ++ 0 ∷ [])
    ++ words (offset ∷ 0x0102 ∷ []))
    (words (1 ∷ 1 ∷ 6 ∷ 0 ∷ 52 ∷ 8 ∷ 0 ∷ 0 ∷ 4 ∷ 0 ∷ [])
    ++ words (7 ∷ 1 ∷ 2 ∷ 0 ∷ 60 ∷ 8 ∷ 0 ∷ 0 ∷ 4 ∷ 0 ∷ [])
    ++ words (15 ∷ 4 ∷ 0 ∷ 0 ∷ 68 ∷ 24 ∷ 4 ∷ 1 ∷ 4 ∷ 12 ∷ [])
    ++ words (0 ∷ 2 ∷ 0 ∷ 0 ∷ 92 ∷ 32 ∷ 5 ∷ 1 ∷ 4 ∷ 16 ∷ [])
    ++ words (0 ∷ 3 ∷ 0 ∷ 0 ∷ 124 ∷ 172 ∷ 0 ∷ 0 ∷ 1 ∷ 0 ∷ [])
    ++ words (160 ∷ 9 ∷ 0 ∷ 0 ∷ 296 ∷ 8 ∷ 4 ∷ target ∷ 4 ∷ 8 ∷ []))

abbrev pub O : List ℕ
O = output 0x00000020 16 4 2

-- the dummy left in place
abbrev pub dummied : List ℕ
dummied = output 0xE0123456 16 4 2

-- A's entry with C's addend
abbrev pub readdressed : List ℕ
readdressed = output 0x00000020 8 4 2

-- the late entry where it was in A
abbrev pub unmoved : List ℕ
unmoved = output 0x00000020 16 0 2

-- the new table for .text
abbrev pub retargeted : List ℕ
retargeted = output 0x00000020 16 4 1

-- without the new table: e_shnum one less
abbrev pub tableless : List ℕ
tableless = spliced O 48 (encoded Big 2 6)
