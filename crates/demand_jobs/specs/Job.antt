-- A small merge, as bytes. C's .text is four words, and its table has three entries: at 0 for g, at 4 and at 8 for f, where it defines f and not g. The block takes the word at 4,
-- of A, which defines g there and calls f. So the entry at 4 is left out and A's comes behind the others. The result and each wrong output are one object but for .text, table and sh_info.
use Rattle.std.specs.Prelude.{ℕ, ◌+◌, ◌*◌, List, [], ◌∷◌, ◌++◌, length}
use Rattle.base_scope.specs.Text.{text}
use Rattle.elf_samples.specs.Samples.{words}

-- an object of five sections: none, .text, .rel.text, symbols, of which so many are local, and strings; the first two strings are the names of .text and of its table
abbrev object : List ℕ → List ℕ → List ℕ → ℕ → List ℕ → List ℕ
object code entries symbols locals strings =
    words (0x7F454C46 ∷ 0x01020100 ∷ 0 ∷ 0 ∷ 0x00010008 ∷ 1 ∷ 0 ∷ 0 ∷ [])
    ++ words ((52 + 4 * (length code + length entries + length symbols) + length strings) ∷ 0 ∷ 0x00340000 ∷ 0x00000028 ∷ 0x00050004 ∷ [])
    ++ words code
    ++ words entries
    ++ words symbols
    ++ strings
    ++ words (0 ∷ 0 ∷ 0 ∷ 0 ∷ 0 ∷ 0 ∷ 0 ∷ 0 ∷ 0 ∷ 0 ∷ [])
    ++ words (1 ∷ 1 ∷ 6 ∷ 0 ∷ 52 ∷ (4 * length code) ∷ 0 ∷ 0 ∷ 4 ∷ 0 ∷ [])
    ++ words (7 ∷ 9 ∷ 0 ∷ 0 ∷ (52 + 4 * length code) ∷ (4 * length entries) ∷ 3 ∷ 1 ∷ 4 ∷ 8 ∷ [])
    ++ words (0 ∷ 2 ∷ 0 ∷ 0 ∷ (52 + 4 * (length code + length entries)) ∷ (4 * length symbols) ∷ 4 ∷ locals ∷ 4 ∷ 16 ∷ [])
    ++ words (0 ∷ 3 ∷ 0 ∷ 0 ∷ (52 + 4 * (length code + length entries + length symbols)) ∷ length strings ∷ 0 ∷ 0 ∷ 1 ∷ 0 ∷ [])

-- ---- the inputs

-- strings of C: .text 1, .rel.text 7, f 17, g 19, the block's label 21
abbrev strings_c : List ℕ
strings_c = 0 ∷ text ".text" ++ 0 ∷ text ".rel.text" ++ 0 ∷ text "f" ++ 0 ∷ text "g" ++ 0 ∷ text "_asmpp_t" ++ 0 ∷ 0 ∷ 0 ∷ []

-- of A: the same, and the block's end label 40
abbrev strings_a : List ℕ
strings_a = 0 ∷ text ".text" ++ 0 ∷ text ".rel.text" ++ 0 ∷ text "f" ++ 0 ∷ text "g" ++ 0 ∷ text "_asmpp_t_asm_start" ++ 0 ∷ text "_asmpp_t_asm_end" ++ 0 ∷ 0 ∷ 0 ∷ 0 ∷ []

-- entries are offset and r_info (symbol above bit 8, kind 4 below); symbols are name, value, size, and a word with st_info (1 above bit 28 is global) and section index
abbrev pub C : List ℕ
C =
    object (0x0C000002 ∷ 0x0C000001 ∷ 0x08000003 ∷ 0 ∷ []) (0 ∷ 0x0204 ∷ 4 ∷ 0x0104 ∷ 8 ∷ 0x0104 ∷ [])
    (0 ∷ 0 ∷ 0 ∷ 0 ∷ 17 ∷ 0 ∷ 0 ∷ 0x10000001 ∷ 19 ∷ 0 ∷ 0 ∷ 0x10000000 ∷ 21 ∷ 4 ∷ 0 ∷ 0x10000001 ∷ []) 1 strings_c

abbrev pub A : List ℕ
A =
    object (0 ∷ 0x0C000004 ∷ []) (4 ∷ 0x0204 ∷ [])
    (0 ∷ 0 ∷ 0 ∷ 0 ∷ 19 ∷ 4 ∷ 0 ∷ 0x10000001 ∷ 17 ∷ 0 ∷ 0 ∷ 0x10000000 ∷ 21 ∷ 4 ∷ 0 ∷ 0x10000001 ∷ 40 ∷ 8 ∷ 0 ∷ 0x10000001 ∷ []) 1 strings_a

abbrev pub B : List ℕ
B = text "desc=\ntext=_asmpp_t 4 0\ndata=\nrodata=\nbss=\njtbl=0\nend=\n"

abbrev pub path : List ℕ
path = text "c"

-- ---- the result, and others like it

-- with these words of .text, these entries and so many local symbols; f is symbol 1 and g symbol 2
abbrev output : List ℕ → List ℕ → ℕ → List ℕ
output code entries locals =
    object code entries (0 ∷ 0 ∷ 0 ∷ 0 ∷ 17 ∷ 0 ∷ 0 ∷ 0x10000001 ∷ 51 ∷ 4 ∷ 0 ∷ 0x10000001 ∷ []) locals (strings_c ++ strings_a)

abbrev code : List ℕ
code = 0x0C000002 ∷ 0x0C000004 ∷ 0x08000003 ∷ 0 ∷ []

abbrev pub O : List ℕ
O = output code (0 ∷ 0x0204 ∷ 8 ∷ 0x0104 ∷ 4 ∷ 0x0104 ∷ []) 1

-- an entry lost: that of A
abbrev pub lost : List ℕ
lost = output code (0 ∷ 0x0204 ∷ 8 ∷ 0x0104 ∷ []) 1

-- doubled: that of A
abbrev pub doubled : List ℕ
doubled = output code (0 ∷ 0x0204 ∷ 8 ∷ 0x0104 ∷ 4 ∷ 0x0104 ∷ 4 ∷ 0x0104 ∷ []) 1

-- C's second swapped with A's
abbrev pub swapped : List ℕ
swapped = output code (0 ∷ 0x0204 ∷ 4 ∷ 0x0104 ∷ 8 ∷ 0x0104 ∷ []) 1

-- C's first numbered by A's symbols, where symbol 2 is f
abbrev pub renumbered : List ℕ
renumbered = output code (0 ∷ 0x0104 ∷ 8 ∷ 0x0104 ∷ 4 ∷ 0x0104 ∷ []) 1

-- A's entry over C's word
abbrev pub reworded : List ℕ
reworded = output (0x0C000002 ∷ 0x0C000001 ∷ 0x08000003 ∷ 0 ∷ []) (0 ∷ 0x0204 ∷ 8 ∷ 0x0104 ∷ 4 ∷ 0x0104 ∷ []) 1

-- the symbol table's sh_info one more
abbrev pub raised : List ℕ
raised = output code (0 ∷ 0x0204 ∷ 8 ∷ 0x0104 ∷ 4 ∷ 0x0104 ∷ []) 2

-- a word of C that no block takes, changed
abbrev pub altered : List ℕ
altered = output (0x0C000002 ∷ 0x0C000004 ∷ 0x08000003 ∷ 1 ∷ []) (0 ∷ 0x0204 ∷ 8 ∷ 0x0104 ∷ 4 ∷ 0x0104 ∷ []) 1
