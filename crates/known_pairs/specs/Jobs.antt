-- The inputs of document 01's known pairs ("Known pairs"), as bytes.
use Rattle.std.specs.Prelude.{ℕ, List, [], ◌∷◌}
use Rattle.base_scope.specs.Text.{text}
use Rattle.elf_samples.specs.Samples.{words, symbol_object, debug_object}
use Rattle.blocks_places.specs.Places.{Place, nowhere}

-- a block of four bytes at t, with align8 4 or 8
abbrev pub align_four : List ℕ
align_four = text "desc=\ntext=t 4 4\ndata=\nrodata=\nbss=\njtbl=0\nend=\n"

abbrev pub align_eight : List ℕ
align_eight = text "desc=\ntext=t 4 8\ndata=\nrodata=\nbss=\njtbl=0\nend=\n"

-- .rodata in which a dummy stands twice, on no multiple of 4 but once
abbrev pub searched : List ℕ
searched = 0x00 ∷ 0xE0 ∷ 0x12 ∷ 0x34 ∷ 0x56 ∷ 0xE0 ∷ 0x12 ∷ 0x34 ∷ 0x56 ∷ []

-- .rodata with room for the first of two dummies to move on; blocks with two dummies and with one, none of their lines with a label; and A's late words
abbrev pub padded : List ℕ
padded = words (0xE0123456 ∷ 0 ∷ 0xE0123457 ∷ [])

abbrev pub two_dummies : List ℕ
two_dummies = text "desc=\ntext=\ndata=\nrodata=\nbss=\ndummy=e0123456\ndummy=e0123457\njtbl=0\nend=\n"

abbrev pub one_dummy : List ℕ
one_dummy = text "desc=\ntext=\ndata=\nrodata=\nbss=\ndummy=e0123456\njtbl=0\nend=\n"

abbrev pub unplaced : List Place
unplaced = nowhere ∷ nowhere ∷ nowhere ∷ nowhere ∷ []

abbrev pub late_words : List ℕ
late_words = words (0x01020304 ∷ 0x05060708 ∷ [])

-- a symbolic header (magic, vstamp and 23 words) in which cbLine and cbLineOffset are these, and all other pairs 0
abbrev pub symbolic_header : ℕ → ℕ → List ℕ
symbolic_header count offset = words (0x70090000 ∷ 0 ∷ count ∷ offset ∷ 0 ∷ 0 ∷ 0 ∷ 0 ∷ 0 ∷ 0 ∷ 0 ∷ 0 ∷ 0 ∷ 0 ∷ 0 ∷ 0 ∷ 0 ∷ 0 ∷ 0 ∷ 0 ∷ 0 ∷ 0 ∷ 0 ∷ 0 ∷ [])

-- entries: name, value, and a word with the type above bit 26 and the storage class, .text, above bit 21. Types: 11 a file, 6 a procedure, 2 a static, 8 an end
abbrev pub twice_in_proc : List ℕ
twice_in_proc =
    debug_object 6 (0 ∷ 0 ∷ 0x2C200000 ∷ 0 ∷ 0 ∷ 0x18200000 ∷ 0 ∷ 4 ∷ 0x08200000 ∷ 0 ∷ 8 ∷ 0x08200000 ∷ 0 ∷ 0 ∷ 0x20200000 ∷ 0 ∷ 0 ∷ 0x20200000 ∷ [])

abbrev pub once_in_file : List ℕ
once_in_file = debug_object 3 (0 ∷ 0 ∷ 0x2C200000 ∷ 0 ∷ 4 ∷ 0x08200000 ∷ 0 ∷ 0 ∷ 0x20200000 ∷ 0 ∷ 0 ∷ 0 ∷ 0 ∷ 0 ∷ 0 ∷ 0 ∷ 0 ∷ 0 ∷ [])

-- symbols: name, value, size, and a word with st_info (binding above bit 28, 1 is global), st_other and the section, of which 1 is .text
abbrev pub one_symbol : List ℕ
one_symbol = symbol_object 1 (0 ∷ 0 ∷ 0 ∷ 0 ∷ [])

abbrev pub four_symbols : List ℕ
four_symbols = symbol_object 4 (0 ∷ 0 ∷ 0 ∷ 0 ∷ 9 ∷ 4 ∷ 0 ∷ 0x10000001 ∷ 11 ∷ 0 ∷ 0 ∷ 0x10000000 ∷ 7 ∷ 8 ∷ 0 ∷ 0x00000001 ∷ [])

abbrev pub foo_at : ℕ → List ℕ
foo_at value = symbol_object 2 (0 ∷ 0 ∷ 0 ∷ 0 ∷ 13 ∷ value ∷ 0 ∷ 0x10000001 ∷ [])
