-- A static of the compiled object C and its names (document 01, "Statics" and "Symbols"). A static is a record of six words: value, section code, where its
-- stored name starts in C and how long it is, its count (0 where it stands at level 1 or below), and where its written name starts among the
-- written names of all statics.
use Rattle.std.specs.Prelude.{ℕ, ◌+◌, Bool, cond, ◌&&◌, List, [], ◌∷◌, ◌++◌, length, eqb, ltb}
use Rattle.base_lists.specs.Ranges.{count, pick_list}
use Rattle.base_lists.specs.Strings.{same, name_at}
use Rattle.base_scope.specs.Text.{text}
use Rattle.base_scope.specs.Elf.{STT_OBJECT, STT_FUNC, STB_LOCAL, STB_GLOBAL}
use Rattle.base_scope.specs.Codes.{TEXT}
use Rattle.base_text.specs.Decimals.{decimal_text}
use Rattle.statics_table.specs.declared.Static.{Static}

-- document 01's statics modes, those that are told apart: No, Local, GlobalWithFilename
abbrev pub MODE_NO : ℕ
MODE_NO = 0

abbrev pub MODE_LOCAL : ℕ
MODE_LOCAL = 1

abbrev pub MODE_FILENAME : ℕ
MODE_FILENAME = 3

-- the name as the debug section has it
unfoldable pub stored_name : List ℕ → Static → List ℕ
stored_name C s = name_at C s.start

-- above level 1 the name gains `:` and its count
unfoldable pub count_tail : ℕ → List ℕ
count_tail n = pick_list (eqb n 0) [] (text ":" ++ decimal_text n)

unfoldable pub working_name : List ℕ → Static → List ℕ
working_name C s = stored_name C s ++ count_tail s.number

-- what mode 3 puts in front: the path and a colon
unfoldable pub name_head : ℕ → List ℕ → List ℕ
name_head mode path = pick_list (eqb mode MODE_FILENAME) (path ++ text ":") []

unfoldable pub written_name : ℕ → List ℕ → List ℕ → Static → List ℕ
written_name mode path C s = name_head mode path ++ working_name C s

-- the bytes of a written name and its zero byte, behind a head of so many bytes
unfoldable pub written_length : ℕ → Static → ℕ
written_length head s = head + s.length + length (count_tail s.number) + 1

-- the bytes of the written names of all statics in a list
unfoldable pub names_length : ℕ → List Static → ℕ
names_length head [] = 0
names_length head (s ∷ l) = written_length head s + names_length head l

-- a static that is counted under this name
unfoldable pub is_namesake : List ℕ → List ℕ → Static → Bool
is_namesake C name s = ltb 0 s.number && same (stored_name C s) name

-- how many of the first n statics are; f says which static each index is
unfoldable pub namesakes : List ℕ → List ℕ → (ℕ → Static) → ℕ → ℕ
namesakes C name f n = count (λ k. is_namesake C name (f k)) n

-- 000: statics of .text are functions, others objects; they are local in mode 1, global in modes 2 and 3
unfoldable pub static_type : Static → ℕ
static_type s = cond (eqb s.code TEXT) STT_FUNC STT_OBJECT

unfoldable pub static_binding : ℕ → ℕ
static_binding mode = cond (eqb mode MODE_LOCAL) STB_LOCAL STB_GLOBAL
