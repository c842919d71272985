-- The keys of a block, in order; which of them may stand any number of times; and what may stand behind each (document 01, "The block file").
use Rattle.std.specs.Prelude.{ℕ, Bool, true, false, ◌&&◌, List, [], ◌∷◌, length, drop, get_or}
use Rattle.base_lists.specs.Strings.{prefixed}
use Rattle.base_scope.specs.Text.{text}
use Rattle.blocks_lines.specs.Lines.{is_whole, line}
use Rattle.blocks_values.specs.Values.{any_sound, line_sound, label_sound, dummy_sound, jump_table_sound, empty_sound}

pub record Key : Type 0 where
  pub name : List ℕ
  pub repeats : Bool
  pub sound : List ℕ → Bool

abbrev one : List ℕ → (List ℕ → Bool) → Key
one n s = record { name = n; repeats = false; sound = s }

abbrev many : List ℕ → (List ℕ → Bool) → Key
many n s = record { name = n; repeats = true; sound = s }

unfoldable pub keys : List Key
keys =
    one (text "desc=") any_sound
    ∷ one (text "text=") line_sound
    ∷ one (text "data=") line_sound
    ∷ one (text "rodata=") line_sound
    ∷ one (text "bss=") line_sound
    ∷ many (text "glabel=") label_sound
    ∷ many (text "dummy=") dummy_sound
    ∷ one (text "jtbl=") jump_table_sound
    ∷ many (text "asm=") any_sound
    ∷ many (text "late=") any_sound
    ∷ one (text "end=") empty_sound
    ∷ []

-- how many keys there are, and which are those behind the sections' (whose indices are the section codes)
abbrev pub KEYS : ℕ
KEYS = 11

abbrev pub KEY_GLABEL : ℕ
KEY_GLABEL = 5

abbrev pub KEY_DUMMY : ℕ
KEY_DUMMY = 6

abbrev pub KEY_JTBL : ℕ
KEY_JTBL = 7

abbrev pub KEY_ASM : ℕ
KEY_ASM = 8

abbrev pub KEY_LATE : ℕ
KEY_LATE = 9

abbrev none : Key
none = one [] any_sound

unfoldable pub key_name : ℕ → List ℕ
key_name k = (get_or keys k none).name

unfoldable pub repeats : ℕ → Bool
repeats k = (get_or keys k none).repeats

unfoldable pub value_sound : ℕ → List ℕ → Bool
value_sound k v = (get_or keys k none).sound v

-- what stands behind key k in the line at a
unfoldable pub value_at : List ℕ → ℕ → ℕ → List ℕ
value_at B k a = drop (length (key_name k)) (line B a)

-- a whole line stands at a, it begins with key k, and its value is sound
unfoldable pub is_key_line : List ℕ → ℕ → ℕ → Bool
is_key_line B k a = is_whole B a && (prefixed (key_name k) (line B a) && value_sound k (value_at B k a))
