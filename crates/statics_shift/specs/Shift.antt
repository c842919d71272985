-- The shift of a debug section that moves (document 01, "Statics"): if its offset changes, each offset word of its symbolic header whose count is not zero moves
-- by the difference, modulo 2 ^ 32; it then needs 96 bytes and magic 7009 hex. D is the section's bytes. The header is the crate elf_records' (specs/Debug.antt).
use Rattle.std.specs.Prelude.{ℕ, ◌-◌, ◌%◌, Bool, true, cond, not, ◌&&◌, List, length, get_or, eqb, leb}
use Rattle.base_lists.specs.Ranges.{select}
use Rattle.base_lists.specs.Windows.{spliced}
use Rattle.base_fields.specs.declared.ByteOrder.{ByteOrder}
use Rattle.base_fields.specs.Numbers.{encoded}
use Rattle.base_lists.specs.Records.{flat}
use Rattle.elf_records.specs.Debug.{debug_at}
use Rattle.base_scope.specs.Elf.{SHT_MIPS_DEBUG}
use Rattle.base_packed.specs.Packed.{shifted}

-- MIPS debug documentation, magicSym
abbrev pub MAGIC : ℕ
MAGIC = 0x7009

-- the bytes of the symbolic header, and its words, which stand behind magic and vstamp
abbrev pub HEADER_SIZE : ℕ
HEADER_SIZE = 96

abbrev pub HEADER_WORDS : ℕ
HEADER_WORDS = 23

-- the words of the header are ilineMax and eleven pairs: a count, and the offset behind it. Word i is the offset of a pair.
unfoldable pub is_offset : ℕ → Bool
is_offset i = leb 2 i && eqb (i % 2) 0

-- it moves where its count is not zero
unfoldable pub moves : List ℕ → ℕ → Bool
moves words i = is_offset i && not (eqb (get_or words (i - 1) 0) 0)

-- word i after a move from old to new
unfoldable pub moved_word : List ℕ → ℕ → ℕ → ℕ → ℕ
moved_word words old new i = cond (moves words i) (shifted (get_or words i 0) old new) (get_or words i 0)

unfoldable pub moved_words : List ℕ → ℕ → ℕ → List ℕ
moved_words words old new = select (λ i. true) (moved_word words old new) HEADER_WORDS

-- the section's bytes after the move: the words of its header, behind magic and vstamp, are written anew
unfoldable pub moved_debug : ByteOrder → List ℕ → ℕ → ℕ → List ℕ
moved_debug o D old new = spliced D 4 (flat (encoded o 4) (moved_words (debug_at o D 0).words old new))

-- 17 at 0, tested after 20: the section moves, and has no header
unfoldable pub has_header : ByteOrder → List ℕ → Bool
has_header o D = leb HEADER_SIZE (length D) && eqb (debug_at o D 0).magic MAGIC

unfoldable pub shift_fails : ByteOrder → List ℕ → ℕ → ℕ → ℕ → Bool
shift_fails o D type old new = eqb type SHT_MIPS_DEBUG && (not (eqb old new) && not (has_header o D))
