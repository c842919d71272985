-- Laws of the shift: which words move, the words so far in a row of zeros, and the test of the header. Assumes nothing.
use mathlib.Core.Path.{◌≡◌, sym, ◌∙◌}
use mathlib.Core.Bool.{Bool, true, false, not}
use mathlib.Core.List.{List, ◌++◌, append-nil}
use Prim.Native.Nat.{ℕ, ◌+◌, ◌-◌, ◌≤◌, ◌<◌}
use lib.ListN.{length, get_or, drop, set, replicate}
use lib.Dec.{eqb, leb}
use borrow.Author.Tests.{le-leb, lt-leb, leb-true, eq-eqb, ne_eqb}
use Rattle.base_lists.specs.Ranges.{select}
use Rattle.base_lists.specs.Records.{flat}
use Rattle.base_lists.specs.Windows.{spliced}
use Rattle.base_lists.proofs.Ranges.{and_parts, select_zero, select_all_length, select_all_put}
use Rattle.base_fields.specs.declared.ByteOrder.{ByteOrder}
use Rattle.base_fields.specs.Numbers.{number, encoded}
use Rattle.elf_records.specs.declared.debug.Hdrr.{Hdrr}
use Rattle.elf_records.specs.Debug.{debug_at}
use Rattle.elf_records.proofs.Offsets.{debug_magic}
use Rattle.base_scope.specs.Elf.{SHT_MIPS_DEBUG}
use Rattle.base_packed.specs.Packed.{shifted}
use Rattle.statics_shift.specs.Shift.{MAGIC, HEADER_SIZE, HEADER_WORDS, is_offset, moves, moved_word, moved_words, moved_debug, has_header, shift_fails}

-- ---- words

-- an offset has a word in front of it
pub offset_low : (i : ℕ) (b : Bool) → b ≡ is_offset i → b ≡ true → 2 ≤ i
unfolding is_offset
offset_low i b e t = leb-true 2 i (and_parts (leb 2 i) _ (sym e ∙ t)).0

module _ (words : List ℕ) (i : ℕ) (b : Bool) (is : b ≡ is_offset i) where
  pub moves_offset : b ≡ true → not (eqb (get_or words (i - 1) 0) 0) ≡ moves words i
  unfolding moves
  moves_offset t = rw (← is, t)

  pub moves_other : b ≡ false → false ≡ moves words i
  unfolding moves
  moves_other f = rw (← is, f)

module _ (words : List ℕ) (old new i : ℕ) (b : Bool) (is : b ≡ moves words i) where
  pub word_moved : b ≡ true → shifted (get_or words i 0) old new ≡ moved_word words old new i
  unfolding moved_word
  word_moved t = rw (← is, t)

  pub word_stays : b ≡ false → get_or words i 0 ≡ moved_word words old new i
  unfolding moved_word
  word_stays f = rw (← is, f)

-- the first i words, in a row of zeros
unfoldable pub moved_some : List ℕ → ℕ → ℕ → ℕ → List ℕ
moved_some words old new i = select (λ j. true) (moved_word words old new) i ++ drop i (replicate HEADER_WORDS 0)

module _ (words : List ℕ) (old new : ℕ) where
  pub some_none : replicate HEADER_WORDS 0 ≡ moved_some words old new 0
  unfolding moved_some
  some_none = rw (select_zero (λ j. true) (moved_word words old new))

  pub some_put : (i : ℕ) (row : List ℕ) (x : ℕ) → row ≡ moved_some words old new i → x ≡ moved_word words old new i → i < HEADER_WORDS → set row i x ≡ moved_some words old new (i + 1)
  unfolding moved_some
  some_put i row x e q h = rw q (select_all_put (moved_word words old new) (replicate HEADER_WORDS 0) row i e h)

  pub some_all : (i : ℕ) → i ≡ HEADER_WORDS → moved_some words old new i ≡ moved_words words old new
  unfolding moved_some moved_words
  some_all i e = rw e (append-nil (select (λ j. true) (moved_word words old new) HEADER_WORDS))

  pub length_moved : length (moved_words words old new) ≡ HEADER_WORDS
  unfolding moved_words
  length_moved = select_all_length (moved_word words old new) HEADER_WORDS

-- the words written behind magic and vstamp
pub debug_moved : (o : ByteOrder) (D : List ℕ) (old new : ℕ) (h : Hdrr) (w T : List ℕ) → h ≡ debug_at o D 0 → w ≡ moved_words h.words old new
    → T ≡ spliced D 4 (flat (encoded o 4) w) → T ≡ moved_debug o D old new
unfolding moved_debug
debug_moved o D old new h w T e f g = rw (g, f, e)

-- ---- the test

module _ (o : ByteOrder) (D : List ℕ) where
  pub header_short : length D < HEADER_SIZE → false ≡ has_header o D
  unfolding has_header
  header_short h = rw (lt-leb HEADER_SIZE (length D) h)

  pub header_read : (m : ℕ) → HEADER_SIZE ≤ length D → m ≡ number o 2 D 0 → eqb m MAGIC ≡ has_header o D
  unfolding has_header
  header_read m h e = rw (le-leb HEADER_SIZE (length D) h, debug_magic o D 0, e)

  module _ (type old new : ℕ) where
    pub fails_other : (type ≡ SHT_MIPS_DEBUG → ⊥) → false ≡ shift_fails o D type old new
    unfolding shift_fails
    fails_other d = rw (ne_eqb type SHT_MIPS_DEBUG d)

    pub fails_still : type ≡ SHT_MIPS_DEBUG → old ≡ new → false ≡ shift_fails o D type old new
    unfolding shift_fails
    fails_still e f = rw (eq-eqb type SHT_MIPS_DEBUG e, eq-eqb old new f)

    pub fails_moved : (b : Bool) → type ≡ SHT_MIPS_DEBUG → (old ≡ new → ⊥) → b ≡ has_header o D → not b ≡ shift_fails o D type old new
    unfolding shift_fails
    fails_moved b e d is = rw (eq-eqb type SHT_MIPS_DEBUG e, ne_eqb old new d, is)
