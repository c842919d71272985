-- Of the code, not of document 01: refusal 11 by the end of the last span of a code, which is 0 where there is none. Spans are not empty and ascend, so it tells both whether
-- there is a span and whether one passes an offset (proofs/Ends.antt).
use Rattle.std.specs.Prelude.{ℕ, ◌≤◌, ◌≡◌, Bool, not, ◌&&◌, ◌||◌, List, length, get_or, eqb, ltb}
use Rattle.base_fields.specs.declared.ByteOrder.{ByteOrder}
use Rattle.base_scope.specs.Codes.{LATE_RODATA, REGINFO, CODES, holds_bytes, is_late_target}
use Rattle.elf_readers.specs.Readers.{has_code, coded_contents}
use Rattle.elf_check.specs.declared.View.{View}
use Rattle.elf_check.specs.View.{has_in}
use Rattle.blocks_places.specs.Places.{Place}
use Rattle.blocks_spans.specs.Spans.{spans_of, last_end}
use Rattle.late_length.specs.Late.{has_late_step}
use Rattle.merge_missing.specs.Missing.{is_target}

unfoldable pub lacking_by : ByteOrder → List ℕ → ℕ → Bool → ℕ → Bool
lacking_by o F end asked c = (holds_bytes c && ltb (length (coded_contents o F c)) end) || (not (has_code o F c) && asked)

unfoldable pub asked_c : ByteOrder → List ℕ → ℕ → Bool → ℕ → Bool
asked_c o A end late c = (holds_bytes c && ltb 0 end) || ((is_late_target c && late) || is_target o A c)

-- v is C's view
unfoldable pub asked_a : View → ℕ → Bool → ℕ → Bool
asked_a v end late c = ltb 0 end || ((eqb c LATE_RODATA && late) || (eqb c REGINFO && has_in v c))

unfoldable pub missing_by : ByteOrder → List ℕ → View → List ℕ → Bool → ℕ → Bool
missing_by o A v ends late c = lacking_by o A (get_or ends c 0) (asked_a v (get_or ends c 0) late c) c

-- a code in hand, the end of its last span, and whether there is a late step
pub record AtCode (P : List Place) (B : List ℕ) (end : ℕ) (late : Bool) (c : ℕ) : Type 0 where
  pub low : 1 ≤ c
  pub high : c ≤ CODES
  pub ends : end ≡ last_end (spans_of P B c)
  pub runs : late ≡ has_late_step P B
