-- Refusal 11 (document 01's table): what C or A lacks for the blocks, for the late step, for .reginfo and for A's sections that hold bytes; a span that passes C's or A's
-- end; a place or a size that is no multiple of 4. The place is the section code (the crate base_scope, specs/Codes.antt). C comes before A, then the lowest code. P are
-- the places of the lines of the block file B.
use Rattle.std.specs.Prelude.{ℕ, ◌+◌, ◌%◌, Bool, not, ◌&&◌, ◌||◌, List, length, eqb, ltb, Option}
use Rattle.base_lists.specs.Ranges.{first}
use Rattle.base_fields.specs.declared.ByteOrder.{ByteOrder}
use Rattle.base_scope.specs.Codes.{TEXT, LATE_RODATA, REGINFO, CODES, holds_bytes, leaves_out, is_late_target, target_code}
use Rattle.base_scope.specs.Refusals.{MISSING_SECTION, found_below}
use Rattle.base_answers.specs.Answers.{COMPILED, ASSEMBLED}
use Rattle.base_answers.specs.Verdicts.{Verdict, also, finding_verdict}
use Rattle.elf_readers.specs.Readers.{has_code, coded_contents}
use Rattle.blocks_places.specs.Lines.{line_count, span_size}
use Rattle.blocks_places.specs.Places.{Place, place}
use Rattle.blocks_spans.specs.declared.Span.{Span}
use Rattle.blocks_spans.specs.Spans.{is_span, spans_of, span_at, span_end}
use Rattle.late_length.specs.Late.{has_late_step}

-- A's section of code a holds bytes, and they go to C's of code c
unfoldable pub goes_to : ByteOrder → List ℕ → ℕ → ℕ → Bool
goes_to o A c a = ltb 0 (length (coded_contents o A a)) && eqb (target_code a) c

-- one of A's sections of codes 1 to 5 does
unfoldable pub is_target : ByteOrder → List ℕ → ℕ → Bool
is_target o A c = ltb (first (goes_to o A c) TEXT (LATE_RODATA + 1)) (LATE_RODATA + 1)

-- some span ends behind offset n
unfoldable pub passes : List Span → ℕ → Bool
passes L n = ltb (first (λ r. ltb n (span_end (span_at L r))) 0 (length L)) (length L)

module _ (P : List Place) (B : List ℕ) where
  -- a block has a span of code c
  unfoldable pub has_span : ℕ → Bool
  has_span c = ltb 0 (length (spans_of P B c))

  -- line j has a span of code c whose place or size is no multiple of 4
  unfoldable pub is_uneven : ℕ → ℕ → Bool
  is_uneven c j = is_span P B c j && not (eqb (place P j % 4) 0 && eqb (span_size B j % 4) 0)

  -- relocations at words that a copy of code c replaces are left out, and some line has such a span
  unfoldable pub has_uneven : ℕ → Bool
  has_uneven c = leaves_out c && ltb (first (is_uneven c) 0 (line_count B)) (line_count B)

  -- a block outside .bss passes the end of an object's section of code c, which is 0 where there is none; or the section is asked for and not there
  unfoldable pub is_lacking : ByteOrder → List ℕ → Bool → ℕ → Bool
  is_lacking o F asked c = (holds_bytes c && passes (spans_of P B c) (length (coded_contents o F c))) || (not (has_code o F c) && asked)

module _ (o : ByteOrder) (C A : List ℕ) (P : List Place) (B : List ℕ) where
  -- C must have the section of a block outside .bss, the late target for the late step, and the target of each of A's sections that holds bytes
  unfoldable pub wanted_c : ℕ → Bool
  wanted_c c = (holds_bytes c && has_span P B c) || ((is_late_target c && has_late_step P B) || is_target o A c)

  unfoldable pub missing_c : ℕ → Bool
  missing_c c = is_lacking P B o C (wanted_c c) c || has_uneven P B c

  -- A must have the section of a block, .late_rodata for the late step, and .reginfo where C has one
  unfoldable pub wanted_a : ℕ → Bool
  wanted_a c = has_span P B c || ((eqb c LATE_RODATA && has_late_step P B) || (eqb c REGINFO && has_code o C REGINFO))

  unfoldable pub missing_a : ℕ → Bool
  missing_a c = is_lacking P B o A (wanted_a c) c

-- the lowest code at fault
unfoldable pub lowest_code : (ℕ → Bool) → Option ℕ
lowest_code p = found_below (CODES + 1) (first p TEXT (CODES + 1))

unfoldable pub missing_verdict : ByteOrder → List ℕ → List ℕ → List Place → List ℕ → Verdict
missing_verdict o C A P B =
    also (finding_verdict MISSING_SECTION COMPILED (lowest_code (missing_c o C A P B)))
    (finding_verdict MISSING_SECTION ASSEMBLED (lowest_code (missing_a o C A P B)))
