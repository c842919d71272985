-- Of the code, not of document 01: where the tables of carrying stand in the working buffers (`merge_buffers`, specs/Buffers.antt). The rows of .text's spans stand behind the
-- numbers, up to the end of the index; the homes stand over the holders, which nothing reads any more.
use Rattle.std.specs.Prelude.{ℕ, ◌+◌, List}
use Rattle.base_scope.specs.Limits.{SPAN_TABLE}
use Rattle.base_buffers.specs.Parts.{part_at}
use Rattle.merge_buffers.specs.Buffers.{HOLDERS_AT, SPANS_AT}
use Rattle.carry_homes.specs.Code.{HOME_TABLE}

-- in the index: the rows of .text's spans
abbrev pub CARRY_SPANS_AT : ℕ
CARRY_SPANS_AT = SPANS_AT

abbrev pub text_spans_part : List ℕ → List ℕ
text_spans_part l = part_at CARRY_SPANS_AT SPAN_TABLE l

-- in the buffer of places: the homes
abbrev pub HOMES_AT : ℕ
HOMES_AT = HOLDERS_AT

abbrev pub HOMES_END : ℕ
HOMES_END = HOMES_AT + HOME_TABLE

abbrev pub homes_part : List ℕ → List ℕ
homes_part l = part_at HOMES_AT HOME_TABLE l
