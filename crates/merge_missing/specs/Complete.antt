-- What holds of two objects and a block file that refusal 11 passes: the sections and the bytes that the merge reads and writes. proofs/Complete.antt derives it.
use Rattle.std.specs.Prelude.{ℕ, ◌%◌, ◌≤◌, ◌<◌, ◌≡◌, true, List, length}
use Rattle.base_fields.specs.declared.ByteOrder.{ByteOrder}
use Rattle.base_scope.specs.Codes.{TEXT, LATE_RODATA, REGINFO, holds_bytes, leaves_out, is_late_target, target_code}
use Rattle.elf_readers.specs.Readers.{has_code, coded_contents}
use Rattle.blocks_places.specs.Places.{Place}
use Rattle.blocks_spans.specs.Spans.{spans_of, span_at, EndsBy}
use Rattle.late_length.specs.Late.{has_late_step}

pub record Complete (o : ByteOrder) (C A : List ℕ) (P : List Place) (B : List ℕ) : Type 0 where
  -- blocks outside .bss lie inside C's section and A's
  pub compiled_ends : (c : ℕ) → holds_bytes c ≡ true → EndsBy (spans_of P B c) (length (coded_contents o C c))
  pub assembled_ends : (c : ℕ) → holds_bytes c ≡ true → EndsBy (spans_of P B c) (length (coded_contents o A c))
  -- C has the section of a block outside .bss, A that of every block
  pub compiled_span : (c : ℕ) → holds_bytes c ≡ true → 0 < length (spans_of P B c) → has_code o C c ≡ true
  pub assembled_span : (c : ℕ) → 0 < length (spans_of P B c) → has_code o A c ≡ true
  -- where relocations are left out, spans are whole words at multiples of 4
  pub words : (c r : ℕ) → leaves_out c ≡ true → r < length (spans_of P B c) → ((span_at (spans_of P B c) r).place % 4 ≡ 0) × ((span_at (spans_of P B c) r).size % 4 ≡ 0)
  -- the late step has its two sections
  pub late_target : has_late_step P B ≡ true → (c : ℕ) → is_late_target c ≡ true → has_code o C c ≡ true
  pub late_source : has_late_step P B ≡ true → has_code o A LATE_RODATA ≡ true
  -- A has .reginfo where C has one
  pub reginfo : has_code o C REGINFO ≡ true → has_code o A REGINFO ≡ true
  -- C has the target of each of A's sections of codes 1 to 5 that holds bytes
  pub targets : (a : ℕ) → TEXT ≤ a → a ≤ LATE_RODATA → 0 < length (coded_contents o A a) → has_code o C (target_code a) ≡ true
