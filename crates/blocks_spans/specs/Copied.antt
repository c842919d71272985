-- What block copying makes of a section (document 01, "Merge: ... Blocks are copied at their own offsets, .bss not"). L are the spans of the section, S are C's bytes
-- of it and T are A's. (.bss holds no bytes, so none is copied there.)
use Rattle.std.specs.Prelude.{ℕ, true, cond, List, length, get_or}
use Rattle.base_lists.specs.Ranges.{select}
use Rattle.blocks_spans.specs.declared.Span.{Span}
use Rattle.blocks_spans.specs.Spans.{is_covered}

module _ (L : List Span) (S T : List ℕ) where
  -- byte k: A's inside a span, else C's
  unfoldable pub copied_byte : ℕ → ℕ
  copied_byte k = cond (is_covered L k) (get_or T k 0) (get_or S k 0)

  -- the section: as long as C's
  unfoldable pub copied : List ℕ
  copied = select (λ k. true) copied_byte (length S)
