-- The limits in their order: the first that is broken decides. Assumes nothing.
use Rattle.base_lists.proofs.Ranges.{by-lt}
use Rattle.base_scope.proofs.Limits.{over_most, over_least, kept_most, kept_least, over_none}
use Rattle.merge_buffers.specs.Buffers.{INDEX_BUFFER}
use Rattle.merge_verdict.specs.Verdict.{merge_bounds}
use borrow.Author.Tests.{lt-ltb, le-ltb}
use mathlib.Core.Path.{sym, ◌∙◌}
use Rattle.merge_call.proofs.breaks_merge_bounds.Goals as goal

pub returns-then-compiled-gt-FILE_LIMIT : goal.returns-then-compiled-gt-FILE_LIMIT
unfolding merge_bounds
returns-then-compiled-gt-FILE_LIMIT c = sym (over_most _ _ _ c.if-compiled-gt-FILE_LIMIT.true)

pub returns-then-assembled-gt-FILE_LIMIT : goal.returns-then-assembled-gt-FILE_LIMIT
unfolding merge_bounds
returns-then-assembled-gt-FILE_LIMIT c = sym (kept_most _ _ _ c.if-compiled-gt-FILE_LIMIT.false ∙ over_most _ _ _ c.if-assembled-gt-FILE_LIMIT.true)

pub returns-then-blocks-gt-FILE_LIMIT : goal.returns-then-blocks-gt-FILE_LIMIT
unfolding merge_bounds
returns-then-blocks-gt-FILE_LIMIT c = sym (kept_most _ _ _ c.if-compiled-gt-FILE_LIMIT.false ∙ kept_most _ _ _ c.if-assembled-gt-FILE_LIMIT.false ∙ over_most _ _ _ c.if-blocks-gt-FILE_LIMIT.true)

pub returns-then-flag-gt1 : goal.returns-then-flag-gt1
unfolding merge_bounds
returns-then-flag-gt1 c = sym (kept_most _ _ _ c.if-compiled-gt-FILE_LIMIT.false ∙ kept_most _ _ _ c.if-assembled-gt-FILE_LIMIT.false ∙ kept_most _ _ _ c.if-blocks-gt-FILE_LIMIT.false ∙ over_most _ _ _ c.if-flag-gt1.true)

pub returns-then-mode-gt3 : goal.returns-then-mode-gt3
unfolding merge_bounds
returns-then-mode-gt3 c = sym (kept_most _ _ _ c.if-compiled-gt-FILE_LIMIT.false ∙ kept_most _ _ _ c.if-assembled-gt-FILE_LIMIT.false ∙ kept_most _ _ _ c.if-blocks-gt-FILE_LIMIT.false ∙ kept_most _ _ _ c.if-flag-gt1.false ∙ over_most _ _ _ c.if-mode-gt3.true)

pub returns-then-table-lt-BLOCK_BUFFER : goal.returns-then-table-lt-BLOCK_BUFFER
unfolding merge_bounds
returns-then-table-lt-BLOCK_BUFFER c = sym (kept_most _ _ _ c.if-compiled-gt-FILE_LIMIT.false ∙ kept_most _ _ _ c.if-assembled-gt-FILE_LIMIT.false ∙ kept_most _ _ _ c.if-blocks-gt-FILE_LIMIT.false ∙ kept_most _ _ _ c.if-flag-gt1.false ∙ kept_most _ _ _ c.if-mode-gt3.false ∙ over_least _ _ _ c.if-table-lt-BLOCK_BUFFER.true)

pub returns-then-places-lt-PLACE_BUFFER : goal.returns-then-places-lt-PLACE_BUFFER
unfolding merge_bounds
returns-then-places-lt-PLACE_BUFFER c = sym (kept_most _ _ _ c.if-compiled-gt-FILE_LIMIT.false ∙ kept_most _ _ _ c.if-assembled-gt-FILE_LIMIT.false ∙ kept_most _ _ _ c.if-blocks-gt-FILE_LIMIT.false ∙ kept_most _ _ _ c.if-flag-gt1.false ∙ kept_most _ _ _ c.if-mode-gt3.false ∙ kept_least _ _ _ c.if-table-lt-BLOCK_BUFFER.false ∙ over_least _ _ _ c.if-places-lt-PLACE_BUFFER.true)

pub returns-then-steps-lt-STEP_BUFFER : goal.returns-then-steps-lt-STEP_BUFFER
unfolding merge_bounds
returns-then-steps-lt-STEP_BUFFER c = sym (kept_most _ _ _ c.if-compiled-gt-FILE_LIMIT.false ∙ kept_most _ _ _ c.if-assembled-gt-FILE_LIMIT.false ∙ kept_most _ _ _ c.if-blocks-gt-FILE_LIMIT.false ∙ kept_most _ _ _ c.if-flag-gt1.false ∙ kept_most _ _ _ c.if-mode-gt3.false ∙ kept_least _ _ _ c.if-table-lt-BLOCK_BUFFER.false ∙ kept_least _ _ _ c.if-places-lt-PLACE_BUFFER.false ∙ over_least _ _ _ c.if-steps-lt-STEP_BUFFER.true)

pub returns : goal.returns
unfolding merge_bounds
returns c =
    let a = c.args in
    by-lt a.index INDEX_BUFFER
    (λ h. lt-ltb _ _ h ∙ sym (kept_most _ _ _ c.if-compiled-gt-FILE_LIMIT.false ∙ kept_most _ _ _ c.if-assembled-gt-FILE_LIMIT.false ∙ kept_most _ _ _ c.if-blocks-gt-FILE_LIMIT.false ∙ kept_most _ _ _ c.if-flag-gt1.false ∙ kept_most _ _ _ c.if-mode-gt3.false ∙ kept_least _ _ _ c.if-table-lt-BLOCK_BUFFER.false ∙ kept_least _ _ _ c.if-places-lt-PLACE_BUFFER.false ∙ kept_least _ _ _ c.if-steps-lt-STEP_BUFFER.false ∙ over_least _ _ _ h))
    (λ h. le-ltb _ _ h ∙ sym (kept_most _ _ _ c.if-compiled-gt-FILE_LIMIT.false ∙ kept_most _ _ _ c.if-assembled-gt-FILE_LIMIT.false ∙ kept_most _ _ _ c.if-blocks-gt-FILE_LIMIT.false ∙ kept_most _ _ _ c.if-flag-gt1.false ∙ kept_most _ _ _ c.if-mode-gt3.false ∙ kept_least _ _ _ c.if-table-lt-BLOCK_BUFFER.false ∙ kept_least _ _ _ c.if-places-lt-PLACE_BUFFER.false ∙ kept_least _ _ _ c.if-steps-lt-STEP_BUFFER.false ∙ kept_least _ _ _ h ∙ over_none))
