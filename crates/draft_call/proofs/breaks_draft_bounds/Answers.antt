-- The limits in their order: the first that is broken decides. Assumes nothing.
use Rattle.base_scope.proofs.Limits.{over_most, over_least, kept_most, kept_least, over_none}
use Rattle.draft_call.specs.Verdict.{draft_bounds}
use mathlib.Core.Path.{sym, ◌∙◌}
use Rattle.draft_call.proofs.breaks_draft_bounds.Goals as goal

pub returns-then-compiled-gt-FILE_LIMIT : goal.returns-then-compiled-gt-FILE_LIMIT
unfolding draft_bounds
returns-then-compiled-gt-FILE_LIMIT c = sym (over_most _ _ _ c.if-compiled-gt-FILE_LIMIT.true)

pub returns-then-prelude-gt-FILE_LIMIT : goal.returns-then-prelude-gt-FILE_LIMIT
unfolding draft_bounds
returns-then-prelude-gt-FILE_LIMIT c = sym (kept_most _ _ _ c.if-compiled-gt-FILE_LIMIT.false ∙ over_most _ _ _ c.if-prelude-gt-FILE_LIMIT.true)

pub returns-then-blocks-gt-FILE_LIMIT : goal.returns-then-blocks-gt-FILE_LIMIT
unfolding draft_bounds
returns-then-blocks-gt-FILE_LIMIT c = sym (kept_most _ _ _ c.if-compiled-gt-FILE_LIMIT.false ∙ kept_most _ _ _ c.if-prelude-gt-FILE_LIMIT.false ∙ over_most _ _ _ c.if-blocks-gt-FILE_LIMIT.true)

pub returns-then-table-lt-OPEN_TABLE : goal.returns-then-table-lt-OPEN_TABLE
unfolding draft_bounds
returns-then-table-lt-OPEN_TABLE c = sym (kept_most _ _ _ c.if-compiled-gt-FILE_LIMIT.false ∙ kept_most _ _ _ c.if-prelude-gt-FILE_LIMIT.false ∙ kept_most _ _ _ c.if-blocks-gt-FILE_LIMIT.false ∙ over_least _ _ _ c.if-table-lt-OPEN_TABLE.true)

pub returns-then-places-lt-PLACE_TABLE : goal.returns-then-places-lt-PLACE_TABLE
unfolding draft_bounds
returns-then-places-lt-PLACE_TABLE c = sym (kept_most _ _ _ c.if-compiled-gt-FILE_LIMIT.false ∙ kept_most _ _ _ c.if-prelude-gt-FILE_LIMIT.false ∙ kept_most _ _ _ c.if-blocks-gt-FILE_LIMIT.false ∙ kept_least _ _ _ c.if-table-lt-OPEN_TABLE.false ∙ over_least _ _ _ c.if-places-lt-PLACE_TABLE.true)

pub returns : goal.returns
unfolding draft_bounds
returns c = sym (kept_most _ _ _ c.if-compiled-gt-FILE_LIMIT.false ∙ kept_most _ _ _ c.if-prelude-gt-FILE_LIMIT.false ∙ kept_most _ _ _ c.if-blocks-gt-FILE_LIMIT.false ∙ kept_least _ _ _ c.if-table-lt-OPEN_TABLE.false ∙ kept_least _ _ _ c.if-places-lt-PLACE_TABLE.false ∙ over_none)
