-- The verdict of the draft in each way through it: a broken limit, a refusal of the inputs, and the text where both pass; and the limits that are kept behind refusal
-- 1. Assumes nothing.
use Prim.Native.Nat.{ℕ, ◌≤◌}
use mathlib.Core.Path.{◌≡◌, refl, sym, ap, ◌∙◌}
use mathlib.Core.Bool.{true, false}
use mathlib.Core.List.{List}
use lib.ListN.{length}
use Rattle.base_scope.specs.Refusals.{LIMITS}
use Rattle.base_scope.specs.Limits.{FILE_LIMIT, OPEN_TABLE, PLACE_TABLE, over_limits, Kept}
use Rattle.base_scope.proofs.Limits.{in_limits}
use Rattle.base_answers.specs.Verdicts.{Passed, Refused}
use Rattle.base_answers.specs.Answers.{refused, NONE, room_for}
use Rattle.base_answers.proofs.Verdicts.{also_passed, also_refused, if_passed_lem, if_refused, limit_kept, limit_broken}
use Rattle.elf_readers.specs.Readers.{order_of}
use Rattle.blocks_places.specs.Lines.{line_count}
use Rattle.blocks_places.specs.Places.{Place, places_of}
use Rattle.blocks_places.specs.Table.{places_in, Laid}
use Rattle.draft_text.specs.Draft.{draft_text}
use Rattle.open_inputs.specs.Open.{open_verdict}
use Rattle.open_inputs.specs.Opened.{Blocks, Opened, opened_verdict}
use Rattle.draft_call.specs.Verdict.{draft_bounds, draft_verdict}

-- ---- limits

pub record DraftLimits (compiled prelude blocks table places : ℕ) : Type 0 where
  pub compiled_limit_lem : compiled ≤ FILE_LIMIT
  pub prelude_limit : prelude ≤ FILE_LIMIT
  pub blocks_limit_lem : blocks ≤ FILE_LIMIT
  pub table_size : OPEN_TABLE ≤ table
  pub places_size : PLACE_TABLE ≤ places

pub draft_limits : (compiled prelude blocks table places : ℕ) → over_limits (draft_bounds compiled prelude blocks table places) ≡ false → DraftLimits compiled prelude blocks table places
unfolding draft_bounds Kept
draft_limits compiled prelude blocks table places e =
    let a = in_limits _ _ e in
    let b = in_limits _ _ a.1 in
    let c = in_limits _ _ b.1 in
    let d = in_limits _ _ c.1 in
    let f = in_limits _ _ d.1 in
    record { compiled_limit_lem = a.0; prelude_limit = b.0; blocks_limit_lem = c.0; table_size = d.0; places_size = f.0 }

-- ---- the way through

module _ (C prelude B : List ℕ) (room table places : ℕ) where
  pub verdict_over : over_limits (draft_bounds (length C) (length prelude) (length B) table places) ≡ true → refused LIMITS NONE 0 ≡ draft_verdict C prelude B room table places
  unfolding draft_verdict
  verdict_over t = sym (if_refused _ _ LIMITS NONE 0 (also_refused _ _ LIMITS NONE 0 (limit_broken _ t)))

  -- within its limits the call is decided by its inputs, as they were opened
  module _ (kept : over_limits (draft_bounds (length C) (length prelude) (length B) table places) ≡ false) (r : Opened) (is : opened_verdict r ≡ open_verdict C B) where
    pub verdict_refused : (n o p : ℕ) → r ≡ Refused n o p → refused n o p ≡ draft_verdict C prelude B room table places
    unfolding draft_verdict opened_verdict
    verdict_refused n o p e =
        let v : open_verdict C B ≡ Refused n o p = sym is ∙ ap opened_verdict e in
        sym (if_refused _ _ n o p (also_passed _ _ (limit_kept _ kept) ∙ v))

    pub verdict_text : (n : ℕ) → r ≡ Blocks n → room_for (draft_text (places_of (order_of C) C B) B prelude) room ≡ draft_verdict C prelude B room table places
    unfolding draft_verdict opened_verdict
    verdict_text n e =
        let v : open_verdict C B ≡ Passed = sym is ∙ ap opened_verdict e in
        sym (if_passed_lem _ _ (also_passed _ _ (limit_kept _ kept) ∙ v))

-- ---- tables in hand

module _ (P : List Place) (B table places : List ℕ) (x : Laid P B table places) where
  pub text_own : (prelude : List ℕ) → draft_text (places_in places (line_count B)) B prelude ≡ draft_text P B prelude
  text_own prelude = ap (λ (Q : List Place). draft_text Q B prelude) x.is
