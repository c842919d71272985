-- The answer of a merge that has come to writing: refusal 17 of a debug section that cannot move, then the merged object, or refusal 21 (document 01, "Refusals").
use Rattle.std.specs.Prelude.{ℕ, List}
use Rattle.base_fields.specs.declared.ByteOrder.{ByteOrder}
use Rattle.base_scope.specs.Refusals.{STATICS}
use Rattle.base_answers.specs.Answers.{Answer, COMPILED, room_for}
use Rattle.base_answers.specs.Verdicts.{if_passed, finding_verdict}
use Rattle.blocks_places.specs.Places.{Place}
use Rattle.write_object.specs.Object.{moved_finding}
use Rattle.write_plan.specs.Plan.{merged_plan, merged_object}

-- the answer, where the output has so much room
unfoldable pub merged_answer : ByteOrder → List ℕ → List ℕ → List Place → List ℕ → List ℕ → ℕ → ℕ → ℕ → Answer
merged_answer o C A P B path flag mode room =
    if_passed (finding_verdict STATICS COMPILED (moved_finding (merged_plan o C A P B path flag mode) o)) (room_for (merged_object o C A P B path flag mode) room)
