-- One whole instance: an object that is written again from its own sections. Refusal 17 comes first, then 21.
use Rattle.std.specs.Prelude.{ℕ, ◌+◌, ◌≤◌, ◌<◌, ◌≡◌, List, length}
use Rattle.base_lists.specs.Windows.{spliced}
use Rattle.base_fields.specs.declared.ByteOrder.{ByteOrder}
use Rattle.base_scope.specs.Limits.{FILE_LIMIT, ALIGN_LIMIT}
use Rattle.base_scope.specs.Refusals.{STATICS}
use Rattle.base_answers.specs.declared.Outcome.{Outcome}
use Rattle.base_answers.specs.Answers.{Answer, COMPILED, outcome_of, output_of, room_for}
use Rattle.base_answers.specs.Verdicts.{if_passed, finding_verdict}
use Rattle.elf_readers.specs.Readers.{header, section_count, section, contents}
use Rattle.elf_readers.specs.Bounds.{Headed}
use Rattle.write_image.specs.Layout.{end_before, start_of}
use Rattle.write_object.specs.Object.{Plan, layout_of, moved_finding, object_bytes}

module _ (o : ByteOrder) (F : List ℕ) where
  unfoldable pub own_plan : Plan
  own_plan = record { many = section_count o F; heading = section o F; content = contents o F }

  unfoldable pub own_object : List ℕ
  own_object = object_bytes own_plan o (header o F)

  -- where the sections before section i end, and where it starts
  unfoldable pub own_end : ℕ → ℕ
  own_end i = end_before (layout_of own_plan) i

  unfoldable pub own_start : ℕ → ℕ
  own_start i = start_of (layout_of own_plan) i

  -- the answer, where the output has so much room
  unfoldable pub rewrite_answer : ℕ → Answer
  rewrite_answer room = if_passed (finding_verdict STATICS COMPILED (moved_finding own_plan o)) (room_for own_object room)

-- what is asked of the file: refusals 1 to 3 leave it true (proofs/Own.antt)
pub record OwnReady (o : ByteOrder) (F : List ℕ) : Type 0 where
  pub headed : Headed o F
  pub aligned : (i : ℕ) → i < section_count o F → (section o F i).sh_addralign ≤ ALIGN_LIMIT
  pub short : length F ≤ FILE_LIMIT

-- section i in hand, and the end of those before it
pub record OwnSection (o : ByteOrder) (F : List ℕ) (i end : ℕ) : Type 0 where
  pub ready : OwnReady o F
  pub below : i < section_count o F
  pub from : end ≡ own_end o F i

-- a step of a pass over the sections wrote b at `at`, and the next section comes behind r
pub record OwnStep (o : ByteOrder) (F : List ℕ) (i : ℕ) (b : List ℕ) (at : ℕ) (r : ℕ) (before after : List ℕ) : Type 0 where
  pub next : r ≡ own_end o F (i + 1)
  pub bytes : after ≡ spliced before at b

-- what the call gives back and leaves: the answer's numbers; the object and zeros past it in the output
pub record Rewritten (answer : Answer) (r : Outcome) (out after : List ℕ) : Type 0 where
  pub outcome : r ≡ outcome_of answer
  pub output : after ≡ output_of answer (length out)
