-- The inputs of a merge, behind refusal 1 (document 01, "Order"): what opens the inputs, 2 to 9, then A by 2 to 6.
use Rattle.std.specs.Prelude.{ℕ, List}
use Rattle.base_answers.specs.Answers.{ASSEMBLED}
use Rattle.base_answers.specs.Verdicts.{Verdict, also}
use Rattle.elf_readers.specs.Readers.{order_of}
use Rattle.elf_check.specs.Object.{check_of}
use Rattle.elf_check.specs.Sound.{Sound}
use Rattle.open_inputs.specs.Open.{check_verdict, open_verdict, OpenPassed}

unfoldable pub inputs_verdict : List ℕ → List ℕ → List ℕ → Verdict
inputs_verdict C A B = also (open_verdict C B) (check_verdict ASSEMBLED (check_of A))

-- what they leave true (proofs/Reading.antt, `inputs_passed`). The byte order of C serves both objects: what is accepted is big-endian.
pub record InputsPassed (C A B : List ℕ) : Type 0 where
  pub opened : OpenPassed C B
  pub assembled : Sound (order_of C) A
