-- What the draft and the merge begin with (document 01, "Order"): C by 2 to 6; 7; blocks, and their sections, in order by 8 then 9.
use Rattle.std.specs.Prelude.{ℕ, ◌≡◌, List, None, Ok, Err}
use Rattle.base_fields.specs.declared.ByteOrder.TheVariants.{Big}
use Rattle.base_scope.specs.Refusals.{BLOCK_FILE, BLOCK_PLACE, BLOCK_ALIGNMENT}
use Rattle.base_answers.specs.Answers.{NONE, COMPILED}
use Rattle.base_answers.specs.Verdicts.{Passed, Refused, Verdict, also, finding_verdict}
use Rattle.elf_readers.specs.Readers.{order_of}
use Rattle.elf_check.specs.Object.{Checked, check_of}
use Rattle.elf_check.specs.Sound.{Sound}
use Rattle.blocks_file.specs.Blocks.{block_fault}
use Rattle.blocks_places.specs.declared.PlaceFault.TheVariants.{Misplaced, Misaligned}
use Rattle.blocks_places.specs.Faults.{Placed, Placing, placing}

-- refusals 2 to 6 of an object: the check's number and place
unfoldable pub check_verdict : ℕ → Checked → Verdict
check_verdict object (Ok u) = Passed
check_verdict object (Err f) = Refused f.number object f.place

-- refusals 8 and 9
unfoldable pub placing_verdict : Placing → Verdict
placing_verdict (Ok u) = Passed
placing_verdict (Err (Misplaced block)) = Refused BLOCK_PLACE COMPILED block
placing_verdict (Err (Misaligned block)) = Refused BLOCK_ALIGNMENT COMPILED block

-- A new refusal of C or of the block file goes here, at its place in document 01's order: both calls then have it.
unfoldable pub open_verdict : List ℕ → List ℕ → Verdict
open_verdict C B =
    also (check_verdict COMPILED (check_of C))
    (also (finding_verdict BLOCK_FILE NONE (block_fault B))
    (placing_verdict (placing (order_of C) C B)))

-- what they leave true (proofs/Order.antt, `open_passed`)
pub record OpenPassed (C B : List ℕ) : Type 0 where
  pub sound : Sound (order_of C) C
  pub big : order_of C ≡ Big
  pub read : block_fault B ≡ None
  pub placed : placing (order_of C) C B ≡ Placed
