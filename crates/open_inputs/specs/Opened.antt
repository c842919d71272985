-- Of the code, not of document 01: what opening the inputs answers, and what it leaves in the tables of blocks and of places.
use Rattle.std.specs.Prelude.{ℕ, ◌≡◌, List, Result, Ok, Err}
use Rattle.base_answers.specs.declared.Refusal.{Refusal}
use Rattle.base_answers.specs.Verdicts.{Verdict, Passed}
use Rattle.elf_readers.specs.Readers.{order_of}
use Rattle.blocks_file.specs.Blocks.{block_count}
use Rattle.blocks_places.specs.Places.{places_of}
use Rattle.blocks_places.specs.Table.{Laid}
use Rattle.open_inputs.specs.Open.{open_verdict}

-- the number of blocks, or a refusal
abbrev pub Opened : Type 0
Opened = Result ℕ Refusal

abbrev pub Blocks : ℕ → Opened
Blocks n = Ok n

unfoldable pub opened_verdict : Opened → Verdict
opened_verdict (Ok n) = Passed
opened_verdict (Err r) = Err r

-- where the inputs are taken, the answer is the number of blocks, and the tables are in hand
pub record Opening (C B : List ℕ) (r : Opened) (table places : List ℕ) : Type 0 where
  pub verdict : opened_verdict r ≡ open_verdict C B
  pub blocks : (n : ℕ) → r ≡ Blocks n → n ≡ block_count B
  pub laid : (n : ℕ) → r ≡ Blocks n → Laid (places_of (order_of C) C B) B table places
