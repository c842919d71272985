-- Of the code, not of document 01: what is in hand of the inputs for the stages of a merge.
use Rattle.std.specs.Prelude.{ℕ, ◌≤◌, List, ◌≡◌, length}
use Rattle.base_scope.specs.Limits.{FILE_LIMIT}
use Rattle.elf_readers.specs.Readers.{order_of}
use Rattle.elf_check.specs.Sound.{Sound}
use Rattle.elf_check.specs.View.{view_of, Viewed}
use Rattle.blocks_file.specs.Blocks.{block_count}
use Rattle.blocks_places.specs.Lines.{line_count}
use Rattle.blocks_places.specs.Places.{places_of}
use Rattle.blocks_places.specs.Table.{places_in, Laid}
use Rattle.open_inputs.specs.Opened.{Blocks, Opened, opened_verdict}
use Rattle.merge_inputs.specs.declared.Inputs.{Inputs}
use Rattle.merge_inputs.specs.Verdict.{inputs_verdict}

-- what taking the inputs answers, and the tables that it leaves where all pass
pub record Took (C A B : List ℕ) (r : Opened) (table places : List ℕ) : Type 0 where
  pub verdict : opened_verdict r ≡ inputs_verdict C A B
  pub blocks : (n : ℕ) → r ≡ Blocks n → n ≡ block_count B
  pub laid : (n : ℕ) → r ≡ Blocks n → Laid (places_of (order_of C) C B) B table places

unfoldable pub inputs_of : List ℕ → List ℕ → ℕ → Inputs
inputs_of C A n = record { order = order_of C; compiled = view_of (order_of C) C; assembled = view_of (order_of C) A; blocks = n }

-- the inputs in hand: both objects are read by their views, and the blocks are placed. Every stage has this, and adds to it.
pub record InputsRead (C A B : List ℕ) (i : Inputs) (table places : List ℕ) : Type 0 where
  pub compiled : Viewed i.order C i.compiled
  pub assembled : Viewed i.order A i.assembled
  pub compiled_sound : Sound i.order C
  pub assembled_sound : Sound i.order A
  pub many : i.blocks ≡ block_count B
  pub laid : Laid (places_in places (line_count B)) B table places
  pub placed : places_in places (line_count B) ≡ places_of i.order C B
  pub compiled_small : length C ≤ FILE_LIMIT
  pub assembled_small : length A ≤ FILE_LIMIT
