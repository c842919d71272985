-- What opening leaves, by its answer: a refusal speaks of no tables. Assumes nothing.
use Prim.Native.Nat.{ℕ, ◌≤◌, ◌<◌}
use mathlib.Core.Path.{◌≡◌, refl, sym, ◌∙◌}
use mathlib.Core.List.{List}
use native.Mathlib.Omega.{arith}
use lib.ListN.{length, get_or}
use Rattle.base_lists.specs.Windows.{spliced}
use Rattle.base_fields.specs.declared.ByteOrder.{ByteOrder}
use Rattle.base_scope.specs.Limits.{PLACE_TABLE}
use Rattle.base_answers.specs.Verdicts.{Passed, Refused}
use Rattle.elf_readers.specs.Readers.{order_of}
use Rattle.blocks_file.specs.Blocks.{block_count}
use Rattle.blocks_file.specs.Table.{Parsed}
use Rattle.blocks_places.specs.Lines.{line_count}
use Rattle.blocks_places.specs.Places.{Place, places_of}
use Rattle.blocks_places.specs.Faults.{Placed, misplaced_at, placing}
use Rattle.blocks_places.specs.Table.{places_in, place_table, Laid}
use Rattle.blocks_places.proofs.Walk.{laid_of}
use Rattle.open_inputs.specs.Open.{open_verdict}
use Rattle.open_inputs.specs.Opened.{Blocks, opened_verdict, Opening}

closed_not : (n o p m : ℕ) → Refused n o p ≡ Blocks m → ⊥
closed_not n o p m e = let z : ◌≡◌ {A = ℕ} 0 1 = cc in omega arith

blocks_same : (n m : ℕ) → Blocks n ≡ Blocks m → m ≡ n
blocks_same n m e = cc

module _ (C B table places : List ℕ) where
  pub opening_refused : (n o p : ℕ) → open_verdict C B ≡ Refused n o p → Opening C B (Refused n o p) table places
  unfolding opened_verdict
  opening_refused n o p e = record {
    verdict = sym e;
    blocks = λ m q. absurd (closed_not n o p m q);
    laid = λ m q. absurd (closed_not n o p m q);
  }

  pub opening_blocks : (n : ℕ) → open_verdict C B ≡ Passed → n ≡ block_count B → Laid (places_of (order_of C) C B) B table places → Opening C B (Blocks n) table places
  unfolding opened_verdict
  opening_blocks n e many laid = record {
    verdict = sym e;
    blocks = λ m q. blocks_same n m q ∙ many;
    laid = λ m q. laid;
  }

-- the tables behind the walk, in the byte order that C states
pub laid_open : (C B : List ℕ) (o : ByteOrder) (table before after : List ℕ) → o ≡ order_of C → placing o C B ≡ Placed → ((i : ℕ) → get_or C i 0 < 256) → Parsed B table
    → PLACE_TABLE ≤ length before → length after ≡ length before → after ≡ spliced before 0 (place_table o C B (misplaced_at o C B))
    → Laid (places_of (order_of C) C B) B table after
laid_open C B o table before after q placed small parsed room long rows = rw q at (laid_of o C B placed small table before after parsed room long rows)

-- the places are those that the table holds
pub laid_own : (P : List Place) (B table places : List ℕ) → Laid P B table places → Laid (places_in places (line_count B)) B table places
laid_own P B table places x = record { parsed = x.parsed; long = x.long; is = refl; sizes = rw x.is x.sizes; fitting = rw x.is x.fitting }
