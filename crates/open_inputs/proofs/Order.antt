-- The laws of what both calls begin with: the answers of its tests, one by one; the first that refuses decides; and what is known where all pass. Assumes nothing.
use Rattle.std.specs.Prelude.{Option, Ok, Err}
use Prim.Native.Nat.{ℕ}
use mathlib.Core.Path.{◌≡◌, refl, sym, ap, ◌∙◌}
use mathlib.Core.List.{List}
use Rattle.base_fields.specs.declared.ByteOrder.{ByteOrder}
use Rattle.base_scope.specs.Refusals.{BLOCK_FILE, BLOCK_PLACE, BLOCK_ALIGNMENT}
use Rattle.base_answers.specs.Answers.{NONE, COMPILED}
use Rattle.base_answers.specs.Verdicts.{Passed, Refused, Verdict, finding_verdict}
use Rattle.base_answers.proofs.Verdicts.{also_passed, also_refused, also_parts, finding_passed}
use Rattle.elf_readers.specs.Readers.{order_of}
use Rattle.elf_check.specs.Object.{Accepted, Refused as Faulty, Checked, check_of}
use Rattle.elf_check.specs.Sound.{Sound}
use Rattle.elf_check.proofs.Sound.{accepted}
use Rattle.elf_check.proofs.Order.{accepted_big, accepted_stated}
use Rattle.blocks_file.specs.Blocks.{block_fault}
use Rattle.blocks_places.specs.declared.PlaceFault.TheVariants.{Misplaced, Misaligned}
use Rattle.blocks_places.specs.Faults.{Placed, Placing, placing}
use Rattle.open_inputs.specs.Open.{check_verdict, placing_verdict, open_verdict, OpenPassed}

-- ---- one test

module _ (object : ℕ) (f : Checked) where
  pub check_accepted : f ≡ Accepted → Passed ≡ check_verdict object f
  unfolding check_verdict
  check_accepted e = rw e

  pub check_faulty : (number place : ℕ) → f ≡ Faulty number place → Refused number object place ≡ check_verdict object f
  unfolding check_verdict
  check_faulty number place e = rw e

pub check_passed : (object : ℕ) (f : Checked) → check_verdict object f ≡ Passed → f ≡ Accepted
unfolding check_verdict
check_passed object (Ok u) e = refl
check_passed object (Err f) e = cc

module _ (f : Placing) where
  pub placing_placed : f ≡ Placed → Passed ≡ placing_verdict f
  unfolding placing_verdict
  placing_placed e = rw e

  pub placing_8 : (block : ℕ) → f ≡ Err (Misplaced block) → Refused BLOCK_PLACE COMPILED block ≡ placing_verdict f
  unfolding placing_verdict
  placing_8 block e = rw e

  pub placing_9 : (block : ℕ) → f ≡ Err (Misaligned block) → Refused BLOCK_ALIGNMENT COMPILED block ≡ placing_verdict f
  unfolding placing_verdict
  placing_9 block e = rw e

pub placing_passed : (f : Placing) → placing_verdict f ≡ Passed → f ≡ Placed
unfolding placing_verdict
placing_passed (Ok u) e = refl
placing_passed (Err (Misplaced block)) e = cc
placing_passed (Err (Misaligned block)) e = cc

-- ---- from the values as they are read

pub read_as : (B : List ℕ) (f : Option ℕ) (r v : Verdict) → f ≡ block_fault B → r ≡ finding_verdict BLOCK_FILE NONE f → r ≡ v → finding_verdict BLOCK_FILE NONE (block_fault B) ≡ v
read_as B f r v e is told = ap (finding_verdict BLOCK_FILE NONE) (sym e) ∙ sym is ∙ told

pub placed_as : (C B : List ℕ) (o : ByteOrder) (f : Placing) (r v : Verdict) → o ≡ order_of C → f ≡ placing o C B → r ≡ placing_verdict f → r ≡ v
    → placing_verdict (placing (order_of C) C B) ≡ v
placed_as C B o f r v q e is told = ap placing_verdict (ap (λ (x : ByteOrder). placing x C B) (sym q) ∙ sym e) ∙ sym is ∙ told

pub placed_of : (f : Placing) (r : Verdict) → r ≡ placing_verdict f → r ≡ Passed → f ≡ Placed
placed_of f r is told = placing_passed f (sym is ∙ told)

-- C, accepted, in the byte order that it states
pub open_sound : (C : List ℕ) (o : ByteOrder) → check_verdict COMPILED (check_of C) ≡ Passed → o ≡ order_of C → Sound o C
open_sound C o e q = accepted_stated C (check_passed COMPILED (check_of C) e) o q

-- ---- all of them

module _ (C B : List ℕ) where
  pub open_check : (n o p : ℕ) → check_verdict COMPILED (check_of C) ≡ Refused n o p → open_verdict C B ≡ Refused n o p
  unfolding open_verdict
  open_check n o p e = also_refused _ _ n o p e

  -- C is accepted
  module _ (c : check_verdict COMPILED (check_of C) ≡ Passed) where
    pub open_read : (n o p : ℕ) → finding_verdict BLOCK_FILE NONE (block_fault B) ≡ Refused n o p → open_verdict C B ≡ Refused n o p
    unfolding open_verdict
    open_read n o p e = also_passed _ _ c ∙ also_refused _ _ n o p e

    -- and the block file is sound
    pub open_placed : (v : Verdict) → finding_verdict BLOCK_FILE NONE (block_fault B) ≡ Passed → placing_verdict (placing (order_of C) C B) ≡ v → open_verdict C B ≡ v
    unfolding open_verdict
    open_placed v r e = also_passed _ _ c ∙ also_passed _ _ r ∙ e

  pub open_passed : open_verdict C B ≡ Passed → OpenPassed C B
  unfolding open_verdict
  open_passed e =
      let a = also_parts (check_verdict COMPILED (check_of C)) _ e in
      let b = also_parts (finding_verdict BLOCK_FILE NONE (block_fault B)) _ a.1 in
      let sound = check_passed COMPILED (check_of C) a.0 in
      record {
        sound = accepted C sound;
        big = accepted_big C sound;
        read = finding_passed BLOCK_FILE NONE (block_fault B) b.0;
        placed = placing_passed (placing (order_of C) C B) b.1;
      }
