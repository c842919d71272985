-- The laws of a merge's inputs: the first test that refuses decides, and what is known and in hand where all pass. Assumes nothing.
use Prim.Native.Nat.{ℕ, ◌≤◌}
use mathlib.Core.Path.{◌≡◌, refl, sym, ap, ◌∙◌}
use mathlib.Core.List.{List}
use native.Mathlib.Omega.{arith}
use lib.ListN.{length}
use Rattle.base_fields.specs.declared.ByteOrder.{ByteOrder}
use Rattle.base_fields.specs.declared.ByteOrder.TheVariants.{Big}
use Rattle.base_scope.specs.Limits.{FILE_LIMIT}
use Rattle.base_answers.specs.Verdicts.{Passed, Refused, Verdict}
use Rattle.base_answers.specs.Answers.{ASSEMBLED}
use Rattle.base_answers.proofs.Verdicts.{also_passed, also_refused, also_parts}
use Rattle.elf_readers.specs.Readers.{order_of}
use Rattle.elf_readers.specs.Bounds.{Named}
use Rattle.elf_symbols.specs.Symbols.{Tabled}
use Rattle.elf_check.specs.declared.View.{View}
use Rattle.elf_check.specs.Object.{check_of}
use Rattle.elf_check.specs.Sound.{Sound}
use Rattle.elf_check.specs.View.{view_of, Viewed}
use Rattle.elf_check.proofs.Order.{accepted_in}
use Rattle.blocks_file.specs.Blocks.{block_count}
use Rattle.blocks_places.specs.Lines.{line_count}
use Rattle.blocks_places.specs.Places.{Place, places_of}
use Rattle.blocks_places.specs.Table.{places_in, Laid}
use Rattle.open_inputs.specs.Open.{check_verdict, open_verdict}
use Rattle.open_inputs.specs.Opened.{Blocks, Opened, opened_verdict, Opening}
use Rattle.open_inputs.proofs.Order.{check_passed, open_passed}
use Rattle.open_inputs.proofs.Opening.{laid_own}
use Rattle.merge_inputs.specs.declared.Inputs.{Inputs}
use Rattle.merge_inputs.specs.Verdict.{inputs_verdict, InputsPassed}
use Rattle.merge_inputs.specs.Taken.{Took, inputs_of, InputsRead}

shut_not : (n o p m : ℕ) → Refused n o p ≡ Blocks m → ⊥
shut_not n o p m e = let z : ◌≡◌ {A = ℕ} 0 1 = cc in omega arith

-- what is known where all pass
pub inputs_passed : (C A B : List ℕ) → inputs_verdict C A B ≡ Passed → InputsPassed C A B
unfolding inputs_verdict
inputs_passed C A B e =
    let p = also_parts (open_verdict C B) (check_verdict ASSEMBLED (check_of A)) e in
    let q = open_passed C B p.0 in
    record { opened = q; assembled = accepted_in A (check_passed ASSEMBLED (check_of A) p.1) (order_of C) q.big }

-- ---- the tests, one behind the other

module _ (C A B : List ℕ) (r : Opened) (table places : List ℕ) (g : Opening C B r table places) where
  pub took_shut : (n o p : ℕ) → r ≡ Refused n o p → Took C A B r table places
  unfolding opened_verdict inputs_verdict
  took_shut n o p e =
      let v : open_verdict C B ≡ Refused n o p = sym g.verdict ∙ ap opened_verdict e in record {
        verdict = g.verdict ∙ v ∙ sym (also_refused (open_verdict C B) _ n o p v);
        blocks = g.blocks;
        laid = g.laid;
      }

  -- C and the block file are taken: A decides
  module _ (m : ℕ) (e : r ≡ Blocks m) (v : Verdict) (is : v ≡ check_verdict ASSEMBLED (check_of A)) where
    opened : open_verdict C B ≡ Passed
    unfolding opened_verdict
    opened = sym g.verdict ∙ ap opened_verdict e

    pub took_refused : (n o p : ℕ) → v ≡ Refused n o p → Took C A B (Refused n o p) table places
    unfolding opened_verdict inputs_verdict
    took_refused n o p t = record {
      verdict = sym t ∙ is ∙ sym (also_passed (open_verdict C B) _ opened);
      blocks = λ m q. absurd (shut_not n o p m q);
      laid = λ m q. absurd (shut_not n o p m q);
    }

    pub took_all : v ≡ Passed → Took C A B r table places
    unfolding inputs_verdict
    took_all t = record {
      verdict = g.verdict ∙ opened ∙ sym t ∙ is ∙ sym (also_passed (open_verdict C B) _ opened);
      blocks = g.blocks;
      laid = g.laid;
    }

-- ---- what is in hand where all pass

module _ (C A B : List ℕ) (r : Opened) (table places : List ℕ) (w : Took C A B r table places) (n : ℕ) (e : r ≡ Blocks n) where
  pub took_passed : inputs_verdict C A B ≡ Passed
  unfolding opened_verdict
  took_passed = sym w.verdict ∙ ap opened_verdict e

  compiled_sound_lem : Sound (order_of C) C
  compiled_sound_lem = (inputs_passed C A B took_passed).opened.sound

  assembled_sound_lem : Sound (order_of C) A
  assembled_sound_lem = (inputs_passed C A B took_passed).assembled

  pub took_sound : Sound (order_of C) C × Sound (order_of C) A
  took_sound = (compiled_sound_lem, assembled_sound_lem)

  own : length C ≤ FILE_LIMIT → length A ≤ FILE_LIMIT → InputsRead C A B (inputs_of C A n) table places
  unfolding inputs_of
  own smallC smallA = record {
    compiled = record { named = compiled_sound_lem.named; tabled = compiled_sound_lem.tabled; is = refl };
    assembled = record { named = assembled_sound_lem.named; tabled = assembled_sound_lem.tabled; is = refl };
    compiled_sound = compiled_sound_lem;
    assembled_sound = assembled_sound_lem;
    many = w.blocks n e;
    laid = laid_own _ B table places (w.laid n e);
    placed = (w.laid n e).is;
    compiled_small = smallC;
    assembled_small = smallA;
  }

  pub inputs_read : length C ≤ FILE_LIMIT → length A ≤ FILE_LIMIT → (i : Inputs) → i ≡ inputs_of C A n → InputsRead C A B i table places
  inputs_read smallC smallA i is = rw is (own smallC smallA)

-- the order and the views as they are read
pub inputs_same : (C A : List ℕ) (n : ℕ) (o : ByteOrder) (c a : View) → o ≡ order_of C → c ≡ view_of o C → a ≡ view_of o A
    → ◌≡◌ {A = Inputs} (record { order = o; compiled = c; assembled = a; blocks = n }) (inputs_of C A n)
unfolding inputs_of
inputs_same C A n o c a q x y = rw (x, y, q)

pub sound_stated : (F : List ℕ) (s o : ByteOrder) → o ≡ s → Sound s F → Named o F × Tabled o F
sound_stated F s o q w = rw q (w.named, w.tabled)
