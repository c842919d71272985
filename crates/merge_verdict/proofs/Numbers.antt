-- Every refusal of a merge has a number of document 01's table, 1 to 21: an answer with number 0 is an accepted one. Assumes nothing.
use Rattle.std.specs.Prelude.{None, Some, Option, Ok, Err}
use Prim.Native.Nat.{ℕ, ◌≤◌, ◌<◌}
use mathlib.Core.Path.{◌≡◌, refl, ap}
use mathlib.Core.Bool.{Bool, true, false}
use mathlib.Core.List.{List}
use native.Mathlib.Omega.{arith}
use lib.ListN.{length}
use lib.Dec.{leb}
use Rattle.base_fields.specs.declared.ByteOrder.{ByteOrder}
use Rattle.base_answers.specs.Answers.{Answer, accepted, refused, pick_answer, room_for}
use Rattle.base_answers.specs.Verdicts.{Passed, Refused, Verdict, also, if_passed, limit_verdict, finding_verdict}
use Rattle.elf_check.specs.Object.{Accepted, Refused as Faulty, Checked, refuse, check_tables, check_names, check_in, check_of}
use Rattle.blocks_places.specs.declared.PlaceFault.TheVariants.{Misplaced, Misaligned}
use Rattle.blocks_places.specs.Places.{Place}
use Rattle.open_inputs.specs.Open.{check_verdict, placing_verdict, open_verdict}
use Rattle.merge_inputs.specs.Verdict.{inputs_verdict}
use Rattle.write_plan.specs.of_merge_missing.Missing.{missing_verdict}
use Rattle.write_plan.specs.of_merge_line_up.LineUp.{labels_verdict, line_up_verdict}
use Rattle.symbols_merge.specs.Listed.{symbols_verdict}
use Rattle.write_plan.specs.of_symbols_taken.Taken.{taken_verdict}
use Rattle.symbols_stage.specs.Verdict.{list_verdict, symbol_stages_verdict}
use Rattle.write_plan.specs.of_carry_entries.Carried.{carry_verdict}
use Rattle.write_plan.specs.Answer.{merged_answer}
use Rattle.merge_verdict.specs.Verdict.{references_verdict, late_verdict, stages_verdict, carried_verdict, carried_answer, merge_verdict}
use Rattle.blocks_places.specs.Faults.{Placed, Placing}

-- a number of the table
abbrev pub Tabled : ℕ → Type 0
Tabled n = (1 ≤ n) × (n ≤ 21)

-- every refusal that a verdict, a check or an answer can be has one
abbrev Numbered : Verdict → Type 0
Numbered v = (n o p : ℕ) → v ≡ Refused n o p → Tabled n

abbrev Listed : Checked → Type 0
Listed c = (n p : ℕ) → c ≡ Faulty n p → Tabled n

abbrev Answers : Answer → Type 0
Answers a = (n o p : ℕ) → a ≡ refused n o p → Tabled n

-- the number of a refusal, of an object too
abbrev number_in : Verdict → ℕ
number_in (Ok u) = 0
number_in (Err r) = r.number

abbrev fault_in : Checked → ℕ
fault_in (Ok u) = 0
fault_in (Err f) = f.number

-- ---- how tests are put together

passed_numbered : Numbered Passed
passed_numbered n o p e = let z : ◌≡◌ {A = ℕ} 0 1 = cc in absurd (omega arith)

refused_numbered : (n o p : ℕ) → Tabled n → Numbered (Refused n o p)
refused_numbered n o p t m x q e = let z : n ≡ m = ap number_in e in (omega (arith, z, t.0), omega (arith, z, t.1))

also_numbered : (v rest : Verdict) → Numbered v → Numbered rest → Numbered (also v rest)
unfolding also
also_numbered (Ok u) rest a b = b
also_numbered (Err r) rest a b = a

finding_numbered : (n o : ℕ) (f : Option ℕ) → Tabled n → Numbered (finding_verdict n o f)
unfolding finding_verdict
finding_numbered n o None t = passed_numbered
finding_numbered n o (Some p) t = refused_numbered n o p t

limit_numbered : (b : Bool) → Numbered (limit_verdict b)
unfolding limit_verdict
limit_numbered true = refused_numbered 1 0 0 (omega arith, omega arith)
limit_numbered false = passed_numbered

if_answers : (v : Verdict) (rest : Answer) → Numbered v → Answers rest → Answers (if_passed v rest)
unfolding if_passed
if_answers (Ok u) rest a b = b
if_answers (Err r) rest a b = λ m x q e.
    let n : r.number ≡ m = cc in
    let o : r.object ≡ x = cc in
    let p : r.place ≡ q = cc in
    a m x q (λ i. Err (record { number = n i; object = o i; place = p i }))

room_answers : (l : List ℕ) (room : ℕ) → Answers (room_for l room)
unfolding room_for
room_answers l room = picked (leb (length l) room)
  where
    picked : (b : Bool) → Answers (pick_answer b (accepted l) (refused 21 0 (length l)))
    picked true n o p e = let z : ◌≡◌ {A = ℕ} 0 1 = cc in absurd (omega arith)
    picked false n o p e = let z : ◌≡◌ {A = ℕ} 21 n = cc in (omega (arith, z), omega (arith, z))

-- ---- the check of an object

refuse_listed : (n : ℕ) (f : Option ℕ) (rest : Checked) → Tabled n → Listed rest → Listed (refuse n f rest)
unfolding refuse
refuse_listed n None rest t l = l
refuse_listed n (Some p) rest t l = λ m q e. let z : n ≡ m = ap fault_in e in (omega (arith, z, t.0), omega (arith, z, t.1))

check_listed : (F : List ℕ) → Listed (check_of F)
unfolding check_of check_in check_names check_tables
check_listed F =
    refuse_listed 2 _ _ (omega arith, omega arith)
    (refuse_listed 3 _ _ (omega arith, omega arith)
    (refuse_listed 4 _ _ (omega arith, omega arith)
    (refuse_listed 3 _ _ (omega arith, omega arith)
    (refuse_listed 5 _ _ (omega arith, omega arith)
    (refuse_listed 6 _ _ (omega arith, omega arith) (λ n p e. let z : ◌≡◌ {A = ℕ} 0 1 = cc in absurd (omega arith)))))))

check_numbered : (object : ℕ) (c : Checked) → Listed c → Numbered (check_verdict object c)
unfolding check_verdict
check_numbered object (Ok u) l = passed_numbered
check_numbered object (Err f) l = refused_numbered f.number object f.place (l f.number f.place refl)

placing_numbered : (x : Placing) → Numbered (placing_verdict x)
unfolding placing_verdict
placing_numbered (Ok u) = passed_numbered
placing_numbered (Err (Misplaced b)) = refused_numbered 8 1 b (omega arith, omega arith)
placing_numbered (Err (Misaligned b)) = refused_numbered 9 1 b (omega arith, omega arith)

-- ---- the merge

inputs_numbered : (C A B : List ℕ) → Numbered (inputs_verdict C A B)
unfolding inputs_verdict open_verdict
inputs_numbered C A B =
    also_numbered _ _
    (also_numbered _ _ (check_numbered 1 (check_of C) (check_listed C)) (also_numbered _ _ (finding_numbered 7 0 _ (omega arith, omega arith)) (placing_numbered _)))
    (check_numbered 2 (check_of A) (check_listed A))

module _ (o : ByteOrder) (C A : List ℕ) (P : List Place) (B path : List ℕ) (flag mode : ℕ) where
  line_up_numbered : Numbered (line_up_verdict o C A P B)
  unfolding line_up_verdict missing_verdict labels_verdict
  line_up_numbered =
      also_numbered _ _
      (also_numbered _ _ (finding_numbered 11 1 _ (omega arith, omega arith)) (finding_numbered 11 2 _ (omega arith, omega arith)))
      (also_numbered _ _ (finding_numbered 12 2 _ (omega arith, omega arith)) (finding_numbered 13 2 _ (omega arith, omega arith)))

  symbols_numbered : (head : ℕ) → Numbered (symbol_stages_verdict o C A P B mode head)
  unfolding symbol_stages_verdict taken_verdict list_verdict symbols_verdict
  symbols_numbered head =
      also_numbered _ _
      (also_numbered _ _ (finding_numbered 15 2 _ (omega arith, omega arith)) (finding_numbered 16 2 _ (omega arith, omega arith)))
      (also_numbered _ _ (finding_numbered 17 1 _ (omega arith, omega arith))
      (also_numbered _ _ (finding_numbered 18 0 _ (omega arith, omega arith)) (finding_numbered 19 0 _ (omega arith, omega arith))))

  carry_numbered : (head : ℕ) → Numbered (carry_verdict o C A P B mode head)
  unfolding carry_verdict
  carry_numbered head = also_numbered _ _ (finding_numbered 20 1 _ (omega arith, omega arith)) (finding_numbered 20 2 _ (omega arith, omega arith))

  carried_answers : (room : ℕ) → Answers (carried_answer o C A P B path flag mode room)
  unfolding carried_answer carried_verdict stages_verdict late_verdict references_verdict merged_answer
  carried_answers room =
      if_answers _ _
      (also_numbered _ _ (finding_numbered 10 1 _ (omega arith, omega arith))
      (also_numbered _ _ line_up_numbered
      (also_numbered _ _ (finding_numbered 14 1 _ (omega arith, omega arith)) (also_numbered _ _ (symbols_numbered _) (carry_numbered _)))))
      (if_answers _ _ (finding_numbered 17 1 _ (omega arith, omega arith)) (room_answers _ room))

pub merge_numbered : (C A B path : List ℕ) (flag mode room table places steps index n x place : ℕ)
    → merge_verdict C A B path flag mode room table places steps index ≡ refused n x place → Tabled n
unfolding merge_verdict
merge_numbered C A B path flag mode room table places steps index =
    if_answers _ _ (also_numbered _ _ (limit_numbered _) (inputs_numbered C A B)) (carried_answers _ C A _ B path flag mode room)
