-- The words passed over have no zero byte, so the name ends where it ends from word k on, and the sum has its first k words; the word that has the zero holds the rest of the
-- name below it. Assumes nothing.
use Rattle.std.proofs.Common.{◌≡◌, ℕ, ◌+◌, ◌-◌, ◌*◌, ◌%◌, ◌^◌, ◌<◌, ◌≤◌, length, sym, refl, ap, ◌∙◌, arith}
use Rattle.base_lists.specs.Strings.{name_end}
use Rattle.base_names.specs.Words.{first_byte, word_at, byte_marks}
use Rattle.base_names.proofs.Words.{first_zero, found_none, found}
use Rattle.base_index.specs.Index.{ROUND, spread}
use Rattle.base_index.proofs.Numbers.{word_low}
use Rattle.base_index.proofs.Hashes.{hash_name, sum_on}
use Rattle.base_index.proofs.name_hash.Goals as goal
use Rattle.base_index.proofs.name_hash.Goals.{After-byte_marks-marks, After-first_mark-n}

-- the marks of word k, and that it lies in the table
marked : (c : After-byte_marks-marks)
    → (c.byte_marks-marks.result ≡ byte_marks 0 8 (word_at c.args.t.now (c.args.at + c.loop-k.k * 8) 8))
    × (c.args.at + c.loop-k.k * 8 + 8 ≤ length c.args.t.now)
marked c = (c.byte_marks-marks.ensures ∙ ap (byte_marks 0 8) c.word_at-word.ensures, omega (arith, c.shorter-room.ensures))

-- where the word's first zero byte is
zero_in : (c : After-first_mark-n)
    → (c.byte_marks-marks.result ≡ byte_marks 0 8 (word_at c.args.t.now (c.args.at + c.loop-k.k * 8) 8)) × (c.args.at + c.loop-k.k * 8 + 8 ≤ length c.args.t.now)
    → (first_byte c.args.t.now 0 (c.args.at + c.loop-k.k * 8) ≡ c.args.at + c.loop-k.k * 8 + c.first_mark-n.result) × (c.first_mark-n.result < 8)
zero_in c m =
    found c.args.t.now 0 (λ i. omega (arith, c.type_inv.t i)) (omega arith) (c.args.at + c.loop-k.k * 8) c.byte_marks-marks.result m.1 m.0 c.if-marks-ne0.true c.first_mark-n.result c.first_mark-n.ensures

pub returns-then-at-t : goal.returns-then-at-t
returns-then-at-t c = c.late_hash.ensures

pub loop-k-init : goal.loop-k-init
unfolding word_at
loop-k-init c =
    let a = c.args in
    let e : a.at ≡ a.at + 0 = omega arith in
    (ap (first_byte a.t.now 0) e, refl)

pub word_at-word-requires : goal.word_at-word-requires
word_at-word-requires c = omega (arith, c.shorter-room.ensures)

pub low_part-requires : goal.low_part-requires
low_part-requires c = (zero_in (goal.at.low_part-requires c).After-first_mark-n (marked (goal.at.low_part-requires c).After-byte_marks-marks)).1

pub overflow_add-i : goal.overflow_add-i
overflow_add-i c = record { fits = omega (arith, (zero_in (goal.at.overflow_add-i c).After-first_mark-n (marked (goal.at.overflow_add-i c).After-byte_marks-marks)).1, c.shorter-room.ensures) }

pub returns-then-marks-ne0 : goal.returns-then-marks-ne0
returns-then-marks-ne0 c =
    let a = c.args in
    let t = a.t.now in
    let l = c.loop-k in
    let v = l.invariant in
    let n = c.first_mark-n.result in
    let z = zero_in (goal.at.returns-then-marks-ne0 c).After-first_mark-n (marked (goal.at.returns-then-marks-ne0 c).After-byte_marks-marks) in
    let part : c.low_part.result ≡ word_at t (a.at + l.k * 8) n =
    c.low_part.ensures
    ∙ ap (λ (w : ℕ). w % 256 ^ n) (c.word_at-word.ensures ∙ ap (word_at t (a.at + l.k * 8)) (omega (arith, z.1)))
    ∙ word_low t (λ i. omega (arith, c.type_inv.t i)) (a.at + l.k * 8) n (8 - n) in
    let end : name_end t a.at ≡ a.at + (l.k * 8 + n) = sym (first_zero t a.at) ∙ v.0 ∙ z.0 ∙ omega arith in
    c.hash_end.ensures
    ∙ ap (λ (x : ℕ). (spread x + (l.k * 8 + n)) % 2 ^ 16)
    (c.plus.ensures ∙ ap (λ (x : ℕ). (l.sum + x) % ROUND) part ∙ sum_on t a.at l.sum (l.k * 8) n (omega arith) v.1)
    ∙ sym (hash_name t a.at (l.k * 8 + n) end (omega (arith, z.1, c.shorter-room.ensures)))

pub loop-k-preserved : goal.loop-k-preserved
loop-k-preserved c =
    let a = c.args in
    let t = a.t.now in
    let l = c.loop-k in
    let v = l.invariant in
    let m = marked (goal.at.loop-k-preserved c).After-byte_marks-marks in
    let d : l.k * 8 + 8 ≡ (l.k + 1) * 8 = omega arith in
    let e : a.at + l.k * 8 + 8 ≡ a.at + (l.k + 1) * 8 = omega arith in (
      v.0
          ∙ found_none t 0 (λ i. omega (arith, c.type_inv.t i)) (omega arith) (a.at + l.k * 8) c.byte_marks-marks.result m.1 m.0 c.if-marks-ne0.false
          ∙ ap (first_byte t 0) e,
      c.plus-sum.ensures ∙ ap (λ (w : ℕ). (l.sum + w) % ROUND) c.word_at-word.ensures ∙ sum_on t a.at l.sum (l.k * 8) 8 (omega arith) v.1 ∙ ap (λ (j : ℕ). word_at t a.at j % ROUND) d,
    )

pub returns : goal.returns
returns c = c.late_hash-2.ensures
