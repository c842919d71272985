-- The bytes from i on are in the number, which grows by one byte each turn. Assumes nothing.
use Rattle.std.proofs.Common.{◌≡◌, ℕ, ◌+◌, ◌-◌, ◌*◌, ◌^◌, ◌<◌, ◌≤◌, length, get_or, sym, ap, ◌∙◌, arith}
use native.Mathlib.Nat.{pow-le-pow_right}
use Rattle.base_names.specs.Words.{word_at}
use Rattle.base_index.proofs.Numbers.{word_none, word_before, word_bound}
use Rattle.base_index.proofs.part_by_bytes.Goals as goal
use Rattle.base_index.proofs.part_by_bytes.Goals.{In-loop-i}

-- six bytes at most are in it, so one more fits
low : (c : In-loop-i) → c.loop-i.part < 256 ^ 6
low c =
    let l = c.loop-i in
    let f : length c.args.s.now - l.i ≤ 6 = omega (arith, c.requires) in
    let m : 256 ^ (length c.args.s.now - l.i) ≤ 256 ^ 6 = pow-le-pow_right (omega arith) f in
    omega (arith, l.invariant.1, m)

pub loop-i-init : goal.loop-i-init
loop-i-init c =
    let s = c.args.s.now in
    let e : length s - length s ≡ 0 = omega arith in
    (sym (word_none s (length s) (length s) (omega arith)), rw e (omega arith))

pub overflow_mul-part : goal.overflow_mul-part
overflow_mul-part c = record { fits = omega (arith, low (goal.at.overflow_mul-part c).In-loop-i) }

pub overflow_cast-part : goal.overflow_cast-part
overflow_cast-part c = record { fits = omega (arith, c.type_inv.s (c.loop-i.i - 1)) }

pub overflow_add-part : goal.overflow_add-part
overflow_add-part c = record { fits = omega (arith, low (goal.at.overflow_add-part c).In-loop-i, c.type_inv.s (c.loop-i.i - 1)) }

pub loop-i-preserved : goal.loop-i-preserved
loop-i-preserved c =
    let s = c.args.s.now in
    let l = c.loop-i in
    let i = l.i - 1 in
    let e : i + 1 ≡ l.i = omega arith in
    let next : l.part * 256 + get_or s i 0 ≡ word_at s i (length s - i) =
    ap (λ (x : ℕ). x * 256 + get_or s i 0) (l.invariant.0 ∙ sym (ap (λ (k : ℕ). word_at s k (length s - k)) e)) ∙ word_before s i (length s) (omega arith) in
    (next, rw next (word_bound s (λ k. omega (arith, c.type_inv.s k)) i (length s - i)))

pub returns : goal.returns
returns c =
    let s = c.args.s.now in
    let l = c.loop-i in
    let e : l.i ≡ 0 = omega arith in
    l.invariant.0 ∙ ap (λ (k : ℕ). word_at s k (length s - k)) e ∙ ap (word_at s 0) (omega arith)
