-- A short string is read byte by byte; the last eight bytes of another hold the rest above what the words have. Assumes nothing.
use Rattle.std.proofs.Common.{◌≡◌, ℕ, ◌*◌, ◌/◌, ◌%◌, ◌<◌, List, length, ap, ◌∙◌, arith}
use Rattle.base_names.specs.Words.{word_at}
use Rattle.base_index.proofs.Numbers.{upper_part}
use Rattle.base_index.proofs.last_part.Goals as goal

-- fewer than eight bytes are all that words leave
whole : (s : List ℕ) (r : ℕ) → length s < 8 → r ≡ word_at s 0 (length s) → r ≡ word_at s (length s / 8 * 8) (length s % 8)
whole s r h told =
    let n = length s in
    let e : 0 ≡ n / 8 * 8 = omega arith in
    let f : n ≡ n % 8 = omega arith in
    told ∙ ap (λ (k : ℕ). word_at s k n) e ∙ ap (word_at s (n / 8 * 8)) f

pub returns-then-n-lt4 : goal.returns-then-n-lt4
returns-then-n-lt4 c = whole c.args.s.now c.part_by_bytes.result (omega arith) c.part_by_bytes.ensures

pub part_by_fours-requires : goal.part_by_fours-requires
part_by_fours-requires c = (omega arith, omega arith)

pub returns-then-n-lt8 : goal.returns-then-n-lt8
returns-then-n-lt8 c = whole c.args.s.now c.part_by_fours.result (omega arith) c.part_by_fours.ensures

pub word_at-requires : goal.word_at-requires
word_at-requires c = omega arith

pub overflow_sub-result : goal.overflow_sub-result
overflow_sub-result c = omega arith

pub returns : goal.returns
returns c =
    let s = c.args.s.now in
    upper_part s (λ i. omega (arith, c.type_inv.s i)) (length s) c.word_at.result (omega arith) c.word_at.ensures
