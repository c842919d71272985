-- The bytes from word i on are hashed: first those that words leave, then a word each turn. Assumes nothing.
use Rattle.std.proofs.Common.{◌≡◌, ℕ, ◌-◌, ◌*◌, length, ap, ◌∙◌, arith}
use Rattle.base_names.specs.Words.{word_at}
use Rattle.base_index.specs.Index.{mixed_at, mixed}
use Rattle.base_index.proofs.Hashes.{mixed_word, mixed_part}
use Rattle.base_index.proofs.mix_string.Goals as goal

pub mix_part-g-requires : goal.mix_part-g-requires
mix_part-g-requires c = omega arith

pub loop-i-init : goal.loop-i-init
loop-i-init c =
    let a = c.args in
    let s = a.s.now in
    mixed_part s (length s) a.h c.mix_part-g.result c.last_part.result c.last_part.ensures c.mix_part-g.ensures

pub word_at-requires : goal.word_at-requires
word_at-requires c = omega arith

pub loop-i-preserved : goal.loop-i-preserved
loop-i-preserved c =
    let a = c.args in
    let s = a.s.now in
    let l = c.loop-i in
    let e : (l.i - 1) * 8 ≡ l.i * 8 - 8 = omega arith in
    rw e
    (mixed_word s (length s) a.h (l.i * 8) l.g c.word_at.result c.plus-g.result (omega arith) (omega arith) l.invariant
    (c.word_at.ensures ∙ ap (λ (k : ℕ). word_at s k 8) e) c.plus-g.ensures)

pub returns : goal.returns
unfolding mixed
returns c =
    let a = c.args in
    let s = a.s.now in
    let l = c.loop-i in
    let e : l.i ≡ 0 = omega arith in
    l.invariant ∙ ap (λ (k : ℕ). mixed_at s (k * 8) (length s - k * 8) a.h) e ∙ ap (λ (k : ℕ). mixed_at s 0 k a.h) (omega arith)
