-- Names of two lengths differ, and the bytes passed over are equal, so they are equal where their rests from i on are. Assumes nothing.
use Rattle.base_lists.proofs.Strings.{same_long, same_end}
use Rattle.symbols_names.proofs.Tails.{bytes_next, bytes_not}
use Rattle.statics_table.specs.Statics.{count_tail}
use native.Mathlib.Omega.{arith}
use mathlib.Core.Path.{refl, sym, ◌∙◌}
use mathlib.Core.List.{◌++◌}
use Rattle.symbols_names.proofs.is_joined_same.Goals as goal

pub returns-then-long-other : goal.returns-then-long-other
returns-then-long-other c =
    let s = c.args in
    let p = c.joined_length-long.ensures in
    let q = c.joined_length-other.ensures in
    sym (same_long (s.a.now ++ count_tail s.m) (s.b.now ++ count_tail s.n) (λ e. c.if-long-other.true (p ∙ e ∙ sym q)))

pub loop-i-init : goal.loop-i-init
loop-i-init c = refl

pub is_same_byte-requires : goal.is_same_byte-requires
is_same_byte-requires c =
    let p = c.joined_length-long.ensures in
    let q = c.joined_length-other.ensures in
    let r = c.requires in
    (r.0, r.1, omega (arith, p), omega (arith, p, q))

pub loop-i-preserved : goal.loop-i-preserved
loop-i-preserved c =
    let s = c.args in
    let l = c.loop-i in
    let x = s.a.now ++ count_tail s.m in
    let y = s.b.now ++ count_tail s.n in
    let p = c.joined_length-long.ensures in
    let q = c.joined_length-other.ensures in
    l.invariant ∙ bytes_next x y l.i (omega (arith, p)) (omega (arith, p, q)) _ c.is_same_byte.ensures c.if-not-is_same_byte.false

pub returns-then-not-is_same_byte : goal.returns-then-not-is_same_byte
returns-then-not-is_same_byte c =
    let s = c.args in
    let l = c.loop-i in
    let x = s.a.now ++ count_tail s.m in
    let y = s.b.now ++ count_tail s.n in
    let p = c.joined_length-long.ensures in
    let q = c.joined_length-other.ensures in
    sym (l.invariant ∙ bytes_not x y l.i (omega (arith, p)) (omega (arith, p, q)) _ c.is_same_byte.ensures c.if-not-is_same_byte.true)

pub returns : goal.returns
returns c =
    let s = c.args in
    let l = c.loop-i in
    let x = s.a.now ++ count_tail s.m in
    let y = s.b.now ++ count_tail s.n in
    let p = c.joined_length-long.ensures in
    let q = c.joined_length-other.ensures in
    sym (l.invariant ∙ same_end x y l.i (omega (arith, p)) (omega (arith, p, q)))
