-- `identification` meets its contract: after i turns the array holds the first i bytes, and zeros behind them.
-- Assumes nothing.
use native.Mathlib.Omega.{arith}
use Prim.Native.Nat.{ℕ, ◌+◌, ◌≤◌, ◌<◌}
use mathlib.Core.Path.{◌≡◌, sym, ◌∙◌}
use mathlib.Core.List.{List}
use lib.ListN.{length, get_or, take, drop, set}
use Rattle.base_lists.specs.Windows.{spliced}
use lib.ListN.{replicate}
use lib.Seq.{get_or-take, get_or-drop}
use Rattle.base_lists.proofs.Windows.{length_part, spliced_nil, spliced_fill, spliced_filled}
use Rattle.elf_records.proofs.header.identification.Goals as goal

-- a turn, and the end, over plain lists
next : (s : List ℕ) (at : ℕ) (m : List ℕ) (i : ℕ) → at + 16 ≤ length s → i < 16 → m ≡ spliced (replicate 16 0) 0 (take i (take 16 (drop at s)))
    → set m i (get_or s (at + i) 0) ≡ spliced (replicate 16 0) 0 (take (i + 1) (take 16 (drop at s)))
next s at m i h k e =
    let n : length (take 16 (drop at s)) ≡ 16 = length_part s at 16 h in
    let x : get_or s (at + i) 0 ≡ get_or (take 16 (drop at s)) i 0 = sym (get_or-take 16 (drop at s) i 0 k ∙ get_or-drop at s i 0) in
    spliced_fill (replicate 16 0) (take 16 (drop at s)) m i (get_or s (at + i) 0) n (omega arith) x e

filled : (s : List ℕ) (at : ℕ) (m : List ℕ) (i : ℕ) → at + 16 ≤ length s → 16 ≤ i → m ≡ spliced (replicate 16 0) 0 (take i (take 16 (drop at s)))
    → m ≡ take 16 (drop at s)
filled s at m i h k e =
    let n : length (take 16 (drop at s)) ≡ 16 = length_part s at 16 h in
    spliced_filled (replicate 16 0) (take 16 (drop at s)) m i n (omega arith) e

pub loop-i-init : goal.loop-i-init
loop-i-init c = sym (spliced_nil (replicate 16 0) 0)

pub loop-i-preserved : goal.loop-i-preserved
loop-i-preserved c =
    let a = c.args in
    let l = c.loop-i in
    next a.s.now a.at l.ident l.i c.requires (omega arith) l.invariant

pub returns : goal.returns
returns c =
    let a = c.args in
    let l = c.loop-i in
    filled a.s.now a.at l.ident l.i c.requires (omega arith) l.invariant
