-- `Hdrr::new` meets its contract: after i turns the array holds the first i words, and zeros behind them.
-- Assumes nothing.
use native.Mathlib.Omega.{arith}
use Prim.Native.Nat.{ℕ, ◌+◌, ◌*◌, ◌≤◌, ◌<◌}
use mathlib.Core.Path.{◌≡◌, sym, ◌∙◌}
use mathlib.Core.List.{List}
use lib.ListN.{length, take, set}
use Rattle.base_lists.specs.Windows.{spliced}
use Rattle.elf_records.specs.Debug.{debug_at}
use lib.ListN.{replicate}
use Rattle.base_fields.specs.declared.ByteOrder.{ByteOrder}
use Rattle.base_fields.specs.Numbers.{number}
use Rattle.base_lists.proofs.Windows.{spliced_nil, spliced_fill, spliced_filled}
use Rattle.elf_records.proofs.Offsets.{debug_magic, debug_vstamp, debug_words, debug_word}
use Rattle.elf_records.proofs.debug.Hdrr.new.Goals as goal

-- a turn, and the end, over plain lists
next : (order : ByteOrder) (s : List ℕ) (at : ℕ) (m : List ℕ) (i x : ℕ) → i < 23 → x ≡ number order 4 s (at + 4 + 4 * i)
    → m ≡ spliced (replicate 23 0) 0 (take i (debug_at order s at).words) → set m i x ≡ spliced (replicate 23 0) 0 (take (i + 1) (debug_at order s at).words)
next order s at m i x k r e =
    let n : length (debug_at order s at).words ≡ 23 = debug_words order s at in
    spliced_fill (replicate 23 0) (debug_at order s at).words m i x n (omega arith) (r ∙ sym (debug_word order s at i k)) e

filled : (order : ByteOrder) (s : List ℕ) (at : ℕ) (m : List ℕ) (i : ℕ) → 23 ≤ i → m ≡ spliced (replicate 23 0) 0 (take i (debug_at order s at).words)
    → m ≡ (debug_at order s at).words
filled order s at m i k e =
    let n : length (debug_at order s at).words ≡ 23 = debug_words order s at in
    spliced_filled (replicate 23 0) (debug_at order s at).words m i n (omega arith) e

pub loop-i-init : goal.loop-i-init
loop-i-init c = sym (spliced_nil (replicate 23 0) 0)

pub loop-i-preserved : goal.loop-i-preserved
loop-i-preserved c =
    let a = c.args in
    let l = c.loop-i in
    next a.order a.s.now a.at l.words l.i c.read32.result (omega arith) c.read32.ensures l.invariant

pub returns : goal.returns
returns c =
    let a = c.args in
    let l = c.loop-i in
    λ k. record {
      magic = (c.read16-magic.ensures.0 ∙ sym (debug_magic a.order a.s.now a.at)) k;
      vstamp = (c.read16-vstamp.ensures.0 ∙ sym (debug_vstamp a.order a.s.now a.at)) k;
      words = filled a.order a.s.now a.at l.words l.i (omega arith) l.invariant k;
    }
