-- `base_fields::write_bytes` meets its contract: after i turns the first i bytes are written, and the rest of the slice is as it was.
-- Assumes nothing.
use native.Mathlib.Omega.{arith}
use Prim.Native.Nat.{ℕ, ◌+◌}
use mathlib.Core.Path.{◌≡◌, sym, ap, ◌∙◌}
use mathlib.Core.List.{List}
use lib.ListN.{get_or, take, set}
use Rattle.base_lists.specs.Windows.{spliced}
use Rattle.base_lists.proofs.Windows.{spliced_nil, spliced_copy}
use lib.Seq.{take_all}
use Rattle.base_fields.proofs.write_bytes.Goals as goal

pub loop-i-init : goal.loop-i-init
loop-i-init c = sym (spliced_nil c.args.s.now c.args.at)

pub loop-i-preserved : goal.loop-i-preserved
loop-i-preserved c =
    let a = c.args in
    let l = c.loop-i in
    ap (λ (x : List ℕ). set x (a.at + l.i) (get_or a.bytes.now l.i 0)) l.invariant ∙ spliced_copy a.s.now a.at a.bytes.now l.i c.requires (omega arith)

pub returns : goal.returns
returns c =
    let a = c.args in
    let l = c.loop-i in
    let t : take l.i a.bytes.now ≡ a.bytes.now = take_all l.i a.bytes.now (omega arith) in
    l.invariant ∙ ap (spliced a.s.now a.at) t
