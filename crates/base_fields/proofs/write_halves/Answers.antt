-- `base_fields::write_halves` meets its contract: after i turns the first i halves are written, one behind the other.
-- Assumes nothing.
use native.Mathlib.Omega.{arith}
use Prim.Native.Nat.{ℕ, ◌+◌, ◌*◌}
use mathlib.Core.Path.{◌≡◌, sym, ap, ◌∙◌}
use mathlib.Core.List.{List}
use lib.ListN.{get_or, take}
use Rattle.base_lists.specs.Windows.{spliced}
use Rattle.base_lists.specs.Records.{flat}
use Rattle.base_lists.proofs.Windows.{spliced_nil}
use Rattle.base_lists.proofs.Records.{flat_none, spliced_record}
use Rattle.base_fields.specs.Numbers.{encoded}
use Rattle.base_fields.proofs.Numbers.{length_encoded}
use lib.Seq.{take_all}
use Rattle.base_fields.proofs.write_halves.Goals as goal

pub loop-i-init : goal.loop-i-init
loop-i-init c =
    let a = c.args in
    sym (ap (spliced a.s.now a.at) (flat_none (encoded a.order 2)) ∙ spliced_nil a.s.now a.at)

pub write16-requires : goal.write16-requires
write16-requires c = (omega arith, c.requires.1 c.loop-i.i (omega arith))

pub loop-i-preserved : goal.loop-i-preserved
loop-i-preserved c =
    let a = c.args in
    let l = c.loop-i in
    c.write16.ensures
    ∙ ap (λ (x : List ℕ). spliced x (a.at + 2 * l.i) (encoded a.order 2 (get_or a.halves.now l.i 0))) l.invariant
    ∙ spliced_record (encoded a.order 2) 2 (length_encoded a.order 2) a.s.now a.at a.halves.now l.i 0 c.requires.0 (omega arith)

pub returns : goal.returns
returns c =
    let a = c.args in
    let l = c.loop-i in
    let t : take l.i a.halves.now ≡ a.halves.now = take_all l.i a.halves.now (omega arith) in
    l.invariant ∙ ap (λ (x : List ℕ). spliced a.s.now a.at (flat (encoded a.order 2) x)) t
