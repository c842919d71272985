-- `base_fields::write_words` meets its contract: after i turns the first i words are written, one behind the other.
-- Assumes nothing.
use native.Mathlib.Omega.{arith}
use Prim.Native.Nat.{ℕ, ◌+◌, ◌*◌}
use mathlib.Core.Path.{◌≡◌, sym, ap, ◌∙◌}
use mathlib.Core.List.{List}
use lib.ListN.{get_or, take}
use Rattle.base_lists.specs.Windows.{spliced}
use Rattle.base_lists.specs.Records.{flat}
use Rattle.base_lists.proofs.Windows.{spliced_nil}
use Rattle.base_lists.proofs.Records.{flat_none, spliced_record}
use Rattle.base_fields.specs.Numbers.{encoded}
use Rattle.base_fields.proofs.Numbers.{length_encoded}
use lib.Seq.{take_all}
use Rattle.base_fields.proofs.write_words.Goals as goal

pub loop-i-init : goal.loop-i-init
loop-i-init c =
    let a = c.args in
    sym (ap (spliced a.s.now a.at) (flat_none (encoded a.order 4)) ∙ spliced_nil a.s.now a.at)

pub loop-i-preserved : goal.loop-i-preserved
loop-i-preserved c =
    let a = c.args in
    let l = c.loop-i in
    c.write32.ensures
    ∙ ap (λ (x : List ℕ). spliced x (a.at + 4 * l.i) (encoded a.order 4 (get_or a.words.now l.i 0))) l.invariant
    ∙ spliced_record (encoded a.order 4) 4 (length_encoded a.order 4) a.s.now a.at a.words.now l.i 0 c.requires (omega arith)

pub returns : goal.returns
returns c =
    let a = c.args in
    let l = c.loop-i in
    let t : take l.i a.words.now ≡ a.words.now = take_all l.i a.words.now (omega arith) in
    l.invariant ∙ ap (λ (x : List ℕ). spliced a.s.now a.at (flat (encoded a.order 4) x)) t
