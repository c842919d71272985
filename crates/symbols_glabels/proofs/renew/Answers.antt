-- The word read is made new, and written back where that changes it. Assumes nothing.
use Rattle.base_lists.specs.Windows.{spliced}
use Rattle.base_fields.specs.declared.ByteOrder.TheVariants.{Big}
use Rattle.base_fields.specs.Numbers.{encoded}
use Rattle.base_scope.specs.Limits.{SYMBOL_LIMIT}
use Rattle.symbols_glabels.specs.Words.{mark_in, new_word}
use Rattle.symbols_glabels.proofs.Marks.{visit_new, visit_same}
use native.Mathlib.Omega.{arith}
use Prim.Native.Nat.{ℕ, ◌*◌}
use mathlib.Core.Path.{◌≡◌, sym, ap, ◌∙◌}
use Rattle.symbols_glabels.proofs.renew.Goals as goal

pub returns-then-new-word : goal.returns-then-new-word
unfolding mark_in
returns-then-new-word c =
    let a = c.args in
    visit_new a.put a.k SYMBOL_LIMIT a.marks.now _ (omega (arith, c.requires.1, c.requires.2))
    (c.write32.ensures
    ∙ ap (λ (w : ℕ). spliced a.marks.now (4 * a.k) (encoded Big 4 w)) (c.new_word-new.ensures ∙ ap (new_word a.put) c.read32-word.ensures))

pub returns : goal.returns
unfolding mark_in
returns c =
    let a = c.args in
    let r = c.read32-word.ensures in
    let e : c.new_word-new.result ≡ c.read32-word.result = omega arith in
    visit_same a.put a.k SYMBOL_LIMIT a.marks.now (ap (new_word a.put) (sym r) ∙ sym c.new_word-new.ensures ∙ e ∙ r)
