-- `base_names::is_ascii` meets its contract: every byte is at most 127, or one is not. Assumes nothing.
use Rattle.std.proofs.Common.{◌≤◌, ◌↔◌, IsTrue, EachIndex, slice_index, sym, ◌∙◌, rules}
use Rattle.base_lists.specs.Strings.{ascii}
use Rattle.base_lists.proofs.Strings.{ascii_all, ascii_true}
use Rattle.base_lists.proofs.Ranges.{by-test, both}
use Rattle.base_names.proofs.is_ascii.Goals as goal

pub returns : goal.returns
returns c =
    let s = c.args.s.now in
    let h : IsTrue c.all.result ↔ EachIndex s (λ k. slice_index s k ≤ 127) = search rules in
    by-test (ascii s)
    (λ y. h.1 (ascii_true s y) ∙ sym y)
    (λ n. by-test c.all.result (λ y. both (ascii_all s (h.0 y)) n) (λ f. f ∙ sym n))
