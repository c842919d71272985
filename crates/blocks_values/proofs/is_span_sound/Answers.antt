-- `blocks_values::is_span_sound` meets its contract: a span begins with a label, and else the two numbers behind it decide. Assumes nothing.
use Rattle.blocks_values.proofs.Values.{space_high, behind_space, span_none, span_numbers}
use native.Mathlib.Omega.{arith}
use mathlib.Core.Path.{sym, ◌∙◌}
use Rattle.blocks_values.proofs.is_span_sound.Goals as goal

pub returns-then-e-eq0 : goal.returns-then-e-eq0
returns-then-e-eq0 c = sym (span_none c.args.v.now (sym c.space_in-e.ensures ∙ c.if-e-eq0.true))

pub behind-requires : goal.behind-requires
behind-requires c = omega (arith, space_high c.args.v.now)

pub returns : goal.returns
returns c =
    let v = c.args.v.now in
    let s = c.space_in-e in
    c.are_numbers_sound.ensures
    ∙ sym (span_numbers v (λ e. c.if-e-eq0.false (s.ensures ∙ e)) c.behind.result.now (c.behind.ensures ∙ behind_space v s.result s.ensures))
