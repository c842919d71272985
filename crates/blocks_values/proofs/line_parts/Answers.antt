-- `blocks_values::line_parts` meets its contract: the size stands between the two spaces and align8 behind them, and of a sound value each has at most seven digits.
-- Assumes nothing.
use Rattle.base_text.specs.Decimals.{decimal}
use Rattle.blocks_values.proofs.Values.{space_high, behind_space, size_up_to, align_behind, size_digits, align_digits, parts_read}
use native.Mathlib.Omega.{arith}
use mathlib.Core.Path.{◌≡◌, ap, ◌∙◌}
use Rattle.blocks_values.specs.Values.{after_label}
use Rattle.blocks_values.proofs.line_parts.Goals as goal
use Rattle.blocks_values.proofs.line_parts.Goals.{After-space_in-f}

-- what stands behind the label is the first part that is taken
rest_is : (c : After-space_in-f) → c.behind-rest.result.now ≡ after_label c.args.v.now
rest_is c =
    let s = c.space_in-e in
    c.behind-rest.ensures ∙ behind_space c.args.v.now s.result s.ensures

pub behind-rest-requires : goal.behind-rest-requires
behind-rest-requires c = omega (arith, space_high c.args.v.now)

pub slice_bounds-decimal_of-end : goal.slice_bounds-decimal_of-end
slice_bounds-decimal_of-end c = omega (arith, space_high c.behind-rest.result.now)

pub decimal_of-size-requires : goal.decimal_of-size-requires
decimal_of-size-requires c =
    let v = c.args.v.now in
    size_digits v c.requires _ (size_up_to v c.behind-rest.result.now c.space_in-f.result (rest_is (goal.at.decimal_of-size-requires c).After-space_in-f) c.space_in-f.ensures)

pub behind-requires : goal.behind-requires
behind-requires c = omega (arith, space_high c.behind-rest.result.now)

pub decimal_of-align8-requires : goal.decimal_of-align8-requires
decimal_of-align8-requires c =
    let v = c.args.v.now in
    align_digits v c.requires _ (c.behind.ensures ∙ align_behind v c.behind-rest.result.now c.space_in-f.result (rest_is (goal.at.decimal_of-align8-requires c).After-space_in-f) c.space_in-f.ensures)

pub returns : goal.returns
returns c =
    let v = c.args.v.now in
    let e = c.space_in-e in
    let rest = c.behind-rest.result.now in
    let f = c.space_in-f in
    let n = c.decimal_of-size in
    let m = c.decimal_of-align8 in
    parts_read v c.requires e.result n.result m.result e.ensures
    (n.ensures ∙ ap decimal (size_up_to v rest f.result (rest_is (goal.at.returns c).After-space_in-f) f.ensures))
    (m.ensures ∙ ap decimal (c.behind.ensures ∙ align_behind v rest f.result (rest_is (goal.at.returns c).After-space_in-f) f.ensures))
