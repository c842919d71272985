-- `blocks_values::are_numbers_sound` meets its contract: the size is the part up to the first space, and align8 the one behind it. Assumes nothing.
use Rattle.base_scope.specs.Limits.{NUMBER_LIMIT, ALIGN8_LIMIT}
use Rattle.blocks_values.specs.Values.{number_sound, label_in, after_label}
use Rattle.blocks_values.proofs.Values.{space_high, label_up_to, behind_space}
use native.Mathlib.Omega.{arith}
use mathlib.Core.Bool.{◌&&◌}
use mathlib.Core.Path.{◌≡◌, ap, ◌∙◌}
use Rattle.blocks_values.proofs.are_numbers_sound.Goals as goal

pub slice_bounds-is_number_sound-end : goal.slice_bounds-is_number_sound-end
slice_bounds-is_number_sound-end c = omega (arith, space_high c.args.v.now)

pub behind-requires : goal.behind-requires
behind-requires c = omega (arith, space_high c.args.v.now)

pub returns : goal.returns
returns c =
    let v = c.args.v.now in
    let s : c.is_number_sound-sized.result ≡ number_sound NUMBER_LIMIT (label_in v) =
    c.is_number_sound-sized.ensures ∙ ap (number_sound NUMBER_LIMIT) (label_up_to v c.space_in-e.result c.space_in-e.ensures) in
    let a : c.is_number_sound.result ≡ number_sound ALIGN8_LIMIT (after_label v) =
    c.is_number_sound.ensures ∙ ap (number_sound ALIGN8_LIMIT) (c.behind.ensures ∙ behind_space v c.space_in-e.result c.space_in-e.ensures) in
    c.both.ensures ∙ (λ k. s k && a k)
