-- `blocks_lines::line_after` meets its contract: where the file does not begin with the key at `at`, the line is not its key's; else the line ends where it does
-- from behind the key, and is the key's if that end lies in the file and the value up to it is sound. Assumes nothing.
use Rattle.base_lists.specs.Strings.{prefixed}
use Rattle.base_lists.proofs.Windows.{tail_part}
use Rattle.blocks_lines.specs.Keys.{key_name}
use Rattle.blocks_lines.proofs.Lines.{end_low}
use Rattle.blocks_lines.proofs.Keys.{key_inside}
use Rattle.blocks_lines.proofs.After.{after_past, after_other, after_short, after_yes, after_no}
use native.Mathlib.Omega.{arith}
use Prim.Native.Nat.{ℕ, ◌+◌}
use mathlib.Core.Path.{◌≡◌, sym, ap, ◌∙◌}
use lib.ListN.{drop}
use Rattle.blocks_lines.proofs.line_after.Goals as goal
use Rattle.blocks_lines.proofs.line_after.Goals.{After-has_key}

-- the key is asked for at `at`
asked : (c : After-has_key)
    → c.has_key.result ≡ prefixed (key_name c.args.k) (drop c.args.at c.args.file.now)
asked c =
    let a = c.args in
    c.has_key.ensures ∙ ap (prefixed (key_name a.k)) (tail_part a.file.now a.at)

pub returns-then-at-file : goal.returns-then-at-file
returns-then-at-file c =
    let a = c.args in
    sym (after_past a.file.now a.k a.at (omega arith))

pub overflow_add-from : goal.overflow_add-from
overflow_add-from c =
    let a = c.args in
    omega (arith, c.key_length.ensures, key_inside a.file.now a.k a.at (omega arith) (sym (asked (goal.at.overflow_add-from c).After-has_key) ∙ c.if-has_key.true))

pub slice_bounds-is_value_sound-count : goal.slice_bounds-is_value_sound-count
slice_bounds-is_value_sound-count c =
    let a = c.args in
    omega (arith, c.line_end-e.ensures, end_low a.file.now (a.at + c.key_length.result))

pub slice_bounds-is_value_sound-start : goal.slice_bounds-is_value_sound-start
slice_bounds-is_value_sound-start c =
    let a = c.args in
    omega (arith, c.line_end-e.ensures, end_low a.file.now (a.at + c.key_length.result))

pub returns-then-is_value_sound : goal.returns-then-is_value_sound
returns-then-is_value_sound c =
    let a = c.args in
    let n = c.key_length in
    let e = c.line_end-e in
    let t = sym (asked (goal.at.returns-then-is_value_sound c).After-has_key) ∙ c.if-has_key.true in
    let from = ap (λ (m : ℕ). a.at + m) n.ensures in
    sym (after_yes a.file.now a.k a.at (omega arith) t c.requires (a.at + n.result) e.result from e.ensures
    c.if-e-file.true (sym c.is_value_sound.ensures ∙ c.if-is_value_sound.true))

pub returns-else-is_value_sound : goal.returns-else-is_value_sound
returns-else-is_value_sound c =
    let a = c.args in
    let n = c.key_length in
    let e = c.line_end-e in
    let t = sym (asked (goal.at.returns-else-is_value_sound c).After-has_key) ∙ c.if-has_key.true in
    let from = ap (λ (m : ℕ). a.at + m) n.ensures in
    sym (after_no a.file.now a.k a.at (omega arith) t c.requires (a.at + n.result) e.result from e.ensures
    c.if-e-file.true (sym c.is_value_sound.ensures ∙ c.if-is_value_sound.false))

pub returns-else-e-file : goal.returns-else-e-file
returns-else-e-file c =
    let a = c.args in
    let n = c.key_length in
    let e = c.line_end-e in
    let t = sym (asked (goal.at.returns-else-e-file c).After-has_key) ∙ c.if-has_key.true in
    let from = ap (λ (m : ℕ). a.at + m) n.ensures in
    sym (after_short a.file.now a.k a.at (omega arith) t c.requires (a.at + n.result) e.result from e.ensures (omega arith))

pub returns-else-has_key : goal.returns-else-has_key
returns-else-has_key c =
    let a = c.args in
    sym (after_other a.file.now a.k a.at (sym (asked (goal.at.returns-else-has_key c).After-has_key) ∙ c.if-has_key.false))
