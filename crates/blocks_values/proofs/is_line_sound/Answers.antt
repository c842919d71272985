-- `blocks_values::is_line_sound` meets its contract: an empty value is sound, and any other where it is a span. Assumes nothing.
use Rattle.blocks_values.proofs.Values.{section_empty, section_span}
use mathlib.Core.Path.{sym, ◌∙◌}
use Rattle.blocks_values.proofs.is_line_sound.Goals as goal

pub returns-then-v-eq0 : goal.returns-then-v-eq0
returns-then-v-eq0 c = sym (section_empty c.args.v.now c.if-v-eq0.true)

pub returns : goal.returns
returns c = c.is_span_sound.ensures ∙ sym (section_span c.args.v.now c.if-v-eq0.false)
