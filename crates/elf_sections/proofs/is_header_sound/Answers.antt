-- The conjuncts of `header_sound`, from the last to the first. Assumes nothing.
use Rattle.elf_sections.specs.Headers.{header_sound, unlinked}
use Rattle.base_scope.specs.Limits.{ALIGN_LIMIT}
use mathlib.Core.Bool.{◌&&◌}
use mathlib.Core.Path.{◌∙◌}
use lib.Dec.{leb}
use Rattle.elf_sections.proofs.is_header_sound.Goals as goal

pub returns : goal.returns
unfolding header_sound unlinked
returns c =
    let a = c.args in
    let inside = c.has_bytes_inside.ensures in
    let entries = c.has_whole_entries.ensures in
    let held = c.both-held.ensures ∙ (λ k. inside k && leb a.h.sh_addralign ALIGN_LIMIT) in
    let whole = c.both-whole.ensures ∙ (λ k. entries k && held k) in
    let rest = c.both-unlinked.ensures ∙ (λ k. unlinked a.h && whole k) in
    c.both.ensures ∙ (λ k. c.is_null_section_sound.ensures k && rest k)
