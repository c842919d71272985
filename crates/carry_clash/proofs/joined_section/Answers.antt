-- By whether there are addends. Assumes nothing.
use mathlib.Core.Path.{sym, ap, ◌∙◌}
use mathlib.Core.Bool.{Bool, true, false}
use Rattle.base_scope.specs.Text.{text}
use Rattle.base_scope.specs.Codes.{code_name, section_codes}
use Rattle.elf_readers.specs.Readers.{section_named}
use Rattle.carry_clash.specs.Clash.{joined_name}
use Rattle.carry_clash.proofs.Joined.{names_of}
use Rattle.carry_clash.proofs.joined_section.Goals as goal

pub returns-then-rela : goal.returns-then-rela
unfolding joined_name code_name section_codes text
returns-then-rela c =
    let section-among = c.section_among in
    let args = c.args in
    let pre = c.requires in
    let if1 = c.if-rela in
    section-among.ensures ∙ ap (section_named args.order args.compiled.now) (names_of true args.code pre.1 pre.2 ∙ ap (λ (r : Bool). joined_name r args.code) (sym if1.true))

pub returns : goal.returns
unfolding joined_name code_name section_codes text
returns c =
    let section-among2 = c.section_among-2 in
    let args = c.args in
    let pre = c.requires in
    let if1 = c.if-rela in
    section-among2.ensures ∙ ap (section_named args.order args.compiled.now) (names_of false args.code pre.1 pre.2 ∙ ap (λ (r : Bool). joined_name r args.code) (sym if1.false))
