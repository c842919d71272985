-- Each arm looks for the name in its row of the table of codes. Assumes nothing.
use Rattle.base_scope.specs.Codes.{code_name, section_codes}
use Rattle.base_scope.specs.Text.{text}
use Rattle.elf_readers.specs.Readers.{coded_section}
use native.Mathlib.Omega.{arith}
use mathlib.Core.Path.{◌≡◌, ap, ◌∙◌}
use Rattle.elf_readers.proofs.coded_section.Goals as goal

pub returns-in-1 : goal.returns-in-1
unfolding coded_section code_name section_codes text
returns-in-1 c =
    let a = c.args in
    let e : 1 ≡ a.code = omega arith in
    c.section_named.ensures ∙ ap (coded_section a.order a.file.now) e

pub returns-in-2 : goal.returns-in-2
unfolding coded_section code_name section_codes text
returns-in-2 c =
    let a = c.args in
    let e : 2 ≡ a.code = omega arith in
    c.section_named-in-2.ensures ∙ ap (coded_section a.order a.file.now) e

pub returns-in-3 : goal.returns-in-3
unfolding coded_section code_name section_codes text
returns-in-3 c =
    let a = c.args in
    let e : 3 ≡ a.code = omega arith in
    c.section_named-in-3.ensures ∙ ap (coded_section a.order a.file.now) e

pub returns-in-4 : goal.returns-in-4
unfolding coded_section code_name section_codes text
returns-in-4 c =
    let a = c.args in
    let e : 4 ≡ a.code = omega arith in
    c.section_named-in-4.ensures ∙ ap (coded_section a.order a.file.now) e

pub returns-in-5 : goal.returns-in-5
unfolding coded_section code_name section_codes text
returns-in-5 c =
    let a = c.args in
    let e : 5 ≡ a.code = omega arith in
    c.section_named-in-5.ensures ∙ ap (coded_section a.order a.file.now) e

pub returns-in_default : goal.returns-in_default
unfolding coded_section code_name section_codes text
returns-in_default c =
    let a = c.args in
    let e : 6 ≡ a.code = omega arith in
    c.section_named-in_default.ensures ∙ ap (coded_section a.order a.file.now) e
