-- `elf_check::coded_contents` meets its contract: the view has the section of the code, or the section count. Assumes nothing.
use Rattle.elf_check.proofs.Views.{view_inside, view_contents, view_absent}
use mathlib.Core.Path.{refl}
use mathlib.Core.List.{[]}
use Rattle.elf_check.proofs.coded_contents.Goals as goal

pub contents_of-requires : goal.contents_of-requires
contents_of-requires c =
    let a = c.args in
    let p = c.requires in
    (p.0.named.headed, view_inside a.order a.file.now a.view p.0.is a.code _ _ p.1 p.2 c.section-i.ensures refl c.if-i-sections.true)

pub returns-then-i-sections : goal.returns-then-i-sections
returns-then-i-sections c =
    let a = c.args in
    let p = c.requires in
    view_contents a.order a.file.now a.view p.0.is a.code _ _ p.1 p.2 c.section-i.ensures refl _ c.if-i-sections.true c.contents_of.ensures

pub returns : goal.returns
returns c =
    let a = c.args in
    let p = c.requires in
    view_absent a.order a.file.now a.view p.0.is a.code _ _ p.1 p.2 c.section-i.ensures refl [] c.if-i-sections.false refl
