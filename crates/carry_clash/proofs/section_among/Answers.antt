-- Each name by its code. Assumes nothing.
use mathlib.Core.Path.{◌∙◌}
use Rattle.carry_clash.proofs.Joined.{among_text, among_data, among_rodata, among_bss}
use Rattle.carry_clash.proofs.section_among.Goals as goal

pub returns-then-code-eq-TEXT : goal.returns-then-code-eq-TEXT
returns-then-code-eq-TEXT c =
    let section-named = c.section_named in
    let args = c.args in
    let if1 = c.if-code-eq-TEXT in
    section-named.ensures ∙ among_text args.order args.compiled.now args.code args.text.now args.«data».now args.rodata.now args.bss.now if1.true

pub returns-then-code-eq-DATA : goal.returns-then-code-eq-DATA
returns-then-code-eq-DATA c =
    let section-named2 = c.section_named-then-code-eq-DATA in
    let args = c.args in
    let if1 = c.if-code-eq-TEXT in
    let if2 = c.if-code-eq-DATA in
    section-named2.ensures ∙ among_data args.order args.compiled.now args.code args.text.now args.«data».now args.rodata.now args.bss.now if1.false if2.true

pub returns-then-code-eq-RODATA : goal.returns-then-code-eq-RODATA
returns-then-code-eq-RODATA c =
    let section-named3 = c.section_named-then-code-eq-RODATA in
    let args = c.args in
    let if1 = c.if-code-eq-TEXT in
    let if2 = c.if-code-eq-DATA in
    let if3 = c.if-code-eq-RODATA in
    section-named3.ensures ∙ among_rodata args.order args.compiled.now args.code args.text.now args.«data».now args.rodata.now args.bss.now if1.false if2.false if3.true

pub returns : goal.returns
returns c =
    let section-named4 = c.section_named-2 in
    let args = c.args in
    let if1 = c.if-code-eq-TEXT in
    let if2 = c.if-code-eq-DATA in
    let if3 = c.if-code-eq-RODATA in
    section-named4.ensures ∙ among_bss args.order args.compiled.now args.code args.text.now args.«data».now args.rodata.now args.bss.now if1.false if2.false if3.false
