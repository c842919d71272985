-- A search for the first symbol table: no section before i is one. Assumes nothing.
use Rattle.base_lists.proofs.Ranges.{first_here, first_next, first_end}
use Rattle.elf_symbols.specs.Symbols.{is_symtab}
use Rattle.elf_symbols.proofs.Symbols.{symtab_found}
use native.Mathlib.Omega.{arith}
use mathlib.Core.Path.{◌≡◌, refl, sym, ◌∙◌}
use Rattle.elf_symbols.proofs.symtab_index.Goals as goal

pub loop-i-init : goal.loop-i-init
loop-i-init c = refl

pub returns-then-is_symtab : goal.returns-then-is_symtab
returns-then-is_symtab c =
    let a = c.args in
    let l = c.loop-i in
    let n = c.section_count-n in
    symtab_found a.order a.file.now n.result l.i n.ensures.0 (l.invariant ∙ first_here (is_symtab a.order a.file.now) l.i n.result (omega arith) (sym c.is_symtab.ensures ∙ c.if-is_symtab.true))

pub loop-i-preserved : goal.loop-i-preserved
loop-i-preserved c =
    let a = c.args in
    let l = c.loop-i in
    let n = c.section_count-n in
    l.invariant ∙ first_next (is_symtab a.order a.file.now) l.i n.result (omega arith) (sym c.is_symtab.ensures ∙ c.if-is_symtab.false)

pub returns : goal.returns
returns c =
    let a = c.args in
    let l = c.loop-i in
    let n = c.section_count-n in
    let e : l.i ≡ n.result = omega arith in
    symtab_found a.order a.file.now n.result n.result n.ensures.0 (l.invariant ∙ first_end (is_symtab a.order a.file.now) l.i n.result (omega arith) ∙ e)
