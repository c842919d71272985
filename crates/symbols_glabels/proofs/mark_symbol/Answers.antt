-- The word is made new where the symbol has the name, and no other changes. Assumes nothing.
use Rattle.base_scope.specs.Limits.{SYMBOL_LIMIT}
use Rattle.elf_symbols.specs.Symbols.{symbol_count, is_symbol_named}
use Rattle.symbols_glabels.proofs.Marks.{visit_yes, visit_no}
use native.Mathlib.Omega.{arith}
use mathlib.Core.Path.{sym, ◌∙◌}
use Rattle.symbols_glabels.proofs.mark_symbol.Goals as goal

pub renew-requires : goal.renew-requires
renew-requires c =
    (omega (arith, c.requires.2), omega (arith, c.requires.1, c.requires.0.tabled.few), c.requires.3)

pub returns-then-is_named : goal.returns-then-is_named
returns-then-is_named c =
    let a = c.args in
    visit_yes a.put a.k SYMBOL_LIMIT a.marks.now (is_symbol_named a.order a.assembled.now a.name.now) (symbol_count a.order a.assembled.now) c.renew.result _
    (sym c.is_named.ensures ∙ c.if-is_named.true) c.requires.0.tabled.few c.renew.ensures

pub returns : goal.returns
returns c =
    let a = c.args in
    visit_no a.put a.k (symbol_count a.order a.assembled.now) a.marks.now (is_symbol_named a.order a.assembled.now a.name.now) (sym c.is_named.ensures ∙ c.if-is_named.false)
