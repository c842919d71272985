-- A symbol of another hash has another name; else the entry is the symbol's, and its name is compared in the strings. Assumes nothing.
use Rattle.base_index.specs.Index.{hash_of}
use Rattle.base_index.proofs.Index.{other_hash}
use Rattle.elf_symbols.specs.Symbols.{symbol_count, is_symbol_named}
use Rattle.elf_symbols.proofs.Symbols.{named_read}
use Rattle.elf_index.proofs.Names.{named_hash}
use native.Mathlib.Omega.{arith}
use mathlib.Core.Path.{sym, ◌∙◌}
use Rattle.symbols_glabels.proofs.is_named.Goals as goal

pub hash_at-requires : goal.hash_at-requires
hash_at-requires c =
    let x = c.requires.2.indexed in
    omega (arith, c.requires.1, x.many, x.room.long)

pub returns-then-hash_at-hash : goal.returns-then-hash_at-hash
returns-then-hash_at-hash c =
    let a = c.args in
    let s = c.symbol_at-s in
    c.name_is.ensures ∙ named_read a.order a.assembled.now a.k s.result a.strings.now s.ensures c.requires.0.names a.name.now

pub returns : goal.returns
returns c =
    let a = c.args in
    let named = is_symbol_named a.order a.assembled.now a.name.now in
    sym
    (other_hash named (hash_of a.name.now) a.index.now (symbol_count a.order a.assembled.now)
    (named_hash a.order a.assembled.now a.name.now a.index.now c.requires.2) a.k c.requires.1
    (λ e. c.if-hash_at-hash.false (c.hash_at.ensures ∙ e ∙ sym c.requires.3)))
