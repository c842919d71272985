-- A walk through the name's bucket: the search for the name has come as far as symbol k. Assumes nothing.
use Rattle.base_scope.specs.Limits.{SYMBOL_LIMIT}
use Rattle.base_index.specs.Index.{bucket_of, hash_of, head_in}
use Rattle.base_index.proofs.Index.{reach_first, reach_next, reach_here, reach_end, next_far}
use Rattle.elf_symbols.specs.Symbols.{symbol_count, is_symbol_named}
use Rattle.elf_symbols.proofs.Symbols.{named_found, table_count, names_up, names_inside, entries_in}
use Rattle.elf_index.proofs.Names.{named_hash}
use native.Mathlib.Omega.{arith}
use mathlib.Core.Path.{◌≡◌, refl, sym, ◌∙◌}
use mathlib.Core.List.{◌++◌}
use Rattle.elf_index.proofs.symbol_joined.Goals as goal

pub strings_of-strings-requires : goal.strings_of-strings-requires
strings_of-strings-requires c =
    let a = c.args in
    (names_up a.order a.file.now a.symbols c.requires.0, names_inside a.order a.file.now a.symbols c.requires.0)

pub head_of-k-requires : goal.head_of-k-requires
head_of-k-requires c = c.requires.1.indexed.room

pub loop-k-init : goal.loop-k-init
loop-k-init c =
    let a = c.args in
    let name = a.front.now ++ a.back.now in
    let e : c.head_of-k.result ≡ head_in SYMBOL_LIMIT a.index.now (bucket_of (symbol_count a.order a.file.now) (hash_of name)) =
    rw (c.head_of-k.ensures.0, table_count a.order a.file.now a.symbols c.requires.0, c.hash_joined-hash.ensures) in
    rw e (reach_first (is_symbol_named a.order a.file.now name) (hash_of name) a.index.now (symbol_count a.order a.file.now)
    (named_hash a.order a.file.now name a.index.now c.requires.1) SYMBOL_LIMIT c.requires.1.indexed)

pub is_joined-requires : goal.is_joined-requires
is_joined-requires c =
    let a = c.args in (
      entries_in a.order a.file.now a.symbols c.requires.0 a.symbols.at _ refl c.strings_of-strings.ensures,
      omega (arith, table_count a.order a.file.now a.symbols c.requires.0),
      c.requires.1,
      c.hash_joined-hash.ensures,
    )

pub returns-then-is_joined : goal.returns-then-is_joined
returns-then-is_joined c =
    let a = c.args in
    let l = c.loop-k in
    let n = table_count a.order a.file.now a.symbols c.requires.0 in
    let name = a.front.now ++ a.back.now in
    named_found a.order a.file.now name (symbol_count a.order a.file.now) l.k refl
    (reach_here (is_symbol_named a.order a.file.now name) (hash_of name) a.index.now (symbol_count a.order a.file.now) l.k l.invariant (omega (arith, n))
    (sym c.is_joined.ensures ∙ c.if-is_joined.true))

pub next_of-k-requires : goal.next_of-k-requires
next_of-k-requires c =
    let a = c.args in
    (c.requires.1.indexed.room, omega (arith, table_count a.order a.file.now a.symbols c.requires.0, c.requires.0.tabled.few))

pub loop-k-smaller : goal.loop-k-smaller
loop-k-smaller c =
    let a = c.args in
    let l = c.loop-k in
    let n = table_count a.order a.file.now a.symbols c.requires.0 in
    omega (arith, n, c.next_of-k.ensures.0, next_far SYMBOL_LIMIT a.index.now (symbol_count a.order a.file.now) l.k c.requires.1.indexed (omega (arith, n)))

pub loop-k-preserved : goal.loop-k-preserved
loop-k-preserved c =
    let a = c.args in
    let l = c.loop-k in
    let n = table_count a.order a.file.now a.symbols c.requires.0 in
    let name = a.front.now ++ a.back.now in
    rw c.next_of-k.ensures.0
    (reach_next (is_symbol_named a.order a.file.now name) (hash_of name) a.index.now (symbol_count a.order a.file.now)
    (named_hash a.order a.file.now name a.index.now c.requires.1) SYMBOL_LIMIT c.requires.1.indexed l.k l.invariant (omega (arith, n))
    (sym c.is_joined.ensures ∙ c.if-is_joined.false))

pub returns : goal.returns
returns c =
    let a = c.args in
    let l = c.loop-k in
    let n = table_count a.order a.file.now a.symbols c.requires.0 in
    let name = a.front.now ++ a.back.now in
    named_found a.order a.file.now name (symbol_count a.order a.file.now) a.symbols.count refl
    (reach_end (is_symbol_named a.order a.file.now name) (hash_of name) a.index.now (symbol_count a.order a.file.now) l.k l.invariant (omega (arith, n)) ∙ sym n)
