-- A walk through the name's bucket: the symbols of the name before k have their new words, the other words have stayed; where a symbol of the name has its new word already,
-- all of the name have it. Assumes nothing.
use Rattle.base_scope.specs.Limits.{SYMBOL_LIMIT}
use Rattle.base_index.specs.Index.{bucket_of, hash_of, head_in}
use Rattle.base_index.proofs.Index.{next_far}
use Rattle.elf_symbols.specs.Symbols.{symbol_count, is_symbol_named}
use Rattle.elf_symbols.proofs.Symbols.{table_count, names_up, names_inside, entries_in}
use Rattle.symbols_glabels.proofs.Marks.{walked_none, walked_next, walked_stop, walked_end, uniform_named}
use Rattle.elf_index.proofs.Names.{named_hash}
use native.Mathlib.Omega.{arith}
use Prim.Native.Nat.{◌-◌}
use mathlib.Core.Path.{◌≡◌, refl, ◌∙◌}
use Rattle.symbols_glabels.proofs.mark_named.Goals as goal

pub strings_of-strings-requires : goal.strings_of-strings-requires
strings_of-strings-requires c =
    let a = c.args in
    (names_up a.order a.assembled.now a.symbols c.requires.0, names_inside a.order a.assembled.now a.symbols c.requires.0)

pub loop-k-init : goal.loop-k-init
loop-k-init c =
    let a = c.args in
    let e : c.head_of-k.result ≡ head_in SYMBOL_LIMIT a.index.now (bucket_of (symbol_count a.order a.assembled.now) (hash_of a.name.now)) =
    rw (c.head_of-k.ensures.0, table_count a.order a.assembled.now a.symbols c.requires.0, c.hash_of-hash.ensures) in
    rw e (walked_none (is_symbol_named a.order a.assembled.now a.name.now) a.put (hash_of a.name.now) a.index.now (symbol_count a.order a.assembled.now) SYMBOL_LIMIT a.marks.now
    (named_hash a.order a.assembled.now a.name.now a.index.now c.requires.1) c.requires.1.indexed)

pub mark_symbol-requires : goal.mark_symbol-requires
mark_symbol-requires c =
    let a = c.args in
    let l = c.loop-k in (
      entries_in a.order a.assembled.now a.symbols c.requires.0 a.symbols.at _ refl c.strings_of-strings.ensures,
      omega (arith, table_count a.order a.assembled.now a.symbols c.requires.0),
      c.requires.2,
      omega (arith, c.requires.3.room, l.invariant.long),
      c.requires.1,
      c.hash_of-hash.ensures,
    )

pub next_of-k-requires : goal.next_of-k-requires
next_of-k-requires c =
    let a = c.args in
    (c.requires.1.indexed.room, omega (arith, table_count a.order a.assembled.now a.symbols c.requires.0, c.requires.0.tabled.few))

pub loop-k-smaller : goal.loop-k-smaller
loop-k-smaller c =
    let a = c.args in
    let l = c.loop-k in
    let n = table_count a.order a.assembled.now a.symbols c.requires.0 in
    omega (arith, n, c.next_of-k.ensures.0, next_far SYMBOL_LIMIT a.index.now (symbol_count a.order a.assembled.now) l.k c.requires.1.indexed (omega (arith, n)))

pub loop-k-preserved : goal.loop-k-preserved
loop-k-preserved c =
    let a = c.args in
    let l = c.loop-k in
    let n = table_count a.order a.assembled.now a.symbols c.requires.0 in
    rw c.next_of-k.ensures.0
    (walked_next (is_symbol_named a.order a.assembled.now a.name.now) a.put (hash_of a.name.now) a.index.now (symbol_count a.order a.assembled.now) SYMBOL_LIMIT a.marks.now
    (named_hash a.order a.assembled.now a.name.now a.index.now c.requires.1) c.requires.1.indexed l.marks _ l.k (omega (arith, n)) l.invariant c.mark_symbol.ensures.marked)

pub shape_of-marks-then-not-mark_symbol : goal.shape_of-marks-then-not-mark_symbol
shape_of-marks-then-not-mark_symbol c = c.mark_symbol.ensures.marked.long ∙ c.loop-k.invariant.long

pub returns-then-not-mark_symbol : goal.returns-then-not-mark_symbol
returns-then-not-mark_symbol c =
    let a = c.args in
    let l = c.loop-k in
    let m = c.mark_symbol in
    let n = table_count a.order a.assembled.now a.symbols c.requires.0 in
    walked_stop (is_symbol_named a.order a.assembled.now a.name.now) a.put (hash_of a.name.now) a.index.now (symbol_count a.order a.assembled.now) SYMBOL_LIMIT a.marks.now
    (uniform_named a.order a.assembled.now a.name.now a.marks.now c.requires.3) l.marks _ l.k m.result (omega (arith, n)) l.invariant c.if-not-mark_symbol.true m.ensures

pub shape_of-marks : goal.shape_of-marks
shape_of-marks c = c.loop-k.invariant.long

pub returns : goal.returns
returns c =
    let a = c.args in
    let l = c.loop-k in
    walked_end (is_symbol_named a.order a.assembled.now a.name.now) a.put (hash_of a.name.now) a.index.now (symbol_count a.order a.assembled.now) SYMBOL_LIMIT a.marks.now
    l.marks l.k (omega (arith, table_count a.order a.assembled.now a.symbols c.requires.0)) l.invariant
