-- After k turns the hashes of the first k names are put; then the index is built, which keeps them. Assumes nothing.
use Rattle.base_scope.specs.Limits.{SYMBOL_LIMIT}
use Rattle.base_index.proofs.Chains.{room_same}
use Rattle.elf_symbols.proofs.Symbols.{table_count, names_up, names_inside, entries_in}
use Rattle.elf_index.proofs.Names.{hashed_none, hashed_next, hashed_built}
use native.Mathlib.Omega.{arith}
use mathlib.Core.Path.{◌≡◌, refl}
use Rattle.elf_index.proofs.index_symbols.Goals as goal

pub strings_of-strings-requires : goal.strings_of-strings-requires
strings_of-strings-requires c =
    let a = c.args in
    (names_up a.order a.file.now a.symbols c.requires.0, names_inside a.order a.file.now a.symbols c.requires.0)

pub loop-k-init : goal.loop-k-init
loop-k-init c =
    let a = c.args in
    hashed_none a.order a.file.now a.index.now

pub put_name-requires : goal.put_name-requires
put_name-requires c =
    let a = c.args in
    let l = c.loop-k in
    let n = table_count a.order a.file.now a.symbols c.requires.0 in (
      entries_in a.order a.file.now a.symbols c.requires.0 a.symbols.at _ refl c.strings_of-strings.ensures,
      omega (arith, n),
      omega (arith, n, c.requires.0.tabled.few, c.requires.1.long, l.invariant.long),
    )

pub loop-k-preserved : goal.loop-k-preserved
loop-k-preserved c =
    let a = c.args in
    let l = c.loop-k in
    let n = table_count a.order a.file.now a.symbols c.requires.0 in
    hashed_next a.order a.file.now l.k a.index.now l.index _ (omega (arith, n, c.requires.0.tabled.few, c.requires.1.long)) l.invariant c.put_name.ensures

pub build-requires : goal.build-requires
build-requires c =
    let a = c.args in
    let l = c.loop-k in
    (room_same SYMBOL_LIMIT a.index.now l.index l.invariant.long c.requires.1, omega (arith, c.requires.0.tabled.few, table_count a.order a.file.now a.symbols c.requires.0))

pub returns : goal.returns
returns c =
    let a = c.args in
    let l = c.loop-k in
    let e : l.k ≡ a.symbols.count = omega arith in
    hashed_built a.order a.file.now a.symbols.count a.index.now l.index _ (table_count a.order a.file.now a.symbols c.requires.0) (rw e at l.invariant) c.build.ensures
