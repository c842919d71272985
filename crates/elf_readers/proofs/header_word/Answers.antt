-- The header stands 40 bytes behind the one before it, inside the file by `Headed`. Assumes nothing.
use native.Mathlib.Omega.{arith}
use Prim.Native.Nat.{◌+◌, ◌*◌}
use mathlib.Core.Path.{◌≡◌, ap, ◌∙◌}
use Rattle.base_fields.specs.Numbers.{number}
use Rattle.elf_readers.specs.Readers.{header_place}
use Rattle.elf_readers.proofs.Readers.{place_from_lem}
use Rattle.elf_readers.proofs.header_word.Goals as goal

pub overflow_add-at : goal.overflow_add-at
overflow_add-at c =
    let a = c.args in
    omega (arith, c.requires.0.inside a.i c.requires.2, place_from_lem a.order a.file.now a.i)

pub overflow_add-at-2 : goal.overflow_add-at-2
overflow_add-at-2 c =
    let a = c.args in
    omega (arith, c.requires.0.inside a.i c.requires.2, place_from_lem a.order a.file.now a.i)

pub read32-requires : goal.read32-requires
read32-requires c =
    let a = c.args in
    omega (arith, c.requires.0.inside a.i c.requires.2, place_from_lem a.order a.file.now a.i)

pub returns : goal.returns
returns c =
    let a = c.args in
    let e : a.at + 40 * a.i + 4 * a.k ≡ header_place a.order a.file.now a.i + 4 * a.k = omega (arith, c.requires.1, place_from_lem a.order a.file.now a.i) in
    c.read32.ensures ∙ ap (number a.order 4 a.file.now) e
