-- e_shoff is the word at 32, and the headers of 40 bytes follow there. Assumes nothing.
use Rattle.elf_readers.proofs.Readers.{place_at}
use native.Mathlib.Omega.{arith}
use Prim.Native.Nat.{ℕ, ◌+◌, ◌*◌}
use mathlib.Core.Path.{sym, ap, ◌∙◌}
use Rattle.elf_readers.proofs.header_place.Goals as goal

pub returns : goal.returns
returns c =
    let a = c.args in
    (ap (λ (n : ℕ). n + 40 * a.i) c.read32.ensures ∙ sym (place_at a.order a.file.now a.i), omega arith)
