-- The bytes of the section, no longer than the file. Assumes nothing.
use native.Mathlib.Omega.{arith}
use mathlib.Core.Path.{ap}
use lib.ListN.{length}
use Rattle.base_lists.proofs.Written.{written_as}
use Rattle.elf_readers.proofs.Readers.{contents_short}
use Rattle.write_content.proofs.append_contents.Goals as goal

pub returns : goal.returns
returns c =
    let v-args = c.args in
    let v-contents-of = c.contents_of-part in
    let v-append = c.append in
    let n = contents_short v-args.order v-args.file.now v-args.i in
    (written_as _ _ _ _ _ _ v-contents-of.ensures v-append.ensures, omega (arith, n, ap length v-contents-of.ensures, v-append.ensures.end))
