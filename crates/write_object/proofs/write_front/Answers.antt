-- The file's header is read, and written with its two new fields; its fields of two bytes fit since they were read from two bytes. Assumes nothing.
use Rattle.elf_readers.specs.Readers.{header}
use Rattle.write_object.proofs.Steps.{half_fields}
use Rattle.write_object.specs.Steps.{front_with}
use native.Mathlib.Omega.{arith}
use Rattle.write_object.proofs.write_front.Goals as goal

pub write-requires : goal.write-requires
unfolding front_with header
write-requires c =
    let a = c.args in
    (omega (arith, c.requires), rw c.new-h.ensures (half_fields a.order a.file.now (λ i. omega (arith, c.type_inv.file i)) a.shoff a.many c.requires.2))

pub returns : goal.returns
unfolding front_with header
returns c = rw c.new-h.ensures at c.write.ensures
