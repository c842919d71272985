-- The twelve tests, from the last to the first, make the chain of `field_fault`. Assumes nothing.
use Rattle.elf_header.specs.FileHeader.{field_fault}
use Rattle.elf_header.proofs.FileHeader.{expected_then}
use Rattle.elf_header.proofs.field_fault.Goals as goal

pub returns : goal.returns
unfolding field_fault
returns c = expected_then _ _ _ _ _ c.expected.ensures (expected_then _ _ _ _ _ c.expected-r-11.ensures (expected_then _ _ _ _ _ c.expected-r-10.ensures (expected_then _ _ _ _ _ c.expected-r-9.ensures (expected_then _ _ _ _ _ c.expected-r-8.ensures (expected_then _ _ _ _ _ c.expected-r-7.ensures (expected_then _ _ _ _ _ c.expected-r-6.ensures (expected_then _ _ _ _ _ c.expected-r-5.ensures (expected_then _ _ _ _ _ c.expected-r-4.ensures (expected_then _ _ _ _ _ c.expected-r-3.ensures (expected_then _ _ _ _ _ c.expected-r-2.ensures c.expected-r.ensures))))))))))
