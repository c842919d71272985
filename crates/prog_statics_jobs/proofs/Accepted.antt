-- An accepted object has its sections, their names and its symbol table in hand. Assumes nothing.
use Rattle.std.proofs.Common.{◌≡◌, ℕ, List}
use Rattle.base_fields.specs.declared.ByteOrder.{ByteOrder}
use Rattle.elf_readers.specs.Readers.{order_of}
use Rattle.elf_check.specs.Object.{Accepted, check_of}
use Rattle.elf_check.specs.Sound.{Sound}
use Rattle.elf_check.proofs.Sound.{accepted}

pub accepted_sound : (F : List ℕ) (o : ByteOrder) → check_of F ≡ Accepted → o ≡ order_of F → Sound o F
accepted_sound F o e f = rw f (accepted F e)
