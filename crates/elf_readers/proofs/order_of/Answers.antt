-- Each arm is a case of `order_of`: too short a file has no EI_DATA. Assumes nothing.
use Rattle.elf_readers.proofs.Readers.{order_short, order_little, order_big}
use Rattle.elf_readers.proofs.order_of.Goals as goal

pub returns-then-file-le5 : goal.returns-then-file-le5
returns-then-file-le5 c = order_short c.args.file.now c.if-file-le5.true

pub returns-then-file-eq-ELFDATA2LSB : goal.returns-then-file-eq-ELFDATA2LSB
returns-then-file-eq-ELFDATA2LSB c = order_little c.args.file.now c.if-file-eq-ELFDATA2LSB.true

pub returns : goal.returns
returns c = order_big c.args.file.now c.if-file-eq-ELFDATA2LSB.false
