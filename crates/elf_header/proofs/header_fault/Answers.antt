-- A short file has its length as the place; a whole header is tested field by field. Assumes nothing.
use Rattle.elf_header.specs.FileHeader.{field_fault}
use Rattle.elf_header.proofs.FileHeader.{header_short, header_whole}
use Rattle.elf_readers.specs.Readers.{header}
use native.Mathlib.Omega.{arith}
use mathlib.Core.Path.{ap, ◌∙◌}
use Rattle.elf_header.proofs.header_fault.Goals as goal

pub returns-then-file-lt-SIZE : goal.returns-then-file-lt-SIZE
returns-then-file-lt-SIZE c = header_short c.args.order c.args.file.now c.if-file-lt-SIZE.true

pub returns : goal.returns
unfolding header
returns c =
    let a = c.args in
    c.field_fault.ensures ∙ ap field_fault c.new.ensures ∙ header_whole a.order a.file.now (omega arith)
