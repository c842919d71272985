-- An object that is accepted and short can be written anew. Assumes nothing.
use Rattle.std.proofs.Common.{arith, sym, ◌∙◌}
use Rattle.elf_check.proofs.Object.{check_in_lem}
use Rattle.elf_check.proofs.Sound.{passed_of}
use Rattle.write_object.proofs.Own.{own_ready}
use Rattle.prog_write_jobs.proofs.write_again.Goals as goal

pub rewrite-requires : goal.rewrite-requires
rewrite-requires c =
    let order = c.order_of-order.result in
    let file = c.args.file.now in
    let accepted = check_in_lem order file c.order_of-order.ensures ∙ sym c.check.ensures ∙ c.in-Ok.is in
    let passed = passed_of order file accepted in
    own_ready order file passed.header passed.sections (omega (arith, c.if-file-gt-FILE_LIMIT.false))
