-- An accepted object has its sections, names and symbols in hand. Assumes nothing.
use Rattle.std.proofs.Common.{sym, ◌∙◌}
use Rattle.prog_statics_jobs.proofs.Accepted.{accepted_sound}
use Rattle.prog_statics_jobs.proofs.run_object.Goals as goal

pub run_accepted-requires : goal.run_accepted-requires
run_accepted-requires g c =
    let accepted = sym c.check-answer.ensures ∙ c.in-Ok.is in
    let sound = accepted_sound c.args.file.now c.order_of-order.result accepted c.order_of-order.ensures in
    (sound.named, sound.tabled, c.requires.0, c.requires.1, c.requires.2)

pub print_sections-requires : goal.print_sections-requires
print_sections-requires g c =
    let accepted = sym c.check-answer.ensures ∙ c.in-Ok.is in
    (accepted_sound c.args.file.now c.order_of-order.result accepted c.order_of-order.ensures).named.headed
