-- 14; where it does not refuse, the symbols. Assumes nothing.
use mathlib.Core.Path.{refl, ◌∙◌}
use Rattle.write_merged.specs.of_write_planned.Held.{held_places}
use Rattle.merge_buffers.specs.Buffers.{blocks_part, places_part}
use lib.ListN.{length}
use Rattle.base_answers.proofs.Answered.{answered_as, answered_refused}
use Rattle.merge_sections.proofs.Sections.{searchable, finding_copied}
use Rattle.merge_verdict.proofs.Accepted.{answer_14, answer_moved}
use Rattle.merge_call.proofs.merge_late.Goals as goal

pub search_late-requires : goal.search_late-requires
search_late-requires c =
    let args = c.args in
    let pre = c.requires in
    (searchable args.compiled.now args.assembled.now args.file.now args.stage (blocks_part args.table.now) (places_part args.places.now) pre.0, pre.2.table_long, pre.2.places_long, pre.2.steps_long_lem)

pub merge_symbols-requires : goal.merge_symbols-requires
merge_symbols-requires c =
    let pre = c.requires in
    let search-late = c.search_late in
    (pre.0, search-late.ensures.moves c.in-None.is, pre.1, record { table_long = pre.2.table_long; places_long = pre.2.places_long; steps_long_lem = rw search-late.auto.steps pre.2.steps_long_lem; index_long_lem = pre.2.index_long_lem }, pre.3)

pub returns-in-None : goal.returns-in-None
returns-in-None c =
    let args = c.args in
    let search-late = c.search_late in
    let pre = c.requires in
    let merge-symbols = c.merge_symbols in
    answered_as _ _ _ _ _ (answer_moved args.stage.inputs.order args.compiled.now args.assembled.now (held_places args.file.now args.places.now) args.file.now args.path.now args.flag args.manner.mode (length args.out.now) _ (search-late.ensures.answer ∙ finding_copied args.compiled.now args.assembled.now args.file.now args.stage (blocks_part args.table.now) (places_part args.places.now) pre.0) c.in-None.is) merge-symbols.ensures

pub returns-in-Some : goal.returns-in-Some
returns-in-Some c =
    let args = c.args in
    let search-late = c.search_late in
    let pre = c.requires in
    let refusal = c.refused in
    answered_as _ _ _ _ _ (answer_14 args.stage.inputs.order args.compiled.now args.assembled.now (held_places args.file.now args.places.now) args.file.now args.path.now args.flag args.manner.mode (length args.out.now) _ (search-late.ensures.answer ∙ finding_copied args.compiled.now args.assembled.now args.file.now args.stage (blocks_part args.table.now) (places_part args.places.now) pre.0) _ c.in-Some.is) (answered_refused _ _ _ _ _ _ refusal.ensures refl)
