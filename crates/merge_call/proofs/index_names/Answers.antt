-- The index is the last table of its buffer. Assumes nothing.
use Rattle.elf_check.proofs.Views.{view_table}
use Rattle.merge_call.proofs.Stages.{names_room, names_put}
use Rattle.merge_call.proofs.index_names.Goals as goal

pub index_symbols-requires : goal.index_symbols-requires
index_symbols-requires c =
    let args = c.args in
    let pre = c.requires in
    let bound = c.bound-from in
    let bound2 = c.bound-to in
    (view_table args.inputs.order args.assembled.now args.inputs.assembled pre.0.is pre.0.tabled, names_room _ _ args.index.now bound.ensures bound2.ensures pre.1)

pub returns : goal.returns
returns c =
    let args = c.args in
    let pre = c.requires in
    let bound = c.bound-from in
    let bound2 = c.bound-to in
    let index-symbols = c.index_symbols in
    names_put _ _ args.index.now bound.ensures bound2.ensures pre.1 args.inputs.order args.assembled.now _ index-symbols.auto.index index-symbols.ensures
