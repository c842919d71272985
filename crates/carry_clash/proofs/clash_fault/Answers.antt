-- The lower of both places. Assumes nothing.
use Rattle.symbols_taken.proofs.of_elf_check.Views.{view_count}
use Rattle.merge_kept.proofs.Kept.{kept_le}
use Rattle.carry_clash.proofs.Joined.{clash_found}
use Rattle.carry_clash.proofs.clash_fault.Goals as goal

pub first_clash-clash-requires : goal.first_clash-clash-requires
first_clash-clash-requires c =
    let pre = c.requires in
    let kept-count = c.kept_count-stay in
    let args = c.args in
    (pre.0, pre.1, rw kept-count.ensures (kept_le args.order args.compiled.now args.flag))

pub returns : goal.returns
returns c =
    let args = c.args in
    let found_below = c.found_below in
    let pre = c.requires in
    let kept-count = c.kept_count-stay in
    let first-cut = c.first_cut-cut in
    let first-clash = c.first_clash-clash in
    let lower = c.lower in
    clash_found args.order args.compiled.now args.assembled.now args.flag _ _ _ _ _ _ found_below.ensures (view_count args.order args.compiled.now args.target pre.0.is) kept-count.ensures first-cut.ensures first-clash.ensures lower.ensures
