-- 15 to 19; where none refuses, 20. Assumes nothing.
use mathlib.Core.Path.{refl}
use Rattle.base_answers.proofs.Answered.{answered_as, answered_refused}
use Rattle.merge_call.proofs.Stages.{read_after, moves_after, symbols_after, held_after, symbols_refused, symbols_numbered}
use Rattle.merge_call.proofs.merge_symbols.Goals as goal

pub merge_entries-requires : goal.merge_entries-requires
merge_entries-requires c =
    let a = c.args in
    let p = c.requires in
    let merge-symbols = c.merge_symbols in
    let e = merge-symbols.ensures in (
      read_after a.compiled.now a.assembled.now a.file.now a.path.now a.stage a.manner _ a.table.now _ a.places.now _ a.steps.now _ _ e p.0,
      moves_after a.compiled.now a.assembled.now a.file.now a.path.now a.stage a.manner _ a.table.now _ a.places.now _ a.steps.now _ _ e p.1,
      symbols_after a.compiled.now a.assembled.now a.file.now a.path.now a.stage a.manner _ a.table.now _ a.places.now _ a.steps.now _ _ e _ c.in-Ok.is,
      p.2,
      held_after a.compiled.now a.assembled.now a.file.now a.path.now a.stage a.manner _ a.table.now _ a.places.now _ a.steps.now _ _ e a.index.now p.3 merge-symbols.auto.index,
    )

pub returns-in-Ok : goal.returns-in-Ok
returns-in-Ok c =
    let a = c.args in
    let p = c.requires in
    let merge-symbols = c.merge_symbols in
    let merge-entries = c.merge_entries in
    answered_as _ _ _ _ _ (symbols_numbered a.compiled.now a.assembled.now a.file.now a.path.now a.stage a.manner _ a.table.now _ a.places.now _ a.steps.now _ _ merge-symbols.ensures p.2 a.flag _ _ c.in-Ok.is) merge-entries.ensures

pub returns-in-Err : goal.returns-in-Err
returns-in-Err c =
    let a = c.args in
    let p = c.requires in
    let merge-symbols = c.merge_symbols in
    let refusal = c.refused in
    answered_as _ _ _ _ _ (symbols_refused a.compiled.now a.assembled.now a.file.now a.path.now a.stage a.manner _ a.table.now _ a.places.now _ a.steps.now _ _ merge-symbols.ensures p.2 a.flag _ _ _ _ c.in-Err.is) (answered_refused _ _ _ _ _ _ refusal.ensures refl)
