-- `late_runs::has_moved_on` meets its contract: the tests say which case of `moved_on` holds. Assumes nothing.
use Rattle.late_runs.proofs.Words.{on_later, on_alone, on_near, on_is}
use Rattle.late_runs.proofs.has_moved_on.Goals as goal

pub returns-then-k-ne0 : goal.returns-then-k-ne0
returns-then-k-ne0 c =
    let a = c.args in
    let p = c.requires in
    on_later a.order a.file.now a.rodata.now a.i a.count a.k a.last a.p c.if-k-ne0.true

pub returns-then-count-lt2 : goal.returns-then-count-lt2
returns-then-count-lt2 c =
    let a = c.args in
    let p = c.requires in
    on_alone a.order a.file.now a.rodata.now a.i a.count a.k a.last a.p c.if-count-lt2.true

pub returns-then-p-last : goal.returns-then-p-last
returns-then-p-last c =
    let a = c.args in
    let p = c.requires in
    on_near a.order a.file.now a.rodata.now a.i a.count a.k a.last a.p c.if-p-last.true

pub returns : goal.returns
returns c =
    let a = c.args in
    let p = c.requires in
    on_is a.order a.file.now a.rodata.now a.i a.count a.k a.last a.p c.dummy_word-word.result c.is_word_at.result c.if-k-ne0.false c.if-count-lt2.false c.if-p-last.false c.dummy_word-word.ensures c.is_word_at.ensures
