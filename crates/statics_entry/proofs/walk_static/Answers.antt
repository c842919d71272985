-- A static that can be listed is added; else the entry is at fault. Assumes nothing.
use Rattle.statics_table.specs.Table.{statics_in}
use Rattle.statics_table.proofs.Table.{length_statics}
use Rattle.statics_entry.proofs.Entry.{listable_read, listable_told, walked_added, walked_refused}
use Prim.Native.Nat.{◌+◌}
use mathlib.Core.Path.{refl, sym, ◌∙◌}
use Rattle.statics_entry.proofs.walk_static.Goals as goal

pub add_static-requires : goal.add_static-requires
add_static-requires c =
    let a = c.args in
    let q = c.requires in
    let told = listable_told a.file.now a.setting.view _ (a.base + c.new-e.result.name) a.tally.count (sym c.is_listable.ensures ∙ c.if-is_listable.true) in
    (q.1, q.0.small, q.0.short, told.1, told.0)

pub returns-then-is_listable : goal.returns-then-is_listable
returns-then-is_listable c =
    let a = c.args in
    let q = c.requires in
    let e = c.new-e in
    let t = c.is_listable.ensures in
    let l = listable_read a.order a.file.now a.setting.view q.0.view (statics_in a.table.now a.tally.count) a.base a.at (a.base + e.result.name)
    a.tally.count _ e.result _ t c.storage_class-class.ensures e.ensures refl (sym (length_statics a.table.now a.tally.count)) in
    let told = listable_told a.file.now a.setting.view _ (a.base + e.result.name) a.tally.count (sym t ∙ c.if-is_listable.true) in
    walked_added a.order a.file.now a.table.now a.setting.head a.base a.at a.nested a.tally q.1 e.result (a.base + e.result.name) q.2 q.4
    (sym l ∙ c.if-is_listable.true) e.ensures refl _ _ told.1 c.add_static.ensures

pub returns : goal.returns
returns c =
    let a = c.args in
    let q = c.requires in
    let e = c.new-e in
    let t = c.is_listable.ensures in
    let l = listable_read a.order a.file.now a.setting.view q.0.view (statics_in a.table.now a.tally.count) a.base a.at (a.base + e.result.name)
    a.tally.count _ e.result _ t c.storage_class-class.ensures e.ensures refl (sym (length_statics a.table.now a.tally.count)) in
    walked_refused a.order a.file.now a.table.now a.setting.head a.base a.at a.nested a.tally q.1 _ q.2 q.4 (sym l ∙ c.if-is_listable.false) c.stop.ensures
