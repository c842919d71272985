-- Behind what the table of section names holds stand the names before it. Assumes nothing.
use mathlib.Core.Path.{refl}
use Rattle.write_planned.proofs.Held.{held_still}
use Rattle.write_planned.proofs.Headings.{name_place}
use Rattle.write_planned.proofs.new_name_at.Goals as goal

pub own_size-first-requires : goal.own_size-first-requires
own_size-first-requires c =
    let v-pre = c.requires in
    (v-pre.0, v-pre.1)

pub opened_size-more-requires : goal.opened_size-more-requires
opened_size-more-requires c =
    let v-args = c.args in
    let v-pre = c.requires in
    let v-own-size = c.own_size-first in (
      held_still v-args.compiled.now v-args.assembled.now v-args.file.now v-args.path.now v-args.x v-args.table.now v-args.places.now
          v-args.steps.now v-args.index.now v-pre.0 _ v-own-size.ensures.2,
      v-pre.2,
    )

pub returns : goal.returns
returns c =
    let v-args = c.args in
    let v-pre = c.requires in
    let v-own-size = c.own_size-first in
    let v-opened-size = c.opened_size-more in (
      name_place v-args.compiled.now v-args.assembled.now v-args.file.now v-args.path.now v-args.x v-args.table.now v-args.places.now
          v-args.steps.now v-args.index.now v-pre.0 v-args.i _ _ _ refl v-own-size.ensures.0 v-opened-size.ensures.0,
      v-own-size.ensures.2,
    )
