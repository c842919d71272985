-- C's strings, A's, then those of the statics, each end below 2 ^ 62. Assumes nothing.
use native.Mathlib.Omega.{arith}
use Rattle.base_lists.proofs.Written.{written_then, written_as}
use Rattle.elf_symbols.proofs.Symbols.{names_up, names_inside, names_are}
use Rattle.elf_check.proofs.Views.{view_table}
use Rattle.write_strings.proofs.Strings.{strings_short, strings_written}
use Rattle.write_strings.proofs.append_strings.Goals as goal

pub strings_of-own-requires : goal.strings_of-own-requires
strings_of-own-requires c =
    let v-args = c.args in
    let v-pre = c.requires in
    let t = view_table v-args.order v-args.compiled.now v-args.target v-pre.0.is v-pre.0.tabled in
    (names_up v-args.order v-args.compiled.now v-args.target.symbols t, names_inside v-args.order v-args.compiled.now v-args.target.symbols t)

pub strings_of-other-requires : goal.strings_of-other-requires
strings_of-other-requires c =
    let v-args = c.args in
    let v-pre = c.requires in
    let t = view_table v-args.order v-args.assembled.now v-args.source v-pre.1.is v-pre.1.tabled in
    (names_up v-args.order v-args.assembled.now v-args.source.symbols t, names_inside v-args.order v-args.assembled.now v-args.source.symbols t)

pub append-end-requires : goal.append-end-requires
append-end-requires c =
    let v-args = c.args in
    let v-strings-of = c.strings_of-own in
    let v-strings-of2 = c.strings_of-other in
    let v-pre = c.requires in
    let v-append = c.append-next in
    let l = strings_short v-args.target.symbols v-args.compiled.now _ v-strings-of.ensures in
    let m = strings_short v-args.source.symbols v-args.assembled.now _ v-strings-of2.ensures in
    omega (arith, l, m, v-pre.2, v-pre.4, v-pre.5, v-append.ensures.end)

pub append_statics-requires : goal.append_statics-requires
append_statics-requires c =
    let v-args = c.args in
    let v-strings-of = c.strings_of-own in
    let v-strings-of2 = c.strings_of-other in
    let v-pre = c.requires in
    let v-append = c.append-next in
    let v-append2 = c.append-end in
    let l = strings_short v-args.target.symbols v-args.compiled.now _ v-strings-of.ensures in
    let m = strings_short v-args.source.symbols v-args.assembled.now _ v-strings-of2.ensures in
    (omega (arith, l, m, v-pre.2, v-pre.4, v-pre.5, v-append.ensures.end, v-append2.ensures.end), v-pre.3, v-pre.4, v-pre.6, v-pre.7)

pub returns : goal.returns
returns c =
    let v-args = c.args in
    let v-pre = c.requires in
    let v-strings-of = c.strings_of-own in
    let v-strings-of2 = c.strings_of-other in
    let v-append = c.append-next in
    let v-append2 = c.append-end in
    let v-append-statics = c.append_statics in
    let t = view_table v-args.order v-args.compiled.now v-args.target v-pre.0.is v-pre.0.tabled in
    let s = view_table v-args.order v-args.assembled.now v-args.source v-pre.1.is v-pre.1.tabled in
    let l = strings_short v-args.target.symbols v-args.compiled.now _ v-strings-of.ensures in
    let m = strings_short v-args.source.symbols v-args.assembled.now _ v-strings-of2.ensures in
    let a = written_as _ _ _ _ _ _ (names_are v-args.order v-args.compiled.now v-args.target.symbols t _ v-strings-of.ensures) v-append.ensures in
    let b = written_as _ _ _ _ _ _ (names_are v-args.order v-args.assembled.now v-args.source.symbols s _ v-strings-of2.ensures) v-append2.ensures in
    let w = written_then _ _ _ _ _ _ _ _ (written_then _ _ _ _ _ _ _ _ a b) v-append-statics.ensures.0 in (
      written_as _ _ _ _ _ _ (strings_written v-args.order v-args.compiled.now v-args.assembled.now v-args.mode v-args.path.now v-args.statics.now v-args.n) w,
      omega (arith, l, m, v-pre.4, v-pre.5, v-append.ensures.end, v-append2.ensures.end, v-append-statics.ensures.1),
    )
