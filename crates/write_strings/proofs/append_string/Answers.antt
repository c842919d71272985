-- The written name, then a zero byte. Assumes nothing.
use native.Mathlib.Omega.{arith}
use Rattle.base_lists.proofs.Written.{written_then, written_as}
use Rattle.write_strings.proofs.Strings.{written_short, string_parts, string_short}
use Rattle.write_strings.proofs.append_string.Goals as goal

pub append-requires : goal.append-requires
append-requires c =
    let v-args = c.args in
    let v-pre = c.requires in
    let v-append-written = c.append_written-end in
    let n = written_short v-args.mode v-args.path.now v-args.compiled.now v-args.s in
    omega (arith, n, v-pre.0, v-pre.1, v-pre.2, v-append-written.ensures.end)

pub returns : goal.returns
returns c =
    let v-args = c.args in
    let v-append-written = c.append_written-end in
    let v-append = c.append in
    let v-pre = c.requires in
    let w = written_as _ _ _ _ _ _ (string_parts v-args.mode v-args.path.now v-args.compiled.now v-args.s) (written_then _ _ _ _ _ _ _ _ v-append-written.ensures v-append.ensures) in
    let n = string_short v-args.mode v-args.path.now v-args.compiled.now v-args.s in
    (w, omega (arith, n, w.end, v-pre.1, v-pre.2))
