-- The kind of a section says what becomes of it. Assumes nothing.
use native.Mathlib.Omega.{arith}
use Rattle.base_lists.proofs.Written.{written_as}
use Rattle.merge_kept.proofs.Kept.{kept_le}
use Rattle.write_planned.specs.Held.{held_places}
use Rattle.write_planned.proofs.OwnKinds.{copied_low, own_same, own_symbols, own_strings, own_registers, own_copied}
use Rattle.write_planned.proofs.Own.{spans_same}
use Rattle.write_planned.proofs.append_own.Goals as goal

pub own_kind-requires : goal.own_kind-requires
own_kind-requires c =
    let v-pre = c.requires in
    let v-args = c.args in
    (v-pre.0.read.read.compiled, omega (arith, v-pre.1, v-pre.0.carried.stays, kept_le v-args.x.stage.inputs.order v-args.compiled.now v-args.x.flag))

pub append_contents-requires : goal.append_contents-requires
append_contents-requires c =
    let v-pre = c.requires in
    let v-args = c.args in (
      v-pre.0.read.read.compiled.named.headed,
      omega (
        arith,
        v-pre.1,
        v-pre.0.carried.stays,
        kept_le v-args.x.stage.inputs.order v-args.compiled.now
            v-args.x.flag,
      ),
      omega (arith, v-pre.2),
    )

pub append_numbered-requires : goal.append_numbered-requires
append_numbered-requires c =
    let v-pre = c.requires in
    (v-pre.0, v-pre.2)

pub append_symbol_strings-requires : goal.append_symbol_strings-requires
append_symbol_strings-requires c =
    let v-pre = c.requires in
    (v-pre.0, v-pre.2)

pub append_registers-requires : goal.append_registers-requires
append_registers-requires c =
    let v-pre = c.requires in
    (v-pre.0.read.read.compiled, v-pre.0.read.read.assembled, omega (arith, v-pre.2))

pub append_section-requires : goal.append_section-requires
append_section-requires c =
    let v-pre = c.requires in
    let v-args = c.args in
    let v-own-kind = c.own_kind in
    (v-pre.0, copied_low v-args.x.stage.inputs.order v-args.compiled.now v-args.i _ v-own-kind.ensures c.in-Copied.is, v-pre.2)

pub returns-in-Same : goal.returns-in-Same
returns-in-Same c =
    let v-args = c.args in
    let v-own-kind = c.own_kind in
    let v-append-contents = c.append_contents in
    let v-pre = c.requires in (
      written_as _ _ _ _ _ _ (own_same v-args.x.stage.inputs.order v-args.compiled.now v-args.assembled.now (held_places v-args.file.now v-args.places.now) v-args.file.now v-args.path.now v-args.x.flag v-args.x.manner.mode v-args.i _ v-own-kind.ensures
          c.in-Same.is) v-append-contents.ensures.0,
      omega (arith, v-append-contents.ensures.1, v-pre.0.read.read.compiled_small),
      spans_same _,
    )

pub returns-in-Symbols : goal.returns-in-Symbols
returns-in-Symbols c =
    let v-args =
    c.args in
    let v-own-kind = c.own_kind in
    let v-append-numbered = c.append_numbered in (
      written_as _ _ _ _ _ _ (own_symbols v-args.x.stage.inputs.order v-args.compiled.now v-args.assembled.now (held_places v-args.file.now v-args.places.now) v-args.file.now v-args.path.now v-args.x.flag v-args.x.manner.mode v-args.i _ v-own-kind.ensures
          c.in-Symbols.is) v-append-numbered.ensures.0,
      v-append-numbered.ensures.1,
      spans_same _,
    )

pub returns-in-Strings : goal.returns-in-Strings
returns-in-Strings c =
    let v-args =
    c.args in
    let v-own-kind = c.own_kind in
    let v-append-symbol-strings = c.append_symbol_strings in (
      written_as _ _ _ _ _ _ (own_strings v-args.x.stage.inputs.order v-args.compiled.now v-args.assembled.now (held_places v-args.file.now v-args.places.now) v-args.file.now v-args.path.now v-args.x.flag v-args.x.manner.mode v-args.i _ v-own-kind.ensures
          c.in-Strings.is) v-append-symbol-strings.ensures.0,
      v-append-symbol-strings.ensures.1,
      spans_same _,
    )

pub returns-in-Registers : goal.returns-in-Registers
returns-in-Registers c =
    let v-args = c.args in
    let v-own-kind = c.own_kind in
    let v-append-registers = c.append_registers in
    let v-pre = c.requires in (
      written_as _ _ _ _ _ _ (own_registers v-args.x.stage.inputs.order v-args.compiled.now v-args.assembled.now (held_places v-args.file.now v-args.places.now) v-args.file.now v-args.path.now v-args.x.flag v-args.x.manner.mode v-args.i _ v-own-kind.ensures
          c.in-Registers.is) v-append-registers.ensures.0,
      omega (arith, v-append-registers.ensures.1, v-pre.0.read.read.compiled_small),
      spans_same _,
    )

pub returns-in-Copied : goal.returns-in-Copied
returns-in-Copied c =
    let v-args =
    c.args in
    let v-own-kind = c.own_kind in
    let v-append-section = c.append_section in (
      written_as _ _ _ _ _ _ (own_copied v-args.x.stage.inputs.order v-args.compiled.now v-args.assembled.now (held_places v-args.file.now v-args.places.now) v-args.file.now v-args.path.now v-args.x.flag v-args.x.manner.mode v-args.i _ v-own-kind.ensures
          c.in-Copied.is) v-append-section.ensures.0,
      v-append-section.ensures.1,
      spans_same _,
    )
