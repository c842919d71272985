-- The counts of both tables say whose symbol an id is. Assumes nothing.
use Rattle.symbols_entries.proofs.Ids.{symbols_few, own_held, own_strings, other_strings, other_held, static_held, origin_c, origin_a, origin_static}
use native.Mathlib.Omega.{arith}
use Rattle.symbols_entries.proofs.origin_entry.Goals as goal

pub compiled_entry-requires : goal.compiled_entry-requires
compiled_entry-requires c =
    let a = c.args in
    own_held a.order a.compiled.now a.assembled.now a.statics.now a.marks.now a.sources c.requires.0 a.id c.if-id-first.true

pub returns-then-id-first : goal.returns-then-id-first
returns-then-id-first c =
    let a = c.args in
    origin_c a.order a.compiled.now a.assembled.now a.statics.now a.marks.now a.sources c.requires.0.names a.mode a.section a.value a.id _ c.if-id-first.true c.compiled_entry.ensures

pub strings_length-base-requires : goal.strings_length-base-requires
strings_length-base-requires c =
    let a = c.args in
    own_strings a.order a.compiled.now a.assembled.now a.statics.now a.marks.now a.sources c.requires.0 a.id

pub overflow_add-behind : goal.overflow_add-behind
overflow_add-behind c =
    let a = c.args in
    record { fits = omega (arith, symbols_few a.order a.compiled.now a.assembled.now a.statics.now a.marks.now a.sources c.requires.0 a.id) }

pub assembled_entry-requires : goal.assembled_entry-requires
assembled_entry-requires c =
    let a = c.args in
    other_held a.order a.compiled.now a.assembled.now a.statics.now a.marks.now a.sources c.requires.0 a.id _ c.strings_length-base.ensures.1 c.if-id-first.false c.if-id-behind.true

pub returns-then-id-behind : goal.returns-then-id-behind
returns-then-id-behind c =
    let a = c.args in
    origin_a a.order a.compiled.now a.assembled.now a.statics.now a.marks.now a.sources c.requires.0.names a.mode a.section a.value a.id _ _ c.strings_length-base.ensures.0 c.if-id-first.false c.if-id-behind.true c.assembled_entry.ensures

pub strings_length-requires : goal.strings_length-requires
strings_length-requires c =
    let a = c.args in
    other_strings a.order a.compiled.now a.assembled.now a.statics.now a.marks.now a.sources c.requires.0 a.id

pub static_entry-requires : goal.static_entry-requires
static_entry-requires c =
    let a = c.args in
    static_held a.order a.compiled.now a.assembled.now a.statics.now a.marks.now a.sources c.requires.0 a.id _ (omega (arith, c.strings_length-base.ensures.1, c.strings_length.ensures.1)) c.if-id-behind.false c.requires.1

pub returns : goal.returns
returns c =
    let a = c.args in
    origin_static a.order a.compiled.now a.assembled.now a.statics.now a.marks.now a.sources c.requires.0.names a.mode a.section a.value a.id _ _ (omega (arith, c.strings_length-base.ensures.0, c.strings_length.ensures.0)) c.if-id-behind.false c.static_entry.ensures
