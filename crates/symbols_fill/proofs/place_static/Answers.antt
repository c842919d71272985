-- The row is read once; its code has a section in C's view. Assumes nothing.
use Rattle.symbols_fill.proofs.Places.{place_static_lem}
use Rattle.symbols_fill.proofs.place_static.Goals as goal

pub code_section-requires : goal.code_section-requires
code_section-requires c =
    let q = c.requires in
    let e = c.read-s.ensures in
    (q.small, rw e q.code.0, rw e q.code.1)

pub returns : goal.returns
returns c =
    let a = c.args in
    (place_static_lem a.statics.now a.filling a.k _ _ _ c.read-s.ensures c.code_section.ensures.0 c.static_binding-binding.ensures.0, (c.static_binding-binding.ensures.1, c.code_section.ensures.1))
