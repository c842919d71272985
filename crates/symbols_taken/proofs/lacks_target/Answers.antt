-- The two indices that are no section's, then the target. Assumes nothing.
use Rattle.symbols_taken.proofs.Faults.{lacks_undefined, lacks_absolute, lacks_read}
use Rattle.symbols_taken.proofs.lacks_target.Goals as goal

pub returns-then-s-eq-SHN_UNDEF : goal.returns-then-s-eq-SHN_UNDEF
returns-then-s-eq-SHN_UNDEF c =
    let a = c.args in
    lacks_undefined a.compiled a.assembled a.s c.if-s-eq-SHN_UNDEF.true

pub returns-then-s-eq-SHN_ABS : goal.returns-then-s-eq-SHN_ABS
returns-then-s-eq-SHN_ABS c =
    let a = c.args in
    lacks_absolute a.compiled a.assembled a.s c.if-s-eq-SHN_UNDEF.false c.if-s-eq-SHN_ABS.true

pub returns : goal.returns
returns c =
    let a = c.args in
    lacks_read a.compiled a.assembled a.s c.if-s-eq-SHN_UNDEF.false _ c.if-s-eq-SHN_ABS.false c.has_target.ensures
