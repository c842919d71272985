-- A section of type NULL or NOBITS has no place. Assumes nothing.
use Rattle.write_object.proofs.Steps.{place_null, place_other}
use Rattle.write_object.proofs.has_place.Goals as goal

pub returns-then-h-eq-SHT_NULL : goal.returns-then-h-eq-SHT_NULL
returns-then-h-eq-SHT_NULL c = place_null c.args.h c.if-h-eq-SHT_NULL.true

pub returns : goal.returns
returns c = place_other c.args.h c.if-h-eq-SHT_NULL.false
