-- `copy_spans::copy_few` meets its contract: so few blocks have no more spans than the list has records. Assumes nothing.
use native.Mathlib.Omega.{arith}
use Rattle.copy_spans.proofs.copy_few.Goals as goal

pub splice_section-requires : goal.splice_section-requires
splice_section-requires c =
    (c.requires.0, c.requires.1, c.requires.2, c.requires.3, omega (arith, c.few_spans-spans.ensures, c.requires.1, c.requires.4))

pub returns : goal.returns
returns c = c.splice_section.ensures
