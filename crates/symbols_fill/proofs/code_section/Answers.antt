-- A section of a code is one of few. Assumes nothing.
use native.Mathlib.Omega.{arith}
use borrow.Author.Rules.{rules}
use Rattle.symbols_fill.proofs.code_section.Goals as goal

pub overflow_cast-result : goal.overflow_cast-result
overflow_cast-result c = record { fits = omega (arith, c.section.ensures, c.requires.0 c.args.code c.requires.1 c.requires.2) }

pub returns : goal.returns
returns c = (search rules, omega (arith, c.section.ensures, c.requires.0 c.args.code c.requires.1 c.requires.2))
