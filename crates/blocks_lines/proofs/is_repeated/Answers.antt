-- `blocks_lines::is_repeated` meets its contract: each arm of the match is a range of the table's rows. Assumes nothing.
use Rattle.blocks_lines.proofs.Keys.{repeats_middle, repeats_late, repeats_low}
use Rattle.blocks_lines.specs.Keys.{keys, repeats}
use native.Mathlib.Omega.{arith}
use mathlib.Core.Path.{◌≡◌, sym}
use Rattle.blocks_lines.proofs.is_repeated.Goals as goal

pub returns-in-5 : goal.returns-in-5
returns-in-5 c = sym (repeats_middle c.args.k (omega arith) (omega arith))

pub returns-in-5-2 : goal.returns-in-5-2
returns-in-5-2 c = sym (repeats_late c.args.k (omega arith) (omega arith))

pub returns-in_default : goal.returns-in_default
returns-in_default c = sym (repeats_low c.args.k (omega arith))

pub returns-in_default-2 : goal.returns-in_default-2
unfolding repeats keys
returns-in_default-2 c =
    let e : c.args.k ≡ 7 = omega arith in
    rw e

pub returns-in_default-3 : goal.returns-in_default-3
unfolding repeats keys
returns-in_default-3 c =
    let e : c.args.k ≡ 10 = omega arith in
    rw e
