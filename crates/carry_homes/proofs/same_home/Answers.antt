-- By the two names. Assumes nothing.
use Rattle.carry_homes.proofs.Steps.{same_told}
use Rattle.carry_homes.proofs.same_home.Goals as goal

pub returns : goal.returns
returns c =
    let args = c.args in
    let home_name_lem = c.home_name-own in
    let home-name2 = c.home_name-other in
    let same_name = c.same_name in
    same_told args.order args.assembled.now args.j args.i _ _ _ home_name_lem.ensures.0 home-name2.ensures.0 home_name_lem.ensures.1 home_name_lem.ensures.2
    home-name2.ensures.1 home-name2.ensures.2 same_name.ensures
