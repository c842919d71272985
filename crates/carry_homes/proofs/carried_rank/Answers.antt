-- By cases of the code. Assumes nothing.
use Rattle.carry_homes.proofs.Tables.{rank_data, rank_text, rank_other}
use Rattle.carry_homes.proofs.carried_rank.Goals as goal

pub returns-then-code-eq-DATA : goal.returns-then-code-eq-DATA
returns-then-code-eq-DATA c =
    let if1 = c.if-code-eq-DATA in
    rank_data _ if1.true

pub returns-then-code-eq-TEXT : goal.returns-then-code-eq-TEXT
returns-then-code-eq-TEXT c =
    let if1 = c.if-code-eq-DATA in
    let if2 = c.if-code-eq-TEXT in
    rank_text _ if1.false if2.true

pub returns : goal.returns
returns c =
    let if1 = c.if-code-eq-DATA in
    let if2 = c.if-code-eq-TEXT in
    rank_other _ if1.false if2.false
