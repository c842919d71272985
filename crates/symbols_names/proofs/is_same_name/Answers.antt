-- The stored names and the tails of their counts are the working names; behind equal tails the stored names decide. Assumes nothing.
use Rattle.base_lists.specs.Strings.{same}
use Rattle.symbols_names.proofs.Tails.{same_stored}
use Rattle.symbols_names.proofs.Names.{rows_held, number_low, name_joined}
use native.Mathlib.Omega.{arith}
use mathlib.Core.Path.{◌∙◌}
use Rattle.symbols_names.proofs.is_same_name.Goals as goal

pub name_count-m-requires : goal.name_count-m-requires
name_count-m-requires c =
    let q = c.requires in
    (rows_held _ _ _ _ _ q.0, q.1)

pub name_count-n-requires : goal.name_count-n-requires
name_count-n-requires c =
    let q = c.requires in
    (rows_held _ _ _ _ _ q.0, q.2)

pub returns-then-m-n : goal.returns-then-m-n
returns-then-m-n c =
    let q = c.requires in
    let e = name_joined _ _ _ _ _ q.0 _ q.1 _ _ c.stored_name-a.ensures c.name_count-m.ensures in
    let f = name_joined _ _ _ _ _ q.0 _ q.2 _ _ c.stored_name-b.ensures c.name_count-n.ensures in
    c.same_bytes.ensures ∙ same_stored _ _ _ _ _ _ e f c.if-m-n.true

pub is_joined_same-requires : goal.is_joined_same-requires
is_joined_same-requires c =
    let q = c.requires in
    (omega (arith, c.name_count-m.ensures, number_low _ _ _ _ _ q.0 _ q.1), omega (arith, c.name_count-n.ensures, number_low _ _ _ _ _ q.0 _ q.2))

pub returns : goal.returns
returns c =
    let q = c.requires in
    let e = name_joined _ _ _ _ _ q.0 _ q.1 _ _ c.stored_name-a.ensures c.name_count-m.ensures in
    let f = name_joined _ _ _ _ _ q.0 _ q.2 _ _ c.stored_name-b.ensures c.name_count-n.ensures in
    c.is_joined_same.ensures ∙ (λ k. same (e k) (f k))
