-- The hash of A's symbol is known; else the stored name and the tail of its count are the working name. Assumes nothing.
use mathlib.Core.Path.{sym, ap, ◌∙◌}
use native.Mathlib.Omega.{arith}
use lib.Dec.{leb, ltb}
use borrow.Author.Tests.{leb-true, ltb-true}
use Rattle.base_lists.proofs.Ranges.{and_parts}
use Rattle.base_index.specs.Index.{hash_of}
use Rattle.symbols_names.specs.Names.{first_in}
use Rattle.symbols_names.proofs.Names.{rows_held, other_count, number_low, name_joined}
use Rattle.symbols_holders.proofs.Tables.{known_is}
use Rattle.symbols_holders.proofs.name_hash.Goals as goal

pub is_assembled-requires : goal.is_assembled-requires
is_assembled-requires c =
    (rows_held _ _ _ _ _ c.requires.0).symbols

pub overflow_sub-id : goal.overflow_sub-id
overflow_sub-id c =
    let a = c.args in
    let t = and_parts (leb a.sources.compiled.count a.id) (ltb a.id (first_in a.sources)) (sym c.is_assembled.ensures ∙ c.if-is_assembled.true) in
    omega (arith, leb-true a.sources.compiled.count a.id t.0)

pub known_hash-requires : goal.known_hash-requires
known_hash-requires c =
    let a = c.args in
    let t = and_parts (leb a.sources.compiled.count a.id) (ltb a.id (first_in a.sources)) (sym c.is_assembled.ensures ∙ c.if-is_assembled.true) in
    omega (arith, leb-true a.sources.compiled.count a.id t.0, ltb-true a.id (first_in a.sources) t.1, c.requires.2.room, other_count _ _ _ _ _ c.requires.0)

pub returns-then-is_assembled : goal.returns-then-is_assembled
returns-then-is_assembled c =
    let a = c.args in
    let t = and_parts (leb a.sources.compiled.count a.id) (ltb a.id (first_in a.sources)) (sym c.is_assembled.ensures ∙ c.if-is_assembled.true) in
    known_is a.order a.compiled.now a.assembled.now a.statics.now a.sources a.index.now a.known a.id _ c.requires.0 c.requires.2 (leb-true _ _ t.0) (ltb-true _ _ t.1) c.known_hash.ensures

pub name_count-count-requires : goal.name_count-count-requires
name_count-count-requires c =
    let q = c.requires in
    (rows_held _ _ _ _ _ q.0, q.1)

pub joined_hash-requires : goal.joined_hash-requires
joined_hash-requires c =
    let q = c.requires in
    omega (arith, c.name_count-count.ensures, number_low _ _ _ _ _ q.0 _ q.1)

pub returns : goal.returns
returns c =
    let q = c.requires in
    c.joined_hash.ensures
    ∙ ap hash_of (name_joined _ _ _ _ _ q.0 _ q.1 _ _ c.stored_name-stored.ensures c.name_count-count.ensures)
