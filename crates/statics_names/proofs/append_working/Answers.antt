-- The stored name, then the tail of its count. Assumes nothing.
use Rattle.base_lists.proofs.Written.{written_then, written_as}
use Rattle.statics_table.specs.Statics.{count_tail}
use Rattle.base_lists.proofs.Strings.{name_short}
use Rattle.statics_names.proofs.Names.{working_parts}
use native.Mathlib.Omega.{arith}
use Prim.Native.Nat.{ℕ}
use mathlib.Core.Path.{ap, ◌∙◌}
use mathlib.Core.List.{List, ◌++◌}
use lib.ListN.{length}
use Rattle.statics_names.proofs.append_working.Goals as goal

pub append-a-requires : goal.append-a-requires
append-a-requires c =
    let a = c.args in
    let q = c.requires in
    let n = name_short a.file.now a.s.start in
    let e = ap length c.name_at-name.ensures in
    omega arith

pub append_tail-requires : goal.append_tail-requires
append_tail-requires c =
    let a = c.args in
    let q = c.requires in
    let n = name_short a.file.now a.s.start in
    let e = ap length c.name_at-name.ensures in
    let r = c.append-a.ensures.end in
    omega arith

pub returns : goal.returns
returns c =
    let a = c.args in
    let e = ap (λ (x : List ℕ). x ++ count_tail a.s.number) c.name_at-name.ensures ∙ working_parts a.file.now a.s in
    written_as _ _ _ _ _ _ e (written_then _ _ _ _ _ _ _ _ c.append-a.ensures c.append_tail.ensures)
