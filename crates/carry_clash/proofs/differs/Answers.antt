-- The type, then the target. Assumes nothing.
use mathlib.Core.Path.{ap, ◌∙◌}
use Prim.Native.Nat.{ℕ}
use mathlib.Core.Bool.{not}
use lib.Dec.{eqb}
use Rattle.carry_clash.proofs.Joined.{other_kind, other_target}
use Rattle.carry_clash.proofs.differs.Goals as goal

pub returns-then-h-kind : goal.returns-then-h-kind
returns-then-h-kind c =
    let section_at_lem = c.section_at-h in
    let section = c.section in
    let args = c.args in
    let if1 = c.if-h-kind in
    let pre = c.requires in
    ap (λ (x : ℕ). not (eqb section_at_lem.result.sh_info x)) section.ensures ∙ other_target args.order args.compiled.now args.kind args.code args.j _ section_at_lem.ensures if1.true args.view pre.0.is pre.1 pre.2

pub returns : goal.returns
returns c =
    let args = c.args in
    let section_at_lem = c.section_at-h in
    let if1 = c.if-h-kind in
    other_kind args.order args.compiled.now args.kind args.code args.j _ section_at_lem.ensures if1.false
