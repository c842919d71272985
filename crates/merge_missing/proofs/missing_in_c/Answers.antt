-- `merge_missing::missing_in_c` meets its contract: before each turn the search goes on as from the first code. Assumes nothing.
use Rattle.base_lists.proofs.Ranges.{first_next}
use Rattle.base_scope.specs.Codes.{CODES}
use Rattle.blocks_places.specs.Lines.{line_count}
use Rattle.blocks_places.specs.Table.{places_in}
use Rattle.blocks_spans.proofs.Table.{ends_code}
use Rattle.merge_missing.specs.Missing.{missing_c}
use Rattle.merge_missing.proofs.Ends.{lowest_here, lowest_none}
use Prim.Native.Nat.{◌+◌}
use mathlib.Core.Path.{refl, sym, ◌∙◌}
use native.Mathlib.Omega.{arith}
use Rattle.merge_missing.proofs.missing_in_c.Goals as goal

pub loop-code-init : goal.loop-code-init
loop-code-init c = (omega arith, omega arith, refl)

pub is_missing_c-requires : goal.is_missing_c-requires
is_missing_c-requires c =
    let a = c.args in
    let P = places_in a.places.now (line_count a.file.now) in
    let l = c.loop-code in
    (c.requires.0, record { low = l.invariant.0; high = c.loop-code-test.true; ends = (ends_code P a.file.now a.ends l.code c.requires.1 c.loop-code-test.true).1; runs = c.requires.2 })

pub returns-then-is_missing_c : goal.returns-then-is_missing_c
returns-then-is_missing_c c =
    let a = c.args in
    let P = places_in a.places.now (line_count a.file.now) in
    let l = c.loop-code in
    lowest_here (missing_c a.inputs.order a.compiled.now a.assembled.now P a.file.now) l.code l.invariant.2 c.loop-code-test.true (sym c.is_missing_c.ensures ∙ c.if-is_missing_c.true)

pub loop-code-preserved : goal.loop-code-preserved
loop-code-preserved c =
    let a = c.args in
    let P = places_in a.places.now (line_count a.file.now) in
    let l = c.loop-code in
    (omega (arith, l.invariant.0), omega (arith, c.loop-code-test.true), l.invariant.2 ∙ first_next (missing_c a.inputs.order a.compiled.now a.assembled.now P a.file.now) l.code (CODES + 1) (omega (arith, c.loop-code-test.true)) (sym c.is_missing_c.ensures ∙ c.if-is_missing_c.false))

pub returns : goal.returns
returns c =
    let a = c.args in
    let P = places_in a.places.now (line_count a.file.now) in
    let l = c.loop-code in
    lowest_none (missing_c a.inputs.order a.compiled.now a.assembled.now P a.file.now) l.code l.invariant.2 c.loop-code-test.false
