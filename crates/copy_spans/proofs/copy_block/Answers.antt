-- `copy_spans::copy_block` meets its contract: at each `return` the tests that led there say which way of a record's turn it is. Assumes nothing.
use Rattle.base_lists.specs.Windows.{spliced}
use Rattle.copy_spans.proofs.Records.{block_other, block_short, block_lacking, block_copied}
use native.Mathlib.Omega.{arith}
use Prim.Native.Nat.{◌+◌, ◌-◌}
use mathlib.Core.Path.{◌≡◌}
use lib.ListN.{take, drop}
use Rattle.copy_spans.proofs.copy_block.Goals as goal

pub returns-then-x-code : goal.returns-then-x-code
returns-then-x-code c =
    let a = c.args in
    block_other a.x a.code a.section.now a.source.now c.if-x-code.true

pub returns-then-section-end : goal.returns-then-section-end
returns-then-section-end c =
    let a = c.args in
    block_short a.x a.code a.section.now a.source.now c.if-x-code.false c.if-section-end.true

pub returns-then-source-end : goal.returns-then-source-end
returns-then-source-end c =
    let a = c.args in
    block_lacking a.x a.code a.section.now a.source.now c.if-x-code.false c.if-section-end.false c.if-source-end.true

pub returns : goal.returns
returns c =
    let a = c.args in
    let e : a.x.place + a.x.size - a.x.place ≡ a.x.size = omega arith in
    let is : c.write_bytes.new.s ≡ spliced a.section.now a.x.place (take a.x.size (drop a.x.place a.source.now)) = rw (← e) c.write_bytes.ensures in
    block_copied a.x a.code a.section.now a.source.now _ c.if-x-code.false c.if-section-end.false c.if-source-end.false is
