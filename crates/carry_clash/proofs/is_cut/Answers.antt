-- One cause behind the other. Assumes nothing.
use Rattle.carry_clash.proofs.Cut.{cut_stale, cut_leads, cut_missed}
use Rattle.carry_clash.proofs.is_cut.Goals as goal

pub returns-then-is_stale : goal.returns-then-is_stale
returns-then-is_stale c =
    let args = c.args in
    let is-stale = c.is_stale in
    let if1 = c.if-is_stale in
    cut_stale args.order args.compiled.now args.i args.stay _ is-stale.ensures if1.true

pub returns-then-leads_out : goal.returns-then-leads_out
returns-then-leads_out c =
    let args = c.args in
    let is-stale = c.is_stale in
    let if1 = c.if-is_stale in
    let leads-out = c.leads_out in
    let if2 = c.if-leads_out in
    cut_leads args.order args.compiled.now args.i args.stay _ is-stale.ensures if1.false _ leads-out.ensures if2.true

pub returns : goal.returns
returns c =
    let args = c.args in
    let is-stale = c.is_stale in
    let if1 = c.if-is_stale in
    let leads-out = c.leads_out in
    let if2 = c.if-leads_out in
    let is-missed = c.is_missed in
    cut_missed args.order args.compiled.now args.i args.stay _ is-stale.ensures if1.false _ leads-out.ensures if2.false _ is-missed.ensures
