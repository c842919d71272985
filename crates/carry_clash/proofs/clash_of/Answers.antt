-- Each way through the tests. Assumes nothing.
use native.Mathlib.Omega.{arith}
use mathlib.Core.Path.{◌∙◌}
use Rattle.symbols_taken.proofs.of_elf_check.Views.{view_count}
use Rattle.carry_clash.proofs.Joined.{goal_low, clash_left, clash_empty, clash_past, clash_same, clash_other}
use Rattle.carry_clash.proofs.clash_of.Goals as goal

pub joined_section-j-requires : goal.joined_section-j-requires
joined_section-j-requires c =
    let args = c.args in
    let is_Carried = c.is_carried in
    let if1 = c.if-is_carried in
    let section_at_lem = c.section_at-h in
    let if2 = c.if-h-gt0 in
    let pre = c.requires in
    let code_of_lem = c.code_of in
    let target_code = c.target_code-code in
    let l = goal_low args.order args.compiled.now args.assembled.now args.stay args.t _ is_Carried.ensures if1.true _ section_at_lem.ensures if2.true args.source pre.1.is _ code_of_lem.ensures.0 _ target_code.ensures code_of_lem.ensures.1 in
    (pre.0.named, l.0, l.1)

pub differs-requires : goal.differs-requires
differs-requires c =
    let args = c.args in
    let is_Carried = c.is_carried in
    let if1 = c.if-is_carried in
    let section_at_lem = c.section_at-h in
    let if2 = c.if-h-gt0 in
    let pre = c.requires in
    let code_of_lem = c.code_of in
    let target_code = c.target_code-code in
    let if3 = c.if-j-stay in
    let l = goal_low args.order args.compiled.now args.assembled.now args.stay args.t _ is_Carried.ensures if1.true _ section_at_lem.ensures if2.true args.source pre.1.is _ code_of_lem.ensures.0 _ target_code.ensures code_of_lem.ensures.1 in
    (pre.0, l.0, omega (arith, l.1), omega (arith, if3.true, pre.2))

pub returns-then-differs : goal.returns-then-differs
returns-then-differs c =
    let args = c.args in
    let is_Carried = c.is_carried in
    let if1 = c.if-is_carried in
    let section_at_lem = c.section_at-h in
    let if2 = c.if-h-gt0 in
    let pre = c.requires in
    let code_of_lem = c.code_of in
    let target_code = c.target_code-code in
    let is_rela_lem = c.is_rela-rela in
    let joined-section = c.joined_section-j in
    let if3 = c.if-j-stay in
    let differs = c.differs in
    let if4 = c.if-differs in
    clash_other args.order args.compiled.now args.assembled.now args.stay args.t _ is_Carried.ensures if1.true _ section_at_lem.ensures if2.true args.source pre.1.is _ code_of_lem.ensures.0 _ target_code.ensures _ is_rela_lem.ensures _ joined-section.ensures if3.true _ differs.ensures if4.true

pub returns-else-differs : goal.returns-else-differs
returns-else-differs c =
    let args = c.args in
    let pre = c.requires in
    let is_Carried = c.is_carried in
    let if1 = c.if-is_carried in
    let section_at_lem = c.section_at-h in
    let if2 = c.if-h-gt0 in
    let code_of_lem = c.code_of in
    let target_code = c.target_code-code in
    let is_rela_lem = c.is_rela-rela in
    let joined-section = c.joined_section-j in
    let if3 = c.if-j-stay in
    let differs = c.differs in
    let if4 = c.if-differs in
    view_count args.order args.compiled.now args.target pre.0.is ∙ clash_same args.order args.compiled.now args.assembled.now args.stay args.t _ is_Carried.ensures if1.true _ section_at_lem.ensures if2.true args.source pre.1.is _ code_of_lem.ensures.0 _ target_code.ensures _ is_rela_lem.ensures _ joined-section.ensures if3.true _ differs.ensures if4.false

pub returns-else-j-stay : goal.returns-else-j-stay
returns-else-j-stay c =
    let args = c.args in
    let pre = c.requires in
    let is_Carried = c.is_carried in
    let if1 = c.if-is_carried in
    let section_at_lem = c.section_at-h in
    let if2 = c.if-h-gt0 in
    let code_of_lem = c.code_of in
    let target_code = c.target_code-code in
    let is_rela_lem = c.is_rela-rela in
    let joined-section = c.joined_section-j in
    let if3 = c.if-j-stay in
    view_count args.order args.compiled.now args.target pre.0.is ∙ clash_past args.order args.compiled.now args.assembled.now args.stay args.t _ is_Carried.ensures if1.true _ section_at_lem.ensures if2.true args.source pre.1.is _ code_of_lem.ensures.0 _ target_code.ensures _ is_rela_lem.ensures _ joined-section.ensures if3.false

pub returns-else-h-gt0 : goal.returns-else-h-gt0
returns-else-h-gt0 c =
    let args = c.args in
    let pre = c.requires in
    let is_Carried = c.is_carried in
    let if1 = c.if-is_carried in
    let section_at_lem = c.section_at-h in
    let if2 = c.if-h-gt0 in
    view_count args.order args.compiled.now args.target pre.0.is ∙ clash_empty args.order args.compiled.now args.assembled.now args.stay args.t _ is_Carried.ensures if1.true _ section_at_lem.ensures if2.false

pub returns-else-is_carried : goal.returns-else-is_carried
returns-else-is_carried c =
    let args = c.args in
    let pre = c.requires in
    let is_Carried = c.is_carried in
    let if1 = c.if-is_carried in
    view_count args.order args.compiled.now args.target pre.0.is ∙ clash_left args.order args.compiled.now args.assembled.now args.stay args.t _ is_Carried.ensures if1.false
