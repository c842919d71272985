-- A search for the first name that is not sound: none before i is. Assumes nothing.
use Rattle.base_lists.specs.Ranges.{first}
use Rattle.base_lists.proofs.Ranges.{first_here, first_next, first_end}
use Rattle.elf_sections.specs.Names.{bad_name}
use Rattle.elf_sections.proofs.Names.{bad_name_true, bad_name_false}
use native.Mathlib.Omega.{arith}
use mathlib.Core.Path.{◌≡◌, refl, sym, ap, ◌∙◌}
use Rattle.elf_sections.proofs.first_bad_name.Goals as goal

pub loop-i-init : goal.loop-i-init
loop-i-init c = refl

pub is_name_sound-requires : goal.is_name_sound-requires
is_name_sound-requires c = (
  record { headed = c.requires.headed; table = c.section_strings-strings.ensures; past = c.past_last_zero-ends.ensures },
  c.header_place-headers.ensures.0,
  omega arith,
)

pub returns-then-not-is_name_sound : goal.returns-then-not-is_name_sound
returns-then-not-is_name_sound c =
    let a = c.args in
    let l = c.loop-i in
    let p = bad_name a.order a.file.now in
    let n = c.section_count-n.result in
    sym (ap (first p 0) (sym c.section_count-n.ensures.0) ∙ l.invariant ∙ first_here p l.i n (omega arith) (bad_name_true a.order a.file.now l.i (sym c.is_name_sound.ensures ∙ c.if-not-is_name_sound.true)))

pub loop-i-preserved : goal.loop-i-preserved
loop-i-preserved c =
    let a = c.args in
    let l = c.loop-i in
    let n = c.section_count-n.result in
    l.invariant ∙ first_next (bad_name a.order a.file.now) l.i n (omega arith) (bad_name_false a.order a.file.now l.i (sym c.is_name_sound.ensures ∙ c.if-not-is_name_sound.false))

pub returns : goal.returns
returns c =
    let a = c.args in
    let l = c.loop-i in
    let p = bad_name a.order a.file.now in
    let n = c.section_count-n.result in
    let e : l.i ≡ n = omega arith in
    sym (ap (first p 0) (sym c.section_count-n.ensures.0) ∙ l.invariant ∙ first_end p l.i n (omega arith) ∙ e)
