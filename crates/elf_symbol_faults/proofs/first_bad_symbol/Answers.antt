-- A search for the first symbol that is not as it must be: every symbol before k is. Assumes nothing.
use Rattle.base_lists.proofs.Ranges.{first_here, first_next, first_end}
use Rattle.elf_symbols.proofs.Symbols.{table_count, names_up, names_inside, entries_in}
use Rattle.elf_symbol_faults.specs.Faults.{bad_symbol}
use Rattle.elf_symbol_faults.proofs.Faults.{bad_yes, bad_no, bad_found}
use native.Mathlib.Omega.{arith}
use mathlib.Core.Path.{◌≡◌, refl, sym, ◌∙◌}
use Rattle.elf_symbol_faults.proofs.first_bad_symbol.Goals as goal

pub strings_of-strings-requires : goal.strings_of-strings-requires
strings_of-strings-requires c =
    let a = c.args in
    (names_up a.order a.file.now a.table c.requires, names_inside a.order a.file.now a.table c.requires)

pub section_count-sections-requires : goal.section_count-sections-requires
section_count-sections-requires c = c.requires.tabled.headed.whole

pub loop-k-init : goal.loop-k-init
loop-k-init c = refl

pub is_symbol_sound-requires : goal.is_symbol_sound-requires
is_symbol_sound-requires c =
    let a = c.args in (
      record {
        entries = entries_in a.order a.file.now a.table c.requires a.table.at _ refl c.strings_of-strings.ensures;
        past = c.past_last_zero-ends.ensures;
        known = c.section_count-sections.ensures.0;
      },
      omega (arith, table_count a.order a.file.now a.table c.requires),
    )

pub returns-then-not-is_symbol_sound : goal.returns-then-not-is_symbol_sound
returns-then-not-is_symbol_sound c =
    let a = c.args in
    let l = c.loop-k in
    let bad = sym c.is_symbol_sound.ensures ∙ c.if-not-is_symbol_sound.true in
    bad_found a.order a.file.now a.table.count l.k (table_count a.order a.file.now a.table c.requires) (l.invariant ∙ first_here (bad_symbol a.order a.file.now) l.k a.table.count (omega arith) (bad_yes a.order a.file.now l.k bad))

pub loop-k-preserved : goal.loop-k-preserved
loop-k-preserved c =
    let a = c.args in
    let l = c.loop-k in
    let sound = sym c.is_symbol_sound.ensures ∙ c.if-not-is_symbol_sound.false in
    l.invariant ∙ first_next (bad_symbol a.order a.file.now) l.k a.table.count (omega arith) (bad_no a.order a.file.now l.k sound)

pub returns : goal.returns
returns c =
    let a = c.args in
    let l = c.loop-k in
    let e : l.k ≡ a.table.count = omega arith in
    bad_found a.order a.file.now a.table.count a.table.count (table_count a.order a.file.now a.table c.requires) (l.invariant ∙ first_end (bad_symbol a.order a.file.now) l.k a.table.count (omega arith) ∙ e)
