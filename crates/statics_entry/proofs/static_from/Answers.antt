-- The six words of the static, each as it was read or computed; a readable name lies inside the file, so its place fits a word. Assumes nothing.
use Rattle.base_lists.specs.Strings.{name_at}
use Rattle.statics_debug.specs.Entries.{storage_code}
use Rattle.statics_table.specs.Table.{statics_in}
use Rattle.statics_entry.specs.Entry.{count_of, static_from}
use Rattle.statics_entry.proofs.Entry.{readable_parts}
use native.Mathlib.Omega.{arith}
use Prim.Native.Nat.{ℕ}
use mathlib.Core.Path.{◌≡◌, ap, ◌∙◌}
use mathlib.Core.List.{List}
use lib.ListN.{length}
use Rattle.statics_entry.proofs.static_from.Goals as goal

pub count_of-number-requires : goal.count_of-number-requires
count_of-number-requires c = c.requires.0

pub overflow_cast-result : goal.overflow_cast-result
overflow_cast-result c =
    let a = c.args in
    let s = readable_parts a.file.now a.start c.requires.2 in
    let e : length c.name_at-name.result.now ≡ length (name_at a.file.now a.start) = ap length c.name_at-name.ensures in
    record { fits = omega arith }

pub overflow_cast-result-2 : goal.overflow_cast-result-2
overflow_cast-result-2 c =
    let a = c.args in
    let s = readable_parts a.file.now a.start c.requires.2 in
    let e : length c.name_at-name.result.now ≡ length (name_at a.file.now a.start) = ap length c.name_at-name.ensures in
    record { fits = omega arith }

pub returns : goal.returns
unfolding static_from
returns c =
    let a = c.args in
    let s = readable_parts a.file.now a.start c.requires.2 in
    let e : length c.name_at-name.result.now ≡ length (name_at a.file.now a.start) = ap length c.name_at-name.ensures in
    let f = c.count_of-number.ensures in
    let number = f.0 ∙ ap (λ (x : List ℕ). count_of a.file.now (statics_in a.table.now a.tally.count) x a.nested) c.name_at-name.ensures in
    let code = c.storage_code.ensures.0 ∙ ap storage_code c.storage_class-class.ensures in (
      λ k. record { value = a.e.value; code = code k; start = a.start; length = e k; number = number k; offset = a.tally.size },
      omega arith,
      f.1,
    )
