-- The headers of C's sections that stay, by what is in hand. Assumes nothing.
use Prim.Native.Nat.{ℕ, ◌+◌, ◌≤◌, ◌<◌}
use mathlib.Core.Path.{◌≡◌, sym, ap, ◌∙◌}
use mathlib.Core.Bool.{true}
use mathlib.Core.List.{List}
use native.Mathlib.Omega.{arith}
use lib.ListN.{length}
use lib.Dec.{ltb}
use borrow.Author.Tests.{lt-ltb, eq-eqb, ne_eqb}
use Rattle.base_fields.specs.declared.ByteOrder.{ByteOrder}
use Rattle.base_scope.specs.Limits.{ID_LIMIT, POSITION_TABLE}
use Rattle.elf_records.specs.declared.section.SectionHeader.{SectionHeader}
use Rattle.elf_readers.specs.Readers.{section}
use Rattle.elf_symbols.specs.Symbols.{symtab}
use Rattle.elf_check.specs.declared.View.{View}
use Rattle.elf_check.specs.View.{view_of}
use Rattle.statics_table.specs.Statics.{name_head}
use Rattle.merge_buffers.specs.Buffers.{NUMBERS_AT}
use Rattle.base_buffers.proofs.Parts.{part_long}
use Rattle.merge_kept.specs.Kept.{kept}
use Rattle.symbols_merge.specs.Candidates.{Candidates}
use Rattle.symbols_merge.specs.Listed.{listed}
use Rattle.symbols_merge.specs.Merged.{LOCAL_GROUPS, is_merged, group_at_position, local_count}
use Rattle.symbols_ids.specs.Ids.{merge_candidates}
use Rattle.symbols_numbers.proofs.Counts.{grouped_few}
use Rattle.symbols_numbers.proofs.Result.{listed_few}
use Rattle.write_plan.specs.Plan.{new_names, kept_heading, new_heading, merged_plan}
use Rattle.write_planned.specs.declared.Writing.{Writing}
use Rattle.write_planned.specs.Held.{PlanHeld, held_places, held_own, held_plan, held_name_at}
use Rattle.write_planned.specs.Headings.{with_info}
use Rattle.write_planned.proofs.Planned.{strings_at}

local_few : (s : Candidates) → local_count s ≤ s.many + 1
unfolding local_count
local_few s = omega (arith, grouped_few (is_merged s) (group_at_position s) (length (listed s)) LOCAL_GROUPS, listed_few s)

module _ (C A B path : List ℕ) (x : Writing) (table places steps index : List ℕ) (h : PlanHeld C A B path x table places steps index) where
  abbrev o : ByteOrder
  o = x.stage.inputs.order

  abbrev candidates_at : ℕ → Candidates
  candidates_at n = merge_candidates o C A (held_places B places) B x.manner.mode n

  -- sh_info of the symbol table fits
  pub locals_fit : x.counts.locals ≤ ID_LIMIT + 1
  locals_fit = omega (
    arith,
    h.symbols.locals_are,
    local_few (candidates_at x.manner.head),
    h.symbols.numbers.long,
    part_long NUMBERS_AT POSITION_TABLE index (omega (arith, h.buffers.index_long_lem)),
  )

  locals_here : x.counts.locals ≡ local_count (candidates_at (length (name_head x.manner.mode path)))
  locals_here = h.symbols.locals_are ∙ ap (λ (n : ℕ). local_count (candidates_at n)) h.head

  table_at : x.stage.inputs.compiled.symtab ≡ symtab o C
  unfolding view_of
  table_at = ap (λ (v : View). v.symtab) h.read.read.compiled.is

  module _ (i : ℕ) (l : i < x.carry.stay) (e : SectionHeader) (read : e ≡ section o C i) where
    stays_here : ltb i (kept o C x.flag) ≡ true
    stays_here = lt-ltb i (kept o C x.flag) (rw (← h.carried.stays) l)

    pub heading_symbols : (n : ℕ) → n ≡ x.counts.locals → i ≡ x.stage.inputs.compiled.symtab → with_info e n ≡ (held_plan C A B path x places).heading i
    unfolding merged_plan kept_heading with_info
    heading_symbols n m t = rw (stays_here, eq-eqb i (symtab o C) (t ∙ table_at), ← locals_here, m, read)

    pub heading_other : (i ≡ x.stage.inputs.compiled.symtab → ⊥) → e ≡ (held_plan C A B path x places).heading i
    unfolding merged_plan kept_heading
    heading_other n = rw (stays_here, ne_eqb i (symtab o C) (λ t. n (t ∙ sym table_at)), read)

  -- where the name of a new section stands
  pub name_place : (i names first more : ℕ) → names ≡ x.stage.inputs.compiled.section_strings → first ≡ length (held_own C A B path x places names)
      → more ≡ length (new_names o C A (kept o C x.flag) i) → first + more ≡ held_name_at C A B path x places i
  unfolding new_heading
  name_place i names first more e f g = rw (f, g, e ∙ strings_at C A B path x table places steps index h)
