-- The plan in hand: how many sections it has, that its object has less than 2 ^ 32 bytes, and which of its sections can move. Assumes nothing.
use Rattle.std.specs.Prelude.{None, Some}
use Prim.Native.Nat.{ℕ, ◌+◌, ◌-◌, ◌*◌, ◌^◌, ◌≤◌, ◌<◌}
use mathlib.Core.Path.{◌≡◌, refl, sym, ap, ◌∙◌}
use mathlib.Core.Logic.{◌≢◌, ◌⊎◌, inl, inr, ⊎_elim}
use mathlib.Core.Bool.{Bool, true, false, cond}
use mathlib.Core.List.{List}
use native.Mathlib.Omega.{arith}
use lib.ListN.{length, length-append}
use lib.Dec.{eqb}
use borrow.Author.Tests.{eqb-true, eqb-false}
use Rattle.base_lists.specs.Windows.{spliced}
use Rattle.base_lists.specs.Written.{Written}
use Rattle.base_lists.proofs.Ranges.{by-test, by-lt, both}
use Rattle.base_lists.proofs.Written.{written_as}
use Rattle.base_buffers.specs.Buffers.{zeros}
use Rattle.base_fields.specs.declared.ByteOrder.{ByteOrder}
use Rattle.base_scope.specs.Elf.{SHT_RELA, SHT_REL, SHT_MIPS_DEBUG, SHT_NULL, SHT_NOBITS}
use Rattle.base_scope.specs.Codes.{LINES, target_code}
use Rattle.base_scope.specs.Limits.{SECTION_LIMIT, ALIGN_LIMIT}
use Rattle.base_scope.specs.Refusals.{STATICS}
use Rattle.base_answers.specs.Answers.{refused, COMPILED, room_for}
use Rattle.base_answers.specs.Verdicts.{if_passed, finding_verdict}
use Rattle.elf_records.specs.declared.section.SectionHeader.{SectionHeader}
use Rattle.base_fields.specs.Layouts.{width_of}
use Rattle.elf_records.specs.Relocation.{relocation_layout}
use Rattle.elf_records.specs.Header.{elf_bytes}
use Rattle.elf_readers.specs.Readers.{header, section_count, section, contents, coded_section}
use Rattle.elf_readers.specs.Bounds.{Headed}
use Rattle.elf_check.specs.declared.View.{View}
use Rattle.elf_check.specs.View.{view_of, section_in}
use Rattle.elf_check.proofs.Views.{view_section}
use Rattle.elf_relocations.specs.Relocations.{is_rela, entry_size}
use Rattle.elf_symbols.specs.Symbols.{symtab}
use Rattle.statics_table.specs.Statics.{name_head}
use Rattle.merge_buffers.specs.Buffers.{SPANS_AT}
use Rattle.base_buffers.proofs.Parts.{kept_same, kept_then}
use Rattle.merge_kept.specs.Kept.{kept}
use Rattle.merge_kept.proofs.Kept.{kept_le, other_stays, stays_kept}
use Rattle.carry_homes.specs.Homes.{carried_count, carried_table, new_count, opened_by}
use Rattle.carry_homes.specs.declared.TableName.{TableName}
use Rattle.carry_homes.specs.Code.{HOME_ROW, TablesListed, opened_in, home_key}
use Rattle.carry_clash.specs.Clash.{carried_code}
use Rattle.write_planned.specs.of_carry_stage.Tables.{homes_part}
use Rattle.carry_homes.proofs.Joins.{opened_lt, opened_is}
use Rattle.write_image.specs.Layout.{HEADER_END, HEADING_SIZE, aligned_to, headings_at, image_length}
use Rattle.write_object.specs.Object.{Plan, layout_of, has_place, moved_finding, object_bytes}
use Rattle.write_object.specs.Steps.{front_with, pieces_of, headings_of}
use Rattle.write_object.proofs.Own.{own_ident}
use Rattle.write_planned.specs.of_write_plan.Plan.{new_heading, merged_object}
use Rattle.write_planned.proofs.of_write_plan.Sections.{strtab_type, table_typed, table_not, other_holds, debug_bytes_lem}
use Rattle.write_planned.proofs.of_write_plan.Headers.{many_is, heading_new, content_is, type_kept, placed_typed}
use Rattle.write_planned.proofs.of_write_plan.Relocations.{carried_table_lem}
use Rattle.write_planned.proofs.of_write_plan.Fits.{WIDEST, NewWords, plan_many, plan_fits, new_fits, align_limit, own_limit as plan-own, added_limit as plan-added}
use Rattle.write_planned.specs.declared.Writing.{Writing}
use Rattle.write_planned.specs.Held.{held_places, SpansOver, held_plan, held_bytes, held_own, held_names, held_name_at}
use Rattle.write_planned.proofs.Held.{held_still}
use Rattle.write_planned.proofs.Planned.{strings_at}
use Rattle.write_planned.specs.of_write_plan.Answer.{merged_answer}
use Rattle.write_merged.specs.Merged.{opened_as, opened_with, plan_end, MergedReady, held_answer, held_object}
use Rattle.write_merged.proofs.Plans.{end_inside, next_sized, plan_put, at_is, long_image, plan_written, plan_counted}

pub spans_same : (l : List ℕ) → SpansOver l l
spans_same l = record { kept = kept_same SPANS_AT l; rows = refl }

pub spans_then : (a b c : List ℕ) → SpansOver a b → SpansOver b c → SpansOver a c
spans_then a b c x y = record { kept = kept_then SPANS_AT a b c x.kept y.kept; rows = y.rows ∙ x.rows }

kind_is : (t : ℕ) → (t ≡ SHT_RELA) ⊎ (t ≡ SHT_REL) → cond (eqb t SHT_RELA) SHT_RELA SHT_REL ≡ t
kind_is t (inl e) = rw e
kind_is t (inr e) = rw e

module _ (name link info : ℕ) (b : Bool) where
  pub opened_rela : b ≡ true → opened_as name SHT_RELA link info 12 ≡ opened_with name b link info
  unfolding opened_with
  opened_rela e = rw e

  pub opened_rel : b ≡ false → opened_as name SHT_REL link info 8 ≡ opened_with name b link info
  unfolding opened_with
  opened_rel e = rw e

width_is : (b : Bool) → cond b 12 8 ≡ width_of (relocation_layout b)
unfolding width_of relocation_layout
width_is true = refl
width_is false = refl

module _ (C A B path : List ℕ) (x : Writing) (table places steps index : List ℕ) (r : MergedReady C A B path x table places steps index) where
  abbrev o : ByteOrder
  o = x.stage.inputs.order

  abbrev p : Plan
  p = held_plan C A B path x places

  abbrev stay : ℕ
  stay = kept o C x.flag

  abbrev head : ℕ
  head = length (name_head x.manner.mode path)

  -- behind the spans of a section
  pub ready_still : (after : List ℕ) → SpansOver index after → MergedReady C A B path x table places steps after
  ready_still after k = record { held = held_still C A B path x table places steps index r.held after k; names = r.names }

  pub total_is : x.carry.stay + x.carry.homes.opened ≡ p.many
  total_is =
      let s = r.held.carried.stays in
      let n : x.carry.homes.opened ≡ new_count o C A stay = r.held.carried.found.opened ∙ ap (new_count o C A) s in
      omega (arith, s, n, many_is o C A (held_places B places) B path x.flag x.manner.mode)

  pub held_fits : image_length (layout_of p) < 4294967296
  held_fits =
      let k = r.held.read.read in
      omega (
        arith,
        plan_fits o C A (held_places B places) B path x.flag x.manner.mode k.compiled_sound k.assembled_sound k.compiled_small k.assembled_small r.held.short,
      )

  pub held_many : p.many ≤ 255
  held_many =
      let k = r.held.read.read in
      plan_many o C A (held_places B places) B path x.flag x.manner.mode k.compiled_sound k.assembled_sound

  pub total_few : x.carry.stay + x.carry.homes.opened < 256
  total_few = omega (arith, total_is, held_many)

  pub held_headed : Headed o C
  held_headed = r.held.read.read.compiled_sound.named.headed

  pub held_content : (i : ℕ) → p.content i ≡ held_bytes C A B path x places i
  held_content i = content_is o C A (held_places B places) B path x.flag x.manner.mode i

  -- a new section is a relocation table
  new_typed : (i : ℕ) → i < p.many → stay ≤ i → (t : ℕ) → (p.heading i).sh_type ≡ t → t ≢ SHT_RELA → t ≢ SHT_REL → ⊥
  unfolding new_heading
  new_typed i below l t e a b =
      let q : i ≡ stay + (i - stay) = omega (arith, l) in
      let k : i - stay < new_count o C A stay = omega (arith, below, many_is o C A (held_places B places) B path x.flag x.manner.mode, l) in
      let h : p.heading i ≡ new_heading o C A (held_places B places) B path x.flag x.manner.mode (i - stay)
      = ap (λ (y : ℕ). p.heading y) q ∙ heading_new o C A (held_places B places) B path x.flag x.manner.mode (i - stay) in
      let j : ℕ = opened_by o C A stay (i - stay) in
      let s = ap (λ (y : SectionHeader). y.sh_type) h in
      ⊎_elim (λ z. a (sym e ∙ s ∙ z)) (λ z. b (sym e ∙ s ∙ z)) (table_typed o A (carried_table o A j) (carried_table_lem o A j (opened_lt o C A stay (i - stay) k)))

  stays_typed : (i : ℕ) → i < p.many → (t : ℕ) → (p.heading i).sh_type ≡ t → t ≢ SHT_RELA → t ≢ SHT_REL → i < stay
  stays_typed i below t e a b = by-lt i stay (λ l. l) (λ l. absurd (new_typed i below l t e a b))

  kept_typed : (i : ℕ) → i < stay → (t : ℕ) → (p.heading i).sh_type ≡ t → (section o C i).sh_type ≡ t
  kept_typed i l t e = sym (type_kept o C A (held_places B places) B path x.flag x.manner.mode i l) ∙ e

  -- a debug section is C's, and so are its bytes
  module _ (i : ℕ) (below : i < p.many) (h : SectionHeader) (is : h ≡ p.heading i) (e : h.sh_type ≡ SHT_MIPS_DEBUG) where
    typed : (p.heading i).sh_type ≡ SHT_MIPS_DEBUG
    typed = ap (λ (y : SectionHeader). y.sh_type) (sym is) ∙ e

    stays : i < stay
    stays = stays_typed i below SHT_MIPS_DEBUG typed (omega arith) (omega arith)

    pub debug_below : i < section_count o C
    debug_below = omega (arith, stays, kept_le o C x.flag)

    pub debug_content : contents o C i ≡ p.content i
    debug_content =
        sym (
        held_content i
        ∙ debug_bytes_lem o C A (held_places B places) B path x.flag x.manner.mode r.held.read.read.compiled_sound r.names i stays
        (kept_typed i stays SHT_MIPS_DEBUG typed)
        )

  -- ---- the headers of new sections

  pub strings_stay : x.stage.inputs.compiled.section_strings < x.carry.stay
  strings_stay =
      let s : ℕ = (header o C).e_shstrndx in
      let q = strtab_type o C s r.names in
      let l = stays_kept o C x.flag s r.held.read.read.compiled_sound.named.strings (other_stays o C s (λ z. omega (arith, q, z)) (λ z. omega (arith, q, z))) in
      omega (arith, l, strings_at C A B path x table places steps index r.held, r.held.carried.stays)

  link_is : x.stage.inputs.compiled.symtab ≡ symtab o C
  unfolding view_of
  link_is = ap (λ (v : View). v.symtab) r.held.read.read.compiled.is

  module _ (i : ℕ) (l : i < x.carry.homes.opened) where
    below_new : i < new_count o C A x.carry.stay
    below_new = omega (arith, l, r.held.carried.found.opened)

    below_kept : i < new_count o C A stay
    below_kept = rw (← r.held.carried.stays) below_new

    opener_same : opened_by o C A x.carry.stay i ≡ opened_by o C A stay i
    opener_same = ap (λ (y : ℕ). opened_by o C A y i) r.held.carried.stays

    module _ (homes : List ℕ) (e : homes ≡ homes_part places) where
      pub rows_long : HOME_ROW * x.carry.homes.tables ≤ length homes
      rows_long = rw (e, r.held.carried.found.tables) r.held.carried.found.listed.tables.few

      pub rows_listed : TablesListed o A (carried_count o A) homes
      rows_listed = rw e r.held.carried.found.listed.tables

      pub opener_is : opened_in homes x.carry.homes.tables x.carry.stay i ≡ opened_by o C A stay i
      opener_is = rw (e, r.held.carried.found.tables) (opened_is o C A x.carry.stay (homes_part places) r.held.carried.found.listed i below_new ∙ opener_same)

    pub opener_below : opened_by o C A stay i < carried_count o A
    opener_below = opened_lt o C A stay i below_kept

    abbrev opener : ℕ
    opener = carried_table o A (opened_by o C A stay i)

    opened_words : NewWords (new_heading o C A (held_places B places) B path x.flag x.manner.mode i) (2 ^ 32)
    opened_words =
        let k = r.held.read.read in
        new_fits o C A (held_places B places) B path x.flag x.manner.mode k.compiled_sound k.assembled_sound k.compiled_small k.assembled_small
        r.held.short i below_kept

    pub name_fits : held_name_at C A B path x places i < 4294967296
    name_fits = omega (arith, opened_words.name)

    pub link_fits : x.stage.inputs.compiled.symtab < 4294967296
    unfolding new_heading
    link_fits = omega (arith, link_is, opened_words.link)

    type_is : cond (is_rela o A opener) SHT_RELA SHT_REL ≡ (section o A opener).sh_type
    unfolding is_rela
    type_is = kind_is (section o A opener).sh_type (table_typed o A opener (carried_table_lem o A (opened_by o C A stay i) opener_below))

    entry_is : cond (is_rela o A opener) 12 8 ≡ entry_size o A opener
    unfolding entry_size
    entry_is = width_is (is_rela o A opener)

    module _ (key : TableName) (k : key ≡ home_key o A (opened_by o C A stay i)) (low : 1 ≤ key.code) (high : key.code ≤ LINES) where
      info_is : section_in x.stage.inputs.compiled key.code ≡ coded_section o C (target_code (carried_code o A opener))
      unfolding home_key
      info_is =
          view_section o C x.stage.inputs.compiled r.held.read.read.compiled.is key.code low (omega (arith, high))
          ∙ ap (λ (y : TableName). coded_section o C y.code) k

      rela_is : key.rela ≡ is_rela o A opener
      unfolding home_key
      rela_is = ap (λ (y : TableName). y.rela) k

      pub info_fits : section_in x.stage.inputs.compiled key.code < 4294967296
      unfolding new_heading
      info_fits = omega (arith, info_is, opened_words.info)

      pub new_is : (name link info : ℕ) → name ≡ held_name_at C A B path x places i → link ≡ x.stage.inputs.compiled.symtab
          → info ≡ section_in x.stage.inputs.compiled key.code → opened_with name key.rela link info ≡ p.heading (x.carry.stay + i)
      unfolding opened_with opened_as new_heading
      new_is name link info n m f =
          rw (n, m ∙ link_is, f ∙ info_is, rela_is, type_is, entry_is, r.held.carried.stays, heading_new o C A (held_places B places) B path x.flag x.manner.mode i)

  -- ---- numbers that the code adds and casts

  align_fits : (i : ℕ) → (p.heading i).sh_addralign ≤ ALIGN_LIMIT
  align_fits i =
      let k = r.held.read.read in
      align_limit o C A (held_places B places) B path x.flag x.manner.mode k.compiled_sound k.assembled_sound k.compiled_small k.assembled_small r.held.short i

  module _ (i end : ℕ) (below : i < p.many) (from : end ≡ plan_end p i) (h : SectionHeader) (is : h ≡ p.heading i) where
    pub sum_fits : end + h.sh_addralign < 18446744073709551616
    sum_fits =
        let e : h.sh_addralign ≤ ALIGN_LIMIT = rw is (align_fits i) in
        omega (arith, e, from, end_inside p o i (omega (arith, below)), held_fits)

    pub start_fits : has_place h ≡ true → aligned_to end h.sh_addralign + length (p.content i) < 4294967296
    start_fits t =
        omega (arith, next_sized p o i end from h is (length (p.content i)) refl t, end_inside p o (i + 1) (omega (arith, below)), held_fits)

  -- a section without a place is C's, and holds no more than the string table can
  own_limit : (i : ℕ) → length (held_own C A B path x places i) ≤ WIDEST
  own_limit i =
      let k = r.held.read.read in
      plan-own o C A (held_places B places) B path x.flag x.manner.mode k.compiled_sound k.assembled_sound k.compiled_small k.assembled_small r.held.short i

  added_limit : (i : ℕ) → length (held_names C A B path x places i) ≤ 13 * SECTION_LIMIT
  added_limit i =
      let k = r.held.read.read in
      plan-added o C A (held_places B places) B path x.flag x.manner.mode k.compiled_sound k.assembled_sound k.compiled_small k.assembled_small r.held.short i

  typed_limit : (i : ℕ) → i < p.many → (t : ℕ) → (p.heading i).sh_type ≡ t → t ≢ SHT_RELA → t ≢ SHT_REL → length (p.content i) < 4294967296
  typed_limit i below t e a b =
      let l : i < stay = stays_typed i below t e a b in
      let q = kept_typed i l t e in
      let n = table_not o C i (λ z. a (sym q ∙ z)) (λ z. b (sym q ∙ z)) in
      let w = held_content i ∙ other_holds o C A (held_places B places) B path x.flag x.manner.mode i l n in
      omega (arith, ap length w, length-append (held_own C A B path x places i) (held_names C A B path x places i), own_limit i, added_limit i)

  unplaced_limit : (i : ℕ) → i < p.many → has_place (p.heading i) ≡ false → length (p.content i) < 4294967296
  unplaced_limit i below f = by-test (eqb (p.heading i).sh_type SHT_NULL)
      (λ t. typed_limit i below SHT_NULL (eqb-true (p.heading i).sh_type SHT_NULL t) (omega arith) (omega arith))
      (λ g. by-test (eqb (p.heading i).sh_type SHT_NOBITS)
      (λ t. typed_limit i below SHT_NOBITS (eqb-true (p.heading i).sh_type SHT_NOBITS t) (omega arith) (omega arith))
      (λ k.
      both
      (placed_typed o C A (held_places B places) B path x.flag x.manner.mode i
      (eqb-false (p.heading i).sh_type SHT_NULL g) (eqb-false (p.heading i).sh_type SHT_NOBITS k)) f))

  pub size_fits : (i : ℕ) → i < p.many → length (p.content i) < 4294967296
  size_fits i below = by-test (has_place (p.heading i))
      (λ t. omega (arith, start_fits i (plan_end p i) below refl (p.heading i) refl t))
      (λ f. unplaced_limit i below f)

  -- ---- the answer

  pub answer_clear : (room : ℕ) → moved_finding p o ≡ None → room_for (held_object C A B path x places) room ≡ held_answer C A B path x places room
  unfolding merged_answer finding_verdict if_passed
  answer_clear room e = rw e

  pub answer_refused : (room place : ℕ) → moved_finding p o ≡ Some place → refused STATICS COMPILED place ≡ held_answer C A B path x places room
  unfolding merged_answer finding_verdict if_passed
  answer_refused room place e = rw e

  -- ---- the object

  object_is : object_bytes p o (header o C) ≡ held_object C A B path x places
  unfolding merged_object
  object_is = refl

  module _ (clear : moved_finding p o ≡ None) where
    pub held_put : (L a b c d : List ℕ) (end at many : ℕ) → end ≡ plan_end p p.many → at ≡ headings_at (layout_of p) → many ≡ p.many
        → image_length (layout_of p) ≤ length L → a ≡ spliced L 0 (elf_bytes o (front_with (header o C) at many))
        → b ≡ spliced a HEADER_END (pieces_of p o p.many) → c ≡ spliced b end (zeros (at - end))
        → d ≡ spliced c at (headings_of p o p.many) → d ≡ spliced L 0 (held_object C A B path x places)
    held_put L a b c d end at many ee ea em room wa wb wc wd =
        plan_put p o clear (header o C) (own_ident o C) L a b c d end at many ee ea em room wa wb wc wd ∙ ap (spliced L 0) object_is

    module _ (end at many : ℕ) (ends : end ≡ plan_end p p.many) (starts : at ≡ aligned_to end 4) (all : many ≡ p.many) where
      pub held_at : at ≡ headings_at (layout_of p)
      held_at = at_is p o clear (header o C) (own_ident o C) end at many ends starts all

      pub held_image : at + HEADING_SIZE * many ≡ image_length (layout_of p)
      held_image = long_image p o clear (header o C) (own_ident o C) end at many ends starts all

      pub held_written : (before after : List ℕ) → length after ≡ length before → after ≡ spliced before 0 (held_object C A B path x places)
          → Written before 0 (held_object C A B path x places) (at + HEADING_SIZE * many) after
      held_written before after l e =
          written_as before 0 (object_bytes p o (header o C)) (held_object C A B path x places) (at + HEADING_SIZE * many) after object_is
          (plan_written p o clear (header o C) (own_ident o C) end at many ends starts all before after l (e ∙ ap (spliced before 0) (sym object_is)))

      pub held_counted : (before : List ℕ) → length before < at + HEADING_SIZE * many
          → Written before 0 (held_object C A B path x places) (at + HEADING_SIZE * many) before
      held_counted before l =
          written_as before 0 (object_bytes p o (header o C)) (held_object C A B path x places) (at + HEADING_SIZE * many) before object_is
          (plan_counted p o clear (header o C) (own_ident o C) end at many ends starts all before l)
