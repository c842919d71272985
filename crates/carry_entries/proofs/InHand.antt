-- What is in hand to carry the entries of C and of A is what document 01's definitions say of C, A, and the places P of the lines of the block file B. Assumes nothing.
use Rattle.std.specs.Prelude.{None, Some, Option}
use Prim.Native.Nat.{ℕ, ◌+◌, ◌^◌, ◌≤◌, ◌<◌}
use mathlib.Core.Path.{◌≡◌, refl, sym, ap, ◌∙◌, fun_ext}
use mathlib.Core.Bool.{Bool, true, false, ◌&&◌, ◌||◌}
use mathlib.Core.List.{List}
use native.Mathlib.Omega.{arith}
use lib.Dec.{eqb}
use borrow.Author.Tests.{eqb-true}
use Rattle.base_lists.proofs.Ranges.{by-test, both}
use Rattle.base_fields.specs.declared.ByteOrder.{ByteOrder}
use Rattle.base_scope.specs.Codes.{TEXT, LATE_RODATA, LATE_TARGET, leaves_out, is_late_target}
use Rattle.base_scope.specs.Limits.{ID_LIMIT}
use Rattle.base_scope.proofs.Codes.{leaves_text}
use Rattle.base_answers.specs.Answers.{COMPILED, ASSEMBLED}
use Rattle.base_answers.specs.Verdicts.{also, finding_verdict}
use Rattle.elf_readers.specs.Readers.{coded_contents}
use Rattle.elf_symbols.specs.Symbols.{symbol_count, symbol_table}
use Rattle.elf_relocations.specs.Relocations.{is_table}
use Rattle.elf_check.specs.declared.View.{View}
use Rattle.elf_check.specs.View.{view_of}
use Rattle.blocks_places.specs.Places.{Place}
use Rattle.blocks_spans.specs.declared.Span.{Span}
use Rattle.blocks_spans.specs.Spans.{spans_of, replaced_word}
use Rattle.blocks_spans.specs.Table.{spans_in}
use Rattle.blocks_spans.specs.Copied.{copied}
use Rattle.late_length.specs.Late.{has_late_step}
use Rattle.carry_clash.specs.of_late_moves.Moved.{is_moved, is_jump_word, moved_place}
use Rattle.carry_clash.specs.of_late_lookups.Fields.{pick_late_place, offset_at, jump_at}
use Rattle.carry_clash.specs.of_late_lookups.Lookups.{moved_offset}
use Rattle.carry_clash.proofs.of_late_lookups.Lookups.{late_rows, offset_moved, jump_moved}
use Rattle.carry_clash.specs.of_merge_labels.Labels.{late_start}
use Rattle.symbols_merge.specs.Candidates.{Candidates}
use Rattle.carry_clash.specs.of_symbols_taken.Code.{LateIn}
use Rattle.symbols_fill.specs.of_symbols_ids.Entries.{late_place}
use Rattle.symbols_fill.specs.of_symbols_ids.Ids.{first_a, first_static, candidates, merge_candidates}
use Rattle.symbols_merge.specs.Merged.{number_of}
use Rattle.symbols_rows.specs.Rows.{half_in}
use Rattle.symbols_numbers.specs.Numbers.{new_in}
use Rattle.symbols_numbers.specs.Result.{NumbersOf}
use Rattle.symbols_numbers.proofs.Result.{new_is, number_few}
use Rattle.carry_clash.specs.Clash.{is_carried}
use Rattle.carry_entries.specs.declared.Goal.{Goal}
use Rattle.carry_entries.specs.declared.Goal.TheVariants.{To, LeftOut, Unmoved}
use Rattle.carry_entries.specs.declared.Side.{Side}
use Rattle.carry_entries.specs.Entries.{Carrying, carried_bytes, loss_finding}
use Rattle.carry_entries.specs.Carried.{LOST_ENTRY, pick_goal, is_gone, goal_c, goal_a, carrying_c, carrying_a, carry_verdict}
use Rattle.carry_entries.specs.Code.{late_goal, pick_tables, is_gone_in, goal_in, carrying_in, SymbolsRead, moves_of}
use Rattle.carry_entries.specs.InHand.{CarryHand, CompiledSide, AssembledSide}

-- ---- where entries go

goal_compiled : (s : Side) (rows late : List ℕ) (c x : ℕ) → s.compiled ≡ true → goal_in (moves_of s) rows late c x ≡ pick_goal (is_gone_in (moves_of s) rows late c x) LeftOut (To x)
unfolding goal_in
goal_compiled s rows late c x y = rw y

goal_assembled : (s : Side) (rows late : List ℕ) (c x : ℕ) → s.compiled ≡ false
    → goal_in (moves_of s) rows late c x ≡ pick_goal (eqb c LATE_RODATA) (pick_goal s.runs (late_goal (offset_at late s.blocks x)) Unmoved) (To x)
unfolding goal_in
goal_assembled s rows late c x n = rw n

moved_goal : (b : Bool) (p : ℕ) → late_goal (pick_late_place b (Some p) None) ≡ pick_goal b (To p) Unmoved
unfolding late_goal
moved_goal true p = refl
moved_goal false p = refl

carrying_same : (w v : Carrying) → w.tables ≡ v.tables → w.goal ≡ v.goal → w.new ≡ v.new → w ≡ v
carrying_same w v p q r = λ k. record { tables = p k; goal = q k; new = r k }

module _ (C A : List ℕ) (P : List Place) (B : List ℕ) (s : Side) (rows late : List ℕ) (h : CarryHand C A P B s rows late) where
  abbrev o : ByteOrder
  o = s.order

  -- the late target as it is copied
  abbrev R : List ℕ
  R = copied (spans_of P B LATE_TARGET) (coded_contents o C LATE_TARGET) (coded_contents o A LATE_TARGET)

  -- what the code asks of the late table
  pub hand_late : LateIn s.runs late s.blocks
  hand_late t = rw h.many (late_rows o P B R (late_start o A) late (h.moves t))

  replaced_is : (c x : ℕ) → (leaves_out c && replaced_word (spans_in rows s.spans) x) ≡ (leaves_out c && replaced_word (spans_of P B c) x)
  replaced_is c x = by-test (leaves_out c)
      (λ t.
      let e : c ≡ TEXT = eqb-true c TEXT (leaves_text c ∙ t) in
      let q : spans_in rows s.spans ≡ spans_of P B c = h.replaced ∙ ap (spans_of P B) (sym e) in
      ap (λ (l : List Span). leaves_out c && replaced_word l x) q)
      (λ f. rw f)

  jump_is : (x : ℕ) → (s.runs && jump_at late s.blocks x) ≡ (has_late_step P B && is_jump_word o P B R x)
  jump_is x = by-test s.runs
      (λ t.
      let q : jump_at late s.blocks x ≡ is_jump_word o P B R x = rw h.many (jump_moved o P B R (late_start o A) late (h.moves t) x) in
      ap (λ (b : Bool). b && jump_at late s.blocks x) h.there ∙ ap (λ (b : Bool). has_late_step P B && b) q)
      (λ f.
      let g : has_late_step P B ≡ false = sym h.there ∙ f in
      ap (λ (b : Bool). b && jump_at late s.blocks x) f ∙ sym (ap (λ (b : Bool). b && is_jump_word o P B R x) g))

  pub gone_is : (c x : ℕ) → is_gone_in (moves_of s) rows late c x ≡ is_gone o C A P B c x
  unfolding is_gone_in is_gone
  gone_is c x =
      ap (λ (b : Bool). b || (is_late_target c && (s.runs && jump_at late s.blocks x))) (replaced_is c x)
      ∙ ap (λ (b : Bool). (leaves_out c && replaced_word (spans_of P B c) x) || (is_late_target c && b)) (jump_is x)

  pub goal_c_lem : s.compiled ≡ true → (c x : ℕ) → goal_in (moves_of s) rows late c x ≡ goal_c o C A P B c x
  unfolding goal_c
  goal_c_lem y c x = goal_compiled s rows late c x y ∙ ap (λ (b : Bool). pick_goal b LeftOut (To x)) (gone_is c x)

  late_is : (x : ℕ) → pick_goal s.runs (late_goal (offset_at late s.blocks x)) Unmoved
      ≡ pick_goal (has_late_step P B && is_moved P B (late_start o A) x) (To (late_place o C A P B x)) Unmoved
  unfolding late_place moved_offset
  late_is x = by-test s.runs
      (λ t.
      let q : offset_at late s.blocks x ≡ moved_offset o P B R (late_start o A) x = rw h.many (offset_moved o P B R (late_start o A) late (h.moves t) x) in
      let g : has_late_step P B ≡ true = sym h.there ∙ t in
      ap (λ (b : Bool). pick_goal b (late_goal (offset_at late s.blocks x)) Unmoved) t
      ∙ ap late_goal q
      ∙ moved_goal (is_moved P B (late_start o A) x) (moved_place o P B R (late_start o A) x)
      ∙ sym (ap (λ (b : Bool). pick_goal (b && is_moved P B (late_start o A) x) (To (moved_place o P B R (late_start o A) x)) Unmoved) g))
      (λ f.
      let g : has_late_step P B ≡ false = sym h.there ∙ f in
      ap (λ (b : Bool). pick_goal b (late_goal (offset_at late s.blocks x)) Unmoved) f
      ∙ sym (ap (λ (b : Bool). pick_goal (b && is_moved P B (late_start o A) x) (To (moved_place o P B R (late_start o A) x)) Unmoved) g))

  pub goal_a_lem : s.compiled ≡ false → (c x : ℕ) → goal_in (moves_of s) rows late c x ≡ goal_a o C A P B c x
  unfolding goal_a
  goal_a_lem n c x = goal_assembled s rows late c x n ∙ ap (λ (g : Goal). pick_goal (eqb c LATE_RODATA) g (To x)) (late_is x)

-- ---- what symbols become

count_same : (o : ByteOrder) (F : List ℕ) (v : View) → v ≡ view_of o F → v.symbols.count ≡ symbol_count o F
unfolding view_of symbol_table
count_same o F v e = ap (λ (x : View). x.symbols.count) e

module _ (o : ByteOrder) (C A : List ℕ) (P : List Place) (B : List ℕ) (mode head : ℕ) where
  abbrev all : Candidates
  all = merge_candidates o C A P B mode head

  ids_c : 0 + symbol_count o C ≤ all.many
  unfolding merge_candidates candidates first_static first_a
  ids_c = omega arith

  ids_a : first_a o C A + symbol_count o A ≤ all.many
  unfolding merge_candidates candidates first_static
  ids_a = omega arith

  -- numbers are below 2 ^ 24
  module _ (N : List ℕ) (w : NumbersOf all N) (few : all.many ≤ ID_LIMIT) where
    word_small : (i : ℕ) → i < all.many → half_in N i < 2 ^ 24
    word_small i u = by-test (all.taken i)
        (λ t.
        let e : half_in N i ≡ number_of all i = w.is i u ∙ rw t in
        omega (arith, e, number_few all i (u, t), few))
        (λ f.
        let e : half_in N i ≡ 0 = w.is i u ∙ rw f in
        omega (arith, e))

    pub numbers_read : (s : Side) → (s.compiled ≡ true → s.first ≡ 0) → s.first + s.view.symbols.count ≤ all.many → SymbolsRead s N
    numbers_read s z u = record { start = z; long = omega (arith, w.long, u); few = λ i l. word_small i (omega (arith, l, u)) }

module _ (C A : List ℕ) (P : List Place) (B : List ℕ) (mode head : ℕ) (N : List ℕ) (s : Side) (rows late : List ℕ) (h : CarryHand C A P B s rows late)
    (w : NumbersOf (merge_candidates s.order C A P B mode head) N) where
  -- ---- C

  module _ (c : CompiledSide C s) where
    new_c : (k : ℕ) → (carrying_in C s rows late N).new k ≡ (carrying_c s.order C A P B mode head).new k
    unfolding carrying_in carrying_c
    new_c k =
        ap (λ (x : ℕ). new_in N x s.view.symbols.count k) c.start
        ∙ ap (λ (x : ℕ). new_in N 0 x k) (count_same s.order C s.view c.is)
        ∙ new_is (merge_candidates s.order C A P B mode head) N w 0 (symbol_count s.order C) k (ids_c s.order C A P B mode head)

    -- how C's entries are carried, by what is in hand
    pub carrying_c_lem : carrying_in C s rows late N ≡ carrying_c s.order C A P B mode head
    unfolding carrying_in carrying_c
    carrying_c_lem = carrying_same (carrying_in C s rows late N) (carrying_c s.order C A P B mode head)
        (ap (λ (b : Bool). pick_tables b (is_table s.order C) (is_carried s.order C)) c.here)
        (fun_ext (λ d. fun_ext (λ x. goal_c_lem C A P B s rows late h c.here d x)))
        (fun_ext (λ k. new_c k))

    pub bytes_c : (t : ℕ) → carried_bytes s.order C (carrying_in C s rows late N) t ≡ carried_bytes s.order C (carrying_c s.order C A P B mode head) t
    bytes_c t = ap (λ (x : Carrying). carried_bytes s.order C x t) carrying_c_lem

    pub loss_c_lem : loss_finding s.order C (carrying_in C s rows late N) ≡ loss_finding s.order C (carrying_c s.order C A P B mode head)
    loss_c_lem = ap (loss_finding s.order C) carrying_c_lem

    pub symbols_c : (merge_candidates s.order C A P B mode head).many ≤ ID_LIMIT → SymbolsRead s N
    symbols_c few = numbers_read s.order C A P B mode head N w few s (λ y. c.start)
        (omega (arith, c.start, count_same s.order C s.view c.is, ids_c s.order C A P B mode head))

  -- ---- A

  module _ (a : AssembledSide C A s) where
    new_a : (k : ℕ) → (carrying_in A s rows late N).new k ≡ (carrying_a s.order C A P B mode head).new k
    unfolding carrying_in carrying_a
    new_a k =
        ap (λ (x : ℕ). new_in N x s.view.symbols.count k) a.start
        ∙ ap (λ (x : ℕ). new_in N (first_a s.order C A) x k) (count_same s.order A s.view a.is)
        ∙ new_is (merge_candidates s.order C A P B mode head) N w (first_a s.order C A) (symbol_count s.order A) k (ids_a s.order C A P B mode head)

    -- how A's are
    pub carrying_a_lem : carrying_in A s rows late N ≡ carrying_a s.order C A P B mode head
    unfolding carrying_in carrying_a
    carrying_a_lem = carrying_same (carrying_in A s rows late N) (carrying_a s.order C A P B mode head)
        (ap (λ (b : Bool). pick_tables b (is_table s.order A) (is_carried s.order A)) a.here)
        (fun_ext (λ d. fun_ext (λ x. goal_a_lem C A P B s rows late h a.here d x)))
        (fun_ext (λ k. new_a k))

    pub bytes_a : (t : ℕ) → carried_bytes s.order A (carrying_in A s rows late N) t ≡ carried_bytes s.order A (carrying_a s.order C A P B mode head) t
    bytes_a t = ap (λ (x : Carrying). carried_bytes s.order A x t) carrying_a_lem

    pub loss_a_lem : loss_finding s.order A (carrying_in A s rows late N) ≡ loss_finding s.order A (carrying_a s.order C A P B mode head)
    loss_a_lem = ap (loss_finding s.order A) carrying_a_lem

    pub symbols_a : (merge_candidates s.order C A P B mode head).many ≤ ID_LIMIT → SymbolsRead s N
    symbols_a few = numbers_read s.order C A P B mode head N w few s (λ y. both y a.here)
        (omega (arith, a.start, count_same s.order A s.view a.is, ids_a s.order C A P B mode head))

-- ---- refusal 20, by what is in hand of both

module _ (C A : List ℕ) (P : List Place) (B : List ℕ) (mode head : ℕ) (N : List ℕ) (c a : Side) (rows late : List ℕ)
    (hc : CarryHand C A P B c rows late) (ha : CarryHand C A P B a rows late) (same : a.order ≡ c.order)
    (w : NumbersOf (merge_candidates c.order C A P B mode head) N) (is : CompiledSide C c) (of : AssembledSide C A a) where
  pub carry_is : also (finding_verdict LOST_ENTRY COMPILED (loss_finding c.order C (carrying_in C c rows late N)))
      (finding_verdict LOST_ENTRY ASSEMBLED (loss_finding a.order A (carrying_in A a rows late N)))
      ≡ carry_verdict c.order C A P B mode head
  unfolding carry_verdict
  carry_is =
      let w' : NumbersOf (merge_candidates a.order C A P B mode head) N = rw same w in
      let p = loss_c_lem C A P B mode head N c rows late hc w is in
      let found : Option ℕ = loss_finding c.order C (carrying_c c.order C A P B mode head) in
      let q : loss_finding a.order A (carrying_in A a rows late N) ≡ loss_finding c.order A (carrying_a c.order C A P B mode head) =
      loss_a_lem C A P B mode head N a rows late ha w' of ∙ ap (λ (e : ByteOrder). loss_finding e A (carrying_a e C A P B mode head)) same in
      ap (λ (x : Option ℕ). also (finding_verdict LOST_ENTRY COMPILED x) (finding_verdict LOST_ENTRY ASSEMBLED (loss_finding a.order A (carrying_in A a rows late N)))) p
      ∙ ap (λ (x : Option ℕ). also (finding_verdict LOST_ENTRY COMPILED found) (finding_verdict LOST_ENTRY ASSEMBLED x)) q
