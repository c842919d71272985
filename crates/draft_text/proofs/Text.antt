-- Which text a line adds, in each case that the code tells apart, and how long it can be. Assumes nothing.
use Prim.Native.Nat.{ℕ, ◌+◌, ◌-◌, ◌*◌, ◌/◌, ◌≤◌, ◌<◌}
use mathlib.Core.Path.{◌≡◌, refl, sym, ap, ◌∙◌}
use mathlib.Core.Bool.{true, false, ◌&&◌, and-false}
use mathlib.Core.List.{List, [], ◌∷◌, ◌++◌, append_assoc, append-nil}
use native.Mathlib.Omega.{arith}
use lib.ListN.{length, take, drop, length-take, length-drop}
use lib.Dec.{eqb}
use borrow.Author.Tests.{eq-eqb, ne_eqb, lt-ltb, le-ltb}
use Rattle.base_lists.specs.Ranges.{gather}
use Rattle.base_lists.proofs.Ranges.{gather_zero, gather_yes}
use Rattle.base_scope.specs.Text.{text}
use Rattle.base_scope.specs.Codes.{TEXT, LINES, line_code, line_block, first_line}
use Rattle.base_text.specs.Lines.{lined}
use Rattle.blocks_values.specs.Values.{space_in, label_in}
use Rattle.blocks_lines.specs.Lines.{line_end, line}
use Rattle.blocks_lines.specs.Keys.{KEYS, KEY_ASM, key_name, value_at, repeats}
use Rattle.blocks_file.specs.Blocks.{skip, group_at, block_at, block_count}
use Rattle.blocks_file.proofs.Blocks.{group_next, group_end_many, counted_group}
use Rattle.blocks_places.specs.Lines.{line_count, span_value, labelled, span_label}
use Rattle.blocks_places.specs.Places.{Place, live}
use Rattle.draft_lines.specs.Lines.{section_line, nop_lines, space_line, label_line, group_lines}
use Rattle.draft_lines.proofs.Lines.{group_lines_short}
use Rattle.draft_text.specs.Draft.{fill_of, label_text, labels_text, asm_text, body_text, pad_text, line_text, lines_text, late_part, draft_text}
use Rattle.draft_text.specs.Pad.{pad_from}

-- ---- labels

module _ (B suffix : List ℕ) (j : ℕ) where
  pub label_none : labelled B j ≡ false → [] ≡ label_text B suffix j
  unfolding label_text
  label_none e = rw e

  pub label_some : labelled B j ≡ true → section_line (line_code j) ++ label_line (span_label B j) suffix ≡ label_text B suffix j
  unfolding label_text
  label_some e = rw e

  -- the code and the label as they are read
  pub label_some_read : (c : ℕ) (l : List ℕ) → labelled B j ≡ true → c ≡ line_code j → l ≡ span_label B j → section_line c ++ label_line l suffix ≡ label_text B suffix j
  label_some_read c l t e f = rw (e, f) (label_some t)

-- ---- padding

pub fill_nops : (code n : ℕ) → code ≡ TEXT → nop_lines (n / 4) ≡ fill_of code n
unfolding fill_of
fill_nops code n e = rw (eq-eqb _ _ e)

pub fill_space : (code n : ℕ) → (code ≡ TEXT → ⊥) → space_line n ≡ fill_of code n
unfolding fill_of
fill_space code n e = rw (ne_eqb _ _ e)

-- of a line whose place is p, where the span before it in the section of its code ends at e
module _ (p : Place) (code e : ℕ) where
  pub pad_none : p.taken ≡ false → [] ≡ pad_from p code e
  unfolding pad_from
  pad_none f = rw f

  pub pad_level : p.taken ≡ true → p.at ≤ e → [] ≡ pad_from p code e
  unfolding pad_from
  pad_level t h = rw (t, le-ltb _ _ h)

  pub pad_some : p.taken ≡ true → e < p.at → section_line code ++ fill_of code (p.at - e) ≡ pad_from p code e
  unfolding pad_from
  pad_some t h = rw (t, lt-ltb _ _ h)

  -- the code and the place as they are read
  pub pad_some_read : (c at : ℕ) → p.taken ≡ true → c ≡ code → at ≡ p.at → e < at → section_line c ++ fill_of c (at - e) ≡ pad_from p code e
  pad_some_read c at t is place h = rw (is, place) (pad_some t (rw (← place) h))

-- ---- what a line adds

module _ (P : List Place) (B : List ℕ) (j : ℕ) where
  -- s is the padding as it was written, i the block as it is read
  module _ (s : List ℕ) (pad : s ≡ pad_text P B j) where
    pub line_pad : (line_code j ≡ LINES → ⊥) → s ≡ line_text P B j
    unfolding line_text
    line_pad d = rw (pad, ne_eqb (line_code j) LINES d) (sym (append-nil (pad_text P B j)))

    module _ (i : ℕ) (block : i ≡ line_block j) where
      pub line_off : live P B i ≡ false → s ≡ line_text P B j
      unfolding line_text
      line_off f =
          let g : (eqb (line_code j) LINES && live P B (line_block j)) ≡ false = rw (← block, f) (and-false (eqb (line_code j) LINES)) in
          rw (pad, g) (sym (append-nil (pad_text P B j)))

      pub line_body : line_code j ≡ LINES → live P B i ≡ true → s ++ body_text B i ≡ line_text P B j
      unfolding line_text
      line_body e t = rw (pad, eq-eqb (line_code j) LINES e, ← block, t)

-- ---- all lines

module _ (P : List Place) (B : List ℕ) where
  pub lines_zero : lines_text P B 0 ≡ []
  unfolding lines_text
  lines_zero = gather_zero (λ j. true) (line_text P B)

  pub lines_next : (n : ℕ) → lines_text P B n ++ line_text P B n ≡ lines_text P B (n + 1)
  unfolding lines_text
  lines_next n = sym (gather_yes (λ j. true) (line_text P B) n refl)

module _ (B suffix : List ℕ) (i : ℕ) where
  -- the labels of the first n lines of block i
  unfoldable pub labels_so : ℕ → List ℕ
  labels_so n = gather (λ k. true) (λ k. label_text B suffix (first_line i + k)) n

  pub labels_zero : labels_so 0 ≡ []
  unfolding labels_so
  labels_zero = gather_zero (λ k. true) (λ k. label_text B suffix (first_line i + k))

  pub labels_next : (n : ℕ) → labels_so n ++ label_text B suffix (first_line i + n) ≡ labels_so (n + 1)
  unfolding labels_so
  labels_next n = sym (gather_yes (λ k. true) (λ k. label_text B suffix (first_line i + k)) n refl)

  pub labels_all : labels_so LINES ≡ labels_text B suffix i
  unfolding labels_so labels_text
  labels_all = refl

-- a label is no longer than the block file
pub span_label_short : (B : List ℕ) (j : ℕ) → length (span_label B j) ≤ length B
unfolding span_label label_in span_value value_at line
span_label_short B j =
    let a = group_at B (block_at B (line_block j)) (line_code j) in
    let l = take (line_end B a - a) (drop a B) in
    let v = drop (length (key_name (line_code j))) l in
    omega (arith, length-take (space_in v) v, length-drop (length (key_name (line_code j))) l, length-take (line_end B a - a) (drop a B), length-drop a B)

-- ---- the body of a block, and the whole

-- where group k of a block starts and where it ends, as the table has them, and how far its lines reach
module _ (B : List ℕ) (i k from to : ℕ) (h : i < block_count B) (l : k < KEYS) (e : from ≡ group_at B (block_at B i) k) where
  pub block_group_from : from ≤ length B
  block_group_from = rw e (counted_group B i k h (omega arith))

  pub block_group_to : repeats k ≡ true → to ≡ group_at B (block_at B i) (k + 1) → to ≡ skip B k from
  block_group_to t f = f ∙ group_next B (block_at B i) k ∙ group_end_many B k (group_at B (block_at B i) k) t ∙ ap (skip B k) (sym e)

  pub block_group_short : length (group_lines B k from) ≤ length B
  block_group_short = omega (arith, group_lines_short B k from l block_group_from)

pub body_read : (B : List ℕ) (i : ℕ)
    → ((labels_text B (text "_asm_start") i ++ lined (text ".text")) ++ group_lines B KEY_ASM (group_at B (block_at B i) KEY_ASM)) ++ labels_text B (text "_asm_end") i ≡ body_text B i
unfolding body_text asm_text
body_read B i = simp append_assoc

pub draft_read : (P : List Place) (B prelude : List ℕ) (n : ℕ) → n ≡ block_count B → (lined prelude ++ lines_text P B (LINES * n)) ++ late_part P B ≡ draft_text P B prelude
unfolding draft_text
draft_read P B prelude n e = rw e (append_assoc (lined prelude) (lines_text P B (line_count B)) (late_part P B))

-- `.text` and its LF
pub length_dot_text : length (lined (46 ∷ 116 ∷ 101 ∷ 120 ∷ 116 ∷ [])) ≡ 6
unfolding lined
length_dot_text = refl
