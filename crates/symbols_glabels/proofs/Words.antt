-- The words after the sizes of the first i blocks are twice what these give, since the last block that gives a size wins; with the bits of the blocks that stay on they are
-- `glabel_word`, from which both answers are read back. Assumes nothing.
use Prim.Native.Nat.{ℕ, ◌+◌, ◌-◌, ◌*◌, ◌/◌, ◌%◌, ◌≤◌, ◌<◌}
use mathlib.Core.Path.{◌≡◌, refl, sym, ap, ◌∙◌}
use mathlib.Core.Bool.{true, false, cond}
use mathlib.Core.List.{List, ◌++◌}
use native.Mathlib.Omega.{arith}
use lib.ListN.{length, get_or, take, drop, length-append, length-drop, get_or-replicate, get_or-append}
use lib.Seq.{length-take-le}
use lib.Dec.{eqb}
use borrow.Author.Tests.{eq-eqb, ne_eqb}
use Rattle.base_lists.proofs.Ranges.{by-test, and_parts, past_end, past_here, past_next}
use Rattle.base_lists.proofs.Strings.{same_sym}
use Rattle.base_buffers.specs.Buffers.{zeros}
use Rattle.base_buffers.proofs.Buffers.{length_zeros}
use Rattle.base_fields.specs.declared.ByteOrder.{ByteOrder}
use Rattle.base_fields.proofs.Numbers.{big_4}
use Rattle.base_scope.specs.Codes.{TEXT, line_of}
use Rattle.elf_symbols.specs.declared.SymbolTable.{SymbolTable}
use Rattle.elf_symbols.specs.Symbols.{symbol_count, symbol_name, is_symbol_named, Table}
use Rattle.elf_index.specs.Index.{SymbolIndex}
use Rattle.blocks_lines.specs.Keys.{KEY_GLABEL, is_key_line, value_at}
use Rattle.blocks_file.specs.Blocks.{line_behind, group_at, block_at, block_count}
use Rattle.blocks_places.specs.Lines.{line_count, span_size}
use Rattle.blocks_places.specs.Places.{Place, taken}
use Rattle.blocks_places.specs.Table.{places_in, Laid}
use Rattle.blocks_items.specs.Items.{sized}
use Rattle.blocks_glabels.specs.Glabels.{glabel, is_glabel, gives_size, past_sized, glabel_size}
use Rattle.symbols_glabels.specs.Words.{size_before, glabel_word, mark_in, new_word, Marked, Holds, size_below, GlabelsReady}
use Rattle.symbols_glabels.proofs.Marks.{marked_as, marked_none}

-- ---- words that are zeroed

zero_byte : (n : ℕ) (rest : List ℕ) (i : ℕ) → i < n → get_or (zeros n ++ rest) i 0 ≡ 0
unfolding zeros
zero_byte n rest i h =
    let l : i < length (zeros n) = rw (length_zeros n) h in
    get_or-append (zeros n) rest 0 i l ∙ get_or-replicate n i 0 0 h

zero_word : (n : ℕ) (rest : List ℕ) (k : ℕ) → 4 * k + 4 ≤ n → mark_in (zeros n ++ rest) k ≡ 0
unfolding mark_in
zero_word n rest k h =
    let l : 4 * k + 4 ≤ length (zeros n ++ rest) = rw (length-append (zeros n) rest, length_zeros n) (omega arith) in
    big_4 (zeros n ++ rest) (4 * k) l
    ∙ rw (zero_byte n rest (4 * k) (omega arith), zero_byte n rest (4 * k + 1) (omega arith), zero_byte n rest (4 * k + 2) (omega arith), zero_byte n rest (4 * k + 3) (omega arith))

-- the front of the table is zeroed and put back
pub cleared : (n m : ℕ) (before part : List ℕ) → m ≡ 4 * n → m ≤ length before → part ≡ zeros (length (take m (drop 0 before)))
    → Holds (λ k. 0) n before (part ++ drop m (drop 0 before))
cleared n m before part e h is =
    let z : part ≡ zeros m = is ∙ ap zeros (length-take-le m before h) in
    rw z (record {
      long = rw (length-append (zeros m) (drop m before), length_zeros m, length-drop m before) (omega arith);
      words = λ k u. zero_word m (drop m before) k (omega arith);
    })

-- ---- the size of one block

-- a block that gives a size has a label in its line `text=` and a first glabel
module _ (P : List Place) (B : List ℕ) (i : ℕ) where
  pub sized_span : sized P B i ≡ true → taken P (line_of i TEXT) ≡ true
  unfolding sized
  sized_span t = (and_parts (taken P (line_of i TEXT)) (is_key_line B KEY_GLABEL (group_at B (block_at B i) KEY_GLABEL)) t).0

  pub sized_glabel : sized P B i ≡ true → is_key_line B KEY_GLABEL (group_at B (block_at B i) KEY_GLABEL) ≡ true
  unfolding sized
  sized_glabel t = (and_parts (taken P (line_of i TEXT)) (is_key_line B KEY_GLABEL (group_at B (block_at B i) KEY_GLABEL)) t).1

-- which stands at the start of its group
pub first_line_lem : (B : List ℕ) (i a : ℕ) → a ≡ group_at B (block_at B i) KEY_GLABEL → value_at B KEY_GLABEL a ≡ glabel B i 0
unfolding glabel line_behind
first_line_lem B i a e = ap (value_at B KEY_GLABEL) e

module _ (P : List Place) (B : List ℕ) (i : ℕ) (o : ByteOrder) (F before : List ℕ) where
  gives_named : (name : List ℕ) (k : ℕ) → sized P B i ≡ true → name ≡ glabel B i 0 → is_symbol_named o F name k ≡ gives_size P B (symbol_name o F k) i
  unfolding is_symbol_named gives_size
  gives_named name k t e = rw (t, e) (same_sym (symbol_name o F k) (glabel B i 0))

  gives_not : (name : List ℕ) → sized P B i ≡ false → gives_size P B name i ≡ false
  unfolding gives_size
  gives_not name f = rw f

  pub size_given : (after name : List ℕ) (put : ℕ) → sized P B i ≡ true → name ≡ glabel B i 0 → put ≡ span_size B (line_of i TEXT) + 1
      → Marked (is_symbol_named o F name) put (symbol_count o F) before after
      → Marked (λ k. gives_size P B (symbol_name o F k) i) (span_size B (line_of i TEXT) + 1) (symbol_count o F) before after
  size_given after name put t e q x = marked_as _ _ _ (symbol_count o F) before after (λ k. gives_named name k t e) (rw q at x)

  pub size_none : (put : ℕ) → sized P B i ≡ false → Marked (λ k. gives_size P B (symbol_name o F k) i) put (symbol_count o F) before before
  size_none put f = marked_none _ put (symbol_count o F) before (λ k. gives_not (symbol_name o F k) f)

-- ---- the sizes of the first i blocks

module _ (P : List Place) (B : List ℕ) where
  below_none : (name : List ℕ) → size_below P B name 0 ≡ 0
  unfolding size_below size_before
  below_none name = rw (past_end (gives_size P B name))

  -- a block that gives a size wins over those before it, whatever they gave
  below_here : (name : List ℕ) (i : ℕ) → gives_size P B name i ≡ true → size_below P B name (i + 1) ≡ new_word (span_size B (line_of i TEXT) + 1) (size_below P B name i)
  unfolding size_below size_before new_word
  below_here name i t =
      let e : i + 1 - 1 ≡ i = omega arith in
      let d : (i + 1 ≡ 0 → ⊥) = λ q. absurd (omega arith) in
      let s : (span_size B (line_of i TEXT) + 1 ≡ 0 → ⊥) = λ q. absurd (omega arith) in
      rw (past_here (gives_size P B name) (i + 1) (omega arith) (rw e t), ne_eqb (i + 1) 0 d, ne_eqb (span_size B (line_of i TEXT) + 1) 0 s, e) (omega arith)

  below_next : (name : List ℕ) (i : ℕ) → gives_size P B name i ≡ false → size_below P B name (i + 1) ≡ size_below P B name i
  unfolding size_below
  below_next name i f =
      let e : i + 1 - 1 ≡ i = omega arith in
      rw (past_next (gives_size P B name) (i + 1) (omega arith) (rw e f), e)

  module _ (o : ByteOrder) (F before : List ℕ) where
    pub sizes_none : ((k : ℕ) → k < symbol_count o F → mark_in before k ≡ 0) → Holds (λ k. size_below P B (symbol_name o F k) 0) (symbol_count o F) before before
    sizes_none z = record { long = refl; words = λ k h. z k h ∙ sym (below_none (symbol_name o F k)) }

    pub sizes_next : (m after : List ℕ) (i : ℕ) → Holds (λ k. size_below P B (symbol_name o F k) i) (symbol_count o F) before m
        → Marked (λ k. gives_size P B (symbol_name o F k) i) (span_size B (line_of i TEXT) + 1) (symbol_count o F) m after
        → Holds (λ k. size_below P B (symbol_name o F k) (i + 1)) (symbol_count o F) before after
    sizes_next m after i x y =
        record {
          long = y.long ∙ x.long;
          words = λ k h. y.words k h ∙ rw (x.words k h) (by-test (gives_size P B (symbol_name o F k) i)
              (λ t. rw t (sym (below_here (symbol_name o F k) i t)))
              (λ f. rw f (sym (below_next (symbol_name o F k) i f))));
        }

    pub sizes_end : (after : List ℕ) (i : ℕ) → i ≡ block_count B → Holds (λ k. size_below P B (symbol_name o F k) i) (symbol_count o F) before after
        → Holds (λ k. size_below P B (symbol_name o F k) (block_count B)) (symbol_count o F) before after
    sizes_end after i e x = rw e at x

    -- ---- the words of all

    whole : (name : List ℕ) → cond (is_glabel P B name) (new_word 0 (size_below P B name (block_count B))) (size_below P B name (block_count B)) ≡ glabel_word P B name
    unfolding glabel_word size_below past_sized new_word
    whole name = by-test (is_glabel P B name) (λ t. rw t (omega arith)) (λ f. rw f (omega arith))

    pub words_whole : (m l after : List ℕ) → length m ≡ length before → Holds (λ k. size_below P B (symbol_name o F k) (block_count B)) (symbol_count o F) m l
        → Marked (λ k. is_glabel P B (symbol_name o F k)) 0 (symbol_count o F) l after → Holds (λ k. glabel_word P B (symbol_name o F k)) (symbol_count o F) before after
    words_whole m l after e x y =
        record { long = y.long ∙ x.long ∙ e; words = λ k h. y.words k h ∙ rw (x.words k h) (whole (symbol_name o F k)) }

-- ---- what a word tells

module _ (P : List Place) (B name : List ℕ) where
  half : glabel_word P B name / 2 ≡ size_before B (past_sized P B name)
  unfolding glabel_word
  half = by-test (is_glabel P B name) (λ t. rw t (omega arith)) (λ f. rw f (omega arith))

  -- whether the name is a glabel
  pub word_glabel : eqb (glabel_word P B name % 2) 1 ≡ is_glabel P B name
  unfolding glabel_word
  word_glabel = by-test (is_glabel P B name)
      (λ t. rw t (eq-eqb ((1 + 2 * size_before B (past_sized P B name)) % 2) 1 (omega arith)))
      (λ f. rw f (ne_eqb ((0 + 2 * size_before B (past_sized P B name)) % 2) 1 (λ q. absurd (omega arith))))

  -- and its size; `own` is its own, where no block gives one
  pub word_size : (own : ℕ) → glabel_size P B name own ≡ cond (eqb (glabel_word P B name / 2) 0) own (glabel_word P B name / 2 - 1)
  unfolding glabel_size size_before
  word_size own = rw half (by-test (eqb (past_sized P B name) 0)
      (λ t. rw t)
      (λ f. rw (f, ne_eqb (span_size B (line_of (past_sized P B name - 1) TEXT) + 1) 0 (λ q. absurd (omega arith))) (omega arith)))

-- ---- the tables in hand, whatever the places are known as

module _ (o : ByteOrder) (A : List ℕ) (t : SymbolTable) (P : List Place) (B table places index : List ℕ) (x : Laid P B table places) where
  pub in_hand : Table o A t → SymbolIndex o A index → GlabelsReady o A t B table places index
  in_hand symbols indexed = record { symbols = symbols; laid = rw x.is x; indexed = indexed }

  pub words_placed : (n : ℕ) (before after : List ℕ) → Holds (λ k. glabel_word (places_in places (line_count B)) B (symbol_name o A k)) n before after
      → Holds (λ k. glabel_word P B (symbol_name o A k)) n before after
  words_placed n before after h = rw x.is at h
