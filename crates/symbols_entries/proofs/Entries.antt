-- The entries over what is in hand are those of the definitions: the flag is the name's, the word is that of the symbol's name, and section and value are the symbol's.
-- Assumes nothing.
use Prim.Native.Nat.{ℕ, ◌+◌, ◌-◌, ◌/◌, ◌%◌}
use mathlib.Core.Path.{◌≡◌, sym, ap, ◌∙◌}
use mathlib.Core.Logic.{◌≢◌}
use mathlib.Core.Bool.{Bool, true, false, cond}
use mathlib.Core.List.{List}
use native.Mathlib.Omega.{arith}
use lib.ListN.{length}
use borrow.Author.Tests.{eq-eqb, ne_eqb}
use Rattle.base_lists.specs.Strings.{same}
use Rattle.base_lists.proofs.Ranges.{by-test}
use Rattle.base_fields.specs.declared.ByteOrder.{ByteOrder}
use Rattle.base_scope.specs.Text.{text}
use Rattle.base_scope.specs.Elf.{STT_FUNC}
use Rattle.base_packed.specs.Packed.{binding_of, type_of, symbol_info}
use Rattle.elf_records.specs.declared.symbol.SymbolEntry.{SymbolEntry}
use Rattle.elf_symbols.specs.Symbols.{symbol, symbol_strings, symbol_name}
use Rattle.blocks_places.specs.Places.{Place}
use Rattle.blocks_glabels.specs.Glabels.{is_glabel, glabel_size}
use Rattle.symbols_names.specs.of_symbols_taken.Taken.{is_placed_in}
use Rattle.symbols_glabels.specs.Words.{glabel_word, mark_in}
use Rattle.symbols_glabels.proofs.Words.{word_glabel, word_size}
use Rattle.symbols_names.specs.of_symbols_ids.Entries.{finished, is_placed_a, is_glabel_a, type_a, size_a, section_a, value_a, entry_a}
use Rattle.symbols_entries.specs.Entries.{finished_as, type_by, size_by, word_by, moved_entry, assembled_in}

-- with the flag of its name
pub finished_is : (name : List ℕ) (gp : Bool) (e : SymbolEntry) → gp ≡ same name (text "_gp_disp") → finished_as gp e ≡ finished name e
unfolding finished_as finished
finished_is name gp e is = rw is

-- and an entry that was finished by it
pub finished_read : (name : List ℕ) (gp : Bool) (e d r : SymbolEntry) → gp ≡ same name (text "_gp_disp") → e ≡ d → r ≡ finished_as gp e → r ≡ finished name d
finished_read name gp e d r is of to = to ∙ finished_is name gp e is ∙ ap (finished name) of

-- ---- by the bits of a word

module _ (w : ℕ) where
  pub type_glabel : (kind : ℕ) → w % 2 ≡ 1 → STT_FUNC ≡ type_by w kind
  unfolding type_by
  type_glabel kind e = rw (eq-eqb (w % 2) 1 e)

  pub type_own : (kind : ℕ) → w % 2 ≢ 1 → kind ≡ type_by w kind
  unfolding type_by
  type_own kind d = rw (ne_eqb (w % 2) 1 d)

  pub size_given : (own : ℕ) → w % 2 ≡ 1 → w / 2 ≢ 0 → w / 2 - 1 ≡ size_by w own
  unfolding size_by
  size_given own e d = rw (eq-eqb (w % 2) 1 e, ne_eqb (w / 2) 0 d)

  pub size_kept : (own : ℕ) → w % 2 ≡ 1 → w / 2 ≡ 0 → own ≡ size_by w own
  unfolding size_by
  size_kept own e z = rw (eq-eqb (w % 2) 1 e, eq-eqb (w / 2) 0 z)

  pub size_own : (own : ℕ) → w % 2 ≢ 1 → own ≡ size_by w own
  unfolding size_by
  size_own own d = rw (ne_eqb (w % 2) 1 d)

-- ---- by the word of a name

module _ (P : List Place) (B name : List ℕ) where
  pub type_word : (kind : ℕ) → type_by (glabel_word P B name) kind ≡ cond (is_glabel P B name) STT_FUNC kind
  unfolding type_by
  type_word kind = rw (word_glabel P B name)

  pub size_word : (own : ℕ) → size_by (glabel_word P B name) own ≡ cond (is_glabel P B name) (glabel_size P B name own) own
  unfolding size_by
  size_word own = rw (word_glabel P B name, word_size P B name own)

-- ---- A's symbol k

module _ (o : ByteOrder) (C A : List ℕ) (P : List Place) (B marks : List ℕ) (k : ℕ) (word : mark_in marks k ≡ glabel_word P B (symbol_name o A k)) where
  type_a_lem : type_by (word_by marks (symbol o A k).st_shndx k) (type_of (symbol o A k).st_info) ≡ type_a o C A P B k
  unfolding word_by type_a is_glabel_a is_placed_a
  type_a_lem = by-test (is_placed_in (symbol o A k).st_shndx)
      (λ t. rw (t, word) (type_word P B (symbol_name o A k) (type_of (symbol o A k).st_info)))
      (λ f. rw f (sym (type_own 0 (type_of (symbol o A k).st_info) (λ q. absurd (omega arith)))))

  size_a_lem : size_by (word_by marks (symbol o A k).st_shndx k) (symbol o A k).st_size ≡ size_a o C A P B k
  unfolding word_by size_a is_glabel_a is_placed_a
  size_a_lem = by-test (is_placed_in (symbol o A k).st_shndx)
      (λ t. rw (t, word) (size_word P B (symbol_name o A k) (symbol o A k).st_size))
      (λ f. rw f (sym (size_own 0 (symbol o A k).st_size (λ q. absurd (omega arith)))))

  pub entry_a_lem : (base section value : ℕ) → base ≡ length (symbol_strings o C) → section ≡ section_a o C A P B k → value ≡ value_a o C A P B k
      → assembled_in o A base section value marks k ≡ entry_a o C A P B k
  unfolding assembled_in moved_entry entry_a
  entry_a_lem base section value strings place moved =
      let info = ap (symbol_info (binding_of (symbol o A k).st_info)) type_a_lem in
      λ i. record {
        st_name = (symbol o A k).st_name + strings i;
        st_value = moved i;
        st_size = size_a_lem i;
        st_info = info i;
        st_other = (symbol o A k).st_other;
        st_shndx = place i;
      }

-- an entry that was read, moved by its word
pub moved_read : (o : ByteOrder) (A marks : List ℕ) (base section value word k : ℕ) (e r : SymbolEntry) → e ≡ symbol o A k → word ≡ word_by marks e.st_shndx k
    → r ≡ moved_entry base section value word e → r ≡ assembled_in o A base section value marks k
unfolding assembled_in
moved_read o A marks base section value word k e r is of to = rw (of, is) at to

-- ---- a section index

pub word_placed : (marks : List ℕ) (x k r : ℕ) → is_placed_in x ≡ true → r ≡ mark_in marks k → r ≡ word_by marks x k
unfolding word_by
word_placed marks x k r t e = rw t e

pub word_none : (marks : List ℕ) (x k : ℕ) → is_placed_in x ≡ false → 0 ≡ word_by marks x k
unfolding word_by
word_none marks x k f = rw f
