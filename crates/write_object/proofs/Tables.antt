-- The tables of the written object: where a section of the plan holds the entries of a symbol table or of a relocation table, these are read back, each as it was. Assumes nothing.
use Rattle.std.specs.Prelude.{None}
use Prim.Native.Nat.{ℕ, ◌+◌, ◌*◌, ◌/◌, ◌<◌}
use mathlib.Core.Path.{◌≡◌, refl, sym, ap, ◌∙◌}
use mathlib.Core.Bool.{Bool, true, false}
use mathlib.Core.List.{List}
use native.Mathlib.Omega.{arith}
use lib.ListN.{length}
use lib.Dec.{eqb}
use Rattle.base_lists.specs.Ranges.{first, gather}
use Rattle.base_lists.specs.Windows.{Within}
use Rattle.base_lists.proofs.Ranges.{first_ext, gather_all_length}
use Rattle.base_lists.proofs.Windows.{within_gather}
use Rattle.base_fields.specs.declared.ByteOrder.{ByteOrder}
use Rattle.base_fields.specs.Layouts.{width_of}
use Rattle.base_scope.specs.Elf.{SHT_SYMTAB, SHT_RELA}
use Rattle.elf_records.specs.declared.header.ElfHeader.{ElfHeader}
use Rattle.elf_records.specs.declared.symbol.SymbolEntry.{SymbolEntry}
use Rattle.elf_records.specs.declared.relocation.RelocationEntry.{RelocationEntry}
use Rattle.elf_records.specs.Symbol.{symbol_bytes}
use Rattle.elf_records.specs.Relocation.{relocation_layout, has_addend, relocation_bytes}
use Rattle.elf_records.proofs.RoundTrip.{within_symbol, length_symbol, within_relocation, length_relocation, rela_width, rel_width}
use Rattle.elf_readers.specs.Readers.{section}
use Rattle.elf_symbols.specs.Symbols.{is_symtab, symtab, symbol_count, symbol_place, symbol}
use Rattle.elf_relocations.specs.Relocations.{is_rela, entry_size, relocation_count, relocation}
use Rattle.write_object.specs.Object.{Plan, has_place, written_offset, written_content, moved_finding, object_bytes}
use Rattle.write_object.proofs.Content.{content_long}
use Rattle.write_object.proofs.ReadBack.{place_held, count_back, type_back, offset_back, size_back, size_held, window_back}

-- entry k of a list of entries of one width
module _ (f : ℕ → List ℕ) (w n : ℕ) (wide : (k : ℕ) → length (f k) ≡ w) where
  entry_within : (c : List ℕ) (k : ℕ) → c ≡ gather (λ j. true) f n → k < n → Within (f k) (w * k) c
  entry_within c k e h = rw e (within_gather (λ j. true) f k n (w * k) (gather_all_length f w wide k) h refl)

  entries_long : (c : List ℕ) → c ≡ gather (λ j. true) f n → length c ≡ w * n
  entries_long c e = ap length e ∙ gather_all_length f w wide n

-- entries of a table, by its width
over : (b : Bool) (n : ℕ) → width_of (relocation_layout b) * n / width_of (relocation_layout b) ≡ n
over true n = rw rela_width (omega arith)
over false n = rw rel_width (omega arith)

module _ (p : Plan) (o : ByteOrder) (h : ElfHeader) (ident : length h.e_ident ≡ 16) (clear : moved_finding p o ≡ None) where
  abbrev O : List ℕ
  O = object_bytes p o h

  -- ---- symbols

  -- the symbol table is the first of the plan
  pub symtab_back : symtab o O ≡ first (λ i. eqb (p.heading i).sh_type SHT_SYMTAB) 0 p.many
  unfolding symtab is_symtab
  symtab_back =
      rw (count_back p o h ident clear)
      (first_ext (is_symtab o O) (λ i. eqb (p.heading i).sh_type SHT_SYMTAB) 0 p.many
      (λ i low below. ap (λ (x : ℕ). eqb x SHT_SYMTAB) (type_back p o h ident clear i below)))

  module _ (t : ℕ) (below : t < p.many) (placed : has_place (p.heading t) ≡ true) (n : ℕ) where
    size_of : (section o O t).sh_size ≡ length (written_content p o t)
    size_of = size_back p o h ident clear t below ∙ size_held p o h ident clear t below (place_held (p.heading t) placed) ∙ sym (content_long p o clear t below)

    module _ (is : symtab o O ≡ t) (e : ℕ → SymbolEntry) (table : written_content p o t ≡ gather (λ k. true) (λ k. symbol_bytes o (e k)) n) where
      pub symbol_count_back : symbol_count o O ≡ n
      unfolding symbol_count
      symbol_count_back = rw (is, size_of, entries_long (λ k. symbol_bytes o (e k)) 16 n (λ k. length_symbol o (e k)) (written_content p o t) table) (omega arith)

      pub symbol_back : (k : ℕ) → k < n → symbol o O k ≡ e k
      unfolding symbol symbol_place
      symbol_back k u =
          let v = entry_within (λ j. symbol_bytes o (e j)) 16 n (λ j. length_symbol o (e j)) (written_content p o t) k table u in
          rw (is, offset_back p o h ident clear t below)
          (within_symbol o (e k) O (written_offset p t + 16 * k) (window_back p o h ident clear t below placed (symbol_bytes o (e k)) (16 * k) v))

    -- ---- relocations

    pub rela_back : is_rela o O t ≡ eqb (p.heading t).sh_type SHT_RELA
    unfolding is_rela
    rela_back = ap (λ (x : ℕ). eqb x SHT_RELA) (type_back p o h ident clear t below)

    module _ (rela : Bool) (kind : eqb (p.heading t).sh_type SHT_RELA ≡ rela) (r : ℕ → RelocationEntry) (alike : (k : ℕ) → has_addend (r k) ≡ rela)
        (table : written_content p o t ≡ gather (λ k. true) (λ k. relocation_bytes o (r k)) n) where
      abbrev w : ℕ
      w = width_of (relocation_layout rela)

      wide : (k : ℕ) → length (relocation_bytes o (r k)) ≡ w
      wide k = length_relocation o (r k) ∙ ap (λ (b : Bool). width_of (relocation_layout b)) (alike k)

      is_rela_lem : is_rela o O t ≡ rela
      is_rela_lem = rela_back ∙ kind

      entry_size_back : entry_size o O t ≡ w
      unfolding entry_size
      entry_size_back = ap (λ (b : Bool). width_of (relocation_layout b)) is_rela_lem

      pub relocation_back : (k : ℕ) → k < n → relocation o O t k ≡ r k
      unfolding relocation
      relocation_back k u =
          let v = entry_within (λ j. relocation_bytes o (r j)) w n wide (written_content p o t) k table u in
          rw (is_rela_lem, entry_size_back, offset_back p o h ident clear t below)
          (within_relocation o rela (r k) O (written_offset p t + w * k) (sym (alike k)) (window_back p o h ident clear t below placed (relocation_bytes o (r k)) (w * k) v))

      pub relocation_count_back : relocation_count o O t ≡ n
      unfolding relocation_count
      relocation_count_back = rw (entry_size_back, size_of, entries_long (λ k. relocation_bytes o (r k)) w n wide (written_content p o t) table) (over rela n)
