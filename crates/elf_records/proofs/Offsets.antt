-- Where each field of a record is read: the widths in front of it in the layout, added up. Every law holds by computing the layout; the field
-- at the record's own offset has `o + 0` there. Assumes nothing.
use Rattle.std.specs.Prelude.{None, Some}
use mathlib.Core.Path.{◌≡◌, refl, sym, ap, ◌∙◌}
use mathlib.Core.Bool.{Bool, true, false}
use mathlib.Core.List.{List}
use Prim.Native.Nat.{ℕ, ◌+◌, ◌*◌, ◌≤◌, ◌<◌}
use native.Mathlib.Nat.{add-zero}
use lib.ListN.{length, take, drop, get_or}
use Rattle.base_fields.specs.declared.ByteOrder.{ByteOrder}
use Rattle.base_fields.specs.Numbers.{number}
use Rattle.base_fields.specs.Layouts.{fields_from}
use Rattle.base_fields.proofs.Layouts.{fields_bytes, words_at, length_words}
use Rattle.elf_records.specs.Section.{section_layout, section_from, section_at}
use Rattle.elf_records.specs.Symbol.{symbol_layout, symbol_from, symbol_at}
use Rattle.elf_records.specs.Relocation.{relocation_layout, addend_of, relocation_from, relocation_at}
use Rattle.elf_records.specs.Header.{elf_layout, elf_from, elf_at}
use Rattle.elf_records.specs.Debug.{debug_layout, debug_from, debug_at}

module _ (order : ByteOrder) (l : List ℕ) (o : ℕ) where
  -- a section header
  pub section_name_lem : (section_at order l o).sh_name ≡ number order 4 l o
  unfolding section_at section_from section_layout fields_from
  section_name_lem = ap (number order 4 l) (add-zero o)

  pub section_type : (section_at order l o).sh_type ≡ number order 4 l (o + 4)
  unfolding section_at section_from section_layout fields_from
  section_type = refl

  pub section_flags : (section_at order l o).sh_flags ≡ number order 4 l (o + 8)
  unfolding section_at section_from section_layout fields_from
  section_flags = refl

  pub section_addr : (section_at order l o).sh_addr ≡ number order 4 l (o + 12)
  unfolding section_at section_from section_layout fields_from
  section_addr = refl

  pub section_offset : (section_at order l o).sh_offset ≡ number order 4 l (o + 16)
  unfolding section_at section_from section_layout fields_from
  section_offset = refl

  pub section_size : (section_at order l o).sh_size ≡ number order 4 l (o + 20)
  unfolding section_at section_from section_layout fields_from
  section_size = refl

  pub section_link : (section_at order l o).sh_link ≡ number order 4 l (o + 24)
  unfolding section_at section_from section_layout fields_from
  section_link = refl

  pub section_info : (section_at order l o).sh_info ≡ number order 4 l (o + 28)
  unfolding section_at section_from section_layout fields_from
  section_info = refl

  pub section_addralign : (section_at order l o).sh_addralign ≡ number order 4 l (o + 32)
  unfolding section_at section_from section_layout fields_from
  section_addralign = refl

  pub section_entsize : (section_at order l o).sh_entsize ≡ number order 4 l (o + 36)
  unfolding section_at section_from section_layout fields_from
  section_entsize = refl

  -- a symbol entry
  pub symbol_name_lem : (symbol_at order l o).st_name ≡ number order 4 l o
  unfolding symbol_at symbol_from symbol_layout fields_from
  symbol_name_lem = ap (number order 4 l) (add-zero o)

  pub symbol_value : (symbol_at order l o).st_value ≡ number order 4 l (o + 4)
  unfolding symbol_at symbol_from symbol_layout fields_from
  symbol_value = refl

  pub symbol_size : (symbol_at order l o).st_size ≡ number order 4 l (o + 8)
  unfolding symbol_at symbol_from symbol_layout fields_from
  symbol_size = refl

  pub symbol_info_lem : (symbol_at order l o).st_info ≡ number order 1 l (o + 12)
  unfolding symbol_at symbol_from symbol_layout fields_from
  symbol_info_lem = refl

  pub symbol_other : (symbol_at order l o).st_other ≡ number order 1 l (o + 13)
  unfolding symbol_at symbol_from symbol_layout fields_from
  symbol_other = refl

  pub symbol_shndx : (symbol_at order l o).st_shndx ≡ number order 2 l (o + 14)
  unfolding symbol_at symbol_from symbol_layout fields_from
  symbol_shndx = refl

  -- a relocation entry, of either kind of table
  pub relocation_offset : (rela : Bool) → (relocation_at order rela l o).r_offset ≡ number order 4 l o
  unfolding relocation_at relocation_from relocation_layout fields_from
  relocation_offset true = ap (number order 4 l) (add-zero o)
  relocation_offset false = ap (number order 4 l) (add-zero o)

  pub relocation_info_lem : (rela : Bool) → (relocation_at order rela l o).r_info ≡ number order 4 l (o + 4)
  unfolding relocation_at relocation_from relocation_layout fields_from
  relocation_info_lem true = refl
  relocation_info_lem false = refl

  pub relocation_addend : (relocation_at order true l o).r_addend ≡ Some (number order 4 l (o + 8))
  unfolding relocation_at relocation_from relocation_layout addend_of fields_from
  relocation_addend = refl

  pub relocation_none : (relocation_at order false l o).r_addend ≡ None
  unfolding relocation_at relocation_from addend_of
  relocation_none = refl

  -- an entry made of what is read
  pub rela_made : (rela : Bool) (x y z : ℕ) → rela ≡ true → x ≡ number order 4 l o → y ≡ number order 4 l (o + 4) → z ≡ number order 4 l (o + 8)
      → record { r_offset = x; r_info = y; r_addend = Some z } ≡ relocation_at order rela l o
  rela_made rela x y z e p q r = rw e (λ i. record {
    r_offset = (p ∙ sym (relocation_offset true)) i;
    r_info = (q ∙ sym (relocation_info_lem true)) i;
    r_addend = (ap Some r ∙ sym relocation_addend) i;
  })

  pub rel_made : (rela : Bool) (x y : ℕ) → rela ≡ false → x ≡ number order 4 l o → y ≡ number order 4 l (o + 4)
      → record { r_offset = x; r_info = y; r_addend = None } ≡ relocation_at order rela l o
  rel_made rela x y e p q = rw e (λ i. record {
    r_offset = (p ∙ sym (relocation_offset false)) i;
    r_info = (q ∙ sym (relocation_info_lem false)) i;
    r_addend = sym relocation_none i;
  })

  -- the file header
  pub elf_ident : o + 16 ≤ length l → (elf_at order l o).e_ident ≡ take 16 (drop o l)
  unfolding elf_at elf_from elf_layout fields_from
  elf_ident h = fields_bytes order 16 l o 0 (rw (add-zero o) h) ∙ ap (λ (k : ℕ). take 16 (drop k l)) (add-zero o)

  pub elf_type : (elf_at order l o).e_type ≡ number order 2 l (o + 16)
  unfolding elf_at elf_from elf_layout fields_from
  elf_type = refl

  pub elf_machine : (elf_at order l o).e_machine ≡ number order 2 l (o + 18)
  unfolding elf_at elf_from elf_layout fields_from
  elf_machine = refl

  pub elf_version : (elf_at order l o).e_version ≡ number order 4 l (o + 20)
  unfolding elf_at elf_from elf_layout fields_from
  elf_version = refl

  pub elf_entry : (elf_at order l o).e_entry ≡ number order 4 l (o + 24)
  unfolding elf_at elf_from elf_layout fields_from
  elf_entry = refl

  pub elf_phoff : (elf_at order l o).e_phoff ≡ number order 4 l (o + 28)
  unfolding elf_at elf_from elf_layout fields_from
  elf_phoff = refl

  pub elf_shoff : (elf_at order l o).e_shoff ≡ number order 4 l (o + 32)
  unfolding elf_at elf_from elf_layout fields_from
  elf_shoff = refl

  pub elf_flags : (elf_at order l o).e_flags ≡ number order 4 l (o + 36)
  unfolding elf_at elf_from elf_layout fields_from
  elf_flags = refl

  pub elf_ehsize : (elf_at order l o).e_ehsize ≡ number order 2 l (o + 40)
  unfolding elf_at elf_from elf_layout fields_from
  elf_ehsize = refl

  pub elf_phentsize : (elf_at order l o).e_phentsize ≡ number order 2 l (o + 42)
  unfolding elf_at elf_from elf_layout fields_from
  elf_phentsize = refl

  pub elf_phnum : (elf_at order l o).e_phnum ≡ number order 2 l (o + 44)
  unfolding elf_at elf_from elf_layout fields_from
  elf_phnum = refl

  pub elf_shentsize : (elf_at order l o).e_shentsize ≡ number order 2 l (o + 46)
  unfolding elf_at elf_from elf_layout fields_from
  elf_shentsize = refl

  pub elf_shnum : (elf_at order l o).e_shnum ≡ number order 2 l (o + 48)
  unfolding elf_at elf_from elf_layout fields_from
  elf_shnum = refl

  pub elf_shstrndx : (elf_at order l o).e_shstrndx ≡ number order 2 l (o + 50)
  unfolding elf_at elf_from elf_layout fields_from
  elf_shstrndx = refl

  -- the debug section's header
  pub debug_magic : (debug_at order l o).magic ≡ number order 2 l o
  unfolding debug_at debug_from debug_layout fields_from
  debug_magic = ap (number order 2 l) (add-zero o)

  pub debug_vstamp : (debug_at order l o).vstamp ≡ number order 2 l (o + 2)
  unfolding debug_at debug_from debug_layout fields_from
  debug_vstamp = refl

  pub debug_words : length (debug_at order l o).words ≡ 23
  unfolding debug_at debug_from debug_layout fields_from
  debug_words = length_words order 4 23 l o 4

  pub debug_word : (i : ℕ) → i < 23 → get_or (debug_at order l o).words i 0 ≡ number order 4 l (o + 4 + 4 * i)
  unfolding debug_at debug_from debug_layout fields_from
  debug_word i h = words_at order 4 23 l o 4 i h
