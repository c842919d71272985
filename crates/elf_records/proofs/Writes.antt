-- A record written part by part, each part right behind those before it, is the record's bytes written at once: `record_then` of fields, once
-- for each part. Assumes nothing.
use Rattle.std.specs.Prelude.{None, Some}
use mathlib.Core.Path.{◌≡◌, refl, sym, ap, ◌∙◌}
use mathlib.Core.Bool.{Bool, true, false}
use mathlib.Core.List.{List, [], ◌∷◌, ◌++◌, append_assoc}
use Prim.Native.Nat.{ℕ, ◌+◌, ◌*◌, ◌≤◌}
use native.Mathlib.Omega.{arith}
use lib.ListN.{length, replicate, length-append}
use Rattle.base_lists.specs.Windows.{spliced}
use Rattle.base_lists.specs.Records.{flat}
use Rattle.base_fields.specs.declared.ByteOrder.{ByteOrder}
use Rattle.base_fields.specs.Numbers.{encoded}
use Rattle.base_fields.specs.Layouts.{width_of, record_bytes}
use Rattle.base_lists.proofs.Records.{length_flat}
use Rattle.base_fields.proofs.Numbers.{length_encoded, encoded_byte}
use Rattle.base_fields.proofs.Layouts.{record_one, record_then, field_then, record_words, record_bytes_lem}
use Rattle.elf_records.specs.declared.section.SectionHeader.{SectionHeader}
use Rattle.elf_records.specs.declared.symbol.SymbolEntry.{SymbolEntry}
use Rattle.elf_records.specs.declared.relocation.RelocationEntry.{RelocationEntry}
use Rattle.elf_records.specs.Relocation.{relocation_layout, addend_fields, relocation_fields, present, has_addend, relocation_bytes}
use Rattle.elf_records.specs.declared.header.ElfHeader.{ElfHeader}
use Rattle.elf_records.specs.declared.debug.Hdrr.{Hdrr}
use Rattle.elf_records.specs.Header.{elf_layout, elf_fields, elf_bytes}
use Rattle.elf_records.specs.Debug.{debug_layout, debug_fields, debug_bytes}
use Rattle.elf_records.specs.Section.{section_layout, section_fields, section_bytes}
use Rattle.elf_records.specs.Symbol.{symbol_layout, symbol_fields, symbol_bytes}

-- ten words
pub section_words : (order : ByteOrder) (h : SectionHeader) → flat (encoded order 4) (section_fields h) ≡ section_bytes order h
unfolding section_bytes section_layout section_fields
section_words order h = sym (record_words order 4 10 (section_fields h) refl)

-- the first field
start : (order : ByteOrder) (l : List ℕ) (o w x : ℕ) (m : List ℕ) → m ≡ spliced l o (encoded order w x) → m ≡ spliced l o (record_bytes order (w ∷ []) (x ∷ []))
start order l o w x m e = e ∙ ap (spliced l o) (record_one order w x)

-- the six fields of a symbol
pub symbol_written : (order : ByteOrder) (s : SymbolEntry) (l : List ℕ) (o : ℕ) (a b c d e f : List ℕ) → o + 16 ≤ length l
    → a ≡ spliced l o (encoded order 4 s.st_name)
    → b ≡ spliced a (o + 4) (encoded order 4 s.st_value)
    → c ≡ spliced b (o + 8) (encoded order 4 s.st_size)
    → d ≡ spliced c (o + 12) (s.st_info ∷ [])
    → e ≡ spliced d (o + 13) (s.st_other ∷ [])
    → f ≡ spliced e (o + 14) (encoded order 2 s.st_shndx)
    → f ≡ spliced l o (symbol_bytes order s)
unfolding symbol_bytes symbol_layout symbol_fields width_of
symbol_written order s l o a b c d e f h p q r t u v =
    let byte : (m : List ℕ) (k x : ℕ) → spliced m k (x ∷ []) ≡ spliced m k (encoded order 1 x) = λ m k x. ap (spliced m k) (sym (encoded_byte order x)) in
    let n = s.st_name in
    let w = s.st_value in
    let z = s.st_size in
    let i = s.st_info in
    let g = s.st_other in
    let a' = start order l o 4 n a p in
    let b' = field_then order l o (4 ∷ []) (n ∷ []) 4 w a b (o + 4) refl refl (omega arith) a' q in
    let c' = field_then order l o (4 ∷ 4 ∷ []) (n ∷ w ∷ []) 4 z b c (o + 8) refl refl (omega arith) b' r in
    let d' = field_then order l o (4 ∷ 4 ∷ 4 ∷ []) (n ∷ w ∷ z ∷ []) 1 i c d (o + 12) refl refl (omega arith) c' (t ∙ byte c (o + 12) i) in
    let e' = field_then order l o (4 ∷ 4 ∷ 4 ∷ 1 ∷ []) (n ∷ w ∷ z ∷ i ∷ []) 1 g d e (o + 13) refl refl (omega arith) d' (u ∙ byte d (o + 13) g) in
    field_then order l o (4 ∷ 4 ∷ 4 ∷ 1 ∷ 1 ∷ []) (n ∷ w ∷ z ∷ i ∷ g ∷ []) 2 s.st_shndx e f (o + 14) refl refl (omega arith) e' v

-- the two or three fields of a relocation entry
bytes_rela : (order : ByteOrder) (r : RelocationEntry) (v : ℕ) → r.r_addend ≡ Some v
    → record_bytes order (4 ∷ 4 ∷ 4 ∷ []) (r.r_offset ∷ r.r_info ∷ v ∷ []) ≡ relocation_bytes order r
unfolding relocation_bytes relocation_fields relocation_layout addend_fields has_addend present
bytes_rela order r v e = rw e

bytes_rel : (order : ByteOrder) (r : RelocationEntry) → r.r_addend ≡ None
    → record_bytes order (4 ∷ 4 ∷ []) (r.r_offset ∷ r.r_info ∷ []) ≡ relocation_bytes order r
unfolding relocation_bytes relocation_fields relocation_layout addend_fields has_addend present
bytes_rel order r e = rw e

pub rela_written : (order : ByteOrder) (r : RelocationEntry) (v : ℕ) (l : List ℕ) (o : ℕ) (a b c : List ℕ) → r.r_addend ≡ Some v → o + 12 ≤ length l
    → a ≡ spliced l o (encoded order 4 r.r_offset)
    → b ≡ spliced a (o + 4) (encoded order 4 r.r_info)
    → c ≡ spliced b (o + 8) (encoded order 4 v)
    → c ≡ spliced l o (relocation_bytes order r)
unfolding width_of
rela_written order r v l o a b c e h p q t =
    let x = r.r_offset in
    let y = r.r_info in
    let b' = field_then order l o (4 ∷ []) (x ∷ []) 4 y a b (o + 4) refl refl (omega arith) (start order l o 4 x a p) q in
    field_then order l o (4 ∷ 4 ∷ []) (x ∷ y ∷ []) 4 v b c (o + 8) refl refl (omega arith) b' t ∙ ap (spliced l o) (bytes_rela order r v e)

pub rel_written : (order : ByteOrder) (r : RelocationEntry) (l : List ℕ) (o : ℕ) (a b : List ℕ) → r.r_addend ≡ None → o + 8 ≤ length l
    → a ≡ spliced l o (encoded order 4 r.r_offset)
    → b ≡ spliced a (o + 4) (encoded order 4 r.r_info)
    → b ≡ spliced l o (relocation_bytes order r)
unfolding width_of
rel_written order r l o a b e h p q =
    let x = r.r_offset in
    let y = r.r_info in
    field_then order l o (4 ∷ []) (x ∷ []) 4 y a b (o + 4) refl refl (omega arith) (start order l o 4 x a p) q ∙ ap (spliced l o) (bytes_rel order r e)

-- the room that an entry needs, of either kind
pub room_rela : (b : Bool) (o n : ℕ) → b ≡ true → o + width_of (relocation_layout b) ≤ n → o + 12 ≤ n
unfolding width_of relocation_layout
room_rela b o n e h = rw e at h

pub room_rel : (b : Bool) (o n : ℕ) → b ≡ false → o + width_of (relocation_layout b) ≤ n → o + 8 ≤ n
unfolding width_of relocation_layout
room_rel b o n e h = rw e at h

pub has_addend_lem : (r : RelocationEntry) (v : ℕ) → r.r_addend ≡ Some v → has_addend r ≡ true
unfolding has_addend present
has_addend_lem r v e = rw e

pub no_addend : (r : RelocationEntry) → r.r_addend ≡ None → has_addend r ≡ false
unfolding has_addend present
no_addend r e = rw e

-- two halves and the words of the debug section's header
pub debug_written : (order : ByteOrder) (h : Hdrr) (l : List ℕ) (o : ℕ) (a b c : List ℕ) → length h.words ≡ 23 → o + 96 ≤ length l
    → a ≡ spliced l o (encoded order 2 h.magic)
    → b ≡ spliced a (o + 2) (encoded order 2 h.vstamp)
    → c ≡ spliced b (o + 4) (flat (encoded order 4) h.words)
    → c ≡ spliced l o (debug_bytes order h)
unfolding width_of debug_bytes debug_layout debug_fields
debug_written order h l o a b c e f p q r =
    let m = h.magic in
    let v = h.vstamp in
    let b' = field_then order l o (2 ∷ []) (m ∷ []) 2 v a b (o + 2) refl refl (omega arith) (start order l o 2 m a p) q in
    let n : length (flat (encoded order 4) h.words) ≡ 4 * length h.words = length_flat (encoded order 4) 4 (length_encoded order 4) h.words in
    record_then order l o (2 ∷ 2 ∷ []) (m ∷ v ∷ []) (replicate 23 4) h.words b (flat (encoded order 4) h.words) c (o + 4) refl refl (omega arith)
    (sym (record_words order 4 23 h.words e)) b' r

-- the bytes, halves and words of the file header
pub elf_written : (order : ByteOrder) (h : ElfHeader) (l : List ℕ) (o : ℕ) (a b c d : List ℕ) → length h.e_ident ≡ 16 → o + 52 ≤ length l
    → a ≡ spliced l o h.e_ident
    → b ≡ spliced a (o + 16) (flat (encoded order 2) (h.e_type ∷ h.e_machine ∷ []))
    → c ≡ spliced b (o + 20) (flat (encoded order 4) (h.e_version ∷ h.e_entry ∷ h.e_phoff ∷ h.e_shoff ∷ h.e_flags ∷ []))
    → d ≡ spliced c (o + 40) (flat (encoded order 2) (h.e_ehsize ∷ h.e_phentsize ∷ h.e_phnum ∷ h.e_shentsize ∷ h.e_shnum ∷ h.e_shstrndx ∷ []))
    → d ≡ spliced l o (elf_bytes order h)
unfolding width_of elf_bytes elf_layout elf_fields
elf_written order h l o a b c d e f p q r s =
    let i = h.e_ident in
    let x : List ℕ = h.e_type ∷ h.e_machine ∷ [] in
    let y : List ℕ = h.e_version ∷ h.e_entry ∷ h.e_phoff ∷ h.e_shoff ∷ h.e_flags ∷ [] in
    let z : List ℕ = h.e_ehsize ∷ h.e_phentsize ∷ h.e_phnum ∷ h.e_shentsize ∷ h.e_shnum ∷ h.e_shstrndx ∷ [] in
    let wide : (w : ℕ) (xs : List ℕ) → length (flat (encoded order w) xs) ≡ w * length xs = λ w xs. length_flat (encoded order w) w (length_encoded order w) xs in
    let n₁ : length (flat (encoded order 2) x) ≡ 4 = wide 2 x in
    let n₂ : length (flat (encoded order 4) y) ≡ 20 = wide 4 y in
    let n₃ : length (flat (encoded order 2) z) ≡ 12 = wide 2 z in
    let l₁ : length (i ++ x) ≡ 18 = rw (length-append, e) in
    let l₂ : length ((i ++ x) ++ y) ≡ 23 = rw (length-append, l₁) in
    let a' : a ≡ spliced l o (record_bytes order (replicate 16 1) i) = p ∙ ap (spliced l o) (sym (record_bytes_lem order 16 i e)) in
    let b' = record_then order l o (replicate 16 1) i (replicate 2 2) x a (flat (encoded order 2) x) b (o + 16) e refl (omega arith)
    (sym (record_words order 2 2 x refl)) a' q in
    let c' = record_then order l o (replicate 16 1 ++ replicate 2 2) (i ++ x) (replicate 5 4) y b (flat (encoded order 4) y) c (o + 20) l₁ refl (omega arith)
    (sym (record_words order 4 5 y refl)) b' r in
    record_then order l o ((replicate 16 1 ++ replicate 2 2) ++ replicate 5 4) ((i ++ x) ++ y) (replicate 6 2) z c (flat (encoded order 2) z) d (o + 40) l₂ refl (omega arith)
    (sym (record_words order 2 6 z refl)) c' s
    ∙ ap (λ (v : List ℕ). spliced l o (record_bytes order elf_layout v)) (append_assoc (i ++ x) y z ∙ append_assoc i x (y ++ z))
