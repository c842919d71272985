-- Laws of refusal 5: each test of it, from what the code has in hand, and what an object that it does not refuse has: a symbol table inside the
-- file whose symbols are all as they must be. A conjunction that holds has both its parts. Assumes nothing.
use Rattle.std.specs.Prelude.{None, Some}
use mathlib.Core.Logic.{◌⊎◌, inl, inr}
use mathlib.Core.Path.{◌≡◌, refl, sym, ◌∙◌}
use mathlib.Core.Bool.{Bool, true, false, not, ◌&&◌}
use mathlib.Core.List.{List, [], ◌∷◌}
use Prim.Native.Nat.{ℕ, ◌/◌, ◌≤◌, ◌<◌}
use native.Mathlib.Omega.{arith}
use lib.ListN.{length}
use lib.Dec.{eqb, ltb, leb}
use borrow.Author.Tests.{eq-eqb, ne_eqb, eqb-true, lt-ltb, le-ltb, ltb-true, leb-true, not-false}
use Rattle.base_lists.specs.Ranges.{first, past_last}
use Rattle.base_lists.specs.Strings.{zero_at, has_end}
use Rattle.base_lists.proofs.Ranges.{and_parts, by-lt}
use Rattle.base_lists.proofs.Strings.{has_end_past}
use Rattle.base_fields.specs.declared.ByteOrder.{ByteOrder}
use Rattle.elf_records.specs.declared.section.SectionHeader.{SectionHeader}
use Rattle.elf_records.specs.declared.symbol.SymbolEntry.{SymbolEntry}
use Rattle.base_scope.specs.Elf.{SHN_LORESERVE, SHN_XINDEX}
use Rattle.base_scope.specs.Limits.{SYMBOL_LIMIT}
use Rattle.base_scope.specs.Refusals.{found_below}
use Rattle.base_scope.proofs.Refusals.{expect_clear, expect_true, expect_false, none_found}
use Rattle.elf_readers.specs.Readers.{section_count, section, is_strtab}
use Rattle.elf_readers.specs.Bounds.{Headed}
use Rattle.elf_readers.proofs.Readers.{strtab_lt, strtab_held}
use Rattle.elf_symbols.specs.Symbols.{symtab, symbol_count, symbol_place, symbol, strtab, symbol_strings, symbol_name, Tabled}
use Rattle.elf_symbol_faults.specs.Faults.{zero_entry, index_sound, symbol_table_sound, null_symbol_sound, symbol_sound, bad_symbol, symbol_fault}
use Rattle.elf_symbols.proofs.Symbols.{symtab_type, count_read, link_read}

-- ---- the tests, from what is in hand

pub zero_read : (s : SymbolEntry) (a b c d e : Bool)
    → a ≡ (eqb s.st_other 0 && eqb s.st_shndx 0) → b ≡ (eqb s.st_info 0 && a) → c ≡ (eqb s.st_size 0 && b)
    → d ≡ (eqb s.st_value 0 && c) → e ≡ (eqb s.st_name 0 && d) → e ≡ zero_entry s
unfolding zero_entry
zero_read s a b c d e p q r t u = rw (u, t, r, q, p)

pub index_there : (count x : ℕ) → x < count → true ≡ index_sound count x
unfolding index_sound
index_there count x h = rw (lt-ltb _ _ h)

pub index_reserved : (count x : ℕ) → count ≤ x → (leb SHN_LORESERVE x && ltb x SHN_XINDEX) ≡ index_sound count x
unfolding index_sound
index_reserved count x h = rw (le-ltb _ _ h)

module _ (o : ByteOrder) (F : List ℕ) where
  pub table_past : (t : ℕ) → t ≡ symtab o F → section_count o F ≤ t → false ≡ symbol_table_sound o F
  unfolding symbol_table_sound
  table_past t e h = rw (← e, le-ltb _ _ h)

  pub table_there : (t : ℕ) (h : SectionHeader) (link counted linked r : Bool) → t ≡ symtab o F → t < section_count o F → h ≡ section o F t
      → counted ≡ (leb 1 (h.sh_size / 16) && leb (h.sh_size / 16) SYMBOL_LIMIT) → link ≡ is_strtab o F h.sh_link
      → linked ≡ (link && counted) → r ≡ (eqb h.sh_entsize 16 && linked) → r ≡ symbol_table_sound o F
  unfolding symbol_table_sound
  table_there t h link counted linked r found l is p q u v =
      rw (← count_read o F t h found is, ← link_read o F t h found is, ← found, lt-ltb _ _ l, ← is, v, u, q, p)

  pub null_there : (k : ℕ) (s : SymbolEntry) (name : List ℕ) (z : Bool) → k ≡ 0 → s ≡ symbol o F k → name ≡ symbol_name o F k
      → z ≡ zero_entry s → (z && eqb (length name) 0) ≡ null_symbol_sound o F k
  unfolding null_symbol_sound
  null_there k s name z e is named p = rw (eq-eqb _ _ e, p, is, named)

  pub null_other : (k : ℕ) → (k ≡ 0 → ⊥) → true ≡ null_symbol_sound o F k
  unfolding null_symbol_sound
  null_other k e = rw (ne_eqb _ _ e)

  pub sound_read : (k ends sections : ℕ) (s : SymbolEntry) (strings : List ℕ) (null index inner r : Bool)
      → s ≡ symbol o F k → strings ≡ symbol_strings o F → ends ≡ past_last (zero_at strings) (length strings) → sections ≡ section_count o F
      → null ≡ null_symbol_sound o F k → index ≡ index_sound sections s.st_shndx
      → inner ≡ (null && index) → r ≡ (ltb s.st_name ends && inner) → r ≡ symbol_sound o F k
  unfolding symbol_sound
  sound_read k ends sections s strings null index inner r is p q u v w d e =
      rw (e, d, v, w, u, q, ← has_end_past strings s.st_name, p, is)

  pub bad_yes : (k : ℕ) → symbol_sound o F k ≡ false → bad_symbol o F k ≡ true
  unfolding bad_symbol
  bad_yes k e = rw e

  pub bad_no : (k : ℕ) → symbol_sound o F k ≡ true → bad_symbol o F k ≡ false
  unfolding bad_symbol
  bad_no k e = rw e

  -- the search for the first bad symbol, from the equation of its ends
  pub bad_found : (n k : ℕ) → n ≡ symbol_count o F → first (bad_symbol o F) 0 n ≡ k → k ≡ first (bad_symbol o F) 0 (symbol_count o F)
  bad_found n k e f = rw e at (sym f)

  pub fault_table : symbol_table_sound o F ≡ false → Some 0 ≡ symbol_fault o F
  unfolding symbol_fault
  fault_table e = sym (expect_false _ 0 _ e)

  pub fault_first : (n k : ℕ) → symbol_table_sound o F ≡ true → n ≡ symbol_count o F → k ≡ first (bad_symbol o F) 0 (symbol_count o F)
      → found_below n k ≡ symbol_fault o F
  unfolding symbol_fault
  fault_first n k e p q = rw (p, q) (sym (expect_true _ 0 _ e))

-- ---- what a sound table has

-- what the conjuncts of `symbol_table_sound` say
pub record SoundTable (o : ByteOrder) (F : List ℕ) : Type 0 where
  pub there : symtab o F < section_count o F
  pub entry : (section o F (symtab o F)).sh_entsize ≡ 16
  pub linked : is_strtab o F (strtab o F) ≡ true
  pub some : 1 ≤ symbol_count o F
  pub few : symbol_count o F ≤ SYMBOL_LIMIT

module _ (o : ByteOrder) (F : List ℕ) where
  pub sound_table : symbol_table_sound o F ≡ true → SoundTable o F
  unfolding symbol_table_sound
  sound_table e =
      let p = and_parts _ _ e in
      let q = and_parts _ _ p.1 in
      let r = and_parts _ _ q.1 in
      let s = and_parts _ _ r.1 in
      record { there = ltb-true _ _ p.0; entry = eqb-true _ _ q.0; linked = r.0; some = leb-true _ _ s.0; few = leb-true _ _ s.1 }

  pub sound_strtab : symbol_table_sound o F ≡ true → is_strtab o F (strtab o F) ≡ true
  sound_strtab e = (sound_table e).linked

  pub sound_entsize : symbol_table_sound o F ≡ true → (section o F (symtab o F)).sh_entsize ≡ 16
  sound_entsize e = (sound_table e).entry

  -- its bytes lie in the file, since it is no NOBITS
  table_held : Headed o F → symtab o F < section_count o F → symbol_place o F (symbol_count o F) ≤ length F
  unfolding symbol_place symbol_count
  table_held s l =
      let t : (section o F (symtab o F)).sh_type ≡ 2 = symtab_type o F l in
      let h = s.held (symtab o F) l (λ e. absurd (omega arith)) in
      omega (arith, h)

  pub tabled_of : Headed o F → symbol_table_sound o F ≡ true → Tabled o F
  tabled_of s e =
      let t = sound_table e in
      record { headed = s; table = t.there; strings = strtab_lt o F (strtab o F) t.linked; held = strtab_held o F (strtab o F) t.linked; some = t.some; few = t.few; inside = table_held s t.there }

  -- ---- what an object that is not refused has

  pub fault_sound : symbol_fault o F ≡ None → symbol_table_sound o F ≡ true
  unfolding symbol_fault
  fault_sound e = (expect_clear _ _ _ e).0

  pub fault_tabled : Headed o F → symbol_fault o F ≡ None → Tabled o F
  fault_tabled s e = tabled_of s (fault_sound e)

  pub fault_symbols : symbol_fault o F ≡ None → (k : ℕ) → k < symbol_count o F → symbol_sound o F k ≡ true
  unfolding symbol_fault bad_symbol
  fault_symbols e k l = not-false _ (none_found (bad_symbol o F) (symbol_count o F) (expect_clear _ 0 _ e).1 k l)

-- ---- what a sound symbol has

empty : (l : List ℕ) → length l ≡ 0 → l ≡ []
empty [] e = refl
empty (x ∷ l) e = absurd (omega arith)

module _ (o : ByteOrder) (F : List ℕ) where
  -- its name has an end
  pub sound_end : (k : ℕ) → symbol_sound o F k ≡ true → has_end (symbol_strings o F) (symbol o F k).st_name ≡ true
  unfolding symbol_sound
  sound_end k e = (and_parts _ _ e).0

  rest_parts : (k : ℕ) → symbol_sound o F k ≡ true → (null_symbol_sound o F k ≡ true) × (index_sound (section_count o F) (symbol o F k).st_shndx ≡ true)
  unfolding symbol_sound
  rest_parts k e =
      let rest : Bool = null_symbol_sound o F k && index_sound (section_count o F) (symbol o F k).st_shndx in
      and_parts _ _ (and_parts (has_end (symbol_strings o F) (symbol o F k).st_name) rest e).1

  -- its section exists, or the index is reserved
  pub sound_index : (k : ℕ) → symbol_sound o F k ≡ true → index_sound (section_count o F) (symbol o F k).st_shndx ≡ true
  sound_index k e = (rest_parts k e).1

  pub sound_null : (k : ℕ) → symbol_sound o F k ≡ true → null_symbol_sound o F k ≡ true
  sound_null k e = (rest_parts k e).0

  null_parts : null_symbol_sound o F 0 ≡ true → (zero_entry (symbol o F 0) ≡ true) × (eqb (length (symbol_name o F 0)) 0 ≡ true)
  unfolding null_symbol_sound
  null_parts e = and_parts _ _ e

  -- entry 0 is zeros with an empty name
  pub sound_zero : symbol_sound o F 0 ≡ true → zero_entry (symbol o F 0) ≡ true
  sound_zero e = (null_parts (sound_null 0 e)).0

  pub sound_unnamed : symbol_sound o F 0 ≡ true → symbol_name o F 0 ≡ []
  sound_unnamed e = empty (symbol_name o F 0) (eqb-true _ _ (null_parts (sound_null 0 e)).1)

-- an index of a section, or a reserved one
pub index_cases : (count x : ℕ) → index_sound count x ≡ true → (x < count) ⊎ ((SHN_LORESERVE ≤ x) × (x < SHN_XINDEX))
unfolding index_sound
index_cases count x e = by-lt x count inl (λ h.
    let r : (leb SHN_LORESERVE x && ltb x SHN_XINDEX) ≡ true = index_reserved count x h ∙ e in
    let p = and_parts _ _ r in
    inr (leb-true _ _ p.0, ltb-true _ _ p.1))

-- the fields of an entry of zeros
pub record ZeroEntry (s : SymbolEntry) : Type 0 where
  pub name : s.st_name ≡ 0
  pub value : s.st_value ≡ 0
  pub size : s.st_size ≡ 0
  pub info : s.st_info ≡ 0
  pub other : s.st_other ≡ 0
  pub index : s.st_shndx ≡ 0

pub zero_fields : (s : SymbolEntry) → zero_entry s ≡ true → ZeroEntry s
unfolding zero_entry
zero_fields s e =
    let p = and_parts _ _ e in
    let q = and_parts _ _ p.1 in
    let r = and_parts _ _ q.1 in
    let t = and_parts _ _ r.1 in
    let u = and_parts _ _ t.1 in
    record {
      name = eqb-true _ _ p.0;
      value = eqb-true _ _ q.0;
      size = eqb-true _ _ r.0;
      info = eqb-true _ _ t.0;
      other = eqb-true _ _ u.0;
      index = eqb-true _ _ u.1;
    }
