-- The entry of an id over what is in hand is the entry of the definition: each origin has its own entry, and the section and the value that are given are that entry's. Names
-- fit, since they end inside their strings and the files are small. Assumes nothing.
use Prim.Native.Nat.{ℕ, ◌+◌, ◌-◌, ◌*◌, ◌≤◌, ◌<◌}
use mathlib.Core.Path.{◌≡◌, refl, sym, ap, ◌∙◌}
use mathlib.Core.List.{List}
use native.Mathlib.Omega.{arith}
use lib.ListN.{length, take, drop, length-drop, take-append-drop}
use lib.Seq.{length-take-le}
use borrow.Author.Tests.{lt-ltb, le-ltb}
use Rattle.base_lists.proofs.Ranges.{by-lt}
use Rattle.base_lists.proofs.Strings.{end_low, has_end_lt}
use Rattle.base_fields.specs.declared.ByteOrder.{ByteOrder}
use Rattle.base_scope.specs.Limits.{FILE_LIMIT, SYMBOL_LIMIT, STATIC_LIMIT, WRITTEN_LIMIT, STATIC_ROW}
use Rattle.elf_records.specs.declared.symbol.SymbolEntry.{SymbolEntry}
use Rattle.elf_symbols.specs.declared.SymbolTable.{SymbolTable}
use Rattle.elf_symbols.specs.Symbols.{symbol_count, symbol, symbol_strings, symbol_name, Table}
use Rattle.elf_symbols.proofs.Symbols.{names_up, names_inside, names_are}
use Rattle.elf_check.specs.Sound.{Sound}
use Rattle.blocks_places.specs.Places.{Place}
use Rattle.statics_table.specs.declared.Static.{Static}
use Rattle.statics_table.specs.Statics.{names_length}
use Rattle.statics_table.specs.Table.{static_in, statics_in}
use Rattle.statics_table.proofs.Statics.{names_append}
use Rattle.statics_table.proofs.Table.{statics_at}
use Rattle.statics_entry.specs.Entry.{nth}
use Rattle.symbols_names.specs.of_statics_walk.Sound.{StaticsSound}
use Rattle.statics_symbols.specs.Entries.{symbol_of_static, static_symbol}
use Rattle.symbols_glabels.specs.Words.{glabel_word, mark_in}
use Rattle.symbols_names.specs.of_symbols_ids.Entries.{finished, section_a, value_a, entry_a}
use Rattle.symbols_names.specs.of_symbols_ids.Ids.{first_a, by_origin, name_of, entry_static, entry_of}
use Rattle.symbols_names.specs.declared.Sources.{Sources}
use Rattle.symbols_names.specs.Names.{first_in, SourcesRead}
use Rattle.symbols_names.proofs.Names.{own_count, other_count, first_static_lem, rows_held}
use Rattle.symbols_entries.specs.Entries.{assembled_in, AtAssembled}
use Rattle.symbols_entries.specs.Ids.{strings_in, origin_in, EntriesReady}
use Rattle.symbols_entries.proofs.Entries.{entry_a_lem}

-- ---- names fit

-- the strings of a table in hand
pub strings_are : (o : ByteOrder) (F : List ℕ) (t : SymbolTable) → Table o F t → strings_in t ≡ length (symbol_strings o F)
strings_are o F t x =
    let up = names_up o F t x in
    let inside = names_inside o F t x in
    let l : t.end - t.names ≤ length (drop t.names F) = rw (length-drop t.names F) (omega (arith, up, inside)) in
    sym (length-take-le (t.end - t.names) (drop t.names F) l) ∙ ap length (names_are o F t x _ refl)

-- a name of an accepted object starts inside its strings
pub name_low : (o : ByteOrder) (F : List ℕ) (t : SymbolTable) → Table o F t → Sound o F → length F ≤ FILE_LIMIT → (k : ℕ) → k < symbol_count o F
    → (symbol o F k).st_name < FILE_LIMIT
name_low o F t x sound small k h =
    let e = has_end_lt (symbol_strings o F) (symbol o F k).st_name (sound.symbol_ends k h) in
    omega (arith, e, end_low (symbol_strings o F) (symbol o F k).st_name, strings_are o F t x, names_up o F t x, names_inside o F t x, small)

-- written names stand one behind the other, and each is short
pub offset_low : (o : ByteOrder) (C : List ℕ) (head : ℕ) (L : List Static) → StaticsSound o C head L → names_length head L ≤ WRITTEN_LIMIT * length L → (k : ℕ) → k < length L
    → (nth L k).offset ≤ WRITTEN_LIMIT * STATIC_LIMIT
offset_low o C head L sound low k h =
    let e : names_length head L ≡ names_length head (take k L) + names_length head (drop k L) = ap (names_length head) (sym (take-append-drop k L)) ∙ names_append head (take k L) (drop k L) in
    omega (arith, sound.offsets k h, e, low, sound.few)

-- ---- by origin

module _ (o : ByteOrder) (C A T : List ℕ) (s : Sources) (r : SourcesRead o C A T s) (i : ℕ) (f g h : ℕ → SymbolEntry) where
  first_a_lem : first_a o C A ≡ s.compiled.count
  unfolding first_a
  first_a_lem = sym (own_count o C A T s r)

  from_c : i < s.compiled.count → by_origin o C A f g h i ≡ f i
  unfolding by_origin
  from_c l = rw (first_a_lem, lt-ltb i s.compiled.count l)

  from_a : s.compiled.count ≤ i → i < first_in s → by_origin o C A f g h i ≡ g (i - s.compiled.count)
  unfolding by_origin
  from_a l u = rw (first_a_lem, first_static_lem o C A T s r, le-ltb i s.compiled.count l, lt-ltb i (first_in s) u)

  from_static : first_in s ≤ i → by_origin o C A f g h i ≡ h (i - first_in s)
  unfolding by_origin
  from_static l =
      let c : s.compiled.count ≤ i = omega arith in
      rw (first_a_lem, first_static_lem o C A T s r, le-ltb i s.compiled.count c, le-ltb i (first_in s) l)

-- ---- what the code reads and answers

module _ (o : ByteOrder) (C A T marks : List ℕ) (s : Sources) (q : EntriesReady o C A T marks s) (i : ℕ) where
  pub symbols_few : first_in s ≤ 2 * SYMBOL_LIMIT
  symbols_few = (rows_held o C A T s q.names).symbols

  pub own_held : i < s.compiled.count → Table o C s.compiled × (i < symbol_count o C)
  own_held l = (q.names.compiled, omega (arith, own_count o C A T s q.names))

  pub own_strings : (s.compiled.names ≤ s.compiled.end) × (s.compiled.end ≤ FILE_LIMIT)
  own_strings =
      let x = q.names.compiled in
      (names_up o C s.compiled x, omega (arith, names_inside o C s.compiled x, q.own))

  pub other_strings : (s.assembled.names ≤ s.assembled.end) × (s.assembled.end ≤ FILE_LIMIT)
  other_strings =
      let x = q.names.assembled in
      (names_up o A s.assembled x, omega (arith, names_inside o A s.assembled x, q.other))

  pub other_held : (base : ℕ) → base ≤ FILE_LIMIT → s.compiled.count ≤ i → i < first_in s → AtAssembled o A s.assembled base marks (i - s.compiled.count)
  other_held base low l u =
      let k : i - s.compiled.count < symbol_count o A = omega (arith, other_count o C A T s q.names) in
      record {
        symbols = q.names.assembled;
        below = k;
        word = omega (arith, k, q.words, q.names.assembled.tabled.few);
        name = omega (arith, q.starts (i - s.compiled.count) k);
      }

  pub static_held : (base : ℕ) → base ≤ 2 * FILE_LIMIT → first_in s ≤ i → i < first_in s + s.statics
      → (STATIC_ROW * (i - first_in s) + STATIC_ROW ≤ length T) × (i - first_in s < STATIC_LIMIT) × (base + (static_in T (i - first_in s)).offset < 4294967296)
  static_held base low l u =
      let k : i - first_in s < s.statics = omega arith in
      (omega (arith, q.names.counted.long), omega (arith, q.names.counted.few), omega (arith, q.offsets (i - first_in s) k))

module _ (o : ByteOrder) (C A T marks : List ℕ) (s : Sources) (x : SourcesRead o C A T s) (mode section value i : ℕ) (r : SymbolEntry) where
  pub origin_c : i < s.compiled.count → r ≡ symbol o C i → r ≡ origin_in o C A T marks s mode section value i
  unfolding origin_in
  origin_c l e = e ∙ sym (from_c o C A T s x i _ _ _ l)

  pub origin_a : (base : ℕ) → base ≡ strings_in s.compiled → s.compiled.count ≤ i → i < first_in s → r ≡ assembled_in o A base section value marks (i - s.compiled.count)
      → r ≡ origin_in o C A T marks s mode section value i
  unfolding origin_in
  origin_a base is l u e =
      e ∙ ap (λ (b : ℕ). assembled_in o A b section value marks (i - s.compiled.count)) is ∙ sym (from_a o C A T s x i _ _ _ l u)

  pub origin_static : (base : ℕ) → base ≡ strings_in s.compiled + strings_in s.assembled → first_in s ≤ i → r ≡ symbol_of_static section mode base (static_in T (i - first_in s))
      → r ≡ origin_in o C A T marks s mode section value i
  unfolding origin_in
  origin_static base is l e = e ∙ ap (λ (b : ℕ). symbol_of_static section mode b (static_in T (i - first_in s))) is ∙ sym (from_static o C A T s x i _ _ _ l)

-- ---- the entry of id i

module _ (o : ByteOrder) (C A T marks : List ℕ) (s : Sources) (x : SourcesRead o C A T s) (P : List Place) (B : List ℕ) (mode i : ℕ) where
  -- it before it is finished
  abbrev whole : SymbolEntry
  whole = by_origin o C A (symbol o C) (entry_a o C A P B) (entry_static o C A P B mode (statics_in T s.statics)) i

  section_a_lem : (k : ℕ) → (entry_a o C A P B k).st_shndx ≡ section_a o C A P B k
  unfolding entry_a
  section_a_lem k = refl

  value_a_lem : (k : ℕ) → (entry_a o C A P B k).st_value ≡ value_a o C A P B k
  unfolding entry_a
  value_a_lem k = refl

  nth_row : (k : ℕ) → k < s.statics → nth (statics_in T s.statics) k ≡ static_in T k
  unfolding nth
  nth_row k h = statics_at T k s.statics _ h

  static_is : (section base k : ℕ) → base ≡ length (symbol_strings o C) + length (symbol_strings o A) → k < s.statics
      → section ≡ (entry_static o C A P B mode (statics_in T s.statics) k).st_shndx → symbol_of_static section mode base (static_in T k) ≡ entry_static o C A P B mode (statics_in T s.statics) k
  unfolding entry_static static_symbol symbol_of_static
  static_is section base k is h e = rw (e, is, nth_row k h)

  -- the words in hand are those of the symbols' names
  abbrev words_held : Type 0
  words_held = (k : ℕ) → k < symbol_count o A → mark_in marks k ≡ glabel_word P B (symbol_name o A k)

  module _ (section value : ℕ) (place : section ≡ whole.st_shndx) (moved : value ≡ whole.st_value) where
    whole_c : i < s.compiled.count → origin_in o C A T marks s mode section value i ≡ whole
    unfolding origin_in
    whole_c l = from_c o C A T s x i _ _ _ l ∙ sym (from_c o C A T s x i _ _ _ l)

    whole_a : words_held → s.compiled.count ≤ i → i < first_in s → origin_in o C A T marks s mode section value i ≡ whole
    unfolding origin_in
    whole_a words l u =
        let k = i - s.compiled.count in
        let e : whole ≡ entry_a o C A P B k = from_a o C A T s x i _ _ _ l u in
        let at = place ∙ ap (λ (y : SymbolEntry). y.st_shndx) e ∙ section_a_lem k in
        let to = moved ∙ ap (λ (y : SymbolEntry). y.st_value) e ∙ value_a_lem k in
        let w = words k (omega (arith, other_count o C A T s x)) in
        from_a o C A T s x i _ _ _ l u
        ∙ entry_a_lem o C A P B marks k w (strings_in s.compiled) section value (strings_are o C s.compiled x.compiled) at to
        ∙ sym e

    whole_static : first_in s ≤ i → i < first_in s + s.statics → origin_in o C A T marks s mode section value i ≡ whole
    unfolding origin_in
    whole_static l u =
        let k = i - first_in s in
        let e : whole ≡ entry_static o C A P B mode (statics_in T s.statics) k = from_static o C A T s x i _ _ _ l in
        let own = strings_are o C s.compiled x.compiled in
        let other = strings_are o A s.assembled x.assembled in
        from_static o C A T s x i _ _ _ l
        ∙ static_is section (strings_in s.compiled + strings_in s.assembled) k (omega (arith, own, other)) (omega arith) (place ∙ ap (λ (y : SymbolEntry). y.st_shndx) e)
        ∙ sym e

    whole_is : words_held → i < first_in s + s.statics → origin_in o C A T marks s mode section value i ≡ whole
    whole_is words h = by-lt i s.compiled.count whole_c (λ l. by-lt i (first_in s) (whole_a words l) (λ u. whole_static u h))

  -- section and value are those that the candidates have
  pub entry_of_lem : (section value : ℕ) → i < first_in s + s.statics → ((k : ℕ) → k < symbol_count o A → mark_in marks k ≡ glabel_word P B (symbol_name o A k))
      → section ≡ (entry_of o C A P B mode (statics_in T s.statics) i).st_shndx → value ≡ (entry_of o C A P B mode (statics_in T s.statics) i).st_value
      → finished (name_of o C A (statics_in T s.statics) i) (origin_in o C A T marks s mode section value i) ≡ entry_of o C A P B mode (statics_in T s.statics) i
  unfolding entry_of finished
  entry_of_lem section value h words place moved = ap (finished (name_of o C A (statics_in T s.statics) i)) (whole_is section value place moved words h)
