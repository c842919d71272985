-- Where a reference of C or A leads in an object O that a merge gave back: to the symbol that has its name, defined where everything that is taken over and defines that name
-- says; without a name, to what it was. Assumes nothing.
use Rattle.std.specs.Prelude.{None, Some, Option}
use Prim.Native.Nat.{ℕ, ◌+◌, ◌≤◌, ◌<◌}
use mathlib.Core.Path.{◌≡◌, refl, sym, ap, ◌∙◌, subst}
use mathlib.Core.Bool.{true, false, not, ◌&&◌}
use mathlib.Core.List.{List}
use native.Mathlib.Omega.{arith}
use lib.ListN.{length, get_or}
use lib.Dec.{eqb}
use borrow.Author.Tests.{eq-eqb}
use Rattle.base_lists.specs.Ranges.{first}
use Rattle.base_lists.specs.Strings.{same}
use Rattle.base_lists.proofs.Ranges.{by-test, both, and_parts, and_true, first_high, some_yes, some_no}
use Rattle.base_lists.proofs.Strings.{same_true, same_eq}
use Rattle.base_fields.specs.declared.ByteOrder.{ByteOrder}
use Rattle.base_scope.specs.Elf.{SHN_UNDEF}
use Rattle.base_scope.specs.Refusals.{NAME_TWICE}
use Rattle.base_scope.proofs.Refusals.{found_clear}
use Rattle.base_answers.specs.Answers.{NONE}
use Rattle.base_answers.proofs.Verdicts.{also_parts, finding_passed}
use Rattle.elf_records.specs.declared.symbol.SymbolEntry.{SymbolEntry}
use Rattle.elf_readers.specs.Readers.{order_of}
use Rattle.elf_symbols.specs.Symbols.{symbol_count, symbol}
use Rattle.blocks_places.specs.Places.{Place, places_of}
use Rattle.statics_table.specs.declared.Static.{Static}
use Rattle.statics_table.specs.Statics.{name_head}
use Rattle.statics_walk.specs.Walk.{statics}
use Rattle.symbols_merge.specs.Candidates.{Candidates, is_defined, is_unnamed}
use Rattle.symbols_merge.specs.Listed.{listed, is_elsewhere, symbols_verdict}
use Rattle.symbols_merge.specs.Merged.{held_by, number_of}
use Rattle.symbols_merge.proofs.Merged.{Taken, held_taken, held_name, held_unnamed, held_defined, held_place, number_leads, number_in}
use Rattle.symbols_ids.specs.Ids.{first_a, entry_of, candidates, merge_candidates}
use Rattle.base_packed.specs.declared.MergedSymbol.{MergedSymbol}
use Rattle.symbols_numbers.specs.Result.{new_of}
use Rattle.symbols_numbers.proofs.Result.{new_merged}
use Rattle.merge_verdict.specs.of_symbols_stage.Verdict.{list_verdict, symbol_stages_verdict}
use Rattle.demand_clauses.specs.of_carry_entries.Entries.{is_in_result, new_number}
use Rattle.demand_clauses.specs.of_carry_entries.Carried.{carrying_c, carrying_a}
use Rattle.merge_verdict.specs.Verdict.{MergePassed}
use Rattle.demand_clauses.specs.Reading.{Reference, referred_symbol}
use Rattle.demand_clauses.specs.TakenOver.{Definition, no_definition, defines, has_definition, definition_c, definition_a, taken_over, is_compiled, referred_definition, merge_statics}
use Rattle.demand_clauses.specs.Demand.{plain_name, Leads}
use Rattle.demand_symbols.proofs.Ids.{definition_of, named_not, definition_c_lem, definition_a_lem, over_at_lem, over_of, many_is}
use Rattle.demand_symbols.proofs.Symbols.{count_is, entry_is, plain_is}

-- ---- candidates s, and a list of definitions that is theirs: of each that is taken, and of no other

module _ (s : Candidates) (once : first (is_elsewhere s) 0 (length (listed s)) ≡ length (listed s)) (over : List Definition)
    (over_has : (i : ℕ) → Taken s i → (j : ℕ) × (j < length over) × (get_or over j no_definition ≡ definition_of s i))
    (over_from : (j : ℕ) → j < length over → (i : ℕ) × Taken s i × (get_or over j no_definition ≡ definition_of s i)) where
  -- what a candidate says defines a name where it has that name and is defined
  defines_is : (i : ℕ) (w : List ℕ) → defines w (definition_of s i) ≡ (same (s.name i) w && is_defined s i)
  unfolding defines definition_of is_defined
  defines_is i w = refl

  module _ (i : ℕ) (t : Taken s i) (named : is_unnamed s i ≡ false) where
    -- what defines i's name says what a candidate of that name does, which is defined
    defined_by : (j k : ℕ) → Taken s k → get_or over j no_definition ≡ definition_of s k → defines (s.name i) (get_or over j no_definition) ≡ true
        → (s.name i ≡ s.name k) × (is_defined s k ≡ true)
    defined_by j k u e d =
        let r = and_parts (same (s.name k) (s.name i)) (is_defined s k) (sym (defines_is k (s.name i)) ∙ ap (defines (s.name i)) (sym e) ∙ d) in
        (sym (same_true (s.name k) (s.name i) r.0), r.1)

    -- 19 has passed, so the holder is where that candidate is
    place_at : (j k : ℕ) → Taken s k → get_or over j no_definition ≡ definition_of s k → defines (s.name i) (get_or over j no_definition) ≡ true
        → (s.section (held_by s i) ≡ (get_or over j no_definition).section) × (s.value (held_by s i) ≡ (get_or over j no_definition).value)
    unfolding definition_of
    place_at j k u e d =
        let r = defined_by j k u e d in
        let h = held_place s once i k t u named r.0 r.1 in
        (h.0 ∙ sym (ap (λ (x : Definition). x.section) e), h.1 ∙ sym (ap (λ (x : Definition). x.value) e))

    -- each that defines the name says the holder's place
    held_agrees : (j : ℕ) → j < length over → defines (s.name i) (get_or over j no_definition) ≡ true
        → (s.section (held_by s i) ≡ (get_or over j no_definition).section) × (s.value (held_by s i) ≡ (get_or over j no_definition).value)
    held_agrees j h d = let r = over_from j h in place_at j r.0 r.1 r.2 d

    -- the holder is defined exactly where some definition of the name is taken over: it is one itself, and another would come before an undefined holder
    held_some : is_defined s (held_by s i) ≡ true → has_definition over (s.name i) ≡ true
    unfolding has_definition
    held_some d =
        let u = held_taken s i t in
        let r = over_has (held_by s i) u in
        some_yes (λ j. defines (s.name i) (get_or over j no_definition)) 0 (length over) r.0 (omega arith) r.1
        (ap (defines (s.name i)) r.2 ∙ defines_is (held_by s i) (s.name i) ∙ and_true _ _ (same_eq (s.name (held_by s i)) (s.name i) (held_name s i t)) d)

    held_none : is_defined s (held_by s i) ≡ false → has_definition over (s.name i) ≡ false
    unfolding has_definition
    held_none f = some_no (λ j. defines (s.name i) (get_or over j no_definition)) 0 (length over) (omega arith) (λ j l h. by-test (defines (s.name i) (get_or over j no_definition))
        (λ d.
        let r = over_from j h in
        let q = defined_by j r.0 r.1 r.2 d in
        both (held_defined s i r.0 t r.1 named q.0 q.1) f)
        (λ e. e))

    held_has : is_defined s (held_by s i) ≡ has_definition over (s.name i)
    held_has = by-test (is_defined s (held_by s i)) (λ d. d ∙ sym (held_some d)) (λ f. f ∙ sym (held_none f))

-- ---- the candidates of an accepted merge

module _ (C A B path : List ℕ) (flag mode : ℕ) (O : List ℕ) (p : MergePassed C A B path flag mode O) where
  abbrev o : ByteOrder
  o = order_of C

  abbrev P : List Place
  P = places_of o C B

  abbrev head : ℕ
  head = length (name_head mode path)

  abbrev S : List Static
  S = statics o C mode head

  abbrev s : Candidates
  s = merge_candidates o C A P B mode head

  abbrev over : List Definition
  over = taken_over o C A P B (merge_statics o C mode path)

  -- what is taken over is what they say
  over_has : (i : ℕ) → Taken s i → (j : ℕ) × (j < length over) × (get_or over j no_definition ≡ definition_of s i)
  unfolding merge_statics merge_candidates
  over_has = over_at_lem o C A P B mode S

  over_from : (j : ℕ) → j < length over → (i : ℕ) × Taken s i × (get_or over j no_definition ≡ definition_of s i)
  unfolding merge_statics merge_candidates
  over_from = over_of o C A P B mode S

  -- 19 has passed
  none_elsewhere : first (is_elsewhere s) 0 (length (listed s)) ≡ length (listed s)
  unfolding symbol_stages_verdict list_verdict symbols_verdict
  none_elsewhere =
      let a = also_parts _ _ p.symbols in
      let b = also_parts _ _ a.1 in
      let c = also_parts _ _ b.1 in
      let d = found_clear (length (listed s)) (first (is_elsewhere s) 0 (length (listed s))) (finding_passed NAME_TWICE NONE _ c.1) in
      omega (arith, d, first_high (is_elsewhere s) 0 (length (listed s)) (omega arith))

  -- ---- a reference whose symbol is candidate i

  module _ (r : Reference) (i : ℕ) (t : Taken s i) (is : referred_definition o C A P B r ≡ definition_of s i) where
    abbrev n : ℕ
    n = number_of s i

    abbrev d : Definition
    d = referred_definition o C A P B r

    -- its number is one of the result's
    some : 1 ≤ n
    some = (number_in s i t).0

    there : n < symbol_count o O
    there = omega (arith, (number_in s i t).1, count_is C A B path flag mode O p)

    own_name : d.name ≡ s.name i
    unfolding definition_of
    own_name = ap (λ (x : Definition). x.name) is

    -- that entry is the holder's
    entry_fields : ((symbol o O n).st_shndx ≡ s.section (held_by s i)) × ((symbol o O n).st_value ≡ s.value (held_by s i))
    unfolding merge_candidates candidates
    entry_fields =
        let e : symbol o O n ≡ entry_of o C A P B mode S (held_by s i) = entry_is C A B path flag mode O p n some there ∙ ap (entry_of o C A P B mode S) (number_leads s i t) in
        (ap (λ (x : SymbolEntry). x.st_shndx) e, ap (λ (x : SymbolEntry). x.st_value) e)

    -- of the same name
    has_name_lem : plain_name o C A P B path flag mode O n ≡ d.name
    has_name_lem = plain_is C A B path flag mode O p n some there ∙ ap s.name (number_leads s i t) ∙ held_name s i t ∙ sym own_name

    named : 0 < length d.name → is_unnamed s i ≡ false
    named h = named_not s i (omega (arith, h, ap length own_name))

    -- named: defined where something that is taken over defines the name, and there where each that does says
    is_defined_lem : 0 < length d.name → not (eqb (symbol o O n).st_shndx SHN_UNDEF) ≡ has_definition over d.name
    unfolding is_defined
    is_defined_lem h =
        ap (λ (x : ℕ). not (eqb x SHN_UNDEF)) entry_fields.0
        ∙ held_has s none_elsewhere over over_has over_from i t (named h)
        ∙ ap (has_definition over) (sym own_name)

    all_agree : 0 < length d.name → (j : ℕ) → j < length over → defines d.name (get_or over j no_definition) ≡ true
        → ((symbol o O n).st_shndx ≡ (get_or over j no_definition).section) × ((symbol o O n).st_value ≡ (get_or over j no_definition).value)
    all_agree h j l y =
        let a = held_agrees s none_elsewhere over over_has over_from i t (named h) j l (ap (λ (w : List ℕ). defines w (get_or over j no_definition)) (sym own_name) ∙ y) in
        (entry_fields.0 ∙ a.0, entry_fields.1 ∙ a.1)

    -- without a name: it holds itself
    own_place : length d.name ≡ 0 → ((symbol o O n).st_shndx ≡ d.section) × ((symbol o O n).st_value ≡ d.value)
    unfolding is_unnamed definition_of
    own_place h =
        let e : held_by s i ≡ i = held_unnamed s i t (eq-eqb (length (s.name i)) 0 (sym (ap length own_name) ∙ h)) in
        (entry_fields.0 ∙ ap s.section e ∙ sym (ap (λ (x : Definition). x.section) is), entry_fields.1 ∙ ap s.value e ∙ sym (ap (λ (x : Definition). x.value) is))

    leads_id : Leads o C A P B path flag mode O r n
    leads_id = record { some = some; there = there; name = has_name_lem; defined = is_defined_lem; agrees = all_agree; unnamed = own_place }

  -- ---- a reference of C, or of A, whose symbol is in the result

  -- candidate i is symbol k of an object, and in the result
  became : (from many k i : ℕ) → from + k ≡ i → (x : Option MergedSymbol) → new_of s from many k ≡ x → is_in_result x ≡ true → (k < many) × (s.taken i ≡ true) × (new_number x ≡ number_of s i)
  unfolding is_in_result new_number
  became from many k i q (Some x) e y = let b = new_merged s from many k x e in (b.own, ap s.taken (sym q) ∙ b.taken, b.number ∙ ap (number_of s) q)
  became from many k i q None e y = both y refl

  leads_to_lem : (r : Reference) (i m : ℕ) → Taken s i → referred_definition o C A P B r ≡ definition_of s i → m ≡ number_of s i → Leads o C A P B path flag mode O r m
  leads_to_lem r i m t is e = subst (Leads o C A P B path flag mode O r) (sym e) (leads_id r i t is)

  module _ (r : Reference) where
    -- its symbol's index in its object
    abbrev c : ℕ
    c = referred_symbol o C r.table r.entry

    abbrev a : ℕ
    a = referred_symbol o A r.table r.entry

    referred_c : is_compiled o C A P B r ≡ true → referred_definition o C A P B r ≡ definition_c o C A P B c
    unfolding referred_definition
    referred_c t = rw t

    referred_a : is_compiled o C A P B r ≡ false → referred_definition o C A P B r ≡ definition_a o C A P B a
    unfolding referred_definition
    referred_a f = rw f

    pub leads_c : is_compiled o C A P B r ≡ true → is_in_result ((carrying_c o C A P B mode head).new c) ≡ true
        → Leads o C A P B path flag mode O r (new_number ((carrying_c o C A P B mode head).new c))
    unfolding carrying_c merge_candidates
    leads_c t y =
        let b = became 0 (symbol_count o C) c c (omega arith) (new_of s 0 (symbol_count o C) c) refl y in
        leads_to_lem r c (new_number (new_of s 0 (symbol_count o C) c)) (omega (arith, b.0, many_is o C A P B mode S), b.1)
        (referred_c t ∙ sym (definition_c_lem o C A P B mode S c b.0)) b.2

    pub leads_a : is_compiled o C A P B r ≡ false → is_in_result ((carrying_a o C A P B mode head).new a) ≡ true
        → Leads o C A P B path flag mode O r (new_number ((carrying_a o C A P B mode head).new a))
    unfolding carrying_a merge_candidates first_a
    leads_a f y =
        let b = became (symbol_count o C) (symbol_count o A) a (symbol_count o C + a) refl (new_of s (symbol_count o C) (symbol_count o A) a) refl y in
        leads_to_lem r (symbol_count o C + a) (new_number (new_of s (symbol_count o C) (symbol_count o A) a)) (omega (arith, b.0, many_is o C A P B mode S), b.1)
        (referred_a f ∙ sym (definition_a_lem o C A P B mode S a b.0)) b.2
