-- What each way through the code says of one entry: where it goes, what its symbol becomes, and whether it is lost. Assumes nothing.
use Rattle.std.specs.Prelude.{None, Some, Option}
use Prim.Native.Nat.{ℕ, zero, suc, ◌+◌, ◌-◌, ◌*◌, ◌%◌, ◌^◌, ◌≤◌, ◌<◌}
use mathlib.Core.Path.{◌≡◌, refl, sym, ap, ◌∙◌}
use mathlib.Core.Logic.{◌⊎◌, inl, inr, ⊎_elim}
use mathlib.Core.Bool.{Bool, true, false, not, cond, ◌&&◌, ◌||◌}
use mathlib.Core.List.{List}
use native.Mathlib.Omega.{arith}
use lib.ListN.{length}
use lib.Dec.{eqb, leb, ltb}
use borrow.Author.Tests.{eq-eqb, ne_eqb, leb-true, lt-ltb, ltb-true}
use Rattle.base_lists.proofs.Ranges.{by-test, both, by-lt, and_parts}
use Rattle.base_fields.specs.declared.ByteOrder.{ByteOrder}
use Rattle.base_fields.specs.Numbers.{number}
use Rattle.base_fields.specs.Layouts.{width_of}
use Rattle.base_packed.specs.Packed.{symbol_of, kind_of, relocation_info}
use Rattle.base_scope.specs.Codes.{LATE_RODATA, leaves_out, is_late_target}
use Rattle.base_scope.specs.Elf.{SHT_RELA}
use Rattle.elf_records.specs.declared.relocation.RelocationEntry.{RelocationEntry}
use Rattle.elf_records.specs.declared.section.SectionHeader.{SectionHeader}
use Rattle.elf_records.specs.Relocation.{relocation_layout, relocation_at}
use Rattle.elf_records.proofs.RoundTrip.{rela_width, rel_width}
use Rattle.elf_readers.specs.Readers.{section}
use Rattle.elf_readers.specs.Bounds.{Headed}
use Rattle.elf_relocations.specs.Relocations.{is_rela, is_table, entry_size, relocation_count, relocation}
use Rattle.elf_relocations.proofs.Relocations.{rela_read, relocation_inside}
use Rattle.elf_check.specs.declared.View.{View}
use Rattle.elf_check.specs.View.{view_of}
use Rattle.blocks_spans.specs.declared.Span.{Span}
use Rattle.blocks_spans.specs.Spans.{span_end, span_at, covers, replaced_word}
use Rattle.blocks_spans.specs.Table.{span_in, spans_in, Rows}
use Rattle.blocks_spans.proofs.Spans.{covers_of, covers_not, covered_none, span_some, ends_up, replaced_none, replaced_over}
use Rattle.blocks_spans.proofs.Table.{length_in, span_in_lem}
use Rattle.carry_clash.specs.of_late_lookups.Fields.{offset_at, jump_at}
use Rattle.carry_clash.specs.of_symbols_taken.Used.{is_source_table}
use Rattle.carry_clash.specs.of_symbols_taken.Code.{code_in}
use Rattle.carry_clash.proofs.of_symbols_taken.Sections.{code_is, table_kind}
use Rattle.symbols_rows.specs.Rows.{half_in}
use Rattle.base_packed.specs.declared.MergedSymbol.{MergedSymbol}
use Rattle.symbols_numbers.specs.Numbers.{new_symbol, new_in}
use Rattle.symbols_numbers.proofs.Leaves.{new_in_lem, new_past}
use Rattle.carry_clash.specs.Clash.{is_carried}
use Rattle.carry_entries.specs.declared.Goal.{Goal}
use Rattle.carry_entries.specs.declared.Goal.TheVariants.{To, LeftOut, Unmoved}
use Rattle.carry_entries.specs.declared.Side.{Side}
use Rattle.carry_entries.specs.declared.Moves.{Moves}
use Rattle.carry_entries.specs.declared.EntryTable.{EntryTable}
use Rattle.carry_entries.specs.declared.Gap.{Gap}
use Rattle.carry_entries.specs.Entries.{is_left_out, is_stuck, is_in_result, new_number}
use Rattle.carry_entries.specs.Carried.{pick_goal}
use Rattle.carry_entries.specs.Code.{late_goal, pick_tables, moves_of, is_gone_in, goal_in, is_kept_entry, symbol_in, is_lost_entry, carried_to, is_still, entry_table_of, TableRead, IsGap, Stays, SymbolsRead}

-- ---- one test behind another

pub and_read : (t a r b : Bool) → t ≡ a → t ≡ true → r ≡ b → r ≡ (a && b)
and_read t a r b e y f = rw (← e, y) f

pub and_left : (t a b : Bool) → t ≡ a → t ≡ false → false ≡ (a && b)
and_left t a b e n = rw (← e, n)

pub and_then : (t a b d : Bool) → t ≡ a → t ≡ true → b ≡ false → false ≡ (a && (b && d))
and_then t a b d e y n = rw (← e, y, n)

pub and_both : (t a b d r : Bool) → t ≡ a → t ≡ true → b ≡ true → r ≡ d → r ≡ (a && (b && d))
and_both t a b d r e y z f = rw (← e, y, z) f

-- ---- gaps between the spans

and_none : (a : Bool) → (a && false) ≡ false
and_none true = refl
and_none false = refl

pub there : (t : Bool) (a b x : ℕ) → t ≡ true → x ≡ a → x ≡ cond t a b
there t a b x y e = rw y e

pub not_there : (t : Bool) (a b : ℕ) → t ≡ false → b ≡ cond t a b
not_there t a b n = rw n

module _ (rows : List ℕ) (n : ℕ) where
  -- between the end of the row before row r and the place of row r nothing is covered
  module _ (w : Rows rows n) (r : ℕ) (few : r ≤ n) where
    end_before_lem : (i : ℕ) → i < r → span_end (span_at (spans_in rows n) i) ≤ cond (ltb 0 r) (span_end (span_in rows (r - 1))) 0
    end_before_lem i h =
        let p : r - 1 < n = omega arith in
        let q : r - 1 < length (spans_in rows n) = omega (arith, length_in rows n) in
        rw (lt-ltb 0 r (omega arith), ← span_in_lem rows n (r - 1) p) (ends_up (spans_in rows n) w.ascends i (r - 1) (omega arith) q)

    place_behind : (m i : ℕ) → r ≤ i → i < n → cond (ltb r n) (span_in rows r).place m ≤ (span_at (spans_in rows n) i).place
    place_behind m i l h =
        let p : r < n = omega arith in
        let q : i < length (spans_in rows n) = omega (arith, length_in rows n) in
        let u : (span_at (spans_in rows n) r).place ≤ (span_at (spans_in rows n) i).place = by-lt r i
        (λ g. omega (arith, w.ascends.apart r i g q, span_some (spans_in rows n) w.ascends r (omega arith)))
        (λ g. let e : r ≡ i = omega arith in rw e (omega arith)) in
        rw (lt-ltb r n p, ← span_in_lem rows n r p) u

    pub gap_rows : (l : ℕ) → l ≡ cond (ltb 0 r) (span_end (span_in rows (r - 1))) 0 → (m h : ℕ) → h ≡ cond (ltb r n) (span_in rows r).place m
        → IsGap rows n (record { low = l; high = h; row = r })
    gap_rows l e m h f = record {
      clear = λ x below above. replaced_none (spans_in rows n) x (covered_none (spans_in rows n) x (λ i v. covers_not (spans_in rows n) x i (by-lt i r
          (λ g. inl (omega (arith, e, end_before_lem i g)))
          (λ g. inr (omega (arith, f, place_behind m i g (rw (length_in rows n) at v)))))));
    }

  -- in a span, every fourth offset starts a replaced word
  pub word_in : Rows rows n → (r : ℕ) → r < n → (s : Span) → s ≡ span_in rows r → (x : ℕ) → s.place ≤ x → x - s.place < s.size
      → eqb ((x - s.place) % 4) 0 ≡ replaced_word (spans_in rows n) x
  unfolding span_end
  word_in w r h s is x l u =
      let e : s ≡ span_at (spans_in rows n) r = is ∙ sym (span_in_lem rows n r h) in
      let v : x < s.place + s.size = omega arith in
      let q : r < length (spans_in rows n) = omega (arith, length_in rows n) in
      let c : covers (spans_in rows n) x r ≡ true = covers_of (spans_in rows n) x r (rw e at l) (rw e at v) in
      ap (λ (y : Span). eqb ((x - y.place) % 4) 0) e ∙ sym (replaced_over (spans_in rows n) x w.ascends r q c)

-- ---- where an entry goes

-- by what of an object says where its entries go
pub goal_moves : (s : Side) (m : Moves) → m ≡ moves_of s → (rows late : List ℕ) (c x : ℕ) (g : Goal) → g ≡ goal_in m rows late c x → g ≡ goal_in (moves_of s) rows late c x
goal_moves s m e rows late c x g q = q ∙ ap (λ (y : Moves). goal_in y rows late c x) e

module _ (s : Moves) (rows late : List ℕ) (c x : ℕ) where
  module _ (t : Bool) (e : t ≡ (leaves_out c && replaced_word (spans_in rows s.spans) x)) where
    pub gone_replaced : t ≡ true → true ≡ is_gone_in s rows late c x
    unfolding is_gone_in
    gone_replaced y = rw (← e, y)

    pub gone_jump : t ≡ false → (r : Bool) → r ≡ (is_late_target c && (s.runs && jump_at late s.blocks x)) → r ≡ is_gone_in s rows late c x
    unfolding is_gone_in
    gone_jump n r f = rw (← e, n) f

  module _ (yes : s.compiled ≡ true) (t : Bool) (e : t ≡ is_gone_in s rows late c x) where
    pub goal_gone : t ≡ true → LeftOut ≡ goal_in s rows late c x
    unfolding goal_in
    goal_gone y = rw (← e, y, yes)

    pub goal_stays : t ≡ false → To x ≡ goal_in s rows late c x
    unfolding goal_in
    goal_stays n = rw (← e, n, yes)

  -- C's, outside of late words, where none is replaced
  goal_clear : s.compiled ≡ true → is_late_target c ≡ false → (leaves_out c && replaced_word (spans_in rows s.spans) x) ≡ false → To x ≡ goal_in s rows late c x
  unfolding goal_in is_gone_in
  goal_clear y n f = rw (y, f, n)

  module _ (no : s.compiled ≡ false) where
    pub goal_late : c ≡ LATE_RODATA → (g : Goal) → g ≡ pick_goal s.runs (late_goal (offset_at late s.blocks x)) Unmoved → g ≡ goal_in s rows late c x
    unfolding goal_in
    goal_late h g e = rw (no, eq-eqb c LATE_RODATA h) e

    pub goal_same : (c ≡ LATE_RODATA → ⊥) → To x ≡ goal_in s rows late c x
    unfolding goal_in
    goal_same d = rw (no, ne_eqb c LATE_RODATA d)

-- ---- gaps whose entries stay

not_or : (a b : Bool) → not (a || b) ≡ true → (a ≡ false) × (b ≡ false)
not_or true b e = both e refl
not_or false true e = both e refl
not_or false false e = (refl, refl)

module _ (s : Side) (c : ℕ) where
  pub still_left : s.compiled ≡ true → (a : Bool) → a ≡ leaves_out c → a ≡ true → false ≡ is_still s c
  unfolding is_still
  still_left y a e t = rw (y, ← e, t)

  pub still_late : s.compiled ≡ true → (a : Bool) → a ≡ leaves_out c → a ≡ false → (b : Bool) → b ≡ is_late_target c → not b ≡ is_still s c
  unfolding is_still
  still_late y a e n b f = rw (y, ← e, n, ← f)

  pub still_assembled : s.compiled ≡ false → not (eqb c LATE_RODATA) ≡ is_still s c
  unfolding is_still
  still_assembled n = rw n

  module _ (rows late : List ℕ) where
    pub still_goal : is_still s c ≡ true → (x : ℕ) → To x ≡ goal_in (moves_of s) rows late c x
    unfolding is_still
    still_goal e x = by-test s.compiled
        (λ y.
        let p = not_or (leaves_out c) (is_late_target c) (rw y at e) in
        goal_clear (moves_of s) rows late c x y p.1 (rw p.0))
        (λ n. goal_same (moves_of s) rows late c x n (λ q. let f = rw (n, eq-eqb c LATE_RODATA q) at e in both f refl))

    pub stays_still : is_still s c ≡ true → (g : Gap) → Stays s rows late c g
    stays_still e g = record { stay = λ x l h. still_goal e x }

    pub stays_none : (g : Gap) → g.high ≡ 0 → Stays s rows late c g
    stays_none g e = record { stay = λ x l h. absurd (omega (arith, e)) }

    pub stays_gap : s.compiled ≡ true → is_late_target c ≡ false → (g : Gap) → IsGap rows s.spans g → Stays s rows late c g
    stays_gap y n g w = record { stay = λ x l h. goal_clear (moves_of s) rows late c x y n (rw (w.clear x l h) (and_none (leaves_out c))) }

    pub stays_for : (g r : Gap) (sought : Bool) → Stays s rows late c g → (sought ≡ true → (s.compiled ≡ true) × (is_late_target c ≡ false))
        → (r ≡ g) ⊎ ((sought ≡ true) × IsGap rows s.spans r) → Stays s rows late c r
    stays_for g r sought w f q = ⊎_elim
        (λ e. rw e w)
        (λ p. let u = f p.0 in stays_gap u.0 u.1 r p.1) q

    pub stays_in : (g : Gap) → Stays s rows late c g → (x : ℕ) (t : Bool) → t ≡ (leb g.low x && ltb x g.high) → t ≡ true → To x ≡ goal_in (moves_of s) rows late c x
    stays_in g w x t e y =
        let p = and_parts (leb g.low x) (ltb x g.high) (sym e ∙ y) in
        w.stay x (leb-true _ _ p.0) (ltb-true _ _ p.1)

module _ (runs : Bool) (late : List ℕ) (n x : ℕ) where
  pub late_to : (r : Option ℕ) (p : ℕ) → runs ≡ true → r ≡ offset_at late n x → r ≡ Some p → To p ≡ pick_goal runs (late_goal (offset_at late n x)) Unmoved
  unfolding late_goal
  late_to r p t e m = rw (t, ← e, m)

  pub late_stuck : (r : Option ℕ) → runs ≡ true → r ≡ offset_at late n x → r ≡ None → Unmoved ≡ pick_goal runs (late_goal (offset_at late n x)) Unmoved
  unfolding late_goal
  late_stuck r t e m = rw (t, ← e, m)

  pub late_idle : runs ≡ false → Unmoved ≡ pick_goal runs (late_goal (offset_at late n x)) Unmoved
  late_idle f = rw f

-- ---- what its symbol becomes

number_of : (x : ℕ) → new_number (new_symbol x) ≡ x
unfolding new_number new_symbol
number_of zero = refl
number_of (suc x) = refl

module _ (N : List ℕ) (first count k : ℕ) where
  pub number_in : k < count → (m : ℕ) → m ≡ half_in N (first + k) → m ≡ new_number (new_in N first count k)
  number_in h m e = e ∙ sym (number_of (half_in N (first + k))) ∙ ap new_number (sym (new_in_lem N first count k h))

  pub number_past : count ≤ k → 0 ≡ new_number (new_in N first count k)
  unfolding new_number
  number_past h = rw (new_past N first count k h)

module _ (s : Side) (N : List ℕ) (info : ℕ) where
  pub symbol_compiled : s.first ≡ 0 → (k : ℕ) → k ≡ symbol_of info → (r : Option MergedSymbol) → r ≡ new_in N 0 s.view.symbols.count k → r ≡ symbol_in s N info
  unfolding symbol_in
  symbol_compiled z k e r f = rw (z, ← e) f

  pub symbol_assembled : (k : ℕ) → k ≡ symbol_of info → (r : Option MergedSymbol) → r ≡ new_in N s.first s.view.symbols.count k → r ≡ symbol_in s N info
  unfolding symbol_in
  symbol_assembled k e r f = rw (← e) f

  number_small : SymbolsRead s N → new_number (symbol_in s N info) < 2 ^ 24
  unfolding symbol_in new_number
  number_small w = by-lt (symbol_of info) s.view.symbols.count
      (λ l.
      rw (new_in_lem N s.first s.view.symbols.count (symbol_of info) l, number_of (half_in N (s.first + symbol_of info)))
      (w.few (s.first + symbol_of info) (omega arith)))
      (λ l. rw (new_past N s.first s.view.symbols.count (symbol_of info) l) (omega arith))

  -- of a number that was read of the symbol k of an r_info
  module _ (k : ℕ) (is : k ≡ symbol_of info) (m : ℕ) where
    pub number_compiled : s.first ≡ 0 → m ≡ new_number (new_in N 0 s.view.symbols.count k) → m ≡ new_number (symbol_in s N info)
    number_compiled z e = e ∙ ap new_number (symbol_compiled z k is _ refl)

    pub number_assembled : m ≡ new_number (new_in N s.first s.view.symbols.count k) → m ≡ new_number (symbol_in s N info)
    number_assembled e = e ∙ ap new_number (symbol_assembled k is _ refl)

  module _ (m : ℕ) (number : m ≡ new_number (symbol_in s N info)) where
    pub info_small : SymbolsRead s N → m < 2 ^ 24
    info_small w = rw number (number_small w)

    pub info_read : (k : ℕ) → k ≡ kind_of info → (r : ℕ) → r ≡ relocation_info m k → r ≡ relocation_info (new_number (symbol_in s N info)) (kind_of info)
    info_read k e r f = rw (← number, ← e) f

-- ---- the entry in the result

module _ (s : Side) (N : List ℕ) (x : ℕ) (e : RelocationEntry) where
  pub carried_read : (y : ℕ) → y ≡ relocation_info (new_number (symbol_in s N e.r_info)) (kind_of e.r_info)
      → ◌≡◌ {A = RelocationEntry} (record { r_offset = x; r_info = y; r_addend = e.r_addend }) (carried_to s N x e)
  unfolding carried_to
  carried_read y q = rw q

-- ---- whether it is lost

-- a late word that is not moved is not left out, and is none of C's
stuck_kept : (g : Goal) → is_stuck g ≡ (not (is_left_out g) && (is_stuck g || false))
unfolding is_stuck is_left_out
stuck_kept (To x) = refl
stuck_kept LeftOut = refl
stuck_kept Unmoved = refl

never_stuck : (b : Bool) (x : ℕ) → is_stuck (pick_goal b LeftOut (To x)) ≡ false
unfolding is_stuck
never_stuck true x = refl
never_stuck false x = refl

or_true : (a b : Bool) → a ≡ (a && (b || true))
or_true true true = refl
or_true true false = refl
or_true false b = refl

module _ (s : Side) (rows late N : List ℕ) (c : ℕ) (e : RelocationEntry) (m : Option MergedSymbol) (is : m ≡ symbol_in s N e.r_info) (b : Bool) (found : b ≡ is_in_result m) where
  module _ (y : b ≡ true) where
    lost_there : is_stuck (goal_in (moves_of s) rows late c e.r_offset) ≡ is_lost_entry s rows late N c e
    unfolding is_lost_entry is_kept_entry
    lost_there = rw (← is, ← found, y) (stuck_kept (goal_in (moves_of s) rows late c e.r_offset))

    pub lost_never : s.compiled ≡ true → false ≡ is_lost_entry s rows late N c e
    unfolding goal_in is_gone_in
    lost_never d = sym (rw d (never_stuck (is_gone_in (moves_of s) rows late c e.r_offset) e.r_offset)) ∙ lost_there

    pub lost_unmoved : s.compiled ≡ false → (c ≡ LATE_RODATA → ⊥) → false ≡ is_lost_entry s rows late N c e
    unfolding is_stuck
    lost_unmoved n d = ap is_stuck (goal_same (moves_of s) rows late c e.r_offset n d) ∙ lost_there

    pub lost_stuck : (g : Goal) → g ≡ goal_in (moves_of s) rows late c e.r_offset → (u : Bool) → u ≡ is_stuck g → u ≡ is_lost_entry s rows late N c e
    lost_stuck g goal u stuck = stuck ∙ ap is_stuck goal ∙ lost_there

  pub lost_gone : b ≡ false → (g : Goal) → g ≡ goal_in (moves_of s) rows late c e.r_offset → (t : Bool) → t ≡ is_left_out g → not t ≡ is_lost_entry s rows late N c e
  unfolding is_lost_entry is_kept_entry
  lost_gone f g goal t out = rw (← is, ← found, f, ← goal, ← out) (or_true (not t) (is_stuck g))

-- ---- tables

module _ (o : ByteOrder) (F : List ℕ) (t : ℕ) where
  pub table_read : (v : View) → v ≡ view_of o F → (h : SectionHeader) → h ≡ section o F t → (c : ℕ) → c ≡ code_in v h.sh_info
      → (z : ℕ) → z ≡ width_of (relocation_layout (eqb h.sh_type SHT_RELA))
      → ◌≡◌ {A = EntryTable} (record { index = t; code = c; at = h.sh_offset; rela = eqb h.sh_type SHT_RELA; size = z }) (entry_table_of o F t)
  unfolding entry_table_of entry_size
  table_read v r h is c e z q = rw (e, code_is o F v r h.sh_info, q, rela_read o F t h is, is)

  module _ (r : Bool) (b : Bool) where
    pub tables_compiled : b ≡ true → r ≡ is_table o F t → (r ≡ pick_tables b (is_table o F) (is_carried o F) t) × (r ≡ true → is_table o F t ≡ true)
    tables_compiled y e = (rw y e, λ q. sym e ∙ q)

    carried_table_lem : is_carried o F t ≡ true → is_table o F t ≡ true
    unfolding is_carried
    carried_table_lem y = table_kind o F t (and_parts (is_source_table o F t) _ y).0

    pub tables_assembled : b ≡ false → r ≡ is_carried o F t → (r ≡ pick_tables b (is_table o F) (is_carried o F) t) × (r ≡ true → is_table o F t ≡ true)
    tables_assembled n e = (rw n e, λ q. carried_table_lem (sym e ∙ q))

pub width_rela : (b : Bool) → b ≡ true → 12 ≡ width_of (relocation_layout b)
width_rela b y = rw y (sym rela_width)

pub width_rel : (b : Bool) → b ≡ false → 8 ≡ width_of (relocation_layout b)
width_rel b n = rw n (sym rel_width)

-- entry k of a table in hand lies in the file, where it says
module _ (o : ByteOrder) (F : List ℕ) (table : EntryTable) (k : ℕ) (read : TableRead o F table) where
  at_same : table.at ≡ (section o F table.index).sh_offset
  unfolding entry_table_of
  at_same = ap (λ (x : EntryTable). x.at) read.is

  rela_same : table.rela ≡ is_rela o F table.index
  unfolding entry_table_of
  rela_same = ap (λ (x : EntryTable). x.rela) read.is

  width_same : table.size ≡ entry_size o F table.index
  unfolding entry_table_of
  width_same = ap (λ (x : EntryTable). x.size) read.is

  pub entry_width : table.size ≡ width_of (relocation_layout table.rela)
  unfolding entry_size
  entry_width = rw (rela_same) width_same

  pub entry_inside_lem : Headed o F → k < relocation_count o F table.index → table.at + table.size * k + table.size ≤ length F
  entry_inside_lem h l = rw (at_same, width_same) (relocation_inside o F table.index k h (record { table = read.below; kind = read.kind; entry = l }))

  pub entry_read : relocation_at o table.rela F (table.at + table.size * k) ≡ relocation o F table.index k
  unfolding relocation
  entry_read = rw (at_same, rela_same, width_same)
