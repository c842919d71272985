-- The entries of a table together: how many are kept, their bytes as they are written one behind the other, and the lowest that is lost. Assumes nothing.
use Rattle.std.specs.Prelude.{Option}
use Prim.Native.Nat.{ℕ, zero, suc, ◌+◌, ◌-◌, ◌*◌, ◌/◌, ◌≤◌, ◌<◌, min}
use mathlib.Core.Path.{◌≡◌, refl, sym, ap, ◌∙◌}
use mathlib.Core.Logic.{◌⊎◌, ⊎_elim}
use mathlib.Core.Bool.{Bool, true, false, cond}
use mathlib.Core.List.{List, [], ◌++◌, append-nil}
use native.Mathlib.Nat.{min-eq_left, min-eq_right}
use native.Mathlib.Omega.{arith}
use lib.ListN.{length, length-append}
use borrow.Author.Tests.{eq-eqb, ne_eqb}
use Rattle.base_lists.specs.Ranges.{least, gather, pick_list}
use Rattle.base_lists.specs.Written.{Written}
use Rattle.base_lists.proofs.Ranges.{by-test, both, count_le, count_all, count_same, gather_zero, gather_yes, gather_no, gather_append, gather_length, least_zero, least_next, least_high}
use Rattle.base_lists.proofs.Written.{written_none, written_then, written_as}
use Rattle.base_fields.specs.declared.ByteOrder.{ByteOrder}
use Rattle.base_fields.specs.Layouts.{width_of}
use Rattle.elf_records.specs.declared.relocation.RelocationEntry.{RelocationEntry}
use Rattle.elf_records.specs.Relocation.{relocation_layout, addend_of, relocation_from, present, has_addend, relocation_at, relocation_bytes}
use Rattle.elf_records.proofs.RoundTrip.{length_relocation}
use Rattle.base_scope.specs.Refusals.{found_below}
use Rattle.elf_readers.specs.Readers.{section_count, section}
use Rattle.elf_readers.specs.Bounds.{Headed}
use Rattle.elf_relocations.specs.Relocations.{is_rela, is_table, entry_size, relocation_count, relocation}
use Rattle.elf_relocations.proofs.Relocations.{table_type, size_cases}
use Rattle.carry_clash.specs.of_symbols_taken.Used.{code_of}
use Rattle.carry_clash.specs.Clash.{is_carried}
use Rattle.carry_entries.specs.declared.Goal.{Goal}
use Rattle.carry_entries.specs.declared.Goal.TheVariants.{To, LeftOut, Unmoved}
use Rattle.carry_entries.specs.declared.Side.{Side}
use Rattle.carry_entries.specs.declared.EntryTable.{EntryTable}
use Rattle.carry_entries.specs.Entries.{is_left_out, goal_place, Carrying, OFFSETS, entry_goal, entry_symbol, is_kept, carried_entry}
use Rattle.carry_entries.specs.Entries.{kept_count, carried_bytes, is_lost, loss_in, loss_at, loss_finding}
use Rattle.carry_entries.specs.Code.{pick_tables, moves_of, goal_in, carrying_in, is_kept_entry, symbol_in, is_lost_entry, carried_to, entry_bytes, placed_bytes, is_still, StandsAt, entry_table_of, TableRead}
use Rattle.carry_entries.proofs.Goals.{width_rela, width_rel, still_goal}

-- ---- how long an entry is

has_addend_lem : (rela : Bool) (v : List ℕ) → has_addend (relocation_from rela v) ≡ rela
unfolding has_addend relocation_from addend_of present
has_addend_lem true v = refl
has_addend_lem false v = refl

module _ (o : ByteOrder) (F : List ℕ) (w : Carrying) (t : ℕ) where
  carried_addend : (k : ℕ) → has_addend (carried_entry o F w t k) ≡ is_rela o F t
  unfolding carried_entry has_addend relocation relocation_at
  carried_addend k = has_addend_lem (is_rela o F t) _

  pub entry_long : (k : ℕ) → length (relocation_bytes o (carried_entry o F w t k)) ≡ entry_size o F t
  unfolding entry_size
  entry_long k = length_relocation o (carried_entry o F w t k) ∙ ap (λ (b : Bool). width_of (relocation_layout b)) (carried_addend k)

  -- what a table brings is as long as its entries that are kept
  pub carried_long : length (carried_bytes o F w t) ≡ entry_size o F t * kept_count o F w t
  unfolding carried_bytes kept_count
  carried_long = gather_length (is_kept o F w t) (λ k. relocation_bytes o (carried_entry o F w t k)) (entry_size o F t) (λ k y. entry_long k) (relocation_count o F t)

  -- ---- its bytes, of the first k entries

  unfoldable pub bytes_below : ℕ → List ℕ
  bytes_below k = gather (is_kept o F w t) (λ j. relocation_bytes o (carried_entry o F w t j)) k

  -- what entry k brings
  unfoldable pub brought_bytes : ℕ → List ℕ
  brought_bytes k = pick_list (is_kept o F w t k) (relocation_bytes o (carried_entry o F w t k)) []

  bytes_next : (k : ℕ) → bytes_below (k + 1) ≡ bytes_below k ++ brought_bytes k
  unfolding bytes_below brought_bytes
  bytes_next k = by-test (is_kept o F w t k)
      (λ y. gather_yes (is_kept o F w t) (λ j. relocation_bytes o (carried_entry o F w t j)) k y ∙ rw y)
      (λ n. gather_no (is_kept o F w t) (λ j. relocation_bytes o (carried_entry o F w t j)) k n ∙ rw n (sym (append-nil _)))

  bytes_fit : (k n : ℕ) → k ≤ n → length (bytes_below k) ≤ length (bytes_below n)
  unfolding bytes_below
  bytes_fit k n h =
      let p = is_kept o F w t in
      let f : ℕ → List ℕ = λ j. relocation_bytes o (carried_entry o F w t j) in
      let e : n ≡ k + (n - k) = omega arith in
      let q : gather p f n ≡ gather p f k ++ gather (λ j. p (k + j)) (λ j. f (k + j)) (n - k) = ap (gather p f) e ∙ gather_append p f k (n - k) in
      let l = ap length q ∙ length-append (gather p f k) _ in
      omega (arith, l)

  -- the entries of a table lie in its object
  in_size : (size n m : ℕ) → (size ≡ 8) ⊎ (size ≡ 12) → n ≤ m / size → size * n ≤ m
  in_size size n m c l = ⊎_elim
      (λ e. let g = rw e at l in rw e (omega (arith, g)))
      (λ e. let g = rw e at l in rw e (omega (arith, g))) c

  in_count : (size n m : ℕ) → (size ≡ 8) ⊎ (size ≡ 12) → n ≤ m / size → n ≤ m
  in_count size n m c l = ⊎_elim
      (λ e. let g = rw e at l in omega (arith, g))
      (λ e. let g = rw e at l in omega (arith, g)) c

  pub count_short : Headed o F → t < section_count o F → is_table o F t ≡ true → relocation_count o F t ≤ length F
  unfolding relocation_count
  count_short h l y =
      let a = in_count (entry_size o F t) ((section o F t).sh_size / entry_size o F t) (section o F t).sh_size (size_cases o F t) (omega arith) in
      omega (arith, a, h.held t l (table_type o F t y))

  pub carried_short : Headed o F → t < section_count o F → is_table o F t ≡ true → length (carried_bytes o F w t) ≤ length F
  unfolding kept_count relocation_count
  carried_short h l y =
      let a = in_size (entry_size o F t) (kept_count o F w t) (section o F t).sh_size (size_cases o F t) (count_le (is_kept o F w t) (relocation_count o F t)) in
      omega (arith, a, carried_long, h.held t l (table_type o F t y))

  pub put_short : Headed o F → t < section_count o F → is_table o F t ≡ true → (k : ℕ) → k ≤ relocation_count o F t → length (bytes_below k) ≤ length F
  unfolding carried_bytes bytes_below
  put_short h l y k e = omega (arith, carried_short h l y, bytes_fit k (relocation_count o F t) e)

  -- after k turns the bytes of the first k entries are appended
  module _ (out₀ : List ℕ) (at : ℕ) where
    pub put_none : Written out₀ at (bytes_below 0) at out₀
    unfolding bytes_below
    put_none = written_as out₀ at [] _ at out₀ (sym (gather_zero _ _)) (written_none out₀ at)

    pub put_next : (k next : ℕ) (out : List ℕ) (r : ℕ) (m : List ℕ) → Written out₀ at (bytes_below k) next out → Written out next (brought_bytes k) r m
        → Written out₀ at (bytes_below (k + 1)) r m
    put_next k next out r m a b = written_as out₀ at _ _ r m (sym (bytes_next k)) (written_then out₀ at _ next out _ r m a b)

    pub put_end : (k next : ℕ) (out : List ℕ) → Written out₀ at (bytes_below k) next out → k ≡ relocation_count o F t → Written out₀ at (carried_bytes o F w t) next out
    unfolding carried_bytes bytes_below
    put_end k next out a e = written_as out₀ at _ _ next out (ap bytes_below e) a

  -- where all entries are kept, what the table brings is as long as all of them
  pub put_all : ((k : ℕ) → is_kept o F w t k ≡ true) → length (carried_bytes o F w t) ≡ entry_size o F t * relocation_count o F t
  unfolding kept_count
  put_all y = carried_long ∙ ap (λ (n : ℕ). entry_size o F t * n) (count_same (is_kept o F w t) (λ k. true) (relocation_count o F t) (λ k h. y k) ∙ count_all _)

  -- ---- the lowest of its offsets that is lost, of the first k entries, or `best`

  unfoldable pub loss_below : ℕ → ℕ → ℕ
  loss_below best k = least (λ j. (relocation o F t j).r_offset) (is_lost o F w t) best k

  pub loss_none : (best : ℕ) → best ≡ loss_below best 0
  unfolding loss_below
  loss_none best = sym (least_zero _ _ best)

  pub loss_next : (best k low r : ℕ) → low ≡ loss_below best k → r ≡ cond (is_lost o F w t k) (min (relocation o F t k).r_offset low) low → r ≡ loss_below best (k + 1)
  unfolding loss_below
  loss_next best k low r e f = f ∙ rw e (sym (least_next (λ j. (relocation o F t j).r_offset) (is_lost o F w t) best k))

least_from : (v : ℕ → ℕ) (p : ℕ → Bool) (d best : ℕ) → best ≤ d → (n : ℕ) → least v p best n ≡ min (least v p d n) best
unfolding least
least_from v p d best h zero = sym (min-eq_right h)
least_from v p d best h (suc n) = by-test (p n)
    (λ y. rw (y, least_from v p d best h n) (omega arith))
    (λ f. rw f (least_from v p d best h n))

module _ (o : ByteOrder) (F : List ℕ) (w : Carrying) (t : ℕ) where
  pub loss_all : (best k low : ℕ) → best ≤ OFFSETS → low ≡ loss_below o F w t best k → k ≡ relocation_count o F t → low ≡ min (loss_in o F w t) best
  unfolding loss_below loss_in
  loss_all best k low h e q = e ∙ ap (loss_below o F w t best) q ∙ least_from (λ j. (relocation o F t j).r_offset) (is_lost o F w t) OFFSETS best h (relocation_count o F t)

-- ---- over what is in hand

module _ (F : List ℕ) (s : Side) (rows late N : List ℕ) where
  module _ (table : EntryTable) (is : table ≡ entry_table_of s.order F table.index) (k : ℕ) where
    code_same : table.code ≡ code_of s.order F (section s.order F table.index).sh_info
    unfolding entry_table_of
    code_same = ap (λ (x : EntryTable). x.code) is

    size_same : table.size ≡ entry_size s.order F table.index
    unfolding entry_table_of
    size_same = ap (λ (x : EntryTable). x.size) is

    module _ (e : RelocationEntry) (entry : e ≡ relocation s.order F table.index k) where
      -- ---- appended

      pub brought_same : (t : ℕ) → table.index ≡ t → entry_bytes s rows late N table.code e ≡ brought_bytes s.order F (carrying_in F s rows late N) t k
      unfolding entry_bytes is_kept_entry carried_to symbol_in brought_bytes is_kept carried_entry entry_goal entry_symbol carrying_in
      brought_same t q = rw (code_same, entry, q)

      pub size_read : table.size ≡ width_of (relocation_layout (has_addend e))
      unfolding entry_size relocation relocation_at
      size_read = size_same ∙ ap (λ (b : Bool). width_of (relocation_layout b)) (sym (ap has_addend entry ∙ has_addend_lem (is_rela s.order F table.index) _))

      -- ---- lost

      loss_same : is_lost_entry s rows late N table.code e ≡ is_lost s.order F (carrying_in F s rows late N) table.index k
      unfolding is_lost_entry is_kept_entry symbol_in is_lost is_kept entry_goal entry_symbol carrying_in
      loss_same = rw (code_same, entry)

      module _ (best : ℕ) where
        pub loss_lower : e.r_offset < best → (p : Bool) → p ≡ is_lost_entry s rows late N table.code e → p ≡ true
            → e.r_offset ≡ cond (is_lost s.order F (carrying_in F s rows late N) table.index k) (min (relocation s.order F table.index k).r_offset best) best
        loss_lower h p q y =
            let l : e.r_offset ≤ best = omega (arith, h) in
            rw (← loss_same, ← q, y, ← entry) (sym (min-eq_left l))

        pub loss_kept : (p : Bool) → p ≡ is_lost_entry s rows late N table.code e → p ≡ false
            → best ≡ cond (is_lost s.order F (carrying_in F s rows late N) table.index k) (min (relocation s.order F table.index k).r_offset best) best
        loss_kept p q n = rw (← loss_same, ← q, n)

        pub loss_high : best ≤ e.r_offset
            → best ≡ cond (is_lost s.order F (carrying_in F s rows late N) table.index k) (min (relocation s.order F table.index k).r_offset best) best
        loss_high h = by-test (is_lost s.order F (carrying_in F s rows late N) table.index k)
            (λ y. rw (y, ← entry) (sym (min-eq_right h)))
            (λ n. rw n)

-- a table in hand
module _ (o : ByteOrder) (F : List ℕ) (t : ℕ) (table : EntryTable) (is : table ≡ entry_table_of o F t) where
  pub table_index : table.index ≡ t
  unfolding entry_table_of
  table_index = ap (λ (x : EntryTable). x.index) is

  pub table_in : t < section_count o F → is_table o F t ≡ true → TableRead o F table
  table_in h y = record { below = rw table_index h; kind = rw table_index y; is = is ∙ ap (entry_table_of o F) (sym table_index) }

  pub table_entry : (k n : ℕ) → n ≡ relocation_count o F t → k < n → k < relocation_count o F table.index
  table_entry k n e h = rw (table_index, ← e) h

-- a table whose entries all stay
module _ (F : List ℕ) (s : Side) (rows late N : List ℕ) (t : ℕ) (table : EntryTable) (is : table ≡ entry_table_of s.order F t) (still : is_still s table.code ≡ true) where
  kept_still : (k : ℕ) → is_kept s.order F (carrying_in F s rows late N) t k ≡ true
  unfolding is_kept entry_goal carrying_in entry_table_of is_left_out
  kept_still k =
      let code : table.code ≡ code_of s.order F (section s.order F t).sh_info = ap (λ (x : EntryTable). x.code) is in
      let x : ℕ = (relocation s.order F t k).r_offset in
      rw (← code, ← still_goal s table.code rows late still x)

  pub still_long : (n : ℕ) → n ≡ relocation_count s.order F t → length (carried_bytes s.order F (carrying_in F s rows late N) t) ≡ table.size * n
  unfolding entry_table_of
  still_long n e = put_all s.order F (carrying_in F s rows late N) t kept_still ∙ rw (is, e)

-- an entry in hand that goes to g, and stands at p
pub brings_placed : (s : Side) (rows late N : List ℕ) (c : ℕ) (e : RelocationEntry) (p : ℕ) → StandsAt (goal_in (moves_of s) rows late c e.r_offset) p
    → placed_bytes s N p e ≡ entry_bytes s rows late N c e
unfolding placed_bytes entry_bytes is_kept_entry
brings_placed s rows late N c e p w = by-test (is_left_out (goal_in (moves_of s) rows late c e.r_offset))
    (λ y. rw (w.left, y))
    (λ n. rw (w.left, n, w.place n))

-- one that stays
pub stands_same : (g : Goal) (x : ℕ) → To x ≡ g → x < OFFSETS → StandsAt g x
unfolding is_left_out goal_place
stands_same g x e h = rw (← e) (record { left = ne_eqb x OFFSETS (λ q. absurd (omega (arith, h, q))); place = λ n. refl; below = omega (arith, h) })

pub stands_left : (g : Goal) → g ≡ LeftOut → StandsAt g OFFSETS
unfolding is_left_out goal_place
stands_left g e = rw e (record { left = eq-eqb OFFSETS OFFSETS refl; place = λ n. both refl n; below = omega arith })

pub stands_stuck : (g : Goal) → g ≡ Unmoved → StandsAt g 0
unfolding is_left_out goal_place
stands_stuck g e = rw e (record { left = ne_eqb 0 OFFSETS (λ q. absurd (omega (arith, q))); place = λ n. refl; below = omega arith })

-- its bytes
module _ (s : Side) (N : List ℕ) (p : ℕ) (e : RelocationEntry) where
  pub placed_none : p ≡ OFFSETS → [] ≡ placed_bytes s N p e
  unfolding placed_bytes
  placed_none q = rw (eq-eqb p OFFSETS q)

  pub placed_one : (p ≡ OFFSETS → ⊥) → relocation_bytes s.order (carried_to s N p e) ≡ placed_bytes s N p e
  unfolding placed_bytes
  placed_one n = rw (ne_eqb p OFFSETS n)

-- it is as long as it was
module _ (s : Side) (N : List ℕ) (x : ℕ) (e : RelocationEntry) where
  carried_width : width_of (relocation_layout (has_addend (carried_to s N x e))) ≡ width_of (relocation_layout (has_addend e))
  unfolding carried_to has_addend
  carried_width = refl

  pub placed_long : length (relocation_bytes s.order (carried_to s N x e)) ≡ width_of (relocation_layout (has_addend e))
  placed_long = length_relocation s.order (carried_to s N x e) ∙ carried_width

  pub width_same : (d : RelocationEntry) → d ≡ carried_to s N x e → width_of (relocation_layout (has_addend d)) ≡ width_of (relocation_layout (has_addend e))
  width_same d q = ap (λ (y : RelocationEntry). width_of (relocation_layout (has_addend y))) q ∙ carried_width

  pub bytes_same : (d : RelocationEntry) → d ≡ carried_to s N x e → relocation_bytes s.order d ≡ relocation_bytes s.order (carried_to s N x e)
  bytes_same d q = ap (relocation_bytes s.order) q

pub width_few : (b : Bool) → width_of (relocation_layout b) ≤ 12
width_few true = omega (arith, width_rela true refl)
width_few false = omega (arith, width_rel false refl)

module _ (o : ByteOrder) (F : List ℕ) (w : Carrying) where
  pub loss_step : (t best k low r i : ℕ) → i ≡ t → low ≡ loss_below o F w t best k → r ≡ cond (is_lost o F w i k) (min (relocation o F i k).r_offset low) low
      → r ≡ loss_below o F w t best (k + 1)
  loss_step t best k low r i q e f = loss_next o F w t best k low r e (rw (← q) f)

  -- ---- the lowest over the first t sections

  unfoldable pub fault_below : ℕ → ℕ
  fault_below t = least (loss_in o F w) w.tables OFFSETS t

  pub fault_none : OFFSETS ≡ fault_below 0
  unfolding fault_below
  fault_none = sym (least_zero (loss_in o F w) w.tables OFFSETS)

  pub fault_high : (t best : ℕ) → best ≡ fault_below t → best ≤ OFFSETS
  unfolding fault_below
  fault_high t best e = rw e (least_high (loss_in o F w) w.tables OFFSETS t)

  pub fault_next : (t best r : ℕ) → best ≡ fault_below t → r ≡ cond (w.tables t) (min (loss_in o F w t) best) best → r ≡ fault_below (t + 1)
  unfolding fault_below
  fault_next t best r e f = f ∙ rw e (sym (least_next (loss_in o F w) w.tables OFFSETS t))

  pub fault_end : (t best : ℕ) → best ≡ fault_below t → t ≡ section_count o F → (r : Option ℕ) → r ≡ found_below OFFSETS best → r ≡ loss_finding o F w
  unfolding fault_below loss_finding loss_at
  fault_end t best e q r f = f ∙ ap (found_below OFFSETS) (e ∙ ap fault_below q)

module _ (F : List ℕ) (s : Side) (rows late N : List ℕ) (t best : ℕ) (b : Bool) (is : b ≡ pick_tables s.compiled (is_table s.order F) (is_carried s.order F) t) where
  pub loss_tables : b ≡ true → (r : ℕ) → r ≡ min (loss_in s.order F (carrying_in F s rows late N) t) best
      → r ≡ cond ((carrying_in F s rows late N).tables t) (min (loss_in s.order F (carrying_in F s rows late N) t) best) best
  unfolding carrying_in
  loss_tables y r e = rw (← is, y) e

  pub loss_skips : b ≡ false → best ≡ cond ((carrying_in F s rows late N).tables t) (min (loss_in s.order F (carrying_in F s rows late N) t) best) best
  unfolding carrying_in
  loss_skips n = rw (← is, n)
