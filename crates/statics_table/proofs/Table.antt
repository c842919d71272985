-- Laws of the table of statics: its rows are read back, and one more row keeps it a table in hand. Assumes nothing.
use mathlib.Core.Path.{◌≡◌, refl, sym, ap, ◌∙◌}
use mathlib.Core.Bool.{true}
use mathlib.Core.List.{List, [], ◌∷◌, ◌++◌}
use Prim.Native.Nat.{ℕ, ◌+◌, ◌*◌, ◌≤◌, ◌<◌}
use native.Mathlib.Omega.{arith}
use native.Mathlib.Nat.{add-zero}
use lib.ListN.{length, get_or, length-append, get_or-append}
use lib.Seq.{ext_get_or, get_or_at}
use Rattle.base_lists.proofs.Ranges.{select_zero, select_all_at, select_all_length}
use Rattle.base_lists.specs.Windows.{Within, spliced}
use Rattle.base_lists.proofs.Windows.{length_spliced, within_within, within_at, within_spliced, spliced_same, spliced_then}
use Rattle.base_lists.specs.Records.{flat}
use Rattle.base_lists.proofs.Records.{flat_append, flat_one, flat_none, length_flat, within_flat}
use Rattle.base_fields.specs.declared.ByteOrder.TheVariants.{Big}
use Rattle.base_fields.specs.Numbers.{number, encoded}
use Rattle.base_fields.specs.Layouts.{width_of, fields_from, fields_at, record_bytes}
use Rattle.base_fields.proofs.Numbers.{encoded_byte}
use Rattle.base_fields.proofs.Layouts.{length_record, within_fields, record_one, field_then}
use Rattle.base_scope.specs.Limits.{STATIC_LIMIT, WRITTEN_LIMIT, STATIC_ROW, STATIC_TABLE}
use Rattle.statics_table.specs.declared.Static.{Static}
use Rattle.statics_table.specs.declared.Tally.{Tally}
use Rattle.statics_table.specs.Statics.{stored_name, written_length, namesakes}
use Rattle.statics_table.specs.Table.{static_row, static_rows, static_in, statics_in, StaticTable}
use Rattle.statics_table.proofs.Statics.{names_none, names_one, numbered_next}

-- ---- static_rows

abbrev widths : List ℕ
widths = 4 ∷ 1 ∷ 3 ∷ 2 ∷ 2 ∷ 3 ∷ []

abbrev fields : Static → List ℕ
fields s = s.value ∷ s.code ∷ s.start ∷ s.length ∷ s.number ∷ s.offset ∷ []

pub length_row : (s : Static) → length (static_row s) ≡ STATIC_ROW
unfolding static_row width_of
length_row s = length_record Big widths (fields s) refl

pub rows_none : static_rows [] ≡ []
unfolding static_rows
rows_none = flat_none static_row

pub rows_append : (l : List Static) (s : Static) → static_rows (l ++ (s ∷ [])) ≡ static_rows l ++ static_row s
unfolding static_rows
rows_append l s = flat_append static_row l (s ∷ []) ∙ ap (λ (x : List ℕ). flat static_row l ++ x) (flat_one static_row s)

pub length_rows : (l : List Static) → length (static_rows l) ≡ STATIC_ROW * length l
unfolding static_rows
length_rows l = length_flat static_row STATIC_ROW length_row l

-- where a row's bytes stand, the row is read
pub row_read : (s : Static) (T : List ℕ) (k : ℕ) → Within (static_row s) (STATIC_ROW * k) T → static_in T k ≡ s
unfolding static_row static_in fields_from
row_read s T k w =
    let e : fields_at Big widths T (STATIC_ROW * k) ≡ fields s = within_fields Big widths (fields s) T (STATIC_ROW * k) refl refl w in
    let f : (j : ℕ) → get_or (fields_at Big widths T (STATIC_ROW * k)) j 0 ≡ get_or (fields s) j 0 = λ j. ap (λ (v : List ℕ). get_or v j 0) e in
    let a : number Big 4 T (STATIC_ROW * k) ≡ s.value = ap (number Big 4 T) (sym (add-zero (STATIC_ROW * k))) ∙ f 0 in
    λ i. record { value = a i; code = f 1 i; start = f 2 i; length = f 3 i; number = f 4 i; offset = f 5 i }

-- the six fields, each written right behind those before it
pub row_written : (s : Static) (l : List ℕ) (o : ℕ) (a b c d e f : List ℕ) → o + STATIC_ROW ≤ length l
    → a ≡ spliced l o (encoded Big 4 s.value)
    → b ≡ spliced a (o + 4) (s.code ∷ [])
    → c ≡ spliced b (o + 5) (encoded Big 3 s.start)
    → d ≡ spliced c (o + 8) (encoded Big 2 s.length)
    → e ≡ spliced d (o + 10) (encoded Big 2 s.number)
    → f ≡ spliced e (o + 12) (encoded Big 3 s.offset)
    → f ≡ spliced l o (static_row s)
unfolding static_row width_of
row_written s l o a b c d e f h p q r t u v =
    let byte : spliced a (o + 4) (s.code ∷ []) ≡ spliced a (o + 4) (encoded Big 1 s.code) = ap (spliced a (o + 4)) (sym (encoded_byte Big s.code)) in
    let m = s.value in
    let n = s.code in
    let i = s.start in
    let j = s.length in
    let k = s.number in
    let a' : a ≡ spliced l o (record_bytes Big (4 ∷ []) (m ∷ [])) = p ∙ ap (spliced l o) (record_one Big 4 m) in
    let b' = field_then Big l o (4 ∷ []) (m ∷ []) 1 n a b (o + 4) refl refl (omega arith) a' (q ∙ byte) in
    let c' = field_then Big l o (4 ∷ 1 ∷ []) (m ∷ n ∷ []) 3 i b c (o + 5) refl refl (omega arith) b' r in
    let d' = field_then Big l o (4 ∷ 1 ∷ 3 ∷ []) (m ∷ n ∷ i ∷ []) 2 j c d (o + 8) refl refl (omega arith) c' t in
    let e' = field_then Big l o (4 ∷ 1 ∷ 3 ∷ 2 ∷ []) (m ∷ n ∷ i ∷ j ∷ []) 2 k d e (o + 10) refl refl (omega arith) d' u in
    field_then Big l o (4 ∷ 1 ∷ 3 ∷ 2 ∷ 2 ∷ []) (m ∷ n ∷ i ∷ j ∷ k ∷ []) 3 s.offset e f (o + 12) refl refl (omega arith) e' v

pub none : Static
none = record { value = 0; code = 0; start = 0; length = 0; number = 0; offset = 0 }

module _ (l : List Static) (T : List ℕ) (w : Within (static_rows l) 0 T) where
  pub rows_read : (k : ℕ) (d : Static) → k < length l → static_in T k ≡ get_or l k d
  unfolding static_rows
  rows_read k d h =
      let e : 0 + STATIC_ROW * k ≡ STATIC_ROW * k = omega arith in
      row_read (get_or l k d) T k (within_at _ T (0 + STATIC_ROW * k) (STATIC_ROW * k) e (within_within _ _ T 0 (STATIC_ROW * k) (within_flat static_row STATIC_ROW length_row l k d h) w))

-- ---- the first n static_rows

module _ (T : List ℕ) where
  pub length_statics : (n : ℕ) → length (statics_in T n) ≡ n
  unfolding statics_in
  length_statics n = select_all_length (static_in T) n

  pub statics_at : (k n : ℕ) (d : Static) → k < n → get_or (statics_in T n) k d ≡ static_in T k
  unfolding statics_in
  statics_at k n d h = select_all_at (static_in T) k n d h

  pub statics_none : statics_in T 0 ≡ []
  unfolding statics_in
  statics_none = select_zero (λ k. true) (static_in T)

-- a table that holds the static_rows of a list holds that list
pub statics_of : (l : List Static) (T : List ℕ) → Within (static_rows l) 0 T → statics_in T (length l) ≡ l
statics_of l T w =
    ext_get_or none (statics_in T (length l)) l (length_statics T (length l))
    (λ k h. statics_at T k (length l) none (omega (arith, length_statics T (length l))) ∙ rows_read l T w k none (omega (arith, length_statics T (length l))))

-- ---- one row more

-- the row of x behind n others
module _ (T : List ℕ) (n : ℕ) (row : Within (static_rows (statics_in T n)) 0 T) (x : Static) (room : STATIC_ROW * (n + 1) ≤ length T) where
  one_more : length (statics_in T n ++ (x ∷ [])) ≡ n + 1
  one_more = length-append (statics_in T n) (x ∷ []) ∙ rw (length_statics T n)

  fits : 0 + length (static_rows (statics_in T n ++ (x ∷ []))) ≤ length T
  fits =
      let e : length (static_rows (statics_in T n ++ (x ∷ []))) ≡ STATIC_ROW * (n + 1) =
      length_rows (statics_in T n ++ (x ∷ [])) ∙ ap (λ (k : ℕ). STATIC_ROW * k) one_more in
      omega (arith, room)

  pub row_added : spliced T (STATIC_ROW * n) (static_row x) ≡ spliced T 0 (static_rows (statics_in T n ++ (x ∷ [])))
  row_added =
      let a : length (static_rows (statics_in T n)) ≡ STATIC_ROW * n = length_rows (statics_in T n) ∙ ap (λ (k : ℕ). STATIC_ROW * k) (length_statics T n) in
      let r : STATIC_ROW * n + length (static_row x) ≤ length T = omega (arith, length_row x, room) in
      ap (λ (t : List ℕ). spliced t (STATIC_ROW * n) (static_row x)) (sym (spliced_same T 0 (static_rows (statics_in T n)) row))
      ∙ spliced_then T 0 (static_rows (statics_in T n)) (static_row x) (STATIC_ROW * n) (omega arith) r
      ∙ ap (spliced T 0) (sym (rows_append (statics_in T n) x))

  within_added : Within (static_rows (statics_in T n ++ (x ∷ []))) 0 (spliced T (STATIC_ROW * n) (static_row x))
  within_added = rw row_added (within_spliced T 0 (static_rows (statics_in T n ++ (x ∷ []))) fits)

  length_added : length (spliced T (STATIC_ROW * n) (static_row x)) ≡ length T
  length_added = ap length row_added ∙ length_spliced T 0 (static_rows (statics_in T n ++ (x ∷ []))) fits

  pub statics_added : statics_in (spliced T (STATIC_ROW * n) (static_row x)) (n + 1) ≡ statics_in T n ++ (x ∷ [])
  statics_added =
      ap (statics_in (spliced T (STATIC_ROW * n) (static_row x))) (sym one_more) ∙ statics_of (statics_in T n ++ (x ∷ [])) (spliced T (STATIC_ROW * n) (static_row x)) within_added

  at_before : (k : ℕ) → k < n → static_in (spliced T (STATIC_ROW * n) (static_row x)) k ≡ static_in T k
  at_before k l =
      rows_read (statics_in T n ++ (x ∷ [])) _ within_added k none (omega (arith, one_more))
      ∙ get_or-append (statics_in T n) (x ∷ []) none k (omega (arith, length_statics T n))
      ∙ statics_at T k n none l

  at_last : static_in (spliced T (STATIC_ROW * n) (static_row x)) n ≡ x
  at_last =
      rows_read (statics_in T n ++ (x ∷ [])) _ within_added n none (omega (arith, one_more))
      ∙ get_or_at (statics_in T n) x [] none n (length_statics T n)

module _ (head : ℕ) (C T : List ℕ) (t : Tally) (w : StaticTable head C T t) (h : t.count < STATIC_LIMIT) where
  pub row_room : STATIC_ROW * (t.count + 1) ≤ length T
  row_room = omega (arith, w.room)

  pub table_next : (x : Static) → (0 < x.number → x.number ≡ namesakes C (stored_name C x) (static_in T) t.count + 1) → written_length head x ≤ WRITTEN_LIMIT
      → StaticTable head C (spliced T (STATIC_ROW * t.count) (static_row x)) (record { count = t.count + 1; size = t.size + written_length head x })
  table_next x new short =
      let long : length (spliced T (STATIC_ROW * t.count) (static_row x)) ≡ length T = length_added T t.count w.row x row_room in
      let is = statics_added T t.count w.row x row_room in
      record {
        counted = record {
          few = omega arith;
          long = rw long row_room;
          numbered = numbered_next C (static_in T) _ t.count w.counted.numbered (at_before T t.count w.row x row_room) (rw (at_last T t.count w.row x row_room) new);
        };
        room = rw long w.room;
        row = rw is (within_added T t.count w.row x row_room);
        names = rw (is, names_one, w.names);
        low = omega (arith, w.low);
      }

-- an empty table
pub table_none : (head : ℕ) (C T : List ℕ) → STATIC_TABLE ≤ length T → StaticTable head C T (record { count = 0; size = 0 })
table_none head C T h = record {
  counted = record { few = omega arith; long = omega arith; numbered = record { each = λ k u. absurd (omega arith) } };
  room = h;
  row = rw (statics_none T, rows_none) (record { front = []; rest = T; whole = refl; starts = refl });
  names = rw (statics_none T, names_none);
  low = omega arith;
}
