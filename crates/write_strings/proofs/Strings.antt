-- How long strings are, the turns of the loop over the statics, and that the strings of a table's rows are those of its statics. Assumes nothing.
use Prim.Native.Nat.{ℕ, ◌+◌, ◌-◌, ◌≤◌, ◌<◌}
use mathlib.Core.Path.{◌≡◌, refl, sym, ap, ◌∙◌}
use mathlib.Core.Bool.{true}
use mathlib.Core.List.{List, [], ◌∷◌, ◌++◌, append_assoc}
use native.Mathlib.Omega.{arith}
use lib.Dec.{eqb}
use lib.ListN.{length, take, drop, length-append, length-take, length-drop}
use Rattle.base_lists.specs.Ranges.{gather}
use Rattle.base_lists.specs.Strings.{name_at}
use Rattle.base_lists.specs.Written.{Written}
use Rattle.base_lists.proofs.Ranges.{by-test, gather_zero, gather_yes, gather_same}
use Rattle.base_lists.proofs.Strings.{name_short}
use Rattle.base_lists.proofs.Written.{written_none, written_then, written_as}
use Rattle.base_fields.specs.declared.ByteOrder.{ByteOrder}
use Rattle.base_scope.specs.Text.{text}
use Rattle.base_text.proofs.Decimals.{decimal_short}
use Rattle.elf_symbols.specs.declared.SymbolTable.{SymbolTable}
use Rattle.elf_symbols.specs.Symbols.{symbol_strings}
use Rattle.statics_table.specs.declared.Static.{Static}
use Rattle.statics_table.specs.Statics.{count_tail, name_head, working_name, written_name}
use Rattle.statics_table.specs.Table.{static_in, statics_in}
use Rattle.statics_table.proofs.Table.{statics_at, length_statics}
use Rattle.statics_entry.specs.Entry.{nth}
use Rattle.statics_names.proofs.Names.{head_short, working_parts, written_parts}
use Rattle.write_strings.specs.Strings.{zero_ended, static_string, strings_below, result_strings}

row_at : (T : List ℕ) (n k : ℕ) → k < n → nth (statics_in T n) k ≡ static_in T k
unfolding nth
row_at T n k h = statics_at T k n _ h

-- the strings of an object are no longer than it
pub strings_short : (t : SymbolTable) (F s : List ℕ) → s ≡ take (t.end - t.names) (drop t.names F) → length s ≤ length F
strings_short t F s e =
    let l = ap length e ∙ length-take (t.end - t.names) (drop t.names F) in
    omega (arith, l, length-drop t.names F)

-- a colon and ten digits
tail_short : (n : ℕ) → length (count_tail n) ≤ 11
unfolding count_tail text
tail_short n = by-test (eqb n 0)
    (λ t. rw t (omega arith))
    (λ f. rw f (omega (arith, decimal_short n)))

module _ (mode : ℕ) (path C : List ℕ) where
  pub written_short : (s : Static) → length (written_name mode path C s) ≤ length path + length C + 12
  written_short s =
      let a = ap length (sym (written_parts mode path C s)) ∙ length-append (name_head mode path) (working_name C s) in
      let b = ap length (sym (working_parts C s)) ∙ length-append (name_at C s.start) (count_tail s.number) in
      omega (arith, a, b, head_short mode path, tail_short s.number, name_short C s.start)

  pub string_parts : (s : Static) → written_name mode path C s ++ (0 ∷ []) ≡ static_string mode path C s
  unfolding static_string zero_ended
  string_parts s = refl

  pub string_short : (s : Static) → length (static_string mode path C s) ≤ length path + length C + 13
  string_short s =
      let a = ap length (sym (string_parts s)) ∙ length-append (written_name mode path C s) (0 ∷ []) in
      omega (arith, a, written_short s)

  -- the loop over the statics
  module _ (f : ℕ → Static) (o : List ℕ) (at : ℕ) where
    pub strings_start : Written o at (strings_below mode path C f 0) at o
    unfolding strings_below
    strings_start = written_as o at [] _ at o (sym (gather_zero _ _)) (written_none o at)

    pub strings_turn : (k r : ℕ) (p : List ℕ) (q : ℕ) (u : List ℕ) → Written o at (strings_below mode path C f k) r p → Written p r (static_string mode path C (f k)) q u
        → Written o at (strings_below mode path C f (k + 1)) q u
    unfolding strings_below
    strings_turn k r p q u a b =
        written_as o at _ _ q u (sym (gather_yes (λ j. true) (λ j. static_string mode path C (f j)) k refl)) (written_then o at _ r p _ q u a b)

  -- rows of a table
  pub strings_rows : (T : List ℕ) (n : ℕ) → strings_below mode path C (static_in T) n ≡ strings_below mode path C (nth (statics_in T n)) (length (statics_in T n))
  unfolding strings_below
  strings_rows T n =
      gather_same (λ k. true) (λ k. true) (λ k. static_string mode path C (static_in T k)) (λ k. static_string mode path C (nth (statics_in T n) k)) n
      (λ k h. refl) (λ k h. λ t. ap (static_string mode path C) (sym (row_at T n k h)))
      ∙ ap (gather (λ k. true) (λ k. static_string mode path C (nth (statics_in T n) k))) (sym (length_statics T n))

pub strings_written : (o : ByteOrder) (C A : List ℕ) (mode : ℕ) (path T : List ℕ) (n : ℕ)
    → (symbol_strings o C ++ symbol_strings o A) ++ strings_below mode path C (static_in T) n ≡ result_strings o C A mode path (statics_in T n)
unfolding result_strings
strings_written o C A mode path T n =
    append_assoc (symbol_strings o C) (symbol_strings o A) (strings_below mode path C (static_in T) n)
    ∙ ap (λ (x : List ℕ). symbol_strings o C ++ (symbol_strings o A ++ x)) (strings_rows mode path C T n)
