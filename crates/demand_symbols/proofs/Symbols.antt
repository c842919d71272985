-- The symbols of an object O that a merge gave back, read by the gABI's readers: entry k is the one of candidate `merged_at k`, by its working name; local ones come first and no
-- name stands twice. Assumes nothing.
use Prim.Native.Nat.{ℕ, zero, suc, ◌+◌, ◌≤◌, ◌<◌}
use mathlib.Core.Path.{◌≡◌, sym, ap, ◌∙◌, subst₂}
use mathlib.Core.Bool.{true, ◌&&◌}
use mathlib.Core.List.{List, [], ◌++◌}
use native.Mathlib.Omega.{arith}
use lib.ListN.{length, take}
use lib.Dec.{eqb, ltb, leb}
use borrow.Author.Tests.{lt-ltb, le-ltb}
use Rattle.base_lists.proofs.Ranges.{by-test, by-lt}
use Rattle.base_fields.specs.declared.ByteOrder.{ByteOrder}
use Rattle.base_packed.specs.Packed.{binding_of}
use Rattle.base_scope.specs.Elf.{STB_LOCAL}
use Rattle.base_scope.specs.Text.{text}
use Rattle.elf_records.specs.declared.symbol.SymbolEntry.{SymbolEntry}
use Rattle.elf_readers.specs.Readers.{order_of, section}
use Rattle.elf_symbols.specs.Symbols.{symtab, symbol_count, symbol, symbol_strings, symbol_name}
use Rattle.elf_check.specs.Sound.{Sound}
use Rattle.blocks_places.specs.Places.{Place, places_of}
use Rattle.statics_table.specs.declared.Static.{Static}
use Rattle.statics_table.specs.Statics.{MODE_FILENAME, name_head}
use Rattle.statics_walk.specs.Walk.{statics}
use Rattle.symbols_merge.specs.Candidates.{Candidates, is_local}
use Rattle.symbols_merge.specs.Merged.{merged_count, local_count, merged_at}
use Rattle.symbols_merge.proofs.Merged.{merged_once, locals_first}
use Rattle.symbols_ids.specs.Ids.{name_of, entry_of, candidates, merge_candidates}
use Rattle.symbols_ids.specs.Table.{null_entry, result_entry}
use Rattle.merge_verdict.specs.of_write_plan.Names.{name_written}
use Rattle.merge_verdict.proofs.of_write_plan.Symbols.{symbol_count_merged, symbol_merged, symbol_info_merged}
use Rattle.merge_verdict.proofs.of_write_plan.Names.{entry_at as candidate-entry, candidate_at, null_ended, null_is, null_unnamed, name_merged}
use Rattle.merge_verdict.specs.Verdict.{MergePassed}
use Rattle.merge_verdict.proofs.Limits.{path_full}
use Rattle.demand_clauses.specs.Reading.{symbol_binding}
use Rattle.demand_clauses.specs.Demand.{plain_name, Symbols}
use Rattle.demand_symbols.proofs.Ids.{named_not}
use Rattle.demand_symbols.proofs.Names.{starts_inside, Plain, plain_low, plain_id}

module _ (C A B path : List ℕ) (flag mode : ℕ) (O : List ℕ) (p : MergePassed C A B path flag mode O) where
  abbrev o : ByteOrder
  o = order_of C

  abbrev P : List Place
  P = places_of o C B

  abbrev S : List Static
  S = statics o C mode (length (name_head mode path))

  abbrev s : Candidates
  s = merge_candidates o C A P B mode (length (name_head mode path))

  -- where the strings of C and A end
  abbrev cut : ℕ
  cut = length (symbol_strings o C) + length (symbol_strings o A)

  sound : Sound o C
  sound = p.inputs.opened.sound

  -- ---- its entries

  -- how many they are, how many of them are local by sh_info, and each as the result has it
  pub count_is : symbol_count o O ≡ merged_count s
  count_is = ap (symbol_count o) p.object ∙ symbol_count_merged o C A P B path flag mode p.movable sound sound.names

  info_is : (section o O (symtab o O)).sh_info ≡ local_count s
  info_is = ap (λ (F : List ℕ). (section o F (symtab o F)).sh_info) p.object ∙ symbol_info_merged o C A P B path flag mode p.movable sound sound.names

  entry_at : (k : ℕ) → k < merged_count s → symbol o O k ≡ result_entry o C A P B mode S k
  entry_at k h = ap (λ (F : List ℕ). symbol o F k) p.object ∙ symbol_merged o C A P B path flag mode p.movable sound sound.names k h

  some : 0 < merged_count s
  unfolding merged_count
  some = omega arith

  zeros_at : symbol o O 0 ≡ null_entry
  zeros_at = entry_at 0 some ∙ null_is o C A P B path flag mode sound

  -- entry k, behind entry 0, of the candidate i
  module _ (k : ℕ) (l : 1 ≤ k) (h : k < symbol_count o O) where
    abbrev i : ℕ
    i = merged_at s k

    below : k < merged_count s
    below = omega (arith, h, count_is)

    pub entry_is : symbol o O k ≡ entry_of o C A P B mode S i
    entry_is = entry_at k below ∙ candidate-entry o C A P B path flag mode k l

    written_is : symbol_name o O k ≡ name_written o C A mode path S i
    written_is =
        ap (λ (F : List ℕ). symbol_name o F k) p.object
        ∙ name_merged o C A P B path flag mode p.movable sound sound.names p.inputs.assembled (path_full path p.path_is) k l below

    -- its name, where it stands, is the working name of i once path and colon are off
    named : Plain mode path cut (symbol o O k).st_name (symbol_name o O k) (s.name i)
    unfolding merge_candidates candidates
    named = subst₂ (λ (x : ℕ) (w : List ℕ). Plain mode path cut x w (name_of o C A S i))
        (sym (ap (λ (e : SymbolEntry). e.st_name) entry_is)) (sym written_is)
        (plain_id o C A P B mode path S sound p.inputs.assembled i (candidate_at o C A P B path flag mode k l below).0)

    pub plain_is : plain_name o C A P B path flag mode O k ≡ s.name i
    unfolding plain_name
    plain_is = named.is

    -- it is local where i is, and so below the count of local ones
    binding_is : symbol_binding o O k ≡ s.binding i
    unfolding symbol_binding merge_candidates candidates
    binding_is = ap (λ (e : SymbolEntry). binding_of e.st_info) entry_is

    local_is : eqb (symbol_binding o O k) STB_LOCAL ≡ ltb k (local_count s)
    unfolding is_local
    local_is = ap (λ (x : ℕ). eqb x STB_LOCAL) binding_is ∙ by-lt k (local_count s)
        (λ u. (locals_first s k l below).0 u ∙ sym (lt-ltb k (local_count s) u))
        (λ u. by-test (is_local s i)
        (λ t. absurd (omega (arith, u, (locals_first s k l below).1 t)))
        (λ f. f ∙ sym (le-ltb k (local_count s) u)))

  -- ---- entry 0: its name is the empty one of C's entry 0

  null_name : symbol_name o O 0 ≡ []
  null_name = ap (λ (F : List ℕ). symbol_name o F 0) p.object ∙ null_unnamed o C A P B path flag mode sound p.movable sound.names some

  null_named : Plain mode path cut (symbol o O 0).st_name (symbol_name o O 0) []
  unfolding null_entry
  null_named = subst₂ (λ (x : ℕ) (w : List ℕ). Plain mode path cut x w [])
      (sym (ap (λ (e : SymbolEntry). e.st_name) zeros_at)) (sym null_name)
      (plain_low mode path cut 0 [] (omega (arith, starts_inside (symbol_strings o C) 0 (null_ended o C A P B path flag mode sound))))

  plain_null : plain_name o C A P B path flag mode O 0 ≡ []
  unfolding plain_name
  plain_null = null_named.is

  null_local : eqb (symbol_binding o O 0) STB_LOCAL ≡ ltb 0 (local_count s)
  unfolding symbol_binding null_entry local_count
  null_local = ap (λ (e : SymbolEntry). eqb (binding_of e.st_info) STB_LOCAL) zeros_at ∙ sym (lt-ltb 0 (local_count s) (omega arith))

  -- ---- all of them

  -- mode 3 puts path and colon in front
  pub pathed_kept : (k : ℕ) → k < symbol_count o O → (eqb mode MODE_FILENAME && leb cut (symbol o O k).st_name) ≡ true
      → take (length path + 1) (symbol_name o O k) ≡ path ++ text ":"
  pathed_kept zero h t = null_named.front t
  pathed_kept (suc k) h t = (named (suc k) (omega arith) h).front t

  -- local ones are those below sh_info
  locals_kept : (k : ℕ) → k < symbol_count o O → eqb (symbol_binding o O k) STB_LOCAL ≡ ltb k (section o O (symtab o O)).sh_info
  locals_kept zero h = null_local ∙ ap (ltb 0) (sym info_is)
  locals_kept (suc k) h = local_is (suc k) (omega arith) h ∙ ap (ltb (suc k)) (sym info_is)

  -- no name stands twice
  once_kept : (k m : ℕ) → k < symbol_count o O → m < symbol_count o O → 0 < length (plain_name o C A P B path flag mode O k)
      → plain_name o C A P B path flag mode O k ≡ plain_name o C A P B path flag mode O m → k ≡ m
  once_kept zero m a b h e = absurd (omega (arith, h, ap length plain_null))
  once_kept (suc k) zero a b h e = absurd (omega (arith, h, ap length (e ∙ plain_null)))
  once_kept (suc k) (suc m) a b h e =
      merged_once s (suc k) (suc m) (omega arith) (omega arith) (omega (arith, a, count_is)) (omega (arith, b, count_is))
      (named_not s (merged_at s (suc k)) (omega (arith, h, ap length (plain_is (suc k) (omega arith) a))))
      (sym (plain_is (suc k) (omega arith) a) ∙ e ∙ plain_is (suc m) (omega arith) b)

  pub symbols_kept : Symbols o C A P B path flag mode O
  symbols_kept = record { locals = locals_kept; once = once_kept }
