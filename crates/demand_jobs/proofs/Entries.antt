-- The symbols of the job's result, and its entries beside the references that it owes: each clause by computing it. Assumes nothing.
use Prim.Native.Nat.{ℕ, zero, suc, ◌<◌}
use mathlib.Core.Path.{◌≡◌, refl}
use mathlib.Core.Bool.{true}
use mathlib.Core.List.{List, []}
use native.Mathlib.Omega.{arith}
use lib.ListN.{length, get_or}
use lib.Dec.{eqb, ltb, lit<}
use borrow.Author.Tests.{eqb-false}
use Rattle.base_lists.proofs.Ranges.{both}
use Rattle.base_lists.proofs.Strings.{same_false}
use Rattle.base_fields.specs.declared.ByteOrder.TheVariants.{Big}
use Rattle.base_scope.specs.Text.{text}
use Rattle.base_scope.specs.Elf.{STB_LOCAL}
use Rattle.elf_readers.specs.Readers.{section}
use Rattle.elf_symbols.specs.Symbols.{symtab, symbol_count, symbol}
use Rattle.blocks_places.specs.Places.{Place, places_of}
use Rattle.demand_clauses.specs.Reading.{Reference, reference_at, symbol_binding, all_entries}
use Rattle.demand_clauses.specs.TakenOver.{Definition, origins, no_definition, defines, taken_over, merge_statics}
use Rattle.demand_clauses.specs.Demand.{plain_name, Leads, Same}
use Rattle.demand_jobs.specs.Job.{C, A, B, path, O}
use Rattle.demand_jobs.proofs.Everything.{everything}

abbrev P : List Place
P = places_of Big C B

-- ---- its symbols: none, f and g

pub locals : (k : ℕ) → k < symbol_count Big O → eqb (symbol_binding Big O k) STB_LOCAL ≡ ltb k (section Big O (symtab Big O)).sh_info
unfolding everything
locals zero h = refl
locals (suc zero) h = refl
locals (suc (suc zero)) h = refl
locals (suc (suc (suc k))) h = absurd (omega arith)

abbrev name : ℕ → List ℕ
name k = plain_name Big C A P B path 0 1 O k

pub once : (k m : ℕ) → k < symbol_count Big O → m < symbol_count Big O → 0 < length (name k) → name k ≡ name m → k ≡ m
unfolding everything
once zero m h l n e = absurd (omega arith)
once (suc zero) zero h l n e = absurd (same_false (text "f") [] refl e)
once (suc zero) (suc zero) h l n e = refl
once (suc zero) (suc (suc zero)) h l n e = absurd (same_false (text "f") (text "g") refl e)
once (suc zero) (suc (suc (suc m))) h l n e = absurd (omega arith)
once (suc (suc zero)) zero h l n e = absurd (same_false (text "g") [] refl e)
once (suc (suc zero)) (suc zero) h l n e = absurd (same_false (text "g") (text "f") refl e)
once (suc (suc zero)) (suc (suc zero)) h l n e = refl
once (suc (suc zero)) (suc (suc (suc m))) h l n e = absurd (omega arith)
once (suc (suc (suc k))) m h l n e = absurd (omega arith)

-- ---- where its entries lead: the first to g, the others to f

abbrev owed : ℕ → Reference
owed j = reference_at (origins Big C A P B 0) j

abbrev leads_to : ℕ → ℕ → Type 0
leads_to j n = Leads Big C A P B path 0 1 O (owed j) n

-- what is taken over: f of C, g of C, which it does not define, g of A and f of A, which it does not define
abbrev over : ℕ → Definition
over i = get_or (taken_over Big C A P B (merge_statics Big C 1 path)) i no_definition

f_agrees : (i : ℕ) → i < 4 → defines (text "f") (over i) ≡ true → ((symbol Big O 1).st_shndx ≡ (over i).section) × ((symbol Big O 1).st_value ≡ (over i).value)
unfolding everything
f_agrees zero h t = (refl, refl)
f_agrees (suc zero) h t = both t refl
f_agrees (suc (suc zero)) h t = both t refl
f_agrees (suc (suc (suc zero))) h t = both t refl
f_agrees (suc (suc (suc (suc i)))) h t = absurd (omega arith)

g_agrees : (i : ℕ) → i < 4 → defines (text "g") (over i) ≡ true → ((symbol Big O 2).st_shndx ≡ (over i).section) × ((symbol Big O 2).st_value ≡ (over i).value)
unfolding everything
g_agrees zero h t = both t refl
g_agrees (suc zero) h t = both t refl
g_agrees (suc (suc zero)) h t = (refl, refl)
g_agrees (suc (suc (suc zero))) h t = both t refl
g_agrees (suc (suc (suc (suc i)))) h t = absurd (omega arith)

leads_0 : leads_to 0 2
unfolding everything
leads_0 = record {
  some = lit< tt;
  there = lit< tt;
  name = refl;
  defined = λ s. refl;
  agrees = λ s. g_agrees;
  unnamed = λ e. absurd (eqb-false 1 0 refl e);
}

leads_1 : leads_to 1 1
unfolding everything
leads_1 = record {
  some = lit< tt;
  there = lit< tt;
  name = refl;
  defined = λ s. refl;
  agrees = λ s. f_agrees;
  unnamed = λ e. absurd (eqb-false 1 0 refl e);
}

leads_2 : leads_to 2 1
unfolding everything
leads_2 = record {
  some = lit< tt;
  there = lit< tt;
  name = refl;
  defined = λ s. refl;
  agrees = λ s. f_agrees;
  unnamed = λ e. absurd (eqb-false 1 0 refl e);
}

-- ---- its entries, in order

abbrev found : ℕ → Reference
found j = reference_at (all_entries Big O) j

pub same : (j : ℕ) → j < length (origins Big C A P B 0) → Same Big C A P B path 0 1 O (owed j) (found j).table (found j).entry
unfolding everything
same zero h = record {
  type = refl;
  link = refl;
  target = refl;
  moved = refl;
  place = refl;
  kind = refl;
  addend = refl;
  word = λ l t. refl;
  leads = leads_0;
}
same (suc zero) h = record {
  type = refl;
  link = refl;
  target = refl;
  moved = refl;
  place = refl;
  kind = refl;
  addend = refl;
  word = λ l t. refl;
  leads = leads_1;
}
same (suc (suc zero)) h = record {
  type = refl;
  link = refl;
  target = refl;
  moved = refl;
  place = refl;
  kind = refl;
  addend = refl;
  word = λ l t. refl;
  leads = leads_2;
}
same (suc (suc (suc j))) h = absurd (omega arith)
