-- The job's result reads as an object: each clause by computing it. Assumes nothing.
use Prim.Native.Nat.{ℕ, zero, suc, ◌+◌, ◌≤◌, ◌<◌}
use mathlib.Core.Path.{◌≡◌, refl}
use mathlib.Core.Logic.{◌≢◌}
use mathlib.Core.Bool.{true}
use mathlib.Core.List.{List}
use native.Mathlib.Omega.{arith}
use lib.ListN.{length}
use lib.Dec.{lit≤}
use Rattle.base_lists.proofs.Ranges.{both}
use Rattle.base_fields.specs.declared.ByteOrder.TheVariants.{Big}
use Rattle.base_scope.specs.Elf.{SHT_NULL, SHT_NOBITS}
use Rattle.elf_readers.specs.Readers.{section_count, section, section_name, section_named}
use Rattle.elf_symbols.specs.Symbols.{symbol_count}
use Rattle.elf_symbol_faults.specs.Faults.{symbol_sound}
use Rattle.blocks_places.specs.Places.{Place, places_of}
use Rattle.carry_homes.specs.Homes.{carried_count, home_name, home_of}
use Rattle.demand_clauses.specs.Demand.{Reads}
use Rattle.demand_jobs.specs.Job.{C, A, B, path, O}
use Rattle.demand_jobs.proofs.Everything.{everything}

abbrev P : List Place
P = places_of Big C B

held : (i : ℕ) → i < section_count Big O → (section Big O i).sh_type ≢ SHT_NULL → (section Big O i).sh_type ≢ SHT_NOBITS
    → (section Big O i).sh_offset + (section Big O i).sh_size ≤ length O
unfolding everything
held zero h n m = lit≤ tt
held (suc zero) h n m = lit≤ tt
held (suc (suc zero)) h n m = lit≤ tt
held (suc (suc (suc zero))) h n m = lit≤ tt
held (suc (suc (suc (suc zero)))) h n m = lit≤ tt
held (suc (suc (suc (suc (suc i))))) h n m = absurd (omega arith)

symbols : (k : ℕ) → k < symbol_count Big O → symbol_sound Big O k ≡ true
unfolding everything
symbols zero h = refl
symbols (suc zero) h = refl
symbols (suc (suc zero)) h = refl
symbols (suc (suc (suc k))) h = absurd (omega arith)

names : (i : ℕ) → i < 5 → section_name Big O i ≡ section_name Big C i
unfolding everything
names zero h = refl
names (suc zero) h = refl
names (suc (suc zero)) h = refl
names (suc (suc (suc zero))) h = refl
names (suc (suc (suc (suc zero)))) h = refl
names (suc (suc (suc (suc (suc i))))) h = absurd (omega arith)

types : (i : ℕ) → i < 5 → (section Big O i).sh_type ≡ (section Big C i).sh_type
unfolding everything
types zero h = refl
types (suc zero) h = refl
types (suc (suc zero)) h = refl
types (suc (suc (suc zero))) h = refl
types (suc (suc (suc (suc zero)))) h = refl
types (suc (suc (suc (suc (suc i))))) h = absurd (omega arith)

joined : (j : ℕ) → j < carried_count Big A → section_named Big O (home_name Big A j) ≡ home_of Big C A 5 j
unfolding everything
joined zero h = refl
joined (suc j) h = absurd (omega arith)

pub reads : Reads Big C A P B path 0 1 O
unfolding everything
reads = record {
  order = refl;
  header = refl;
  few_sections = lit≤ tt;
  headers = lit≤ tt;
  held = held;
  names = refl;
  symbol_entry = refl;
  symbol_whole = refl;
  strings = refl;
  some_symbols = lit≤ tt;
  few_symbols = lit≤ tt;
  symbols = symbols;
  tables = refl;
  sections = refl;
  kept_names = names;
  kept_types = types;
  new_names = λ i h. absurd (omega arith);
  symbol_table = refl;
  symbol_strings = refl;
  joined = joined;
  pathed = λ k h t. both t refl;
}
