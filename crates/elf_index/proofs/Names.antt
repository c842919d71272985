-- The index of the symbols: the hashes are put one by one, building keeps them, and what has a name has its hash. Assumes nothing.
use Prim.Native.Nat.{ℕ, ◌+◌, ◌≤◌, ◌<◌}
use mathlib.Core.Path.{◌≡◌, refl, ap, ◌∙◌}
use mathlib.Core.List.{List}
use native.Mathlib.Omega.{arith}
use lib.ListN.{length}
use Rattle.base_lists.specs.Windows.{spliced}
use Rattle.base_lists.proofs.Ranges.{by-lt}
use Rattle.base_lists.proofs.Strings.{same_true}
use Rattle.base_fields.specs.declared.ByteOrder.{ByteOrder}
use Rattle.base_fields.specs.declared.ByteOrder.TheVariants.{Big}
use Rattle.base_fields.specs.Numbers.{encoded}
use Rattle.base_scope.specs.Limits.{SYMBOL_LIMIT}
use Rattle.base_index.specs.Index.{hash_place, hash_of, hash_in, Built}
use Rattle.base_index.proofs.Table.{number_long, hash_same, hash_other}
use Rattle.base_index.proofs.Index.{Implies}
use Rattle.elf_symbols.specs.Symbols.{symbol_count, symbol_name, is_symbol_named}
use Rattle.elf_index.specs.Index.{SymbolIndex}

-- the first i hashes are put
pub record Hashed (o : ByteOrder) (F : List ℕ) (i : ℕ) (before after : List ℕ) : Type 0 where
  pub long : length after ≡ length before
  pub hashes : (k : ℕ) → k < i → hash_in after k ≡ hash_of (symbol_name o F k)

module _ (o : ByteOrder) (F : List ℕ) where
  pub hashed_none : (before : List ℕ) → Hashed o F 0 before before
  hashed_none before = record { long = refl; hashes = λ k h. absurd (omega arith) }

  pub hashed_next : (k : ℕ) (before m after : List ℕ) → hash_place k + 2 ≤ length before → Hashed o F k before m
      → after ≡ spliced m (hash_place k) (encoded Big 2 (hash_of (symbol_name o F k))) → Hashed o F (k + 1) before after
  hashed_next k before m after fits x e =
      let f : hash_place k + 2 ≤ length m = rw x.long fits in
      rw e (record {
        long = number_long 2 m (hash_place k) (hash_of (symbol_name o F k)) f ∙ x.long;
        hashes = λ j h. by-lt j k
            (λ l. hash_other m k (hash_of (symbol_name o F k)) f j (λ q. absurd (omega arith)) ∙ x.hashes j l)
            (λ l. let q : j ≡ k = omega arith in rw q (hash_same m k (hash_of (symbol_name o F k)) f));
      })

  pub hashed_built : (n : ℕ) (before m after : List ℕ) → n ≡ symbol_count o F → Hashed o F n before m → Built SYMBOL_LIMIT n m after → SymbolIndex o F after
  hashed_built n before m after e x b =
      record {
        indexed = rw e at b.indexed;
        hashes = λ k h. let l : k < n = omega arith in b.kept k l ∙ x.hashes k l;
      }

  -- a symbol of a name has the name's hash
  pub named_hash : (name index : List ℕ) → SymbolIndex o F index → Implies (is_symbol_named o F name) (hash_of name) index (symbol_count o F)
  unfolding is_symbol_named
  named_hash name index x k l t = x.hashes k l ∙ ap hash_of (same_true (symbol_name o F k) name t)
