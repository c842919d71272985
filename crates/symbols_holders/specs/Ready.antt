-- Of the code, not of document 01: what is in hand to find the holders of positions, and what each step leaves. C and A are the objects, U the table of statics, T the rows
-- of the ids, L the list, I its index; m is how many positions the list has.
use Rattle.std.specs.Prelude.{ℕ, ◌+◌, ◌*◌, ◌≤◌, ◌<◌, ◌≡◌, Bool, false, cond, List, length, drop, eqb}
use Rattle.base_lists.specs.Strings.{same}
use Rattle.base_fields.specs.declared.ByteOrder.{ByteOrder}
use Rattle.base_fields.specs.declared.ByteOrder.TheVariants.{Big}
use Rattle.base_fields.specs.Numbers.{number}
use Rattle.base_scope.specs.Limits.{ID_LIMIT}
use Rattle.base_index.specs.Index.{hash_of, hash_place, hash_in, Indexed}
use Rattle.elf_symbols.specs.Symbols.{symbol_count, symbol_name}
use Rattle.statics_table.specs.Table.{statics_in}
use Rattle.symbols_merge.specs.Candidates.{Candidates}
use Rattle.symbols_merge.specs.Listed.{listed}
use Rattle.symbols_names.specs.of_symbols_ids.Ids.{name_of}
use Rattle.symbols_names.specs.declared.Sources.{Sources}
use Rattle.symbols_names.specs.Names.{first_in, SourcesRead}
use Rattle.symbols_rows.specs.Rows.{candidates_in, RowsOf, half_in, ListOf, HoldersOf}

-- the hash of symbol k of a table of them that starts at `known`
unfoldable pub known_in : List ℕ → ℕ → ℕ → ℕ
known_in I known k = number Big 2 I (known + 2 * k)

-- the hashes of the names of A's symbols stand there, behind those that are put for the list
pub record KnownHashes (o : ByteOrder) (A : List ℕ) (known : ℕ) (I : List ℕ) : Type 0 where
  pub apart : 2 * ID_LIMIT ≤ known
  pub room : known + 2 * symbol_count o A ≤ length I
  pub each : (k : ℕ) → k < symbol_count o A → known_in I known k ≡ hash_of (symbol_name o A k)

-- each of the first m items of the index has the hash of the name of its position's id
pub record Hashed (name : ℕ → List ℕ) (L I : List ℕ) (m : ℕ) : Type 0 where
  pub each : (p : ℕ) → p < m → hash_in I p ≡ hash_of (name (half_in L p))

-- the list is indexed by the hashes of the names of its ids
pub record ListIndexed (name : ℕ → List ℕ) (L I : List ℕ) (m : ℕ) : Type 0 where
  pub indexed : Indexed ID_LIMIT I m
  pub hashed : Hashed name L I m

-- how many ids there are
abbrev pub id_count : Sources → ℕ
id_count s = first_in s + s.statics

-- each of the first m numbers of the list is an id
abbrev pub ListHeld : Sources → List ℕ → ℕ → Type 0
ListHeld s L m = (p : ℕ) → p < m → (2 * p + 2 ≤ length L) × (half_in L p < id_count s)

-- position p has its item in the index and its number in the list, and that is an id
pub record PositionHeld (s : Sources) (L I : List ℕ) (p : ℕ) : Type 0 where
  pub item : hash_place p + 2 ≤ length I
  pub word : 2 * p + 2 ≤ length L
  pub id : half_in L p < id_count s

module _ (o : ByteOrder) (C A U : List ℕ) (s : Sources) where
  -- the working names of the ids
  abbrev pub id_name : ℕ → List ℕ
  id_name = name_of o C A (statics_in U s.statics)

  -- positions p and k have one hash and one name
  unfoldable pub alike_in : List ℕ → List ℕ → ℕ → ℕ → Bool
  alike_in L I p k = cond (eqb (hash_in I k) (hash_in I p)) (same (id_name (half_in L p)) (id_name (half_in L k))) false

  -- the candidates in hand
  abbrev pub symbols_in : List ℕ → Candidates
  symbols_in T = candidates_in T (id_count s) id_name

  -- names, rows and list in hand
  pub record HoldersReady (T L : List ℕ) (m : ℕ) : Type 0 where
    pub read : SourcesRead o C A U s
    pub rows : RowsOf T (id_count s) id_name
    pub list : ListOf (symbols_in T) L m

  -- the same of the whole list of m positions, which is indexed, and a position p of it
  pub record PositionReady (T L I : List ℕ) (m p : ℕ) : Type 0 where
    pub many : m ≡ length (listed (symbols_in T))
    pub low : p < length (listed (symbols_in T))
    pub ready : HoldersReady T L (length (listed (symbols_in T)))
    pub index : ListIndexed id_name L I (length (listed (symbols_in T)))

-- the first m numbers are the holders of their positions, and what stands behind them is as before
pub record NamesHeld (s : Candidates) (m : ℕ) (before after : List ℕ) : Type 0 where
  pub held : HoldersOf s after m
  pub kept : drop (2 * m) after ≡ drop (2 * m) before
