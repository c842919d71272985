-- What the chain leaves is of the candidates of the merge: verdict, starts, order and numbers. Assumes what the stages before leave (`FillStage`).
use Prim.Native.Nat.{ℕ, ◌*◌, ◌≤◌}
use mathlib.Core.Path.{◌≡◌, ◌∙◌}
use mathlib.Core.List.{List}
use lib.ListN.{length}
use Rattle.blocks_places.specs.Places.{Place}
use Rattle.statics_table.specs.Table.{statics_in}
use Rattle.symbols_merge.specs.Candidates.{Candidates}
use Rattle.symbols_merge.specs.Listed.{symbols_verdict}
use Rattle.symbols_merge.specs.Merged.{number_of}
use Rattle.symbols_merge.proofs.Merged.{Taken}
use Rattle.symbols_merge.proofs.Agree.{Agree, verdict_agree}
use Rattle.symbols_fill.specs.of_symbols_ids.Ids.{candidates}
use Rattle.symbols_rows.specs.Rows.{half_in, HoldersOf}
use Rattle.symbols_rows.specs.Steps.{Holders, verdict_in}
use Rattle.symbols_rows.proofs.Tables.{holders_of, verdict_is}
use Rattle.symbols_fill.specs.of_symbols_holders.Ready.{id_count, id_name, symbols_in}
use Rattle.symbols_numbers.specs.Numbers.{Tables, HoldersFirst, IdRoom}
use Rattle.symbols_numbers.specs.Result.{StartsOf, OrderOf, NumbersOf}
use Rattle.symbols_numbers.proofs.Result.{tables_in_lem, holders_first, room_in, starts_of, order_of_lem, numbers_of, starts_agree, order_agree, numbers_agree}
use Rattle.symbols_fill.specs.declared.Filling.{Filling}
use Rattle.symbols_fill.specs.Stage.{FillStage}
use Rattle.symbols_fill.proofs.Candidates.{fill_agree}
use Rattle.symbols_chain.specs.Chain.{SymbolsListed, SymbolsNumbered}

module _ (C A U late : List ℕ) (f : Filling) (T L : List ℕ) (m : ℕ) (l : SymbolsListed C A U late f T L m) (H : List ℕ) where
  abbrev n : ℕ
  n = id_count f.sources

  abbrev name : ℕ → List ℕ
  name = id_name f.inputs.order C A U f.sources

  -- the candidates in hand
  abbrev s : Candidates
  s = symbols_in f.inputs.order C A U f.sources T

  module _ (h : HoldersOf s H m) where
    -- ---- what the verdict and the numbering ask

    pub chain_holders : Holders T L H m
    chain_holders = holders_of T n name l.ready.rows L m l.ready.list H h

    pub chain_tables : Tables T L H m
    chain_tables = tables_in_lem T L H n m name l.ready.rows l.ready.list h

    pub chain_first : HoldersFirst L H m
    chain_first = holders_first T L H n m name l.ready.rows l.ready.list h

    pub chain_room : (N : List ℕ) → 2 * n ≤ length N → IdRoom L m N
    chain_room N u = room_in T L H n m name l.ready.rows l.ready.list h N u

    -- ---- of the merge

    module _ (P : List Place) (B : List ℕ) (g : FillStage C A P B U late f) where
      abbrev t : Candidates
      t = candidates f.inputs.order C A P B f.mode (statics_in U f.sources.statics)

      pub chain_agree : Agree s t
      chain_agree = fill_agree C A P B U late f g T n T l.filled

      -- 18 and 19
      pub chain_verdict : verdict_in T L H m ≡ symbols_verdict t
      chain_verdict = verdict_is T n name L H m l.ready.rows l.ready.list h ∙ verdict_agree s t chain_agree

      module _ (starts O N : List ℕ) (w : SymbolsNumbered T L H m starts O N) where
        pub chain_starts : StartsOf t starts
        chain_starts = starts_agree s t chain_agree starts (starts_of T L H n m name l.ready.rows l.ready.list h starts w.groups)

        pub chain_order : 2 * m ≤ length O → OrderOf t O
        chain_order u = order_agree s t chain_agree O (order_of_lem T L H n m name l.ready.rows l.ready.list h O u w.order)

        pub chain_numbers : 2 * n ≤ length N → NumbersOf t N
        chain_numbers u = numbers_agree s t chain_agree N (numbers_of T L H n m name l.ready.rows l.ready.list h N u w.numbers)

        -- the number of a taken id
        pub chain_number : 2 * n ≤ length N → (i : ℕ) → Taken t i → half_in N i ≡ number_of t i
        chain_number u i k = (chain_numbers u).is i k.0 ∙ rw k.1
