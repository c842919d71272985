-- Rows that were filled are of the names of the ids, and so is the list made of them; its positions can be indexed. Assumes nothing.
use Prim.Native.Nat.{ℕ, ◌*◌, ◌≤◌, ◌<◌}
use mathlib.Core.Path.{◌≡◌, refl}
use mathlib.Core.List.{List}
use native.Mathlib.Omega.{arith}
use lib.ListN.{length}
use Rattle.base_fields.specs.declared.ByteOrder.{ByteOrder}
use Rattle.base_scope.specs.Limits.{ID_LIMIT, ID_ROW}
use Rattle.symbols_fill.specs.of_symbols_names.declared.Sources.{Sources}
use Rattle.symbols_rows.specs.Rows.{RowsOf}
use Rattle.symbols_rows.specs.Steps.{ids_listed, Listing}
use Rattle.symbols_rows.proofs.Tables.{rows_of, list_of}
use Rattle.symbols_fill.specs.of_symbols_holders.Ready.{id_count, id_name, HoldersReady}
use Rattle.symbols_fill.proofs.of_symbols_holders.Holders.{list_few}
use Rattle.symbols_fill.specs.declared.Filling.{Filling}
use Rattle.symbols_fill.specs.Fill.{row_of, PlacesReady, FilledRows}
use Rattle.symbols_fill.proofs.Filled.{ids_few}
use Rattle.symbols_fill.proofs.Origins.{kind_unnamed, kind_gp}
use Rattle.symbols_chain.specs.Chain.{SymbolsListed}

module _ (C A U late : List ℕ) (f : Filling) (q : PlacesReady C A U late f) (before : List ℕ) (n : ℕ) (T : List ℕ) (r : FilledRows C A U late f before n T) where
  module _ (long : ID_ROW * id_count f.sources ≤ length before) where
    rows_named : RowsOf T (id_count f.sources) (id_name f.inputs.order C A U f.sources)
    unfolding row_of
    rows_named =
        rows_of T (id_count f.sources) (id_name f.inputs.order C A U f.sources) (row_of C A U late f) (ids_few C A U late f q) (omega (arith, r.long, long)) r.rows (λ i l t. kind_unnamed _ _ t) (λ i l t. kind_gp _ _ t)

    -- what it leaves
    pub symbols_listed : (B L : List ℕ) (m : ℕ) → 2 * id_count f.sources ≤ length B → Listing (ids_listed T n) 0 m B L → SymbolsListed C A U late f T L m
    symbols_listed B L m room w =
        let v : Listing (ids_listed T (id_count f.sources)) 0 m B L = rw r.many at w in
        record {
          filled = record { many = refl; long = refl; rows = r.rows };
          ready = record {
            read = q.names;
            rows = rows_named;
            list = list_of T (id_count f.sources) m B L room v (id_name f.inputs.order C A U f.sources);
          };
        }

-- what indexing asks
module _ (o : ByteOrder) (C A U : List ℕ) (s : Sources) (T L : List ℕ) (m : ℕ) (h : HoldersReady o C A U s T L m) where
  pub ready_few : m ≤ ID_LIMIT
  ready_few = list_few T L (id_count s) m (id_name o C A U s) h.rows h.list
