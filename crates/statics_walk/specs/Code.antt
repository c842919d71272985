-- Of the code, not of document 01: what the walk over the files answers, and what it leaves in the table of statics.
use Rattle.std.specs.Prelude.{ℕ, ◌<◌, List, ◌≡◌, Option}
use Rattle.base_lists.specs.Windows.{spliced}
use Rattle.base_fields.specs.declared.ByteOrder.{ByteOrder}
use Rattle.statics_debug.specs.declared.Tables.{Tables}
use Rattle.statics_table.specs.declared.Static.{Static}
use Rattle.statics_table.specs.Table.{static_rows, statics_in, StaticTable}
use Rattle.statics_file.specs.declared.FileEnd.{FileEnd}
use Rattle.statics_file.specs.File.{listed_in}
use Rattle.statics_walk.specs.declared.Listing.{Listing}
use Rattle.statics_walk.specs.Walk.{entries_start, names_start, listed_before, completed, file_fault}

-- the answer of file i, behind the statics of the files before it
pub record FileListed (o : ByteOrder) (C : List ℕ) (head : ℕ) (t : Tables) (i : ℕ) (r : FileEnd) (before after : List ℕ) : Type 0 where
  pub fault : r.bad ≡ file_fault o C head t i
  pub entries : r.entries ≡ completed o C head t i
  pub few : r.entries < 4294967296
  pub list : statics_in after r.tally.count ≡ listed_in o C head (entries_start o C t i) (names_start o C t i) (listed_before o C head t i) r.entries
  pub table : after ≡ spliced before 0 (static_rows (statics_in after r.tally.count))
  pub filled : StaticTable head C after r.tally

-- a fault and a list of statics as an answer
pub record StaticsListed (head : ℕ) (C : List ℕ) (f : Option ℕ) (l : List Static) (r : Listing) (before after : List ℕ) : Type 0 where
  pub fault : r.fault ≡ f
  pub list : statics_in after r.tally.count ≡ l
  pub table : after ≡ spliced before 0 (static_rows l)
  pub filled : StaticTable head C after r.tally

-- the answer without a static
unfoldable pub no_statics : Option ℕ → Listing
no_statics f = record { fault = f; tally = record { count = 0; size = 0 } }
