-- Of the code, not of document 01: what the walk over the entries of one file answers, and what it leaves in the table of statics.
use Rattle.std.specs.Prelude.{ℕ, List, ◌≡◌}
use Rattle.base_lists.specs.Windows.{spliced}
use Rattle.base_fields.specs.declared.ByteOrder.{ByteOrder}
use Rattle.statics_table.specs.Table.{static_rows, statics_in, StaticTable}
use Rattle.statics_file.specs.declared.FileEntries.{FileEntries}
use Rattle.statics_file.specs.declared.FileEnd.{FileEnd}
use Rattle.statics_file.specs.File.{listed_in, completed_in, fails_in}

-- the answer of a file with these entries, behind n statics
pub record FileWalked (o : ByteOrder) (C : List ℕ) (head : ℕ) (p : FileEntries) (n : ℕ) (r : FileEnd) (before after : List ℕ) : Type 0 where
  pub fault : r.bad ≡ fails_in o C head p.start p.names (statics_in before n) p.count
  pub entries : r.entries ≡ completed_in o C head p.start p.names (statics_in before n) p.count
  pub list : statics_in after r.tally.count ≡ listed_in o C head p.start p.names (statics_in before n) r.entries
  pub table : after ≡ spliced before 0 (static_rows (statics_in after r.tally.count))
  pub filled : StaticTable head C after r.tally
