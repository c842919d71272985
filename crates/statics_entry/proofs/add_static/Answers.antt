-- The static is written behind the rows, and its written name is counted. Assumes nothing.
use Rattle.base_lists.specs.Windows.{spliced}
use Rattle.base_scope.specs.Limits.{STATIC_ROW}
use Rattle.statics_table.specs.declared.Static.{Static}
use Rattle.statics_table.specs.Statics.{written_length}
use Rattle.statics_table.specs.Table.{static_row}
use Rattle.statics_entry.specs.Code.{passed}
use Rattle.statics_entry.proofs.Entry.{static_fits}
use native.Mathlib.Omega.{arith}
use Prim.Native.Nat.{◌+◌, ◌*◌}
use mathlib.Core.Path.{ap, ◌∙◌}
use mathlib.Core.Bool.{false}
use Rattle.statics_entry.proofs.add_static.Goals as goal

pub static_from-s-requires : goal.static_from-s-requires
static_from-s-requires c =
    let q = c.requires in
    (q.0.counted, q.1, q.4)

pub written_length-written-requires : goal.written_length-written-requires
written_length-written-requires c =
    let q = c.requires in
    let s = c.static_from-s.ensures in
    (q.2, s.1, omega (arith, s.2, q.3))

pub write-requires : goal.write-requires
write-requires c =
    let q = c.requires in
    let a = c.args in
    let s = c.static_from-s.ensures in (
      omega (arith, q.0.room, q.3),
      q.3,
      static_fits a.file.now _ a.e a.start a.nested a.tally.size _ s.0 q.4 q.1 s.1 (omega (arith, s.2, q.3)) (omega (arith, q.0.low, q.3)),
    )

pub overflow_add-next-2 : goal.overflow_add-next-2
overflow_add-next-2 c =
    let q = c.requires in
    record { fits = omega (arith, q.0.low, q.0.counted.few, c.written_length-written.ensures.1) }

pub returns : goal.returns
unfolding passed
returns c =
    let a = c.args in
    let s = c.static_from-s.ensures.0 in
    let n = c.written_length-written.ensures in
    record {
      answer = λ k. record {
        bad = false;
        kind = c.entry_type.ensures k;
        tally = record { count = a.tally.count + 1; size = a.tally.size + (n.0 ∙ ap (written_length a.head) s) k };
      };
      table = c.write.ensures ∙ ap (λ (x : Static). spliced a.table.now (STATIC_ROW * a.tally.count) (static_row x)) s;
      short = rw (← s, ← n.0) n.1;
    }
