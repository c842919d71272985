-- The tests are those of the definition. Assumes nothing.
use Rattle.symbols_entries.proofs.Entries.{size_given, size_kept, size_own}
use Rattle.symbols_entries.proofs.glabel_size.Goals as goal

pub returns-then-word-eq0 : goal.returns-then-word-eq0
returns-then-word-eq0 c = size_kept c.args.word c.args.own c.if-word-eq1.true c.if-word-eq0.true

pub returns-then-word-eq1 : goal.returns-then-word-eq1
returns-then-word-eq1 c = size_given c.args.word c.args.own c.if-word-eq1.true c.if-word-eq0.false

pub returns : goal.returns
returns c = size_own c.args.word c.args.own c.if-word-eq1.false
