-- One of three. Assumes nothing.
use Rattle.std.proofs.Common.{arith}
use Rattle.base_index.proofs.Index.{buckets_64, buckets_1024, buckets_all}
use Rattle.base_index.proofs.buckets_of.Goals as goal

pub returns-then-n-lt64 : goal.returns-then-n-lt64
returns-then-n-lt64 c = (buckets_64 c.args.n c.if-n-lt64.true, omega arith, omega arith)

pub returns-then-n-lt1024 : goal.returns-then-n-lt1024
returns-then-n-lt1024 c = (buckets_1024 c.args.n c.if-n-lt64.false c.if-n-lt1024.true, omega arith, omega arith)

pub returns : goal.returns
returns c = (buckets_all c.args.n c.if-n-lt1024.false, omega arith, omega arith)
