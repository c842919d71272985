-- The rest by as many buckets as there are. Assumes nothing.
use Rattle.std.proofs.Common.{refl}
use Rattle.base_index.proofs.Index.{buckets_64, buckets_1024, buckets_all, bucket_by}
use Rattle.base_index.proofs.bucket_of.Goals as goal

pub returns-then-n-lt64 : goal.returns-then-n-lt64
returns-then-n-lt64 c =
    let a = c.args in
    bucket_by a.n a.h 64 _ (buckets_64 a.n c.if-n-lt64.true) refl

pub returns-then-n-lt1024 : goal.returns-then-n-lt1024
returns-then-n-lt1024 c =
    let a = c.args in
    bucket_by a.n a.h 1024 _ (buckets_1024 a.n c.if-n-lt64.false c.if-n-lt1024.true) refl

pub returns : goal.returns
returns c =
    let a = c.args in
    bucket_by a.n a.h 4096 _ (buckets_all a.n c.if-n-lt1024.false) refl
