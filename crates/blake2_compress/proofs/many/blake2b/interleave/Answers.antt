use Rattle.std.proofs.Common.{◌≡◌, [], slice_index, slice_index_or}
use Rattle.blake2_compress.proofs.ManyMessages.{for_each_of_eight}
use Rattle.blake2_compress.proofs.many.blake2b.interleave.Goals as goal

pub returns : goal.returns
returns c j k h lt =
    for_each_of_eight (λ i row. slice_index row j
    ≡ slice_index (slice_index_or c.args.words.now j []) i) [] _ _ _ _ _ _ _ _
    (c.row.ensures j h) (c.row-2.ensures j h) (c.row-3.ensures j h) (c.row-4.ensures j h)
    (c.row-5.ensures j h) (c.row-6.ensures j h) (c.row-7.ensures j h) (c.row-8.ensures j h) k lt
