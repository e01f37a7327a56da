use Rattle.std.proofs.Common.{rules}
use Rattle.blake2_ffi.proofs.DigestsInTurn.{next_digests-are_written}
use Rattle.blake2_ffi.proofs.blake2b.many.write_all.Goals as goal

pub loop-done-preserved : goal.loop-done-preserved
loop-done-preserved c =
    let before = c.loop-done.invariant in
    record {
      within = search rules;
      long = search rules;
      written = next_digests-are_written _ c.args.given.now.output_size c.loop-done.done _
          c.args.messages.now
          c.args.out.now c.loop-done.out _ before.within c.requires.room before.long before.written
          c.write_next-done.ensures.digests;
    }
