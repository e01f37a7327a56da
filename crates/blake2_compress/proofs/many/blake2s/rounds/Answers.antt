-- Made by tools/twins.py from proofs/many/blake2b/eight/rounds/Answers.antt.
use Rattle.std.proofs.Common.{refl}
use Rattle.blake2_compress.specs.Hash.{after_rounds}
use Rattle.blake2_compress.proofs.many.blake2s.rounds.Goals as goal

pub returns : goal.returns
unfolding after_rounds
returns c j h =
    rw (
      c.round_at-10.ensures j h,
      c.round_at-9.ensures j h,
      c.round_at-8.ensures j h,
      c.round_at-7.ensures j h,
      c.round_at-6.ensures j h,
      c.round_at-5.ensures j h,
      c.round_at-4.ensures j h,
      c.round_at-3.ensures j h,
      c.round_at-2.ensures j h,
      c.round_at.ensures j h,
    ) refl
