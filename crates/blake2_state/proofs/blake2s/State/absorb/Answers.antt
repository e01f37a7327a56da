-- Made by tools/twins.py from proofs/blake2b/State/absorb/Answers.antt.
use Rattle.std.proofs.Common.{refl, arith}
use Rattle.std.proofs.lemmas.List.{length-take-le}
use Rattle.blake2_state.proofs.StateLaws.{Updated-from_absorbed_core}
use Rattle.blake2_state.proofs.blake2s.State.absorb.Goals as goal

pub returns-clause-updated : goal.returns-clause-updated
returns-clause-updated c =
    let held = c.digest_into-held.ensures in
    Updated-from_absorbed_core _ _ _ c.core-core.ensures held.handed held.pending
    c.chain_words-self.ensures
    c.counted-self.ensures refl refl

pub returns-clause-ready : goal.returns-clause-ready
returns-clause-ready c =
    let held = c.digest_into-held in
    let size =
    length-take-le held.result held.new.bytes
    (omega (arith, held.array_long, held.ensures.at_most_a_block)) in
    record {
      least = c.requires.ready.least;
      most = c.requires.ready.most;
      pending = held.ensures.at_most_a_block;
      start = c.requires.ready.start;
      counted = omega (arith, (returns-clause-updated c).count, size, c.requires.counted);
    }
