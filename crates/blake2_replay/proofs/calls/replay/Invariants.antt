use Rattle.blake2_replay.proofs.OneCallAndTheRest.{IsPlayedUpTo}
use Rattle.blake2_replay.proofs.calls.replay.Given as goal

abbrev pub invariant-calls : goal.invariant-calls
invariant-calls g l =
    IsPlayedUpTo g.H.Update.meaning l.fn.first l.calls l.states.items l.digests.items
    l.place
