use Rattle.blake2_examples.proofs.building_blocks.digests_of_calls.Goals as goal

pub returns : goal.returns
returns c = c.replay.ensures.fresh _ _ c.new.ensures
