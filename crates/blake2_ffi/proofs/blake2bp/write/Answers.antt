use Rattle.std.proofs.Common.{[], length, ◌∙◌}
use Rattle.blake2.specs.Family.{blake2b}
use Rattle.blake2_parallel.specs.Blake2bp.{meaning}
use Rattle.blake2_parallel.specs.Parallel.{digests, settings}
use Rattle.blake2_ffi.proofs.DigestsInTurn.{written_digest-is_digest_of_input}
use Rattle.blake2_ffi.proofs.blake2bp.write.Goals as goal

pub returns-else-input-counted-clause-digest : goal.returns-else-input-counted-clause-digest
returns-else-input-counted-clause-digest c _ =
    written_digest-is_digest_of_input meaning
    (digests blake2b (settings (length c.args.out.now) c.args.key.now [] [])) _ _
    c.in-Ok.run' _ c.args.input.now c.args.out.now c.in-Ok.ensures.fresh c.update.ensures.updated
    (c.update.ensures.size ∙ c.in-Ok.ensures.size) c.write_digest.ensures
