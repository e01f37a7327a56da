use Rattle.std.proofs.Common.{rules}
use Rattle.blake2_state.proofs.RunLaws.{written_digest-is_blake2b_digest_now}
use Rattle.blake2_state.proofs.RunLaws.{written_digest-is_blake2s_digest_now}
use Rattle.blake2_state.proofs.runs.Run.padded.Goals as goal

pub returns-in-Blake2b : goal.returns-in-Blake2b
returns-in-Blake2b c =
    written_digest-is_blake2b_digest_now (search rules) (search rules) (search rules)
    c.write_digest.ensures

pub returns-in-Blake2s : goal.returns-in-Blake2s
returns-in-Blake2s c =
    written_digest-is_blake2s_digest_now (search rules) (search rules) (search rules)
    c.write_digest-in-Blake2s.ensures
