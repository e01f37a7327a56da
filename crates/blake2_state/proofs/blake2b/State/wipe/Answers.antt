use Rattle.std.proofs.Common.{rules}
use Rattle.blake2_state.proofs.blake2b.State.wipe.Goals as goal

pub returns : goal.returns
returns c = search rules
